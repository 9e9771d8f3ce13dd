-- The nibble bank's layout against its row.
use Rattle.std.specs.Prelude.{◌≡◌, ℕ, zero, suc, ◌+◌, ◌*◌, ◌/◌, ◌%◌, ◌<◌, Bool, true, false, cond, List, [], ◌∷◌, length, ◌==◌, slice_index, slice_set, refl}
use Rattle.std.proofs.Common.{ap, arith}
use Rattle.std.proofs.lemmas.Bool.{lt-ltb}
use Rattle.std.proofs.lemmas.Bool.Decides.{nat_tests}
use Rattle.turns.specs.Layouts.{nibble_cycle, nibble_turns}
use Rattle.turns.specs.Rows.{Row, advanced, holding, next_turn}

-- the turn of a slot in its byte
abbrev pub half : ℕ → ℕ → ℕ
half slot byte = cond (slot % 2 == 0) (byte % 16) (byte / 16 % 16)

-- a byte with another turn of this slot
abbrev pub put : ℕ → ℕ → ℕ → ℕ
put slot turn byte = cond (slot % 2 == 0) (byte / 16 * 16 + turn) (turn * 16 + byte % 16)

length_nibbles : (bytes : List ℕ) → length (nibble_turns bytes) ≡ 2 * length bytes
length_nibbles [] = refl
length_nibbles (byte ∷ bytes) = let e = length_nibbles bytes in omega arith

zero_half : (b : Bool) → ◌≡◌ {A = ℕ} 0 (cond b 0 0)
zero_half true = refl
zero_half false = refl

byte_on : (slot : ℕ) → suc (suc slot) / 2 ≡ suc (slot / 2)
byte_on slot = omega arith

side_on : (slot : ℕ) → suc (suc slot) % 2 ≡ slot % 2
side_on slot = omega arith

nibble_at : (bytes : List ℕ) (slot : ℕ) → slice_index (nibble_turns bytes) slot ≡ half slot (slice_index bytes (slot / 2))
nibble_at [] slot = zero_half (slot % 2 == 0)
nibble_at (byte ∷ bytes) zero = refl
nibble_at (byte ∷ bytes) (suc zero) = refl
nibble_at (byte ∷ bytes) (suc (suc slot)) = rw (byte_on slot, side_on slot) (nibble_at bytes slot)

low : (byte turn : ℕ) → turn < 16 → ((byte / 16 * 16 + turn) % 16 ≡ turn) × ((byte / 16 * 16 + turn) / 16 % 16 ≡ byte / 16 % 16)
low byte turn h = (omega arith, omega arith)

high : (byte turn : ℕ) → turn < 16 → ((turn * 16 + byte % 16) % 16 ≡ byte % 16) × ((turn * 16 + byte % 16) / 16 % 16 ≡ turn)
high byte turn h = (omega arith, omega arith)

set_nibble : (bytes : List ℕ) (slot turn : ℕ) → turn < 16 → slice_set (nibble_turns bytes) slot turn ≡ nibble_turns (slice_set bytes (slot / 2) (put slot turn (slice_index bytes (slot / 2))))
set_nibble [] slot turn h = refl
set_nibble (byte ∷ bytes) zero turn h = let e = low byte turn h in cc
set_nibble (byte ∷ bytes) (suc zero) turn h = let e = high byte turn h in cc
set_nibble (byte ∷ bytes) (suc (suc slot)) turn h = rw (byte_on slot, side_on slot) (ap (λ row. byte % 16 ∷ byte / 16 % 16 ∷ row) (set_nibble bytes slot turn h))

pub nibble_row : (bytes : List ℕ) → length bytes ≡ 32 → Row nibble_cycle (nibble_turns bytes)
nibble_row bytes l = record {
  long = let e = length_nibbles bytes in omega arith;
  below = λ slot h. let e = nibble_at bytes slot in grind (arith, nat_tests);
}

pub nibble_holding : (bytes : List ℕ) (slot turn : ℕ) → slot < 64 → holding (nibble_turns bytes) slot turn ≡ (half slot (slice_index bytes (slot / 2)) == turn)
nibble_holding bytes slot turn h = rw (lt-ltb slot 64 h, nibble_at bytes slot)

pub nibble_advanced : (bytes : List ℕ) (slot : ℕ) → slot < 64 → advanced nibble_cycle (nibble_turns bytes) slot ≡ nibble_turns (slice_set bytes (slot / 2) (put slot (next_turn nibble_cycle (half slot (slice_index bytes (slot / 2)))) (slice_index bytes (slot / 2))))
nibble_advanced bytes slot h =
    let t : next_turn nibble_cycle (half slot (slice_index bytes (slot / 2))) < 16 = grind (arith, nat_tests) in
    rw (lt-ltb slot 64 h, nibble_at bytes slot, set_nibble bytes slot (next_turn nibble_cycle (half slot (slice_index bytes (slot / 2)))) t)
