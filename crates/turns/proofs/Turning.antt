-- Rows of turns: what clearing and advancing leave at each slot, and that they keep rows lawful.
use Rattle.std.proofs.Common.{◌≡◌, ℕ, zero, suc, ◌+◌, ◌%◌, ◌<◌, ◌≤◌, List, length, get_or, replicate, sym, refl, ap, ◌∙◌, inl, inr, mod-lt, mod-eq_of_lt, add-one, arith}
use native.Mathlib.Nat.{mod_self, mod-add-mod, zero-mod}
use Rattle.std.proofs.lemmas.List.{length-set, get_or-set_same, get_or-set_other}
use Rattle.std.proofs.lemmas.Bool.{lt-ltb, le-ltb, cases_eq, cases_lt, eq-eqb, ne_eqb}
use Rattle.std.proofs.lemmas.Bool.Decides.{nat_tests}
use Rattle.turns.specs.Rows.{Row, advanced, cleared, next_turn}
use Rattle.turns.specs.Advances.{AdvancesCount, OnlyAt, advanced_times}

-- zeros are read as 0 at every place, past their end too
pub zeros : (n k : ℕ) → ◌≡◌ {A = ℕ} (get_or (replicate n 0) k 0) 0
zeros zero k = refl
zeros (suc n) zero = refl
zeros (suc n) (suc k) = zeros n k

-- a turn below the cycle goes on to one below it
pub next_below : (cycle turn : ℕ) → 2 ≤ cycle → turn < cycle → next_turn cycle turn < cycle
next_below cycle turn two h = grind (arith, nat_tests)

-- the next turn after k advances is that of one more
pub next_mod : (cycle k : ℕ) → 2 ≤ cycle → next_turn cycle (k % cycle) ≡ suc k % cycle
next_mod cycle k two =
    let pos : 0 < cycle = omega arith in
    let below : k % cycle < cycle = mod-lt k pos in
    let step : (k % cycle + 1) % cycle ≡ suc k % cycle = (mod-add-mod k cycle 1 ∙ ap (λ n. n % cycle) (add-one k)) in
    elim (cases_eq (k % cycle + 1) cycle) [
      | inl last ↦ rw (eq-eqb (k % cycle + 1) cycle last) (sym (mod_self cycle) ∙ ap (λ n. n % cycle) (sym last) ∙ step)
      | inr inner ↦ (let small : k % cycle + 1 < cycle = omega arith in
          rw (ne_eqb (k % cycle + 1) cycle inner) (sym (mod-eq_of_lt small) ∙ step))
    ]

pub cleared_row : (cycle : ℕ) → 2 ≤ cycle → Row cycle cleared
cleared_row cycle two = record { long = refl; below = λ slot h. omega (arith, zeros 64 slot) }

module _ (cycle : ℕ) (row : List ℕ) (slot : ℕ) (h : slot < 64) (long : length row ≡ 64) where
  pub advanced_long : length (advanced cycle row slot) ≡ 64
  advanced_long = rw (lt-ltb slot 64 h, length-set) long

  pub advanced_there : get_or (advanced cycle row slot) slot 0 ≡ next_turn cycle (get_or row slot 0)
  advanced_there = let i : slot < length row = omega arith in rw (lt-ltb slot 64 h, get_or-set_same)

  pub advanced_elsewhere : (other : ℕ) → (other ≡ slot → ⊥) → get_or (advanced cycle row slot) other 0 ≡ get_or row other 0
  advanced_elsewhere other apart = rw (lt-ltb slot 64 h, get_or-set_other)

-- an advance of any slot, past the last too, keeps a row lawful
pub advanced_row : (cycle : ℕ) (row : List ℕ) (slot : ℕ) → 2 ≤ cycle → Row cycle row → Row cycle (advanced cycle row slot)
advanced_row cycle row slot two r = elim (cases_lt slot 64) [
  | inl h ↦ record {
    long = advanced_long cycle row slot h r.long;
    below = λ other b. elim (cases_eq other slot) [
      | inl same ↦ rw (same, advanced_there cycle row slot h r.long) (next_below cycle (get_or row slot 0) two (r.below slot h))
      | inr apart ↦ rw (advanced_elsewhere cycle row slot h r.long other apart) (r.below other b)
    ];
  }
  | inr past ↦ rw (le-ltb slot 64 past) r
]

-- one advance more, at a loop's step
pub advanced_more : (cycle : ℕ) (row : List ℕ) (slot k : ℕ) → advanced_times cycle row slot (k + 1) ≡ advanced cycle (advanced_times cycle row slot k) slot
advanced_more cycle row slot k = ap (advanced_times cycle row slot) (add-one k)

counted : (cycle slot k : ℕ) → 2 ≤ cycle → slot < 64 → OnlyAt slot (k % cycle) (advanced_times cycle cleared slot k)
counted cycle slot zero two h = record {
  long = refl;
  there = zeros 64 slot ∙ sym (zero-mod cycle);
  elsewhere = λ other apart. zeros 64 other;
}
counted cycle slot (suc k) two h =
    let before = counted cycle slot k two h in
    let row = advanced_times cycle cleared slot k in record {
      long = advanced_long cycle row slot h before.long;
      there = advanced_there cycle row slot h before.long ∙ ap (next_turn cycle) before.there ∙ next_mod cycle k two;
      elsewhere = λ other apart. advanced_elsewhere cycle row slot h before.long other apart ∙ before.elsewhere other apart;
    }

pub advances_count : AdvancesCount
advances_count = record { counted = counted }
