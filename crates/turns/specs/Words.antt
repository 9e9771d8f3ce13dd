-- The word bank's layout against its row.
use Rattle.std.specs.Prelude.{◌≡◌, ℕ, ◌+◌, ◌%◌, ◌^◌, ◌<◌, List, length, ◌==◌, slice_index, slice_index_or, slice_set}
use Rattle.std.proofs.Common.{◌∙◌, arith}
use Rattle.std.proofs.lemmas.List.{length-map, get_or-map, map-set}
use Rattle.std.proofs.lemmas.Bool.{lt-ltb}
use Rattle.std.proofs.lemmas.Bool.Decides.{nat_tests}
use Rattle.turns.specs.Layouts.{word_cycle, word_turn, word_turns}
use Rattle.turns.specs.Rows.{Row, advanced, holding, next_turn}

pub word_row : (words : List ℕ) → length words ≡ 64 → Row word_cycle (word_turns words)
word_row words l = record {
  long = length-map words word_turn ∙ l;
  below = λ slot h. let i : slot < length words = omega arith in
      let e = get_or-map word_turn words slot 0 0 i in omega arith;
}

-- the carry out of the last turn falls off the word
next : (word : ℕ) → word_turn ((word + 64) % 2 ^ 32) ≡ next_turn word_cycle (word_turn word)
next word = grind (arith, nat_tests)

module _ (words : List ℕ) (slot : ℕ) (h : slot < 64) (l : length words ≡ 64) where
  there : slice_index_or (word_turns words) slot 0 ≡ word_turn (slice_index words slot)
  there = let i : slot < length words = omega arith in get_or-map word_turn words slot 0 0 i

  pub word_holding : (turn : ℕ) → holding (word_turns words) slot turn ≡ (word_turn (slice_index words slot) == turn)
  word_holding turn = rw (there, lt-ltb slot 64 h)

  pub word_advanced : advanced word_cycle (word_turns words) slot ≡ word_turns (slice_set words slot ((slice_index words slot + 64) % 2 ^ 32))
  word_advanced = rw (lt-ltb slot 64 h, map-set word_turn words slot, there, next (slice_index words slot))
