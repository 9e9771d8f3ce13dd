-- Many advances of one slot: a bank counts them, as far as its cycle goes.
use Rattle.std.specs.Prelude.{◌≡◌, ℕ, zero, suc, ◌<◌, ◌≤◌, List, length, ◌≢◌, slice_index}
use Rattle.turns.specs.Rows.{advanced, cleared, reduced_by}

-- the row after k advances of a slot, one upon the other
abbrev pub advanced_times : ℕ → List ℕ → ℕ → ℕ → List ℕ
advanced_times cycle row slot zero = row
advanced_times cycle row slot (suc k) = advanced cycle (advanced_times cycle row slot k) slot

-- a row of 64 turns with this one at this slot and zero at every other
pub record OnlyAt (slot turn : ℕ) (row : List ℕ) : Type 0 where
  pub long : length row ≡ 64
  pub there : slice_index row slot ≡ turn
  pub elsewhere : (other : ℕ) → other ≢ slot → slice_index row other ≡ 0

-- After clearing, k advances of a slot leave k modulo the cycle there and zero elsewhere:
-- for every cycle of 2 or more, every slot below 64 and every k.
pub record AdvancesCount : Type 0 where
  pub counted : (cycle slot k : ℕ) → 2 ≤ cycle → slot < 64 → OnlyAt slot (reduced_by cycle k) (advanced_times cycle cleared slot k)
