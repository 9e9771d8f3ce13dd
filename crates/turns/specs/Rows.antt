-- What a bank of turns means: a row of 64 numbers, each below the cycle.
use Rattle.std.specs.Prelude.{◌≡◌, ℕ, ◌+◌, ◌%◌, ◌<◌, Bool, false, cond, List, length, replicate, ◌==◌, nat_lt, slice_index, slice_set}

-- a row that a bank of this cycle may mean
pub record Row (cycle : ℕ) (row : List ℕ) : Type 0 where
  pub long : length row ≡ 64
  pub below : (slot : ℕ) → slot < 64 → slice_index row slot < cycle

-- the row of a bank that was cleared
abbrev pub cleared : List ℕ
cleared = replicate 64 0

-- a turn as a bank of this cycle keeps it
abbrev pub reduced_by : ℕ → ℕ → ℕ
reduced_by cycle turn = turn % cycle

-- whether the row holds this turn at this slot; no slot of 64 or above holds any
abbrev pub holding : List ℕ → ℕ → ℕ → Bool
holding row slot turn = cond (nat_lt slot 64) (slice_index row slot == turn) false

-- the turn after a turn: the cycle's last turn goes to 0
abbrev pub next_turn : ℕ → ℕ → ℕ
next_turn cycle turn = cond (turn + 1 == cycle) 0 (turn + 1)

-- the row after an advance of a slot: one more there; a slot of 64 or above alters nothing
abbrev pub advanced : ℕ → List ℕ → ℕ → List ℕ
advanced cycle row slot = cond (nat_lt slot 64) (slice_set row slot (next_turn cycle (slice_index row slot))) row
