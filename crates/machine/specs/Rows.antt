-- Where a thread's row and its hand are.
use Rattle.std.specs.Prelude.{ℕ, cond, List, length, Ok, Err, Result, ◌==◌, nat_le}
use Rattle.world.specs.declared.refusal.Refusal.{Refusal}
use Rattle.world.specs.declared.refusal.Refusal.TheVariants.{Stranger, Misfit}
use Rattle.world.specs.declared.table.Table.{Table}

-- the index of a thread's row, or the refusal of a strange thread
abbrev pub row_of : Table → ℕ → Result ℕ Refusal
row_of table i = cond (nat_le table.shape.threads i) (Err Stranger) (Ok i)

-- the same index of its hand, where there are as many hands as threads
abbrev pub hand_of : {T : Type 0} → Table → ℕ → List T → Result ℕ Refusal
hand_of table i hands = cond (nat_le table.shape.threads i) (Err Stranger) (cond (length hands == table.shape.threads) (Ok i) (Err Misfit))
