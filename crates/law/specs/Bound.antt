-- The law needs a cycle of at least twice the threads: with one turn less, a thread can pass before its turn.
use Rattle.std.specs.Prelude.{◌≡◌, ℕ, ◌+◌, ◌*◌, ◌≤◌, List, map, length}
use Rattle.turns.specs.declared.shape.Shape.{Shape}
use Rattle.turns.specs.Rows.{cleared}
use Rattle.history.specs.declared.entry.Entry.{Entry}
use Rattle.world.specs.declared.cell.Cell.{Cell}
use Rattle.world.specs.declared.cell.Mark.TheVariants.{Full}
use Rattle.world.specs.declared.phase.Phase.TheVariants.{Storing}
use Rattle.world.specs.Calls.{new_table, empty_cell}
use Rattle.world.specs.Worlds.{World, world, phase_at}
use Rattle.law.specs.Laws.{Law, Marked, Truth}
use Rattle.law.specs.Operations.{Operation}
use Rattle.law.specs.Runs.{Moment}

-- a run with one slot, two threads and a cycle of 3, at a moment of which thread 1 is about to store into a full cell
pub record FailingRun : Type 0 where
  pub shape : Shape
  pub one_slot : shape.slots ≡ 1
  pub two_threads : shape.threads ≡ 2
  pub cells : List (Cell ℕ)
  pub fitting : length cells ≡ shape.slots
  pub hands : List ℕ
  pub entries : List (Entry ℕ)
  pub w : World ℕ
  pub os : List (Operation ℕ)
  pub moment : Moment 3 (world cleared (new_table shape) (map empty_cell cells) hands entries) w os
  pub storing : phase_at w.table 1 ≡ Storing 2
  pub full : Marked w.cells 0 Full
  pub untrue : Truth 3 w os → ⊥

-- the law of an opening whose cycle may be one turn shorter
abbrev pub LooserLaw : Type 0
LooserLaw = (cycle : ℕ) (shape : Shape) (cells : List (Cell ℕ)) → 2 * shape.threads ≤ cycle + 1 → length cells ≡ shape.slots → Law cycle cleared (new_table shape) (map empty_cell cells)

pub record BoundIsExact : Type 0 where
  pub run : FailingRun
  pub exact : LooserLaw → ⊥
