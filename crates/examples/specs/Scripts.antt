-- A run that is written down: the calls with their answers, one to a line, in the order in which they are made.
use Rattle.std.specs.Prelude.{◌≡◌, ℕ, ◌*◌, ◌≤◌, List, [], ◌∷◌, length}
use Rattle.turns.specs.declared.shape.Shape.{Shape}
use Rattle.history.specs.declared.entry.Entry.{Entry}
use Rattle.world.specs.declared.cell.Cell.{Cell}
use Rattle.world.specs.Calls.{new_world}
use Rattle.world.specs.Worlds.{World}
use Rattle.law.specs.Operations.{Event, Operation, told}
use Rattle.law.specs.Runs.{Follows, Moment}

-- These calls, each with its answer, lead in this order from a world to the last one, and from the operations told
-- before them to all that are told then. An answer that is no refusal can only be that of the call's definition.
abbrev pub Leads : {T : Type 0} → ℕ → List (Event T) → World T → List (Operation T) → World T → List (Operation T) → Type 0
Leads cycle [] w os last all = (last ≡ w) × (all ≡ os)
Leads {T} cycle (e ∷ es) w os last all = (after : World T) × Follows cycle w e after × Leads cycle es after (told e after.hands os) last all

-- Some machine with so many slots and threads, newly opened with cells and a cycle that it does not refuse, makes these calls
-- with these answers, in this order, with some hands and record; its world after the last call is a moment of that run.
pub record Played {T : Type 0} (cycle slots threads : ℕ) (script : List (Event T)) : Type 0 where
  pub shape : Shape
  pub slots_are : shape.slots ≡ slots
  pub threads_are : shape.threads ≡ threads
  pub long : 2 * shape.threads ≤ cycle
  pub cells : List (Cell T)
  pub fitting : length cells ≡ shape.slots
  pub hands : List T
  pub entries : List (Entry T)
  pub last : World T
  pub operations : List (Operation T)
  pub leads : Leads cycle script (new_world shape cells hands entries) [] last operations
  pub moment : Moment cycle (new_world shape cells hands entries) last operations
