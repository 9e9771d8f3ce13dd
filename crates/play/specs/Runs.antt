-- A whole run: the opening, then every entry of both schedules.
use Rattle.std.specs.Prelude.{ℕ, List, ◌++◌, replicate, Ok, Err, Result}
use Rattle.faults.specs.declared.fault.Fault.{Fault}
use Rattle.turns.specs.declared.shape.Shape.{Shape}
use Rattle.history.specs.declared.entry.Entry.{Entry}
use Rattle.runfile.specs.Elements.{Format}
use Rattle.runfile.specs.Files.{Contents, lead_in_in, main_in}
use Rattle.world.specs.declared.cell.Cell.{Cell}
use Rattle.world.specs.declared.refusal.Refusal.{Refusal}
use Rattle.world.specs.declared.table.Table.{Table}
use Rattle.world.specs.Calls.{opened}
use Rattle.world.specs.Worlds.{World, world}
use Rattle.law.specs.Laws.{Truth}
use Rattle.law.specs.Operations.{Operation}
use Rattle.law.specs.Runs.{Moment}
use Rattle.play.specs.Plays.{Played, played, refused_at}

-- the lead-in's entries come first, then the main schedule's
abbrev pub whole_schedule : Contents → List ℕ
whole_schedule c = lead_in_in c.header.threads c.bodies ++ main_in c.header.threads c.bodies

-- nothing of any program is begun
abbrev pub none_begun : List ℕ
none_begun = replicate 64 0

-- a refused opening ends the run at place 0
abbrev pub ran_after : {T : Type 0} → Result (Unit {0}) Refusal → Format T → ℕ → Contents → World T → Played T
ran_after (Ok u) form cycle c w = played form cycle c w none_begun (whole_schedule c) 0
ran_after (Err r) form cycle c w = (Err (refused_at r 0), w, none_begun)

-- the run behind an opening, of which this is the outcome: its answer, and the row, the table and the cells afterwards
abbrev pub ran_from : {T : Type 0} → Format T → ℕ → Contents → List T → List (Entry T) → Result (Unit {0}) Refusal × List ℕ × Table × List (Cell T) → Played T
ran_from form cycle c hands entries o = ran_after o.0 form cycle c (world o.1 o.2 o.3 hands entries)

-- a run that opens the machine with a shape, in whatever world it was before
abbrev pub ran : {T : Type 0} → Format T → ℕ → Contents → Shape → World T → Played T
ran form cycle c shape w = ran_from form cycle c w.hands w.entries (opened cycle w.row w.table w.cells shape)

-- a run's answer, and the world at its end
abbrev pub ended : {T : Type 0} → Played T → Result (Unit {0}) (Fault Refusal) × World T
ended p = (p.0, p.1)

-- a run of calls leads from one world to the other, and there the record's whole law is true of it
pub record Reached {T : Type 0} (cycle : ℕ) (start w : World T) : Type 0 where
  pub operations : List (Operation T)
  pub moment : Moment cycle start w operations
  pub truth : Truth cycle w operations
