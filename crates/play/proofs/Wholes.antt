-- A whole run: an accepted opening, and then both schedules.
use Rattle.std.proofs.Common.{◌≡◌, ℕ, ◌*◌, Bool, true, false, cond, eqb, ltb, List, [], map, length, OnOk, Ok, Err, Result, sym, subst}
use Rattle.faults.specs.declared.fault.Fault.{Fault}
use Rattle.turns.specs.declared.shape.Shape.{Shape}
use Rattle.turns.specs.Rows.{cleared}
use Rattle.history.specs.declared.entry.Entry.{Entry}
use Rattle.runfile.specs.Elements.{Format}
use Rattle.runfile.specs.Files.{Contents}
use Rattle.world.specs.declared.cell.Cell.{Cell}
use Rattle.world.specs.declared.refusal.Refusal.{Refusal}
use Rattle.world.specs.declared.refusal.Refusal.TheVariants.{Misfit, ShortCycle}
use Rattle.world.specs.declared.table.Table.{Table}
use Rattle.world.specs.Calls.{empty_cell, new_table, new_world, opened}
use Rattle.world.specs.Worlds.{World, world}
use Rattle.law.specs.Laws.{Law}
use Rattle.law.specs.Runs.{first}
use Rattle.play.specs.Plays.{played}
use Rattle.play.specs.Runs.{Reached, ended, none_begun, ran, ran_from, whole_schedule}
use Rattle.play.proofs.Moments.{played_led}

module _ {T : Type 0} (form : Format T) (cycle : ℕ) (c : Contents) (shape : Shape) (row : List ℕ) (table : Table) (cells : List (Cell T)) (hands : List T) (entries : List (Entry T)) where
  abbrev Opened : Type 0
  Opened = Result (Unit {0}) Refusal × List ℕ × Table × List (Cell T)

  abbrev Lawful : Opened → Type 0
  Lawful o = OnOk o.0 (Law cycle o.1 o.2 o.3)

  abbrev Reaches : Result (Unit {0}) (Fault Refusal) × World T → Type 0
  Reaches p = OnOk p.0 (Reached cycle (new_world shape cells hands entries) p.1)

  on_ok : (p : Result (Unit {0}) (Fault Refusal) × World T) → Reached cycle (new_world shape cells hands entries) p.1 → Reaches p
  on_ok (Ok u, w) h = h
  on_ok (Err f, w) h = tt

  -- what an opening answers, by its two tests
  abbrev by : Bool → Bool → Opened
  by short fits = cond short (Err ShortCycle, row, table, cells) (cond fits (Ok tt, cleared, new_table shape, map empty_cell cells) (Err Misfit, row, table, cells))

  reached_by : (short fits : Bool) → Lawful (by short fits) → Reaches (ended (ran_from form cycle c hands entries (by short fits)))
  reached_by true fits law = tt
  reached_by false false law = tt
  reached_by false true law =
      let start = new_world shape cells hands entries in
      let p = played form cycle c start none_begun (whole_schedule c) 0 in
      let led = played_led form cycle c start (whole_schedule c) start none_begun 0 ([], first) in
      on_ok (ended p) (record { operations = led.0; moment = led.1; truth = law.law hands entries p.1 led.0 led.1 })

  -- a run that is not refused reaches its end from the newly opened machine, and the law is true of it
  pub reached : (o : Opened) → o ≡ opened cycle row table cells shape → Lawful o → (r : Result (Unit {0}) (Fault Refusal)) (w : World T) → (r, w) ≡ ended (ran form cycle c shape (world row table cells hands entries)) → Reaches (r, w)
  reached o e law r w h = subst Reaches (sym h) (reached_by (ltb cycle (2 * shape.threads)) (eqb (length cells) shape.slots) (subst Lawful e law))
