-- What playing leads to is a moment of a run of the machine's calls.
use Rattle.std.proofs.Common.{ℕ, ◌+◌, true, false, cond, leb, List, [], ◌∷◌, get_or, Some, None, Ok, Err, Option, Result, refl, inl}
use Rattle.runfile.specs.declared.operation.Operation.{Operation as Planned}
use Rattle.runfile.specs.declared.operation.Operation.TheVariants.{Push, Pop}
use Rattle.runfile.specs.Elements.{Format}
use Rattle.runfile.specs.Files.{Contents}
use Rattle.world.specs.declared.phase.Phase.{Phase}
use Rattle.world.specs.declared.phase.Phase.TheVariants.{Idle, Taking, Waiting, Storing, Reading, Emptying, Completing, Done}
use Rattle.world.specs.declared.refusal.Refusal.{Refusal}
use Rattle.world.specs.declared.refusal.Refusal.TheVariants.{Stranger}
use Rattle.world.specs.Calls.{push_begun, pop_begun, collected}
use Rattle.world.specs.Steps.{stepped}
use Rattle.world.specs.Worlds.{World, world, phase_at}
use Rattle.law.specs.Operations.{Operation, begin_push, begin_pop, step, collect}
use Rattle.law.specs.Runs.{Moment, next}
use Rattle.play.specs.Moves.{Moved, begun_with, moved, moved_in, next_operation}
use Rattle.play.specs.Plays.{Played, onward, played}

module _ {T : Type 0} (form : Format T) (cycle : ℕ) (c : Contents) (start : World T) where
  -- a run leads from the start to this world
  abbrev pub Led : World T → Type 0
  Led w = (os : List (Operation T)) × Moment cycle start w os

  begun_led : (w : World T) (i : ℕ) (begun : List ℕ) (o : Option (Planned T)) → Led w → Led (world w.row (begun_with form o w.table w.hands begun i).1 w.cells (begun_with form o w.table w.hands begun i).2 w.entries)
  begun_led w i begun (Some (Push x)) l = (_, next (begin_push i x (push_begun w.table i x w.hands).0) l.1 (inl (refl, refl, refl, refl)))
  begun_led w i begun (Some Pop) l = (_, next (begin_pop i (pop_begun w.table i).0) l.1 (inl (refl, refl)))
  begun_led w i begun None l = l

  stepped_led : (w : World T) (i : ℕ) → Led w → Led (stepped cycle w i).1
  stepped_led w i l = (_, next (step i (stepped cycle w i).0) l.1 (inl refl))

  moved_in_led : (w : World T) (begun : List ℕ) (i : ℕ) (p : Phase) → Led w → Led (moved_in form cycle c w begun i p).1
  moved_in_led w begun i Idle l = begun_led w i begun (next_operation form c i (get_or begun i 0)) l
  moved_in_led w begun i (Taking kind) l = stepped_led w i l
  moved_in_led w begun i (Waiting kind ticket) l = stepped_led w i l
  moved_in_led w begun i (Storing ticket) l = stepped_led w i l
  moved_in_led w begun i (Reading ticket) l = stepped_led w i l
  moved_in_led w begun i (Emptying ticket) l = stepped_led w i l
  moved_in_led w begun i (Completing kind ticket) l = stepped_led w i l
  moved_in_led w begun i (Done kind ticket) l = (_, next (collect i (collected w.table i w.hands).0) l.1 (inl (refl, refl)))

  moved_led : (w : World T) (begun : List ℕ) (i : ℕ) → Led w → Led (moved form cycle c w begun i).1
  moved_led w begun i l =
      elim (leb w.table.shape.threads i) as (λ b. Led (cond {A = Moved T} b (Err Stranger, w, begun) (moved_in form cycle c w begun i (phase_at w.table i))).1) [
        | true ↦ l
        | false ↦ moved_in_led w begun i (phase_at w.table i) l
      ]

  onward_led : (r : Result (Unit {0}) Refusal) (w : World T) (begun : List ℕ) (place : ℕ) (p : Played T) → Led w → Led p.1 → Led (onward r w begun place p).1
  onward_led (Ok u) w begun place p l h = h
  onward_led (Err r) w begun place p l h = l

  pub played_led : (is : List ℕ) (w : World T) (begun : List ℕ) (place : ℕ) → Led w → Led (played form cycle c w begun is place).1
  played_led [] w begun place l = l
  played_led (i ∷ is) w begun place l =
      let m = moved form cycle c w begun i in
      let h = moved_led w begun i l in
      onward_led m.0 m.1 m.2 place (played form cycle c m.1 m.2 is (place + 1)) h (played_led is m.1 m.2 (place + 1) h)
