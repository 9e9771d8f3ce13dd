-- Runs: any calls in any order, with their answers, over the definitions that the calls' contracts cite.
use Rattle.std.specs.Prelude.{◌≡◌, ℕ, ◌⊎◌, List, [], Err, Result}
use Rattle.world.specs.declared.refusal.Refusal.{Refusal}
use Rattle.world.specs.Calls.{push_begun, pop_begun, collected}
use Rattle.world.specs.Queries.{phase_answer, waiting_threads, at_rest}
use Rattle.world.specs.Steps.{stepped}
use Rattle.world.specs.Worlds.{World, world}
use Rattle.law.specs.Operations.{Event, begin_push, begin_pop, step, collect, ask_pushes, ask_pops, ask_used, ask_phase, ask_waiting, ask_rest, Operation, told}

-- a refused call, with whatever buffers it was handed: nothing of the run's world changed
abbrev pub Refused : {A T : Type 0} → Result A Refusal → World T → World T → Type 0
Refused {A} r before after = ((f : Refusal) × (r ≡ Err f)) × (after ≡ before)

-- an event that leads from one world to the next: either the call was handed the run's own buffers, and its answer and
-- the world afterwards are those of the call's definition, or it was refused with any buffers
abbrev pub Follows : {T : Type 0} → ℕ → World T → Event T → World T → Type 0
Follows cycle w (begin_push i x r) after =
    (((r, after.table, after.hands) ≡ push_begun w.table i x w.hands) × (after.row ≡ w.row) × (after.cells ≡ w.cells) × (after.entries ≡ w.entries)) ⊎ Refused r w after
Follows cycle w (begin_pop i r) after =
    (((r, after.table) ≡ pop_begun w.table i) × (after ≡ world w.row after.table w.cells w.hands w.entries)) ⊎ Refused r w after
Follows cycle w (step i r) after = ((r, after) ≡ stepped cycle w i) ⊎ Refused r w after
Follows cycle w (collect i r) after =
    (((r, after.table) ≡ collected w.table i w.hands) × (after ≡ world w.row after.table w.cells w.hands w.entries)) ⊎ Refused r w after
Follows cycle w (ask_pushes k) after = (k ≡ w.table.pushes) × (after ≡ w)
Follows cycle w (ask_pops k) after = (k ≡ w.table.pops) × (after ≡ w)
Follows cycle w (ask_used k) after = (k ≡ w.table.used) × (after ≡ w)
Follows cycle w (ask_phase i r) after = (r ≡ phase_answer w.table i) × (after ≡ w)
Follows cycle w (ask_waiting k) after = (k ≡ waiting_threads w.table) × (after ≡ w)
Follows cycle w (ask_rest b) after = (b ≡ at_rest cycle w.row w.table) × (after ≡ w)

-- the moments of a run that starts in a world: the one before the first event, and one after each; with the
-- operations told so far, the latest first
pub data Moment {T : Type 0} (cycle : ℕ) (start : World T) : World T → List (Operation T) → Type 0 where
  first : Moment cycle start start []
  next : {w after : World T} {os : List (Operation T)} (e : Event T) → Moment cycle start w os → Follows cycle w e after → Moment cycle start after (told e after.hands os)
