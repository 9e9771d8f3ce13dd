-- Operations, as they are told from the calls and their answers alone.
use Rattle.std.specs.Prelude.{ℕ, Bool, true, false, cond, List, [], ◌∷◌, Some, None, Ok, Err, Option, Result, ◌==◌}
use Rattle.history.specs.declared.entry.Kind.{Kind}
use Rattle.history.specs.declared.entry.Kind.TheVariants.{Push, Pop}
use Rattle.world.specs.declared.phase.Phase.{Phase}
use Rattle.world.specs.declared.refusal.Refusal.{Refusal}
use Rattle.world.specs.declared.step.Step.{Step}
use Rattle.world.specs.declared.step.Step.TheVariants.{Took, Waited, Passed, Stored, Read, Emptied, Completed}
use Rattle.world.specs.Worlds.{at}

-- a call with its answer; queries answer counts, a phase, W, and whether the machine is at rest
pub data Event (T : Type 0) : Type 0 where
  begin_push : ℕ → T → Result (Unit {0}) Refusal → Event T
  begin_pop : ℕ → Result (Unit {0}) Refusal → Event T
  step : ℕ → Result (Step × ℕ) Refusal → Event T
  collect : ℕ → Result (Kind × ℕ × T) Refusal → Event T
  ask_pushes : ℕ → Event T
  ask_pops : ℕ → Event T
  ask_used : ℕ → Event T
  ask_phase : ℕ → Result Phase Refusal → Event T
  ask_waiting : ℕ → Event T
  ask_rest : Bool → Event T

-- an operation: its ticket is known from its take on; a push's element from its begin on, a pop's from its finish on
pub record Operation (T : Type 0) : Type 0 where
  pub kind : Kind
  pub thread : ℕ
  pub ticket : Option ℕ
  pub element : Option T
  pub finished : Bool

abbrev pub begun : {T : Type 0} → Kind → ℕ → Option T → Operation T
begun kind thread element = record { kind = kind; thread = thread; ticket = None; element = element; finished = false }

abbrev pub ticketed : {T : Type 0} → ℕ → Operation T → Operation T
ticketed t o = record { kind = o.kind; thread = o.thread; ticket = Some t; element = o.element; finished = o.finished }

-- a push's element is the one handed to its begin; a pop's is the one in its thread's hand when it finishes
abbrev pub element_at_end : {T : Type 0} → Kind → Option T → Option T → Option T
element_at_end Push given hand = given
element_at_end Pop given hand = hand

abbrev pub finish : {T : Type 0} → Option T → Operation T → Operation T
finish hand o = record { kind = o.kind; thread = o.thread; ticket = o.ticket; element = element_at_end o.kind o.element hand; finished = true }

-- the operation that a thread began last; the list has the latest first
abbrev pub latest : {T : Type 0} → ℕ → (Operation T → Operation T) → List (Operation T) → List (Operation T)
latest i f [] = []
latest i f (o ∷ os) = cond (o.thread == i) (f o ∷ os) (o ∷ latest i f os)

-- what the answer of a step tells
abbrev pub step_told : {T : Type 0} → ℕ → Step → ℕ → Option T → List (Operation T) → List (Operation T)
step_told i Took t hand os = latest i (ticketed t) os
step_told i Waited t hand os = os
step_told i Passed t hand os = os
step_told i Stored t hand os = os
step_told i Read t hand os = os
step_told i Emptied t hand os = os
step_told i Completed t hand os = latest i (finish hand) os

-- the operations after an event; `hands` are the hands at that moment. Refused calls, collects and queries tell nothing
abbrev pub told : {T : Type 0} → Event T → List T → List (Operation T) → List (Operation T)
told (begin_push i x (Ok u)) hands os = begun Push i (Some x) ∷ os
told (begin_push i x (Err r)) hands os = os
told (begin_pop i (Ok u)) hands os = begun Pop i None ∷ os
told (begin_pop i (Err r)) hands os = os
told (step i (Ok a)) hands os = step_told i a.0 a.1 (at hands i (λ x. Some x) None) os
told (step i (Err r)) hands os = os
told (collect i r) hands os = os
told (ask_pushes k) hands os = os
told (ask_pops k) hands os = os
told (ask_used k) hands os = os
told (ask_phase i r) hands os = os
told (ask_waiting k) hands os = os
told (ask_rest b) hands os = os
