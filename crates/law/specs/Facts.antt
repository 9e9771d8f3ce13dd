-- Four facts beside the law, of any event in any world: the record only grows, counts never fall, a hand is changed only
-- by the calls of its own thread, and what a take enters.
use Rattle.std.specs.Prelude.{◌≡◌, ℕ, ◌≤◌, cond, List, [], ◌∷◌, ◌++◌, Some, None, Ok, Option, ◌≢◌, nat_lt}
use Rattle.std.specs.Option.{unwrap_or}
use Rattle.history.specs.declared.entry.Entry.{Entry}
use Rattle.history.specs.declared.entry.Kind.{Kind}
use Rattle.history.specs.declared.entry.Kind.TheVariants.{Push, Pop}
use Rattle.history.specs.Pushes.{first_push}
use Rattle.world.specs.declared.phase.Phase.TheVariants.{Taking}
use Rattle.world.specs.declared.step.Step.TheVariants.{Took}
use Rattle.world.specs.declared.table.Table.{Table}
use Rattle.world.specs.Takes.{count_of, early_popper, entry}
use Rattle.world.specs.Worlds.{World, at, entered, phase_at}
use Rattle.law.specs.Operations.{Event, begin_push, begin_pop, step, collect, ask_pushes, ask_pops, ask_used, ask_phase, ask_waiting, ask_rest}
use Rattle.law.specs.Runs.{Follows}

-- what thread i, with x in its hand, adds to the used entries when it takes: a push, with the pop of its ticket behind it
-- if that is out; a pop, if the push of its ticket is out
abbrev pub new_entries : {T : Type 0} → Kind → Table → ℕ → List (Entry T) → T → List (Entry T)
new_entries Push t i used x = entry Push i t.pushes x ∷ cond (nat_lt t.pushes t.pops) (entry Pop (early_popper t) t.pushes x ∷ []) []
new_entries Pop t i used x = cond (nat_lt t.pops t.pushes) (entry Pop i t.pops (unwrap_or (first_push used t.pops) x) ∷ []) []

-- the element in a thread's hand, where there is such a hand
abbrev pub hand_of : {T : Type 0} → World T → ℕ → Option T
hand_of w i = at w.hands i (λ x. Some x) None

-- the thread that a call is made for; a query is made for none
abbrev pub actor : {T : Type 0} → Event T → Option ℕ
actor (begin_push i x r) = Some i
actor (begin_pop i r) = Some i
actor (step i r) = Some i
actor (collect i r) = Some i
actor (ask_pushes k) = None
actor (ask_pops k) = None
actor (ask_used k) = None
actor (ask_phase i r) = None
actor (ask_waiting k) = None
actor (ask_rest b) = None

-- the used entries before an event are a beginning of those after it
abbrev pub RecordGrows : Type 0 → Type 0
RecordGrows T = (cycle : ℕ) (w after : World T) (e : Event T) → Follows cycle w e after → (more : List (Entry T)) × (entered after ≡ entered w ++ more)

abbrev pub CountsNeverFall : Type 0 → Type 0
CountsNeverFall T = (cycle : ℕ) (w after : World T) (e : Event T) → Follows cycle w e after → (w.table.pushes ≤ after.table.pushes) × (w.table.pops ≤ after.table.pops)

abbrev pub HandChangesOnlyByOwn : Type 0 → Type 0
HandChangesOnlyByOwn T = (cycle : ℕ) (w after : World T) (e : Event T) → Follows cycle w e after → (j : ℕ) → (actor e ≢ Some j) → hand_of after j ≡ hand_of w j

-- an accepted take answers its kind's count as its ticket, and adds the new entries of its kind to the used ones
pub record Entered {T : Type 0} (w after : World T) (i ticket : ℕ) (kind : Kind) (x : T) : Type 0 where
  pub taking : phase_at w.table i ≡ Taking kind
  pub hand : hand_of w i ≡ Some x
  pub answered : ticket ≡ count_of kind w.table
  pub enters : entered after ≡ entered w ++ new_entries kind w.table i (entered w) x

abbrev pub TakeEnters : Type 0 → Type 0
TakeEnters T = (cycle : ℕ) (w after : World T) (i ticket : ℕ) → Follows cycle w (step i (Ok (Took, ticket))) after → (kind : Kind) × (x : T) × Entered w after i ticket kind x

pub record Facts (T : Type 0) : Type 0 where
  pub record_grows : RecordGrows T
  pub counts_never_fall : CountsNeverFall T
  pub hand_changes_only_by_own : HandChangesOnlyByOwn T
  pub take_enters : TakeEnters T
