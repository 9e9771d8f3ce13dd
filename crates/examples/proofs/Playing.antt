-- A script that a world answers as written leads somewhere, and to a moment of the run.
use Rattle.std.proofs.Common.{◌≡◌, ℕ, List, [], ◌∷◌, refl, inl}
use mathlib.Core.Path.{subst⁻¹}
use Rattle.world.specs.Calls.{push_begun, pop_begun, collected}
use Rattle.world.specs.Queries.{phase_answer, waiting_threads, at_rest}
use Rattle.world.specs.Steps.{stepped}
use Rattle.world.specs.Worlds.{World, world}
use Rattle.law.specs.Operations.{Event, begin_push, begin_pop, step, collect, ask_pushes, ask_pops, ask_used, ask_phase, ask_waiting, ask_rest, Operation, told}
use Rattle.law.specs.Runs.{Follows, Moment, next}
use Rattle.examples.specs.Scripts.{Leads}

-- the world after a call, whatever answer is written
abbrev pub played : {T : Type 0} → ℕ → World T → Event T → World T
played cycle w (begin_push i x r) = let a = push_begun w.table i x w.hands in world w.row a.1 w.cells a.2 w.entries
played cycle w (begin_pop i r) = world w.row (pop_begun w.table i).1 w.cells w.hands w.entries
played cycle w (step i r) = (stepped cycle w i).1
played cycle w (collect i r) = world w.row (collected w.table i w.hands).1 w.cells w.hands w.entries
played cycle w (ask_pushes k) = w
played cycle w (ask_pops k) = w
played cycle w (ask_used k) = w
played cycle w (ask_phase i r) = w
played cycle w (ask_waiting k) = w
played cycle w (ask_rest b) = w

-- the answer that is written is the call's
abbrev pub Answers : {T : Type 0} → ℕ → World T → Event T → Type 0
Answers cycle w (begin_push i x r) = r ≡ (push_begun w.table i x w.hands).0
Answers cycle w (begin_pop i r) = r ≡ (pop_begun w.table i).0
Answers cycle w (step i r) = r ≡ (stepped cycle w i).0
Answers cycle w (collect i r) = r ≡ (collected w.table i w.hands).0
Answers cycle w (ask_pushes k) = k ≡ w.table.pushes
Answers cycle w (ask_pops k) = k ≡ w.table.pops
Answers cycle w (ask_used k) = k ≡ w.table.used
Answers cycle w (ask_phase i r) = r ≡ phase_answer w.table i
Answers cycle w (ask_waiting k) = k ≡ waiting_threads w.table
Answers cycle w (ask_rest b) = b ≡ at_rest cycle w.row w.table

follows : {T : Type 0} (cycle : ℕ) (w : World T) (e : Event T) → Answers cycle w e → Follows cycle w e (played cycle w e)
follows cycle w (begin_push i x r) a = let b = push_begun w.table i x w.hands in inl (λ y. (a y, b.1, b.2), refl, refl, refl)
follows cycle w (begin_pop i r) a = inl (λ y. (a y, (pop_begun w.table i).1), refl)
follows cycle w (step i r) a = inl (λ y. (a y, (stepped cycle w i).1))
follows cycle w (collect i r) a = inl (λ y. (a y, (collected w.table i w.hands).1), refl)
follows cycle w (ask_pushes k) a = (a, refl)
follows cycle w (ask_pops k) a = (a, refl)
follows cycle w (ask_used k) a = (a, refl)
follows cycle w (ask_phase i r) a = (a, refl)
follows cycle w (ask_waiting k) a = (a, refl)
follows cycle w (ask_rest b) a = (a, refl)

-- the world and the operations after a script
abbrev pub played_all : {T : Type 0} → ℕ → World T → List (Event T) → World T
played_all cycle w [] = w
played_all cycle w (e ∷ es) = played_all cycle (played cycle w e) es

abbrev pub told_all : {T : Type 0} → ℕ → World T → List (Event T) → List (Operation T) → List (Operation T)
told_all cycle w [] os = os
told_all cycle w (e ∷ es) os = let after = played cycle w e in told_all cycle after es (told e after.hands os)

abbrev pub AnswersAll : {T : Type 0} → ℕ → World T → List (Event T) → Type 0
AnswersAll cycle w [] = Unit {0}
AnswersAll cycle w (e ∷ es) = Answers cycle w e × AnswersAll cycle (played cycle w e) es

pub leads : {T : Type 0} (cycle : ℕ) (es : List (Event T)) (w : World T) (os : List (Operation T)) → AnswersAll cycle w es → Leads cycle es w os (played_all cycle w es) (told_all cycle w es os)
leads cycle [] w os a = (refl, refl)
leads cycle (e ∷ es) w os a =
    let after = played cycle w e in
    (after, follows cycle w e a.0, leads cycle es after (told e after.hands os) a.1)

pub leads_moment : {T : Type 0} (cycle : ℕ) (start : World T) (es : List (Event T)) (w : World T) (os : List (Operation T)) (last : World T) (all : List (Operation T)) → Moment cycle start w os → Leads cycle es w os last all → Moment cycle start last all
leads_moment {T} cycle start [] w os last all m l =
    subst⁻¹ (λ (v : World T). Moment cycle start v all) l.0 (subst⁻¹ (λ (ps : List (Operation T)). Moment cycle start w ps) l.1 m)
leads_moment cycle start (e ∷ es) w os last all m l = leads_moment cycle start es l.0 (told e l.0.hands os) last all (next e m l.1) l.2
