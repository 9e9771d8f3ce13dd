-- How many threads wait at rest: the record's law says it by P, D and the slots, and no call alters the slots.
use Rattle.std.proofs.Common.{◌≡◌, ℕ, zero, suc, ◌+◌, ◌-◌, cond, eqb, ltb, leb, List, [], ◌∷◌, length, Ok, Err, Result, refl, ap, ◌∙◌, inl, inr}
use Rattle.std.proofs.lemmas.Bool.{cond_both, cases_Bool}
use Rattle.history.specs.declared.entry.Kind.{Kind}
use Rattle.history.specs.declared.entry.Kind.TheVariants.{Push, Pop}
use Rattle.world.specs.declared.phase.Phase.{Phase}
use Rattle.world.specs.declared.phase.Phase.TheVariants.{Idle, Taking, Waiting, Storing, Reading, Emptying, Completing, Done}
use Rattle.world.specs.declared.refusal.Refusal.{Refusal}
use Rattle.world.specs.declared.refusal.Refusal.TheVariants.{Misfit, Spent, RecordFull}
use Rattle.world.specs.declared.step.Step.TheVariants.{Took, Waited, Passed}
use Rattle.world.specs.declared.table.Table.{Table}
use Rattle.world.specs.Calls.{is_idle, push_begun, pop_begun, done_with, handed_over, collected}
use Rattle.world.specs.Steps.{turn_came, past_wait, Outcome, acted, fitting, stepped}
use Rattle.world.specs.Takes.{count_of, writes_of, ticket_limit, record_after, table_after}
use Rattle.world.specs.Worlds.{World, world, at, phase_at, rephased}
use Rattle.law.specs.Operations.{Event, begin_push, begin_pop, step, collect, ask_pushes, ask_pops, ask_used, ask_phase, ask_waiting, ask_rest, Operation}
use Rattle.law.specs.Runs.{Follows, Moment, first, next}
use Rattle.law.proofs.Truths.{opening_law}
use Rattle.examples.specs.Examples.{RestsWith}

-- collecting, from hands that may be too short
same_over : {T : Type 0} (t : Table) (i : ℕ) (a : Kind × ℕ) (hands : List T) (j : ℕ) → (at {B = Result (Kind × ℕ × T) Refusal × Table} hands j (λ x. (Ok (a.0, a.1, x), rephased t i Idle)) (Err Misfit, t)).1.shape ≡ t.shape
same_over t i a [] j = refl
same_over t i a (x ∷ hands) zero = refl
same_over t i a (x ∷ hands) (suc j) = same_over t i a hands j

module _ {T : Type 0} (w : World T) where
  -- a table that has the shape of w
  abbrev Same : Table → Type 0
  Same t = t.shape ≡ w.table.shape

  same_push : (i : ℕ) (x : T) → Same (push_begun w.table i x w.hands).1
  same_push i x =
      elim (cases_Bool (leb w.table.shape.threads i)) [
        | inl f ↦ rw f refl
        | inr f ↦ elim (cases_Bool (eqb (length w.hands) w.table.shape.threads)) [
          | inl g ↦ elim (cases_Bool (is_idle (phase_at w.table i))) [ inl b ↦ rw (f, g, b) refl | inr b ↦ rw (f, g, b) refl ]
          | inr g ↦ rw (f, g) refl
        ]
      ]

  same_pop : (i : ℕ) → Same (pop_begun w.table i).1
  same_pop i =
      elim (cases_Bool (leb w.table.shape.threads i)) [
        | inl f ↦ rw f refl
        | inr f ↦ elim (cases_Bool (is_idle (phase_at w.table i))) [ inl b ↦ rw (f, b) refl | inr b ↦ rw (f, b) refl ]
      ]

  same_handed : (i : ℕ) (r : Result (Kind × ℕ) Refusal) → Same (handed_over r w.table i w.hands).1
  same_handed i (Ok a) = same_over w.table i a w.hands i
  same_handed i (Err f) = refl

  same_collect : (i : ℕ) → Same (collected w.table i w.hands).1
  same_collect i =
      elim (cases_Bool (leb w.table.shape.threads i)) [
        | inl f ↦ rw f refl
        | inr f ↦ elim (cases_Bool (eqb (length w.hands) w.table.shape.threads)) [
          | inl g ↦ rw (f, g) (same_handed i (done_with (phase_at w.table i)))
          | inr g ↦ rw (f, g) refl
        ]
      ]

  abbrev SameAfter : Outcome T → Type 0
  SameAfter a = Same a.1.table

  same_taken : (i : ℕ) (k : Kind) → Same (table_after k w.table i)
  same_taken i Push = refl
  same_taken i Pop = refl

  same_acted : (cycle i : ℕ) (p : Phase) → SameAfter (acted cycle w i p)
  same_acted cycle i Idle = refl
  same_acted cycle i (Taking k) =
      let t = w.table in
      let new = world w.row (table_after k t i) w.cells w.hands (record_after k t i w.hands w.entries) in
      cond_both {A = Outcome T} (eqb (count_of k t) ticket_limit) (Err Spent, w) (cond (ltb (length w.entries - t.used) (writes_of k t)) (Err RecordFull, w) (Ok (Took, count_of k t), new)) SameAfter
      (λ _. refl)
      (λ _. cond_both {A = Outcome T} (ltb (length w.entries - t.used) (writes_of k t)) (Err RecordFull, w) (Ok (Took, count_of k t), new) SameAfter (λ _. refl) (λ _. same_taken i k))
  same_acted cycle i (Waiting k t) =
      cond_both {A = Outcome T} (turn_came cycle w.row w.table.shape.slots k t) (Ok (Passed, t), world w.row (rephased w.table i (past_wait k t)) w.cells w.hands w.entries) (Ok (Waited, t), w) SameAfter
      (λ _. refl)
      (λ _. refl)
  same_acted cycle i (Storing t) = refl
  same_acted cycle i (Reading t) = refl
  same_acted cycle i (Emptying t) = refl
  same_acted cycle i (Completing k t) = refl
  same_acted cycle i (Done k t) = refl

  same_step : (cycle i : ℕ) → SameAfter (stepped cycle w i)
  same_step cycle i =
      elim (cases_Bool (leb w.table.shape.threads i)) [
        | inl f ↦ rw f refl
        | inr f ↦ elim (cases_Bool (fitting w)) [ inl g ↦ rw (f, g) (same_acted cycle i (phase_at w.table i)) | inr g ↦ rw (f, g) refl ]
      ]

  same_event : (cycle : ℕ) (after : World T) (e : Event T) → Follows cycle w e after → Same after.table
  same_event cycle after (begin_push i x r) (inl z) = ap (λ (a : Result (Unit {0}) Refusal × Table × List T). a.1.shape) z.0 ∙ same_push i x
  same_event cycle after (begin_push i x r) (inr z) = ap (λ (v : World T). v.table.shape) z.1
  same_event cycle after (begin_pop i r) (inl z) = ap (λ (a : Result (Unit {0}) Refusal × Table). a.1.shape) z.0 ∙ same_pop i
  same_event cycle after (begin_pop i r) (inr z) = ap (λ (v : World T). v.table.shape) z.1
  same_event cycle after (step i r) (inl z) = ap (λ (a : Outcome T). a.1.table.shape) z ∙ same_step cycle i
  same_event cycle after (step i r) (inr z) = ap (λ (v : World T). v.table.shape) z.1
  same_event cycle after (collect i r) (inl z) = ap (λ (a : Result (Kind × ℕ × T) Refusal × Table). a.1.shape) z.0 ∙ same_collect i
  same_event cycle after (collect i r) (inr z) = ap (λ (v : World T). v.table.shape) z.1
  same_event cycle after (ask_pushes k) z = ap (λ (v : World T). v.table.shape) z.1
  same_event cycle after (ask_pops k) z = ap (λ (v : World T). v.table.shape) z.1
  same_event cycle after (ask_used k) z = ap (λ (v : World T). v.table.shape) z.1
  same_event cycle after (ask_phase i r) z = ap (λ (v : World T). v.table.shape) z.1
  same_event cycle after (ask_waiting k) z = ap (λ (v : World T). v.table.shape) z.1
  same_event cycle after (ask_rest b) z = ap (λ (v : World T). v.table.shape) z.1

-- a run keeps its shape
same_moment : {T : Type 0} (cycle : ℕ) (start : World T) {w : World T} {os : List (Operation T)} → Moment cycle start w os → w.table.shape ≡ start.table.shape
same_moment cycle start first = refl
same_moment cycle start (next {w} {after} {os} e m f) = same_event w cycle after e f ∙ same_moment cycle start m

-- the count at rest, by the numbers that it depends on
abbrev pub waiters : ℕ → ℕ → ℕ → ℕ
waiters q p d = cond (ltb (d + q) p) (p - d - q) (cond (ltb p d) (d - p) 0)

pub rests_with : (T : Type 0) (q p d : ℕ) → RestsWith T q p d (waiters q p d)
rests_with T q p d cycle shape cells hands entries w os slots long fit m pushes pops rest =
    let s : w.table.shape.slots ≡ q = ap (λ z. z.slots) (same_moment cycle _ m) ∙ slots in
    ((opening_law T cycle shape cells long fit).law hands entries w os m).resting rest ∙ (λ y. waiters (s y) (pushes y) (pops y))
