-- Every event of a run keeps the invariant, and a newly opened machine has it.
use Rattle.std.proofs.Common.{◌≡◌, ℕ, zero, suc, ◌*◌, ◌%◌, ◌<◌, ◌≤◌, cond, eqb, leb, List, [], ◌∷◌, map, length, get_or, replicate, Ok, Err, Result, sym, refl, ap, ◌∙◌, subst, inl, inr, arith}
use mathlib.Core.Path.{subst⁻¹}
use native.Mathlib.Nat.{zero-mod}
use Rattle.std.proofs.lemmas.List.{length-map}
use Rattle.std.proofs.lemmas.Bool.{cond_both, cases_Bool, leb-false, eqb-true}
use Rattle.turns.specs.declared.shape.Shape.{Shape}
use Rattle.turns.specs.Rows.{cleared}
use Rattle.turns.proofs.Turning.{zeros}
use Rattle.history.specs.declared.entry.Entry.{Entry}
use Rattle.history.specs.declared.entry.Kind.{Kind}
use Rattle.world.specs.declared.cell.Cell.{Cell}
use Rattle.world.specs.declared.cell.Mark.TheVariants.{Empty}
use Rattle.world.specs.declared.phase.Phase.{Phase}
use Rattle.world.specs.declared.phase.Phase.TheVariants.{Idle, Taking, Waiting, Storing, Reading, Emptying, Completing, Done}
use Rattle.world.specs.declared.refusal.Refusal.{Refusal}
use Rattle.world.specs.declared.refusal.Refusal.TheVariants.{Stranger, Misfit}
use Rattle.world.specs.declared.table.Table.{Table}
use Rattle.world.specs.Calls.{new_table, empty_cell, is_idle, push_begun, pop_begun, done_with, handed_over, collected}
use Rattle.world.specs.Steps.{cell, Outcome, acted, fitting, stepped}
use Rattle.world.specs.Worlds.{World, world, phase_at, rephased}
use Rattle.law.specs.Operations.{Event, begin_push, begin_pop, step, collect, ask_pushes, ask_pops, ask_used, ask_phase, ask_waiting, ask_rest, Operation, told}
use Rattle.law.specs.Runs.{Refused, Follows, Moment, first, next}
use Rattle.law.proofs.Entering.{at_is}
use Rattle.law.proofs.Keeping.{Kept, StepKept, idle_is, fits, kept_push_begun, kept_pop_begun, kept_collected, kept_acted}
use Rattle.law.proofs.Stepping.{Sound}
use Rattle.law.proofs.Views.{thread, thread_in, counts, View, view, full}

module _ {T : Type 0} (d : T) (cycle : ℕ) (w : World T) (os : List (Operation T)) (h : Kept d cycle w os) where
  abbrev PushKept : ℕ → T → Result (Unit {0}) Refusal × Table × List T → Type 0
  PushKept i x a = Kept d cycle (world w.row a.1 w.cells a.2 w.entries) (told (begin_push i x a.0) a.2 os)

  kept_begin_push : (i : ℕ) (x : T) → PushKept i x (push_begun w.table i x w.hands)
  kept_begin_push i x =
      let n = w.table.shape.threads in
      elim (cases_Bool (leb n i)) [
        | inl f ↦ rw f h
        | inr f ↦ elim (cases_Bool (eqb (length w.hands) n)) [
          | inl g ↦ elim (cases_Bool (is_idle (phase_at w.table i))) [
            | inl b ↦ rw (f, g, b) (kept_push_begun d cycle w os h i (leb-false n i f) x (idle_is (phase_at w.table i) b) (eqb-true (length w.hands) n g))
            | inr b ↦ rw (f, g, b) h
          ]
          | inr g ↦ rw (f, g) h
        ]
      ]

  abbrev PopKept : ℕ → Result (Unit {0}) Refusal × Table → Type 0
  PopKept i a = Kept d cycle (world w.row a.1 w.cells w.hands w.entries) (told (begin_pop i a.0) w.hands os)

  kept_begin_pop : (i : ℕ) → PopKept i (pop_begun w.table i)
  kept_begin_pop i =
      let n = w.table.shape.threads in
      elim (cases_Bool (leb n i)) [
        | inl f ↦ rw f h
        | inr f ↦ elim (cases_Bool (is_idle (phase_at w.table i))) [
          | inl b ↦ rw (f, b) (kept_pop_begun d cycle w os h i (leb-false n i f) (idle_is (phase_at w.table i) b))
          | inr b ↦ rw (f, b) h
        ]
      ]

  kept_step : (i : ℕ) → StepKept d cycle os i (stepped cycle w i)
  kept_step i =
      let n = w.table.shape.threads in
      cond_both {A = Outcome T} (leb n i) (Err Stranger, w) (cond (fitting w) (acted cycle w i (phase_at w.table i)) (Err Misfit, w)) (StepKept d cycle os i)
      (λ _. h)
      (λ f. cond_both {A = Outcome T} (fitting w) (acted cycle w i (phase_at w.table i)) (Err Misfit, w) (StepKept d cycle os i)
      (λ g. let y = fits w g in kept_acted d cycle w os h i (leb-false n i f) y.1 y.2 (phase_at w.table i) refl)
      (λ _. h))

  abbrev CollectKept : Result (Kind × ℕ × T) Refusal × Table → Type 0
  CollectKept a = Kept d cycle (world w.row a.1 w.cells w.hands w.entries) os

  kept_over : (i : ℕ) → i < w.table.shape.threads → length w.hands ≡ w.table.shape.threads → (p : Phase) → phase_at w.table i ≡ p → CollectKept (handed_over (done_with p) w.table i w.hands)
  kept_over i l lh Idle e = h
  kept_over i l lh (Taking k) e = h
  kept_over i l lh (Waiting k t) e = h
  kept_over i l lh (Storing t) e = h
  kept_over i l lh (Reading t) e = h
  kept_over i l lh (Emptying t) e = h
  kept_over i l lh (Completing k t) e = h
  kept_over i l lh (Done k t) e =
      subst⁻¹ CollectKept (at_is w.hands i (λ x. (Ok (k, t, x), rephased w.table i Idle)) (Err Misfit, w.table) d (omega arith)) (kept_collected d cycle w os h i l k t e)

  kept_collect : (i : ℕ) → CollectKept (collected w.table i w.hands)
  kept_collect i =
      let n = w.table.shape.threads in
      elim (cases_Bool (leb n i)) [
        | inl f ↦ rw f h
        | inr f ↦ elim (cases_Bool (eqb (length w.hands) n)) [
          | inl g ↦ rw (f, g) (kept_over i (leb-false n i f) (eqb-true (length w.hands) n g) (phase_at w.table i) refl)
          | inr g ↦ rw (f, g) h
        ]
      ]

  module _ (after : World T) where
    -- a refused call tells nothing
    kept_refused : {A : Type 0} (r : Result A Refusal) (e : Result A Refusal → Event T) → ((f : Refusal) → told (e (Err f)) w.hands os ≡ os) → Refused r w after → Kept d cycle after (told (e r) after.hands os)
    kept_refused r e nothing z =
        subst⁻¹ (λ (v : World T). Kept d cycle v (told (e r) v.hands os)) z.1
        (subst⁻¹ (λ a. Kept d cycle w (told (e a) w.hands os)) z.0.1 (subst⁻¹ (Kept d cycle w) (nothing z.0.0) h))

    pub kept_event : (e : Event T) → Follows cycle w e after → Kept d cycle after (told e after.hands os)
    kept_event (begin_push i x r) (inl z) =
        subst (λ (v : World T). Kept d cycle v (told (begin_push i x r) v.hands os)) (λ y. world (sym z.1 y) after.table (sym z.2 y) after.hands (sym z.3 y))
        (subst⁻¹ (PushKept i x) z.0 (kept_begin_push i x))
    kept_event (begin_push i x r) (inr z) = kept_refused r (begin_push i x) (λ f. refl) z
    kept_event (begin_pop i r) (inl z) =
        subst⁻¹ (λ (v : World T). Kept d cycle v (told (begin_pop i r) v.hands os)) z.1 (subst⁻¹ (PopKept i) z.0 (kept_begin_pop i))
    kept_event (begin_pop i r) (inr z) = kept_refused r (begin_pop i) (λ f. refl) z
    kept_event (step i r) (inl z) = subst⁻¹ (StepKept d cycle os i) z (kept_step i)
    kept_event (step i r) (inr z) = kept_refused r (step i) (λ f. refl) z
    kept_event (collect i r) (inl z) = subst⁻¹ (λ (v : World T). Kept d cycle v os) z.1 (subst⁻¹ CollectKept z.0 (kept_collect i))
    kept_event (collect i r) (inr z) = kept_refused r (collect i) (λ f. refl) z
    kept_event (ask_pushes k) z = subst⁻¹ (λ (v : World T). Kept d cycle v os) z.1 h
    kept_event (ask_pops k) z = subst⁻¹ (λ (v : World T). Kept d cycle v os) z.1 h
    kept_event (ask_used k) z = subst⁻¹ (λ (v : World T). Kept d cycle v os) z.1 h
    kept_event (ask_phase i r) z = subst⁻¹ (λ (v : World T). Kept d cycle v os) z.1 h
    kept_event (ask_waiting k) z = subst⁻¹ (λ (v : World T). Kept d cycle v os) z.1 h
    kept_event (ask_rest b) z = subst⁻¹ (λ (v : World T). Kept d cycle v os) z.1 h

pub kept_moment : {T : Type 0} (d : T) (cycle : ℕ) (start : World T) {w : World T} {os : List (Operation T)} → Kept d cycle start [] → Moment cycle start w os → Kept d cycle w os
kept_moment d cycle start h first = h
kept_moment d cycle start h (next {w} {after} {os} e m f) = kept_event d cycle w os (kept_moment d cycle start h m) after e f

-- the opening: no ticket is out, all threads are idle and all cells empty
abbrev opened : {T : Type 0} → (ℕ → T) → (ℕ → Cell T) → View T
opened hands cells = record { out = λ _. 0; row = λ _. 0; threads = λ i. thread 0 0 0 (hands i); cells = cells; entries = [] }

sound_opened : {T : Type 0} (q n m : ℕ) (d : T) (hands : ℕ → T) (cells : ℕ → Cell T) → ((slot : ℕ) → (cells slot).mark ≡ Empty) → Sound q n m (opened hands cells) []
sound_opened q n m d hands cells none = (
  λ _. 0,
  λ _ _. 0,
  λ _. d,
  record {
    core = record { each = λ i. omega arith; owed = λ k t _ l _. absurd (omega arith); gone = λ k t _ l. absurd (omega arith) };
    good = λ i. grind arith;
    marks = λ k t _ a _. ap full (none (t % q)) ∙ omega arith;
    elems = λ t a. absurd (omega arith);
    rows = λ p. sym (zero-mod m);
    records = record { replay = refl; distinct = tt; each = tt; found = λ t l. absurd (omega arith); fresh = λ t l. refl };
  },
  record {
    tied = λ i. record { idle = λ _. tt; taking = λ z. absurd (omega arith); going = λ z. absurd (omega arith); done = λ z. absurd (omega arith) };
    finished = λ o m. absurd m;
    accounted = λ x m. absurd m;
  },
)

no_counts : (k : ℕ) → counts 0 0 k ≡ 0
no_counts zero = refl
no_counts (suc zero) = refl
no_counts (suc (suc k)) = refl

all_idle : (n i : ℕ) → get_or (replicate n Idle) i Idle ≡ Idle
all_idle zero i = refl
all_idle (suc n) zero = refl
all_idle (suc n) (suc i) = all_idle n i

all_empty : {T : Type 0} (d : T) (cells : List (Cell T)) (slot : ℕ) → (get_or (map empty_cell cells) slot (cell d Empty)).mark ≡ Empty
all_empty d [] slot = refl
all_empty d (c ∷ cells) zero = refl
all_empty d (c ∷ cells) (suc slot) = all_empty d cells slot

pub kept_opened : {T : Type 0} (d : T) (cycle : ℕ) (shape : Shape) (cells : List (Cell T)) (hands : List T) (entries : List (Entry T)) → 2 * shape.threads ≤ cycle → length cells ≡ shape.slots → Kept d cycle (world cleared (new_table shape) (map empty_cell cells) hands entries) []
kept_opened d cycle shape cells hands entries long e =
    let w = world cleared (new_table shape) (map empty_cell cells) hands entries in
    let is : view d w ≡ opened (λ i. get_or hands i d) (view d w).cells = λ y. record { out = λ k. no_counts k y; row = λ p. zeros 64 p y; threads = λ i. thread_in (all_idle 64 i y) (get_or hands i d); cells = (view d w).cells; entries = [] } in
    record {
      row = refl;
      threads = refl;
      cells = length-map cells empty_cell ∙ e;
      long = long;
      sound = subst⁻¹ (λ v. Sound shape.slots shape.threads cycle v []) is (sound_opened shape.slots shape.threads cycle d (λ i. get_or hands i d) (view d w).cells (all_empty d cells));
    }
