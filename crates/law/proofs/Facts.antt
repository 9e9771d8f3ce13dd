-- The four facts beside the law, by cases of the calls.
use Rattle.std.proofs.Common.{◌≡◌, ℕ, zero, suc, ◌+◌, ◌-◌, ◌<◌, ◌≤◌, cond, eqb, ltb, leb, List, [], ◌∷◌, ◌++◌, length, get_or, set, Some, None, Ok, Err, Option, Result, sym, refl, ap, subst, inl, inr, not-suc-le-zero, arith}
use mathlib.Core.Path.{subst⁻¹}
use Rattle.std.proofs.lemmas.List.{append-nil}
use Rattle.std.proofs.lemmas.Bool.{cond_both, cases_Bool, leb-false, ltb-false}
use Rattle.turns.specs.Rows.{advanced}
use Rattle.turns.specs.Tickets.{slot_of}
use Rattle.history.specs.declared.entry.Entry.{Entry}
use Rattle.history.specs.declared.entry.Kind.{Kind}
use Rattle.history.specs.declared.entry.Kind.TheVariants.{Push, Pop}
use Rattle.world.specs.declared.cell.Cell.{Cell}
use Rattle.world.specs.declared.phase.Phase.{Phase}
use Rattle.world.specs.declared.phase.Phase.TheVariants.{Idle, Taking, Waiting, Storing, Reading, Emptying, Completing, Done}
use Rattle.world.specs.declared.refusal.Refusal.{Refusal}
use Rattle.world.specs.declared.refusal.Refusal.TheVariants.{Stranger, Misfit, Spent, RecordFull}
use Rattle.world.specs.declared.step.Step.{Step}
use Rattle.world.specs.declared.step.Step.TheVariants.{Took, Waited, Passed, Stored, Read, Emptied, Completed}
use Rattle.world.specs.declared.table.Table.{Table}
use Rattle.world.specs.Calls.{is_idle, push_begun, pop_begun, done_with, handed_over, collected}
use Rattle.world.specs.Steps.{turn_came, past_wait, stored_cells, read_hands, emptied_cells, Outcome, acted, fitting, stepped}
use Rattle.world.specs.Takes.{count_of, writes_of, ticket_limit, record_after, table_after}
use Rattle.world.specs.Worlds.{World, world, at, entered, phase_at, rephased}
use Rattle.law.specs.Facts.{new_entries, hand_of, actor, Entered, Facts, RecordGrows, CountsNeverFall, HandChangesOnlyByOwn, TakeEnters}
use Rattle.law.specs.Operations.{Event, begin_push, begin_pop, step, collect, ask_pushes, ask_pops, ask_used, ask_phase, ask_waiting, ask_rest}
use Rattle.law.specs.Runs.{Follows}
use Rattle.law.proofs.Entering.{at_is, entered_take}
use Rattle.law.proofs.Keeping.{fits}

-- what an event of this thread, or of none, does to a world
record Moves {T : Type 0} (who : Option ℕ) (w after : World T) : Type 0 where
  grown : (more : List (Entry T)) × (entered after ≡ entered w ++ more)
  pushes : w.table.pushes ≤ after.table.pushes
  pops : w.table.pops ≤ after.table.pops
  hands : (j : ℕ) → (who ≡ Some j → ⊥) → hand_of after j ≡ hand_of w j

-- a change at one place leaves the others
at_set_other : {A B : Type 0} (xs : List A) (i j : ℕ) (x : A) (f : A → B) (fallback : B) → (i ≡ j → ⊥) → at (set xs i x) j f fallback ≡ at xs j f fallback
at_set_other [] i j x f b n = refl
at_set_other (y ∷ xs) zero zero x f b n = absurd (n refl)
at_set_other (y ∷ xs) zero (suc j) x f b n = refl
at_set_other (y ∷ xs) (suc i) zero x f b n = refl
at_set_other (y ∷ xs) (suc i) (suc j) x f b n = at_set_other xs i j x f b (λ e. n (ap suc e))

-- what is read from a place, or not, keeps what holds either way
at_both : {A B : Type 0} (xs : List A) (i : ℕ) (f : A → B) (fallback : B) (P : B → Type 0) → ((x : A) → P (f x)) → P fallback → P (at xs i f fallback)
at_both [] i f b P h g = g
at_both (x ∷ xs) zero f b P h g = h x
at_both (x ∷ xs) (suc i) f b P h g = at_both xs i f b P h g

-- 1 for a take, 0 for any other step
abbrev takes : Step → ℕ
takes Took = 1
takes Waited = 0
takes Passed = 0
takes Stored = 0
takes Read = 0
takes Emptied = 0
takes Completed = 0

answer_is : (a b : Step × ℕ) → ◌≡◌ {A = Result (Step × ℕ) Refusal} (Ok a) (Ok b) → a ≡ b
answer_is a b e = cc

took_only : (s : Step) (t u : ℕ) → ◌≡◌ {A = Result (Step × ℕ) Refusal} (Ok (s, t)) (Ok (Took, u)) → takes s ≡ 1
took_only s t u e = ap (λ (a : Step × ℕ). takes a.0) (answer_is (s, t) (Took, u) e)

module _ {T : Type 0} (w : World T) where
  still : (who : Option ℕ) → Moves who w w
  still who = record { grown = ([], sym (append-nil (entered w))); pushes = omega arith; pops = omega arith; hands = λ j _. refl }

  -- a thread's phase changes, and at most its own hand
  moves : (i : ℕ) (row : List ℕ) (p : Phase) (cells : List (Cell T)) (hands : List T) → ((j : ℕ) → (Some i ≡ Some j → ⊥) → at hands j (λ x. Some x) None ≡ hand_of w j) → Moves (Some i) w (world row (rephased w.table i p) cells hands w.entries)
  moves i row p cells hands h = record { grown = ([], sym (append-nil (entered w))); pushes = omega arith; pops = omega arith; hands = h }

  hand_set : (i : ℕ) (x : T) (j : ℕ) → (Some i ≡ Some j → ⊥) → at (set w.hands i x) j (λ x. Some x) None ≡ hand_of w j
  hand_set i x j n = at_set_other w.hands i j x (λ x. Some x) None (λ e. n (ap Some e))

  moves_push : (i : ℕ) (x : T) → let a = push_begun w.table i x w.hands in Moves (Some i) w (world w.row a.1 w.cells a.2 w.entries)
  moves_push i x =
      let n = w.table.shape.threads in
      elim (cases_Bool (leb n i)) [
        | inl f ↦ rw f (still (Some i))
        | inr f ↦ elim (cases_Bool (eqb (length w.hands) n)) [
          | inl g ↦ elim (cases_Bool (is_idle (phase_at w.table i))) [
            | inl b ↦ rw (f, g, b) (moves i w.row (Taking Push) w.cells (set w.hands i x) (hand_set i x))
            | inr b ↦ rw (f, g, b) (still (Some i))
          ]
          | inr g ↦ rw (f, g) (still (Some i))
        ]
      ]

  moves_pop : (i : ℕ) → Moves (Some i) w (world w.row (pop_begun w.table i).1 w.cells w.hands w.entries)
  moves_pop i =
      let n = w.table.shape.threads in
      elim (cases_Bool (leb n i)) [
        | inl f ↦ rw f (still (Some i))
        | inr f ↦ elim (cases_Bool (is_idle (phase_at w.table i))) [
          | inl b ↦ rw (f, b) (moves i w.row (Taking Pop) w.cells w.hands (λ j _. refl))
          | inr b ↦ rw (f, b) (still (Some i))
        ]
      ]

  moves_over : (i : ℕ) (r : Result (Kind × ℕ) Refusal) → Moves (Some i) w (world w.row (handed_over r w.table i w.hands).1 w.cells w.hands w.entries)
  moves_over i (Ok a) =
      at_both w.hands i (λ x. (Ok (a.0, a.1, x), rephased w.table i Idle)) (Err Misfit, w.table) (λ (a : Result (Kind × ℕ × T) Refusal × Table). Moves (Some i) w (world w.row a.1 w.cells w.hands w.entries))
      (λ x. moves i w.row Idle w.cells w.hands (λ j _. refl))
      (still (Some i))
  moves_over i (Err f) = still (Some i)

  moves_collect : (i : ℕ) → Moves (Some i) w (world w.row (collected w.table i w.hands).1 w.cells w.hands w.entries)
  moves_collect i =
      let n = w.table.shape.threads in
      elim (cases_Bool (leb n i)) [
        | inl f ↦ rw f (still (Some i))
        | inr f ↦ elim (cases_Bool (eqb (length w.hands) n)) [
          | inl g ↦ rw (f, g) (moves_over i (done_with (phase_at w.table i)))
          | inr g ↦ rw (f, g) (still (Some i))
        ]
      ]

  -- what is to be shown of the outcome of a step: how it moves the world, and what it enters if it is a take
  abbrev Stepped : ℕ → Outcome T → Type 0
  Stepped i a = Moves (Some i) w a.1 × ((ticket : ℕ) → a.0 ≡ Ok (Took, ticket) → (kind : Kind) × (x : T) × Entered w a.1 i ticket kind x)

  -- a step that takes nothing
  refused : (i : ℕ) (f : Refusal) → Stepped i (Err f, w)
  refused i f = (still (Some i), λ t e. absurd (let z : ◌≡◌ {A = ℕ} 0 1 = cc in omega arith))

  stepped_take : (i : ℕ) (k : Kind) → phase_at w.table i ≡ Taking k → i < length w.hands → w.table.used + writes_of k w.table ≤ length w.entries → (d : T) → Stepped i (Ok (Took, count_of k w.table), world w.row (table_after k w.table i) w.cells w.hands (record_after k w.table i w.hands w.entries))
  stepped_take i Push p l room d =
      let e = entered_take Push w.table i w.hands w.entries d l room in
      let x = get_or w.hands i d in (
        record { grown = (new_entries Push w.table i (entered w) x, e); pushes = omega arith; pops = omega arith; hands = λ j _. refl },
        λ t z. (Push, x, record { taking = p; hand = at_is w.hands i (λ x. Some x) None d l; answered = sym (ap (λ (a : Step × ℕ). a.1) (answer_is (Took, count_of Push w.table) (Took, t) z)); enters = e }),
      )
  stepped_take i Pop p l room d =
      let e = entered_take Pop w.table i w.hands w.entries d l room in
      let x = get_or w.hands i d in (
        record { grown = (new_entries Pop w.table i (entered w) x, e); pushes = omega arith; pops = omega arith; hands = λ j _. refl },
        λ t z. (Pop, x, record { taking = p; hand = at_is w.hands i (λ x. Some x) None d l; answered = sym (ap (λ (a : Step × ℕ). a.1) (answer_is (Took, count_of Pop w.table) (Took, t) z)); enters = e }),
      )

  stepped_acted : (i : ℕ) → i < length w.hands → w.table.used ≤ length w.entries → (d : T) (p : Phase) → phase_at w.table i ≡ p → (cycle : ℕ) → Stepped i (acted cycle w i p)
  stepped_acted i l room d Idle e cycle = refused i _
  stepped_acted i l room d (Taking k) e cycle =
      let t = w.table in
      let new = world w.row (table_after k t i) w.cells w.hands (record_after k t i w.hands w.entries) in
      cond_both {A = Outcome T} (eqb (count_of k t) ticket_limit) (Err Spent, w) (cond (ltb (length w.entries - t.used) (writes_of k t)) (Err RecordFull, w) (Ok (Took, count_of k t), new)) (Stepped i)
      (λ _. refused i Spent)
      (λ _. cond_both {A = Outcome T} (ltb (length w.entries - t.used) (writes_of k t)) (Err RecordFull, w) (Ok (Took, count_of k t), new) (Stepped i)
      (λ _. refused i RecordFull)
      (λ f. let r = ltb-false (length w.entries - t.used) (writes_of k t) f in stepped_take i k e l (omega arith) d))
  stepped_acted i l room d (Waiting k t) e cycle =
      cond_both {A = Outcome T} (turn_came cycle w.row w.table.shape.slots k t) (Ok (Passed, t), world w.row (rephased w.table i (past_wait k t)) w.cells w.hands w.entries) (Ok (Waited, t), w) (Stepped i)
      (λ _. (moves i w.row (past_wait k t) w.cells w.hands (λ j _. refl), λ u z. absurd (omega (arith, took_only Passed t u z))))
      (λ _. (still (Some i), λ u z. absurd (omega (arith, took_only Waited t u z))))
  stepped_acted i l room d (Storing t) e cycle =
      (moves i w.row (Completing Push t) (stored_cells w.cells (slot_of w.table.shape.slots t) i w.hands) w.hands (λ j _. refl), λ u z. absurd (omega (arith, took_only Stored t u z)))
  stepped_acted i l room d (Reading t) e cycle =
      let slot = slot_of w.table.shape.slots t in (
        moves i w.row (Emptying t) w.cells (read_hands w.cells slot i w.hands) (λ j n. at_both w.cells slot (λ c. set w.hands i c.element) w.hands (λ hands. at hands j (λ x. Some x) None ≡ hand_of w j) (λ c. hand_set i c.element j n) refl),
        λ u z. absurd (omega (arith, took_only Read t u z)),
      )
  stepped_acted i l room d (Emptying t) e cycle =
      (moves i w.row (Completing Pop t) (emptied_cells w.cells (slot_of w.table.shape.slots t)) w.hands (λ j _. refl), λ u z. absurd (omega (arith, took_only Emptied t u z)))
  stepped_acted i l room d (Completing k t) e cycle =
      (moves i (advanced cycle w.row (slot_of w.table.shape.slots t)) (Done k t) w.cells w.hands (λ j _. refl), λ u z. absurd (omega (arith, took_only Completed t u z)))
  stepped_acted i l room d (Done k t) e cycle = refused i _

  -- a list that is long enough has an element
  some_element : (xs : List T) (i : ℕ) → i < length xs → T
  some_element [] i l = absurd (not-suc-le-zero l)
  some_element (x ∷ xs) i l = x

  stepped_step : (cycle i : ℕ) → Stepped i (stepped cycle w i)
  stepped_step cycle i =
      let n = w.table.shape.threads in
      cond_both {A = Outcome T} (leb n i) (Err Stranger, w) (cond (fitting w) (acted cycle w i (phase_at w.table i)) (Err Misfit, w)) (Stepped i)
      (λ _. refused i Stranger)
      (λ f. cond_both {A = Outcome T} (fitting w) (acted cycle w i (phase_at w.table i)) (Err Misfit, w) (Stepped i)
      (λ g.
      let y = fits w g in
      let l : i < length w.hands = omega (arith, leb-false n i f) in
      stepped_acted i l y.2 (some_element w.hands i l) (phase_at w.table i) refl cycle)
      (λ _. refused i Misfit))

  moves_event : (cycle : ℕ) (after : World T) (e : Event T) → Follows cycle w e after → Moves (actor e) w after
  moves_event cycle after (begin_push i x r) (inl z) =
      subst (Moves (Some i) w) (λ y. world (sym z.1 y) after.table (sym z.2 y) after.hands (sym z.3 y))
      (subst⁻¹ (λ (a : Result (Unit {0}) Refusal × Table × List T). Moves (Some i) w (world w.row a.1 w.cells a.2 w.entries)) z.0 (moves_push i x))
  moves_event cycle after (begin_push i x r) (inr z) = subst⁻¹ (Moves (Some i) w) z.1 (still (Some i))
  moves_event cycle after (begin_pop i r) (inl z) =
      subst⁻¹ (Moves (Some i) w) z.1 (subst⁻¹ (λ (a : Result (Unit {0}) Refusal × Table). Moves (Some i) w (world w.row a.1 w.cells w.hands w.entries)) z.0 (moves_pop i))
  moves_event cycle after (begin_pop i r) (inr z) = subst⁻¹ (Moves (Some i) w) z.1 (still (Some i))
  moves_event cycle after (step i r) (inl z) = subst⁻¹ (λ (a : Outcome T). Moves (Some i) w a.1) z (stepped_step cycle i).0
  moves_event cycle after (step i r) (inr z) = subst⁻¹ (Moves (Some i) w) z.1 (still (Some i))
  moves_event cycle after (collect i r) (inl z) =
      subst⁻¹ (Moves (Some i) w) z.1 (subst⁻¹ (λ (a : Result (Kind × ℕ × T) Refusal × Table). Moves (Some i) w (world w.row a.1 w.cells w.hands w.entries)) z.0 (moves_collect i))
  moves_event cycle after (collect i r) (inr z) = subst⁻¹ (Moves (Some i) w) z.1 (still (Some i))
  moves_event cycle after (ask_pushes k) z = subst⁻¹ (Moves None w) z.1 (still None)
  moves_event cycle after (ask_pops k) z = subst⁻¹ (Moves None w) z.1 (still None)
  moves_event cycle after (ask_used k) z = subst⁻¹ (Moves None w) z.1 (still None)
  moves_event cycle after (ask_phase i r) z = subst⁻¹ (Moves None w) z.1 (still None)
  moves_event cycle after (ask_waiting k) z = subst⁻¹ (Moves None w) z.1 (still None)
  moves_event cycle after (ask_rest b) z = subst⁻¹ (Moves None w) z.1 (still None)

pub record_grows : (T : Type 0) → RecordGrows T
record_grows T cycle w after e f = (moves_event w cycle after e f).grown

pub counts_never_fall : (T : Type 0) → CountsNeverFall T
counts_never_fall T cycle w after e f = let m = moves_event w cycle after e f in (m.pushes, m.pops)

pub hand_changes_only_by_own : (T : Type 0) → HandChangesOnlyByOwn T
hand_changes_only_by_own T cycle w after e f = (moves_event w cycle after e f).hands

pub take_enters : (T : Type 0) → TakeEnters T
take_enters T cycle w after i ticket (inl z) = (subst⁻¹ (Stepped w i) z (stepped_step w cycle i)).1 ticket refl
take_enters T cycle w after i ticket (inr z) = absurd (let e = z.0.1 in let y : ◌≡◌ {A = ℕ} 0 1 = cc in omega arith)

pub facts : (T : Type 0) → Facts T
facts T = record { record_grows = record_grows T; counts_never_fall = counts_never_fall T; hand_changes_only_by_own = hand_changes_only_by_own T; take_enters = take_enters T }
