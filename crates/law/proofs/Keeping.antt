-- The invariant of a world in a run, and that each call keeps it: refused, the world is as it was; accepted, its view is
-- changed in one of the ways that keep views sound.
use Rattle.std.proofs.Common.{◌≡◌, ℕ, ◌+◌, ◌-◌, ◌*◌, ◌%◌, ◌<◌, ◌≤◌, true, false, cond, eqb, ltb, List, ◌∷◌, length, get_or, take, set, Some, None, Ok, Err, sym, refl, ap, ◌∙◌, subst, inl, inr, mod-lt, zero-add, arith}
use mathlib.Core.Path.{subst⁻¹}
use Rattle.std.proofs.lemmas.List.{length-set, length-take-le, get_or-take, get_or_past}
use Rattle.std.proofs.lemmas.Bool.{cond_both, cases_lt, both_ways, ltb-false}
use Rattle.std.proofs.lemmas.Bool.Decides.{nat_tests}
use Rattle.turns.proofs.Turning.{advanced_long}
use Rattle.history.specs.declared.entry.Kind.{Kind}
use Rattle.history.specs.declared.entry.Kind.TheVariants.{Push, Pop}
use Rattle.world.specs.declared.cell.Cell.{Cell}
use Rattle.world.specs.declared.cell.Mark.TheVariants.{Empty, Full}
use Rattle.world.specs.declared.phase.Phase.{Phase}
use Rattle.world.specs.declared.phase.Phase.TheVariants.{Idle, Taking, Waiting, Storing, Reading, Emptying, Completing, Done}
use Rattle.world.specs.declared.refusal.Refusal.TheVariants.{Spent, RecordFull}
use Rattle.world.specs.declared.step.Step.TheVariants.{Took, Waited, Passed}
use Rattle.world.specs.Calls.{is_idle}
use Rattle.world.specs.Steps.{turn_came, cell, Outcome, taken, waited, acted, fitting}
use Rattle.world.specs.Takes.{count_of, writes_of, ticket_limit, record_after, table_after, awaits_pop, early_popper}
use Rattle.world.specs.Worlds.{World, world, entered, phase_at, rephased}
use Rattle.law.specs.Facts.{new_entries}
use Rattle.law.specs.Operations.{step, Operation, told, begun, ticketed, finish, latest}
use Rattle.law.proofs.Arith.{turn}
use Rattle.law.proofs.Entering.{at_is}
use Rattle.law.proofs.Invariant.{early}
use Rattle.law.proofs.Scanning.{lowest_is, awaits_seen, seen_awaits, came}
use Rattle.law.proofs.Stepping.{Sound, sound_begin, sound_collect, sound_pass, sound_store, sound_read, sound_empty, sound_complete, sound_push, sound_pop}
use Rattle.law.proofs.Viewing.{view_phase, view_hand, view_cell, view_complete, view_push, view_pop}
use Rattle.law.proofs.Views.{Thread, thread, thread_in, bit, view, moved, wrote, took, ended}

pub record Kept {T : Type 0} (d : T) (cycle : ℕ) (w : World T) (os : List (Operation T)) : Type 0 where
  pub row : length w.row ≡ 64
  pub threads : length w.table.threads ≡ 64
  pub cells : length w.cells ≡ w.table.shape.slots
  pub long : 2 * w.table.shape.threads ≤ cycle
  pub sound : Sound w.table.shape.slots w.table.shape.threads cycle (view d w) os

pub thread_hand : {T : Type 0} (p : Phase) (x : T) → (thread_in p x).hand ≡ x
thread_hand Idle x = refl
thread_hand (Taking k) x = refl
thread_hand (Waiting k t) x = refl
thread_hand (Storing t) x = refl
thread_hand (Reading t) x = refl
thread_hand (Emptying t) x = refl
thread_hand (Completing k t) x = refl
thread_hand (Done k t) x = refl

pub idle_is : (p : Phase) → is_idle p ≡ true → p ≡ Idle
idle_is Idle h = refl
idle_is (Taking k) h = absurd (both_ways false refl h)
idle_is (Waiting k t) h = absurd (both_ways false refl h)
idle_is (Storing t) h = absurd (both_ways false refl h)
idle_is (Reading t) h = absurd (both_ways false refl h)
idle_is (Emptying t) h = absurd (both_ways false refl h)
idle_is (Completing k t) h = absurd (both_ways false refl h)
idle_is (Done k t) h = absurd (both_ways false refl h)

-- what the buffers of an accepted step are
pub fits : {T : Type 0} (w : World T) → fitting w ≡ true → (length w.cells ≡ w.table.shape.slots) × (length w.hands ≡ w.table.shape.threads) × (w.table.used ≤ length w.entries)
fits w h = grind (arith, nat_tests)

-- what is kept of the outcome of a step of thread i
abbrev pub StepKept : {T : Type 0} → T → ℕ → List (Operation T) → ℕ → Outcome T → Type 0
StepKept d cycle os i a = Kept d cycle a.1 (told (step i a.0) a.1.hands os)

module _ {T : Type 0} (d : T) (cycle : ℕ) (w : World T) (os : List (Operation T)) (h : Kept d cycle w os) (i : ℕ) (l : i < w.table.shape.threads) where
  inside : i < length w.table.threads
  inside = let few = w.table.shape.few in omega (arith, h.threads, l)

  -- the slot of a ticket is one of the cells
  slot_inside : (t : ℕ) → (t % w.table.shape.slots < length w.cells) × (t % w.table.shape.slots < 64)
  slot_inside t =
      let few = w.table.shape.few in
      let low = mod-lt t few.0.0 in
      (omega (arith, h.cells, low), omega (arith, low))

  -- the thread is as its phase says
  seen : (p : Phase) → phase_at w.table i ≡ p → (view d w).threads i ≡ thread_in p (get_or w.hands i d)
  seen p e = ap (λ x. thread_in x (get_or w.hands i d)) e

  -- a thread's phase changes
  kept_phase : (p : Phase) (told : List (Operation T)) → Sound w.table.shape.slots w.table.shape.threads cycle (moved (view d w) i (thread_in p (get_or w.hands i d))) told → Kept d cycle (world w.row (rephased w.table i p) w.cells w.hands w.entries) told
  kept_phase p told s =
      record {
        row = h.row;
        threads = length-set w.table.threads i p ∙ h.threads;
        cells = h.cells;
        long = h.long;
        sound = subst⁻¹ (λ v. Sound w.table.shape.slots w.table.shape.threads cycle v told) (view_phase d w i inside p) s;
      }

  -- and its hand
  kept_hand : (p : Phase) (x : T) (told : List (Operation T)) → i < length w.hands → Sound w.table.shape.slots w.table.shape.threads cycle (moved (view d w) i (thread_in p x)) told → Kept d cycle (world w.row (rephased w.table i p) w.cells (set w.hands i x) w.entries) told
  kept_hand p x told lh s =
      record {
        row = h.row;
        threads = length-set w.table.threads i p ∙ h.threads;
        cells = h.cells;
        long = h.long;
        sound = subst⁻¹ (λ v. Sound w.table.shape.slots w.table.shape.threads cycle v told) (view_hand d w i inside p x lh) s;
      }

  -- and a cell
  kept_cell : (p : Phase) (slot : ℕ) (c : Cell T) (told : List (Operation T)) → slot < length w.cells → Sound w.table.shape.slots w.table.shape.threads cycle (wrote (view d w) i (thread_in p (get_or w.hands i d)) slot c) told → Kept d cycle (world w.row (rephased w.table i p) (set w.cells slot c) w.hands w.entries) told
  kept_cell p slot c told ls s =
      record {
        row = h.row;
        threads = length-set w.table.threads i p ∙ h.threads;
        cells = length-set w.cells slot c ∙ h.cells;
        long = h.long;
        sound = subst⁻¹ (λ v. Sound w.table.shape.slots w.table.shape.threads cycle v told) (view_cell d w i inside p slot c ls) s;
      }

  -- a push begins
  pub kept_push_begun : (x : T) → phase_at w.table i ≡ Idle → length w.hands ≡ w.table.shape.threads → Kept d cycle (world w.row (rephased w.table i (Taking Push)) w.cells (set w.hands i x) w.entries) (begun Push i (Some x) ∷ os)
  kept_push_begun x e lh =
      let few = w.table.shape.few in
      let (A, own, E, v, t) = h.sound in
      kept_hand (Taking Push) x (begun Push i (Some x) ∷ os) (omega arith) (sound_begin w.table.shape.slots w.table.shape.threads cycle few.0.0 h.long (view d w) os A own E v t i Push (Some x) x (ap (λ (y : Thread T). y.rank) (seen Idle e)) (λ _. refl))

  -- a pop begins
  pub kept_pop_begun : phase_at w.table i ≡ Idle → Kept d cycle (world w.row (rephased w.table i (Taking Pop)) w.cells w.hands w.entries) (begun Pop i None ∷ os)
  kept_pop_begun e =
      let few = w.table.shape.few in
      let (A, own, E, v, t) = h.sound in
      kept_phase (Taking Pop) (begun Pop i None ∷ os) (sound_begin w.table.shape.slots w.table.shape.threads cycle few.0.0 h.long (view d w) os A own E v t i Pop None (get_or w.hands i d) (ap (λ (y : Thread T). y.rank) (seen Idle e)) (λ z. absurd (omega arith)))

  -- a done thread is idle again
  pub kept_collected : (k : Kind) (ticket : ℕ) → phase_at w.table i ≡ Done k ticket → Kept d cycle (world w.row (rephased w.table i Idle) w.cells w.hands w.entries) os
  kept_collected k ticket e =
      let few = w.table.shape.few in
      let (A, own, E, v, t) = h.sound in
      kept_phase Idle os (sound_collect w.table.shape.slots w.table.shape.threads cycle few.0.0 h.long (view d w) os A own E v t i (get_or w.hands i d) (ap (λ (y : Thread T). y.rank) (seen (Done k ticket) e)))

  -- the pop that is entered behind the push of its ticket is that of the thread which has this ticket
  popper_is : (j : ℕ) → 2 ≤ ((view d w).threads j).rank → ((view d w).threads j).ticket ≡ w.table.pushes → early_popper w.table ≡ j
  popper_is j r z =
      let few = w.table.shape.few in
      let q = w.table.shape.slots in
      let n = w.table.shape.threads in
      let p = w.table.pushes in
      let ps = w.table.threads in
      let (A, own, E, v, t) = h.sound in
      let (r2, k1, _, oj, lj) = early q n cycle (view d w) A own E v j r z in
      let there : awaits_pop p (get_or (take n ps) j Idle) ≡ true = ap (awaits_pop p) (get_or-take n ps j Idle lj) ∙ seen_awaits p (phase_at w.table j) (get_or w.hands j d) r2 k1 z in
      let only : (k : ℕ) → awaits_pop p (get_or (take n ps) k Idle) ≡ true → k ≡ j = λ k y. elim (cases_lt k n) [
        | inl a ↦
            let (rk, _, tk) = awaits_seen p (phase_at w.table k) (get_or w.hands k d) (ap (awaits_pop p) (sym (get_or-take n ps k Idle a)) ∙ y) in
            let (_, _, _, ok, _) = early q n cycle (view d w) A own E v k (omega arith) tk in
            sym ok ∙ oj
        | inr a ↦ absurd (both_ways false refl (ap (awaits_pop p) (sym (get_or_past (take n ps) k Idle (omega (arith, length-take-le n ps (omega (arith, h.threads)))))) ∙ y))
      ] in
      lowest_is p 0 j (take n ps) there only ∙ zero-add j

  module _ (lh : length w.hands ≡ w.table.shape.threads) (room : w.table.used ≤ length w.entries) where
    kept_took : (k : Kind) → phase_at w.table i ≡ Taking k → w.table.used + writes_of k w.table ≤ length w.entries → Kept d cycle (world w.row (table_after k w.table i) w.cells w.hands (record_after k w.table i w.hands w.entries)) (latest i (ticketed (count_of k w.table)) os)
    kept_took Push e free =
        let few = w.table.shape.few in
        let q = w.table.shape.slots in
        let n = w.table.shape.threads in
        let hd = get_or w.hands i d in
        let (A, own, E, v, t) = h.sound in
        let s = sound_push q n cycle few.0.0 h.long (view d w) os A own E v t i (early_popper w.table) l (ap (λ (y : Thread T). y.rank) (seen (Taking Push) e)) (ap (λ (y : Thread T). y.kind) (seen (Taking Push) e)) popper_is in
        record {
          row = h.row;
          threads = length-set w.table.threads i (Waiting Push w.table.pushes) ∙ h.threads;
          cells = h.cells;
          long = h.long;
          sound =
              subst⁻¹ (λ u. Sound q n cycle u (latest i (ticketed w.table.pushes) os)) (view_push d w i inside (omega arith) free)
              (subst (λ x. Sound q n cycle (took (view d w) i 0 x (new_entries Push w.table i (entered w) x)) (latest i (ticketed w.table.pushes) os)) (thread_hand (phase_at w.table i) hd) s);
        }
    kept_took Pop e free =
        let few = w.table.shape.few in
        let q = w.table.shape.slots in
        let n = w.table.shape.threads in
        let hd = get_or w.hands i d in
        let (A, own, E, v, t) = h.sound in
        let s = sound_pop q n cycle few.0.0 h.long (view d w) os A own E v t i l (ap (λ (y : Thread T). y.rank) (seen (Taking Pop) e)) (ap (λ (y : Thread T). y.kind) (seen (Taking Pop) e)) in
        record {
          row = h.row;
          threads = length-set w.table.threads i (Waiting Pop w.table.pops) ∙ h.threads;
          cells = h.cells;
          long = h.long;
          sound =
              subst⁻¹ (λ u. Sound q n cycle u (latest i (ticketed w.table.pops) os)) (view_pop d w i inside (omega arith) free)
              (subst (λ x. Sound q n cycle (took (view d w) i 1 x (new_entries Pop w.table i (entered w) x)) (latest i (ticketed w.table.pops) os)) (thread_hand (phase_at w.table i) hd) s);
        }

    kept_taken : (k : Kind) → phase_at w.table i ≡ Taking k → StepKept d cycle os i (taken w i k)
    kept_taken k e =
        let t = w.table in
        let new = world w.row (table_after k t i) w.cells w.hands (record_after k t i w.hands w.entries) in
        cond_both {A = Outcome T} (eqb (count_of k t) ticket_limit) (Err Spent, w) (cond (ltb (length w.entries - t.used) (writes_of k t)) (Err RecordFull, w) (Ok (Took, count_of k t), new)) (StepKept d cycle os i)
        (λ _. h)
        (λ _. cond_both {A = Outcome T} (ltb (length w.entries - t.used) (writes_of k t)) (Err RecordFull, w) (Ok (Took, count_of k t), new) (StepKept d cycle os i)
        (λ _. h)
        (λ f. let r = ltb-false (length w.entries - t.used) (writes_of k t) f in kept_took k e (omega arith)))

    -- the thread passes, by its kind
    kept_passed : (k : Kind) (ticket : ℕ) → phase_at w.table i ≡ Waiting k ticket → turn_came cycle w.row w.table.shape.slots k ticket ≡ true → Sound w.table.shape.slots w.table.shape.threads cycle (moved (view d w) i (thread 3 (bit k) ticket (get_or w.hands i d))) os
    kept_passed k ticket e b =
        let few = w.table.shape.few in
        let q = w.table.shape.slots in
        let n = w.table.shape.threads in
        let (A, own, E, v, t) = h.sound in
        subst (λ (x : Thread T). x.rank ≡ 2 → get_or w.row (x.ticket % q) 0 ≡ turn q x.kind x.ticket % cycle → Sound q n cycle (moved (view d w) i (thread 3 x.kind x.ticket x.hand)) os) (seen (Waiting k ticket) e)
        (sound_pass q n cycle few.0.0 h.long (view d w) os A own E v t i)
        refl
        (came cycle w.row q k ticket (slot_inside ticket).1 b)

    kept_waited : (k : Kind) (ticket : ℕ) → phase_at w.table i ≡ Waiting k ticket → StepKept d cycle os i (waited cycle w i k ticket)
    kept_waited Push ticket e =
        cond_both {A = Outcome T} (turn_came cycle w.row w.table.shape.slots Push ticket) (Ok (Passed, ticket), world w.row (rephased w.table i (Storing ticket)) w.cells w.hands w.entries) (Ok (Waited, ticket), w) (StepKept d cycle os i)
        (λ b. kept_phase (Storing ticket) os (kept_passed Push ticket e b))
        (λ _. h)
    kept_waited Pop ticket e =
        cond_both {A = Outcome T} (turn_came cycle w.row w.table.shape.slots Pop ticket) (Ok (Passed, ticket), world w.row (rephased w.table i (Reading ticket)) w.cells w.hands w.entries) (Ok (Waited, ticket), w) (StepKept d cycle os i)
        (λ b. kept_phase (Reading ticket) os (kept_passed Pop ticket e b))
        (λ _. h)

    -- each row of the step table
    pub kept_acted : (p : Phase) → phase_at w.table i ≡ p → StepKept d cycle os i (acted cycle w i p)
    kept_acted Idle e = h
    kept_acted (Taking k) e = kept_taken k e
    kept_acted (Waiting k ticket) e = kept_waited k ticket e
    kept_acted (Storing ticket) e =
        let few = w.table.shape.few in
        let q = w.table.shape.slots in
        let n = w.table.shape.threads in
        let slot = ticket % q in
        let hd = get_or w.hands i d in
        let (A, own, E, v, t) = h.sound in
        let s =
        subst (λ (x : Thread T). x.rank ≡ 3 → x.kind ≡ 0 → Sound q n cycle (wrote (view d w) i (thread 5 x.kind x.ticket x.hand) (x.ticket % q) (cell x.hand Full)) os) (seen (Storing ticket) e)
        (sound_store q n cycle few.0.0 h.long (view d w) os A own E v t i)
        refl
        refl in
        subst⁻¹ (λ c. Kept d cycle (world w.row (rephased w.table i (Completing Push ticket)) c w.hands w.entries) os) (at_is w.hands i (λ x. set w.cells slot (cell x Full)) w.cells d (omega arith))
        (kept_cell (Completing Push ticket) slot (cell hd Full) os (slot_inside ticket).0 s)
    kept_acted (Reading ticket) e =
        let few = w.table.shape.few in
        let q = w.table.shape.slots in
        let n = w.table.shape.threads in
        let slot = ticket % q in
        let x = (get_or w.cells slot (cell d Empty)).element in
        let (A, own, E, v, t) = h.sound in
        let s =
        subst (λ (x : Thread T). x.rank ≡ 3 → x.kind ≡ 1 → Sound q n cycle (moved (view d w) i (thread 4 x.kind x.ticket (get_or w.cells (x.ticket % q) (cell d Empty)).element)) os) (seen (Reading ticket) e)
        (sound_read q n cycle few.0.0 h.long (view d w) os A own E v t i)
        refl
        refl in
        subst⁻¹ (λ hands. Kept d cycle (world w.row (rephased w.table i (Emptying ticket)) w.cells hands w.entries) os) (at_is w.cells slot (λ c. set w.hands i c.element) w.hands (cell d Empty) (slot_inside ticket).0)
        (kept_hand (Emptying ticket) x os (omega arith) s)
    kept_acted (Emptying ticket) e =
        let few = w.table.shape.few in
        let q = w.table.shape.slots in
        let n = w.table.shape.threads in
        let slot = ticket % q in
        let x = (get_or w.cells slot (cell d Empty)).element in
        let (A, own, E, v, t) = h.sound in
        let s =
        subst (λ (x : Thread T). x.rank ≡ 4 → Sound q n cycle (wrote (view d w) i (thread 5 x.kind x.ticket x.hand) (x.ticket % q) (cell (get_or w.cells (x.ticket % q) (cell d Empty)).element Empty)) os) (seen (Emptying ticket) e)
        (sound_empty q n cycle few.0.0 h.long (view d w) os A own E v t i)
        refl in
        subst⁻¹ (λ c. Kept d cycle (world w.row (rephased w.table i (Completing Pop ticket)) c w.hands w.entries) os) (at_is w.cells slot (λ c. set w.cells slot (cell c.element Empty)) w.cells (cell d Empty) (slot_inside ticket).0)
        (kept_cell (Completing Pop ticket) slot (cell x Empty) os (slot_inside ticket).0 s)
    kept_acted (Completing k ticket) e =
        let few = w.table.shape.few in
        let q = w.table.shape.slots in
        let n = w.table.shape.threads in
        let slot = ticket % q in
        let hd = get_or w.hands i d in
        let (A, own, E, v, t) = h.sound in
        let low = (slot_inside ticket).1 in
        let s =
        subst (λ (x : Thread T). x.rank ≡ 5 → Sound q n cycle (ended q cycle (view d w) i x) (latest i (finish (Some x.hand)) os)) (seen (Completing k ticket) e)
        (sound_complete q n cycle few.0.0 h.long (view d w) os A own E v t i (omega (arith, h.long, few.1.0)))
        refl in
        subst⁻¹ (λ o. Kept d cycle (acted cycle w i (Completing k ticket)).1 (latest i (finish o) os)) (at_is w.hands i (λ x. Some x) None d (omega arith))
        (record {
          row = advanced_long cycle w.row slot low h.row;
          threads = length-set w.table.threads i (Done k ticket) ∙ h.threads;
          cells = h.cells;
          long = h.long;
          sound = subst⁻¹ (λ u. Sound q n cycle u (latest i (finish (Some hd)) os)) (view_complete d w i inside q cycle k ticket low h.row) s;
        })
    kept_acted (Done k ticket) e = h
