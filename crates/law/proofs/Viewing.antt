-- What the calls make of a world is, in its view, one of the changes that keep views sound.
use Rattle.std.proofs.Common.{◌≡◌, ℕ, zero, suc, ◌+◌, ◌%◌, ◌<◌, ◌≤◌, ◌≢◌, List, length, get_or, set, refl, ap, add-one}
use Rattle.std.proofs.lemmas.List.{get_or-set_same, get_or-set_other}
use Rattle.turns.specs.Rows.{advanced, next_turn}
use Rattle.turns.proofs.Turning.{advanced_there, advanced_elsewhere}
use Rattle.history.specs.declared.entry.Kind.{Kind}
use Rattle.history.specs.declared.entry.Kind.TheVariants.{Push, Pop}
use Rattle.world.specs.declared.cell.Cell.{Cell}
use Rattle.world.specs.declared.cell.Mark.TheVariants.{Empty}
use Rattle.world.specs.declared.phase.Phase.{Phase}
use Rattle.world.specs.declared.phase.Phase.TheVariants.{Idle, Waiting, Done}
use Rattle.world.specs.Steps.{cell}
use Rattle.world.specs.Takes.{writes_of, record_after, table_after}
use Rattle.world.specs.Worlds.{World, world, entered, rephased}
use Rattle.law.specs.Facts.{new_entries}
use Rattle.law.proofs.Count.{upd, upd_is}
use Rattle.law.proofs.Entering.{entered_take}
use Rattle.law.proofs.Views.{thread, thread_in, counts, view, moved, wrote, took, ended, bit}

set_is : {A : Type 0} (l : List A) (i : ℕ) (v d : A) → i < length l → (j : ℕ) → get_or (set l i v) j d ≡ upd (λ j. get_or l j d) i v j
set_is l i v d h = upd_is (λ j. get_or l j d) (λ j. get_or (set l i v) j d) i v (get_or-set_same l i v d h) (λ j z. get_or-set_other l i j v d z)

push_counts : (p d j : ℕ) → j ≢ 0 → counts (p + 1) d j ≡ counts p d j
push_counts p d zero z = absurd (z refl)
push_counts p d (suc zero) z = refl
push_counts p d (suc (suc j)) z = refl

pop_counts : (p d j : ℕ) → j ≢ 1 → counts p (d + 1) j ≡ counts p d j
pop_counts p d zero z = refl
pop_counts p d (suc zero) z = absurd (z refl)
pop_counts p d (suc (suc j)) z = refl

module _ {T : Type 0} (d : T) (w : World T) (i : ℕ) (l : i < length w.table.threads) where
  thread_set : (p : Phase) (j : ℕ) → thread_in (get_or (set w.table.threads i p) j Idle) (get_or w.hands j d) ≡ upd (view d w).threads i (thread_in p (get_or w.hands i d)) j
  thread_set p =
      upd_is (view d w).threads (λ j. thread_in (get_or (set w.table.threads i p) j Idle) (get_or w.hands j d)) i (thread_in p (get_or w.hands i d))
      (ap (λ x. thread_in x (get_or w.hands i d)) (get_or-set_same w.table.threads i p Idle l))
      (λ j z. ap (λ x. thread_in x (get_or w.hands j d)) (get_or-set_other w.table.threads i j p Idle z))

  hand_set : (p : Phase) (x : T) → i < length w.hands → (j : ℕ) → thread_in (get_or (set w.table.threads i p) j Idle) (get_or (set w.hands i x) j d) ≡ upd (view d w).threads i (thread_in p x) j
  hand_set p x h =
      upd_is (view d w).threads (λ j. thread_in (get_or (set w.table.threads i p) j Idle) (get_or (set w.hands i x) j d)) i (thread_in p x)
      (λ y. thread_in (get_or-set_same w.table.threads i p Idle l y) (get_or-set_same w.hands i x d h y))
      (λ j z y. thread_in (get_or-set_other w.table.threads i j p Idle z y) (get_or-set_other w.hands i j x d z y))

  pub view_phase : (p : Phase) → view d (world w.row (rephased w.table i p) w.cells w.hands w.entries) ≡ moved (view d w) i (thread_in p (get_or w.hands i d))
  view_phase p = λ y. record { out = (view d w).out; row = (view d w).row; threads = λ j. thread_set p j y; cells = (view d w).cells; entries = entered w }

  pub view_hand : (p : Phase) (x : T) → i < length w.hands → view d (world w.row (rephased w.table i p) w.cells (set w.hands i x) w.entries) ≡ moved (view d w) i (thread_in p x)
  view_hand p x h = λ y. record { out = (view d w).out; row = (view d w).row; threads = λ j. hand_set p x h j y; cells = (view d w).cells; entries = entered w }

  pub view_cell : (p : Phase) (slot : ℕ) (c : Cell T) → slot < length w.cells → view d (world w.row (rephased w.table i p) (set w.cells slot c) w.hands w.entries) ≡ wrote (view d w) i (thread_in p (get_or w.hands i d)) slot c
  view_cell p slot c h = λ y. record { out = (view d w).out; row = (view d w).row; threads = λ j. thread_set p j y; cells = λ j. set_is w.cells slot c (cell d Empty) h j y; entries = entered w }

  pub view_complete : (q m : ℕ) (kind : Kind) (ticket : ℕ) → ticket % q < 64 → length w.row ≡ 64 → view d (world (advanced m w.row (ticket % q)) (rephased w.table i (Done kind ticket)) w.cells w.hands w.entries) ≡ ended q m (view d w) i (thread 5 (bit kind) ticket (get_or w.hands i d))
  view_complete q m kind ticket h long =
      let slot = ticket % q in
      λ y. record {
        out = (view d w).out;
        row = λ j. upd_is (view d w).row (λ j. get_or (advanced m w.row slot) j 0) slot (next_turn m (get_or w.row slot 0)) (advanced_there m w.row slot h long) (λ j z. advanced_elsewhere m w.row slot h long j z) j y;
        threads = λ j. thread_set (Done kind ticket) j y;
        cells = (view d w).cells;
        entries = entered w;
      }

  pub view_push : i < length w.hands → w.table.used + writes_of Push w.table ≤ length w.entries → view d (world w.row (table_after Push w.table i) w.cells w.hands (record_after Push w.table i w.hands w.entries)) ≡ took (view d w) i 0 (get_or w.hands i d) (new_entries Push w.table i (entered w) (get_or w.hands i d))
  view_push h room =
      let p = w.table.pushes in
      let c = w.table.pops in
      λ y. record {
        out = λ k. upd_is (counts p c) (counts (p + 1) c) 0 (suc p) (add-one p) (push_counts p c) k y;
        row = (view d w).row;
        threads = λ j. thread_set (Waiting Push p) j y;
        cells = (view d w).cells;
        entries = entered_take Push w.table i w.hands w.entries d h room y;
      }

  pub view_pop : i < length w.hands → w.table.used + writes_of Pop w.table ≤ length w.entries → view d (world w.row (table_after Pop w.table i) w.cells w.hands (record_after Pop w.table i w.hands w.entries)) ≡ took (view d w) i 1 (get_or w.hands i d) (new_entries Pop w.table i (entered w) (get_or w.hands i d))
  view_pop h room =
      let p = w.table.pushes in
      let c = w.table.pops in
      λ y. record {
        out = λ k. upd_is (counts p c) (counts p (c + 1)) 1 (suc c) (add-one c) (pop_counts p c) k y;
        row = (view d w).row;
        threads = λ j. thread_set (Waiting Pop c) j y;
        cells = (view d w).cells;
        entries = entered_take Pop w.table i w.hands w.entries d h room y;
      }
