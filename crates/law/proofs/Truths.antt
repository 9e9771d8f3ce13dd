-- What the invariant says of a world is the truth that the law claims.
use Rattle.std.proofs.Common.{◌≡◌, ℕ, ◌+◌, ◌-◌, ◌%◌, ◌<◌, cond, ltb, List, [], ◌∷◌, map, get_or, take, sym, refl, ap, ◌∙◌, subst, mod-lt, arith}
use Rattle.std.proofs.lemmas.List.{get_or-take}
use Rattle.std.proofs.lemmas.Bool.Decides.{nat_tests}
use Rattle.turns.specs.Rows.{cleared}
use Rattle.history.specs.declared.entry.Entry.{Entry}
use Rattle.world.specs.declared.cell.Cell.{Cell}
use Rattle.world.specs.declared.cell.Mark.{Mark}
use Rattle.world.specs.declared.cell.Mark.TheVariants.{Empty, Full}
use Rattle.world.specs.declared.phase.Phase.{Phase}
use Rattle.world.specs.declared.phase.Phase.TheVariants.{Idle, Taking, Waiting, Storing, Reading, Emptying, Completing, Done}
use Rattle.world.specs.Queries.{rests}
use Rattle.world.specs.Calls.{new_table, empty_cell}
use Rattle.world.specs.Steps.{cell}
use Rattle.world.specs.Worlds.{World, world, entered, phase_at}
use Rattle.law.specs.Laws.{Once, Holds, Truth, OpeningLaw}
use Rattle.law.specs.Operations.{Operation}
use Rattle.law.proofs.Core.{Past, alone}
use Rattle.law.proofs.Invariant.{Inv}
use Rattle.law.proofs.Keeping.{Kept}
use Rattle.law.proofs.Members.{Mem, mem_member, stands_mem, placed}
use Rattle.law.proofs.Records.{Distinct, distinct_apart, window}
use Rattle.law.proofs.Rest.{at_rest_lem}
use Rattle.law.proofs.Running.{kept_moment, kept_opened}
use Rattle.law.proofs.Scanning.{waiting_is, each_rests, rest_seen}
use Rattle.law.proofs.Views.{Thread, thread_in, View, view, full}

-- an entry that stands in a record stands there once
once : {T : Type 0} (xs : List (Entry T)) → Distinct xs → (x : Entry T) → Mem x xs → Once x xs
once xs u x m = let p = mem_member x xs m in (p.0, p.1, λ k s. distinct_apart xs u k p.0 x x s p.1 refl refl)

holds_past : {T : Type 0} (q slot : ℕ) (p : Phase) (x : T) → Holds q slot p → Past (thread_in p x) × ((thread_in p x).ticket % q ≡ slot)
holds_past q slot Idle x h = absurd h
holds_past q slot (Taking k) x h = absurd h
holds_past q slot (Waiting k t) x h = absurd h
holds_past q slot (Storing t) x h = ((omega arith, omega arith), h)
holds_past q slot (Reading t) x h = ((omega arith, omega arith), h)
holds_past q slot (Emptying t) x h = ((omega arith, omega arith), h)
holds_past q slot (Completing k t) x h = ((omega arith, omega arith), h)
holds_past q slot (Done k t) x h = absurd h

mark_empty : (m : Mark) → full m ≡ 0 → m ≡ Empty
mark_empty Empty h = refl
mark_empty Full h = absurd (omega arith)

mark_full : (m : Mark) → full m ≡ 1 → m ≡ Full
mark_full Empty h = absurd (omega arith)
mark_full Full h = refl

-- the count at rest, as the law says it
resting_is : (p d q : ℕ) → (p - (d + q)) + (d - p) ≡ cond (ltb (d + q) p) (p - d - q) (cond (ltb p d) (d - p) 0)
resting_is p d q = grind (arith, nat_tests)

-- a thread that is about to store finds its cell empty, one that is about to read finds it full
marked : {T : Type 0} (q n m : ℕ) (s : View T) (A : ℕ → ℕ) (own : ℕ → ℕ → ℕ) (E : ℕ → T) → Inv q n m s A own E → (i : ℕ) → (s.threads i).rank ≡ 3 → full (s.cells ((s.threads i).ticket % q)).mark ≡ (s.threads i).kind
marked q n m s A own E v i g =
    let p : Past (s.threads i) = (omega arith, omega arith) in
    v.marks (s.threads i).kind (s.threads i).ticket (v.core.each i).kinds ((v.core.each i).past p) (λ j b.
    let e = alone q n s.out s.threads A own v.core i j p (omega arith, omega arith) ((v.core.each j).past (omega arith, omega arith)) (sym b.1) in
    omega (arith, ap (λ z. (s.threads z).rank) e))

module _ {T : Type 0} (d : T) (cycle : ℕ) (w : World T) (os : List (Operation T)) (h : Kept d cycle w os) where
  -- the mark of the cell of a thread that is past the wait
  mark_at : (i : ℕ) (p : Phase) → phase_at w.table i ≡ p → let x = thread_in p (get_or w.hands i d) in x.rank ≡ 3 → full (get_or w.cells (x.ticket % w.table.shape.slots) (cell d Empty)).mark ≡ x.kind
  mark_at i p e =
      let (A, own, E, v, t) = h.sound in
      let q = w.table.shape.slots in
      subst (λ (x : Thread T). x.rank ≡ 3 → full (get_or w.cells (x.ticket % q) (cell d Empty)).mark ≡ x.kind) (ap (λ y. thread_in y (get_or w.hands i d)) e) (marked q w.table.shape.threads cycle (view d w) A own E v i)

  pub truth : Truth cycle w os
  truth =
      let few = w.table.shape.few in
      let q = w.table.shape.slots in
      let n = w.table.shape.threads in
      let ps = w.table.threads in
      let s = view d w in
      let low : (t : ℕ) → t % q < q = λ t. mod-lt t few.0.0 in
      let (A, own, E, v, t) = h.sound in
      record {
        queue = (window E w.table.pops (w.table.pushes - w.table.pops), v.records.replay);
        finished = λ o m z. let y = t.finished o (stands_mem o os m.0 m.1) z in (y.0, y.1, once (entered w) v.records.distinct y.0 y.2);
        others = λ x m. let y = t.accounted x (stands_mem x (entered w) m.0 m.1) in (y.0, mem_member y.0 os y.1, y.2);
        apart = distinct_apart (entered w) v.records.distinct;
        holder = λ slot i j hi hj.
            let (pi, si) = holds_past q slot (phase_at w.table i) (get_or w.hands i d) hi in
            let (pj, sj) = holds_past q slot (phase_at w.table j) (get_or w.hands j d) hj in
            alone q n s.out s.threads A own v.core i j pi (omega arith, pj.1) ((v.core.each j).past pj) (si ∙ sym sj);
        storing = λ i ticket e. placed (λ (c : Cell T). c.mark ≡ Empty) w.cells (ticket % q) (cell d Empty) (omega (arith, low ticket, h.cells)) (mark_empty (get_or w.cells (ticket % q) (cell d Empty)).mark (mark_at i (Storing ticket) e refl));
        reading = λ i ticket e. placed (λ (c : Cell T). c.mark ≡ Full) w.cells (ticket % q) (cell d Empty) (omega (arith, low ticket, h.cells)) (mark_full (get_or w.cells (ticket % q) (cell d Empty)).mark (mark_at i (Reading ticket) e refl));
        resting = λ z.
            waiting_is n ps (λ i. get_or w.hands i d) (omega (arith, h.threads))
            ∙ at_rest_lem q n cycle few.0.0 s A own E v (λ i l. rest_seen cycle w.row q (λ u. omega (arith, low u)) (phase_at w.table i) (get_or w.hands i d) (ap (rests cycle w.row q) (sym (get_or-take n ps i Idle l)) ∙ each_rests cycle w.row q (take n ps) z i))
            ∙ resting_is w.table.pushes w.table.pops q;
      }

-- the element of the first cell serves where a place past a buffer is read
pub opening_law : (T : Type 0) → OpeningLaw T
opening_law T cycle shape [] long e = absurd (let few = shape.few in omega arith)
opening_law T cycle shape (c ∷ cells) long e =
    record {
      law = λ hands entries w os m. truth c.element cycle w os (kept_moment c.element cycle (world cleared (new_table shape) (map empty_cell (c ∷ cells)) hands entries) (kept_opened c.element cycle shape (c ∷ cells) hands entries long e) m);
    }
