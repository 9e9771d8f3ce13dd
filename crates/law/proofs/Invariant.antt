-- The invariant of a view, with its three ghosts: A, the true number of completes of each slot; own, the thread that took
-- a ticket; E, the element of each push ticket. And that each kind of change keeps it.
use Rattle.std.proofs.Common.{◌≡◌, ℕ, suc, ◌-◌, ◌%◌, ◌<◌, ◌≤◌, cond, ltb, List, [], ◌∷◌, ◌++◌, unwrap_or, sym, refl, ap, ◌∙◌, subst, inl, inr, arith}
use mathlib.Core.Path.{subst⁻¹}
use Rattle.std.proofs.lemmas.Bool.{cases_eq, cases_lt, lt-ltb}
use Rattle.turns.specs.Rows.{next_turn}
use Rattle.turns.proofs.Turning.{next_mod}
use Rattle.history.specs.declared.entry.Entry.{Entry}
use Rattle.history.specs.declared.entry.Kind.TheVariants.{Push, Pop}
use Rattle.history.specs.Pushes.{first_push}
use Rattle.world.specs.declared.cell.Cell.{Cell}
use Rattle.world.specs.Takes.{entry}
use Rattle.law.proofs.Arith.{turn, same}
use Rattle.law.proofs.Count.{upd, upd_same, upd_other, upd_eq, upd_all, upd_keeps}
use Rattle.law.proofs.Core.{Held, Past, Has, Holder, Core, alone, core_th, core_take, core_complete, owns}
use Rattle.law.proofs.Members.{Mem, mem_left, mem_right}
use Rattle.law.proofs.Records.{RecordOk, record_push, record_pop}
use Rattle.law.proofs.Views.{Thread, thread, View, moved, wrote, took, ended, full, kind_of}

-- what is true of the data of thread i, which is as x says
pub record Good {T : Type 0} (q p : ℕ) (E : ℕ → T) (cell : ℕ → Cell T) (log : List (Entry T)) (i : ℕ) (x : Thread T) : Type 0 where
  pub marked : x.rank ≡ 5 → full (cell (x.ticket % q)).mark ≡ 1 - x.kind
  pub stored : x.rank ≡ 5 → x.kind ≡ 0 → (cell (x.ticket % q)).element ≡ E x.ticket
  pub handed : 2 ≤ x.rank → x.kind ≡ 0 → x.hand ≡ E x.ticket
  pub read : 4 ≤ x.rank → x.hand ≡ E x.ticket
  pub empties : x.rank ≡ 4 → x.kind ≡ 1
  pub known : 3 ≤ x.rank → x.ticket < p
  pub listed : 2 ≤ x.rank → x.kind ≡ 0 → x.ticket < p
  pub logged : 2 ≤ x.rank → x.ticket < p → Mem (entry (kind_of x.kind) i x.ticket (E x.ticket)) log

-- a thread that is about to complete at slot p
abbrev pub Busy : {T : Type 0} → ℕ → ℕ → Thread T → Type 0
Busy q p x = (x.rank ≡ 5) × (x.ticket % q ≡ p)

-- marks: a slot's cell has the mark that its turn's parity says, unless a thread has just written it
-- elems: and the element of the pop ticket whose turn it is
pub record Inv {T : Type 0} (q n m : ℕ) (s : View T) (A : ℕ → ℕ) (own : ℕ → ℕ → ℕ) (E : ℕ → T) : Type 0 where
  pub core : Core q n s.out s.threads A own
  pub good : (i : ℕ) → Good q (s.out 0) E s.cells s.entries i (s.threads i)
  pub marks : (k t : ℕ) → k < 2 → A (t % q) ≡ turn q k t → ((i : ℕ) → Busy q (t % q) (s.threads i) → ⊥) → full (s.cells (t % q)).mark ≡ k
  pub elems : (t : ℕ) → A (t % q) ≡ turn q 1 t → (s.cells (t % q)).element ≡ E t
  pub rows : (p : ℕ) → s.row p ≡ A p % m
  pub records : RecordOk (s.out 0) (s.out 1) E s.entries

module _ {T : Type 0} (q n m : ℕ) (s : View T) (A : ℕ → ℕ) (own : ℕ → ℕ → ℕ) (E : ℕ → T) (v : Inv q n m s A own E) where
  -- a thread moves on, and nothing else changes
  pub inv_th : (i : ℕ) (x : Thread T) → Holder q s.out A own i x → ((k t : ℕ) → Has k t (s.threads i) → Has k t x) → ((p : ℕ) → Busy q p (s.threads i) → Busy q p x) → Good q (s.out 0) E s.cells s.entries i x → Inv q n m (moved s i x) A own E
  inv_th i x h k b g =
      record {
        core = core_th q n s.out s.threads A own v.core i x h k;
        good = upd_all (Good q (s.out 0) E s.cells s.entries) s.threads i x g (λ j _. v.good j);
        marks = λ l t ll a none. v.marks l t ll a (λ j y. none j (upd_keeps (Busy q (t % q)) s.threads i j x y (b (t % q))));
        elems = v.elems;
        rows = v.rows;
        records = v.records;
      }

  -- a thread writes its cell and is about to complete
  pub inv_cell : (i : ℕ) (e : T) (w : Cell T) → Past (s.threads i) → let k = (s.threads i).kind in let t = (s.threads i).ticket in full w.mark ≡ 1 - k → e ≡ E t → ((u : ℕ) → A (u % q) ≡ turn q 1 u → u % q ≡ t % q → w.element ≡ E u) → (k ≡ 0 → w.element ≡ E t) → Inv q n m (wrote s i (thread 5 k t e) (t % q) w) A own E
  inv_cell i e w p h0 h1 h2 h3 =
      let k = (s.threads i).kind in
      let t = (s.threads i).ticket in
      let x = thread 5 k t e in
      let ci = v.core.each i in
      let gi = v.good i in
      let hi : Held (s.threads i) = (omega arith, p.1) in
      record {
        core = core_th q n s.out s.threads A own v.core i x (omega arith) (λ l u h. ((omega arith, omega arith), h.1, h.2));
        good =
            upd_all (Good q (s.out 0) E (upd s.cells (t % q) w) s.entries) s.threads i x
            (let c = upd_same s.cells (t % q) w in grind arith)
            (λ j d.
            let gj = v.good j in
            let u = (s.threads j).ticket in
            let away : (s.threads j).rank ≡ 5 → upd s.cells (t % q) w (u % q) ≡ s.cells (u % q) = λ r. upd_other s.cells (t % q) (u % q) w (λ z. d (sym (alone q n s.out s.threads A own v.core i j p (omega arith, omega arith) ((v.core.each j).past (omega arith, omega arith)) (sym z)))) in
            grind arith);
        marks = λ l u ll a none. elim (cases_eq (u % q) (t % q)) [
          | inl z ↦ absurd (none i (subst⁻¹ (Busy q (u % q)) (upd_same s.threads i x) (refl, sym z)))
          | inr z ↦ ap (λ (c : Cell T). full c.mark) (upd_other s.cells (t % q) (u % q) w z) ∙ v.marks l u ll a (λ j y. none j (upd_keeps (Busy q (u % q)) s.threads i j x y (λ b. (refl, b.1))))
        ];
        elems = λ u a. elim (cases_eq (u % q) (t % q)) [
          | inl z ↦ ap (λ (c : Cell T). c.element) (upd_eq s.cells (t % q) (u % q) w z) ∙ h2 u a z
          | inr z ↦ ap (λ (c : Cell T). c.element) (upd_other s.cells (t % q) (u % q) w z) ∙ v.elems u a
        ];
        rows = v.rows;
        records = v.records;
      }

  pub inv_complete : (i : ℕ) → 2 ≤ m → (s.threads i).rank ≡ 5 → let t = (s.threads i).ticket in Inv q n m (ended q m s i (s.threads i)) (upd A (t % q) (suc (A (t % q)))) own E
  inv_complete i two g =
      let k = (s.threads i).kind in
      let t = (s.threads i).ticket in
      let x = thread 6 k t (s.threads i).hand in
      let a = A (t % q) in
      let A' = upd A (t % q) (suc a) in
      let ci = v.core.each i in
      let gi = v.good i in
      let on = ci.past (omega arith, omega arith) in
      record {
        core = core_complete q n s.out s.threads A own v.core i (s.threads i).hand g;
        good =
            upd_all (Good q (s.out 0) E s.cells s.entries) s.threads i x
            (grind arith)
            (λ j _. v.good j);
        marks = λ l u ll b none. elim (cases_eq (u % q) (t % q)) [
          | inl z ↦ ap (λ y. full (s.cells y).mark) z ∙ gi.marked g ∙ (let y = upd_eq A (t % q) (u % q) (suc a) z in omega (arith, ci.kinds))
          | inr z ↦ v.marks l u ll (sym (upd_other A (t % q) (u % q) (suc a) z) ∙ b) (λ j y. none j (upd_keeps (Busy q (u % q)) s.threads i j x y (λ c. absurd (z (sym c.1)))))
        ];
        elems = λ u b. elim (cases_eq (u % q) (t % q)) [
          | inl z ↦
              let y = upd_eq A (t % q) (u % q) (suc a) z in
              let (ek, et) = same q k 0 t u ci.kinds (omega arith) (sym z) (omega arith) in
              ap (λ y. (s.cells y).element) z ∙ gi.stored g ek ∙ ap E et
          | inr z ↦ v.elems u (sym (upd_other A (t % q) (u % q) (suc a) z) ∙ b)
        ];
        rows = λ p. elim (cases_eq p (t % q)) [
          | inl z ↦ upd_eq s.row (t % q) p (next_turn m (s.row (t % q))) z ∙ ap (next_turn m) (v.rows (t % q)) ∙ next_mod m a two ∙ ap (λ y. y % m) (sym (upd_eq A (t % q) p (suc a) z))
          | inr z ↦ upd_other s.row (t % q) p (next_turn m (s.row (t % q))) z ∙ v.rows p ∙ ap (λ y. y % m) (sym (upd_other A (t % q) p (suc a) z))
        ];
        records = v.records;
      }

  -- a thread with the ticket of the next push waits with a pop ticket, and no other thread has it
  pub early : (j : ℕ) → 2 ≤ (s.threads j).rank → (s.threads j).ticket ≡ s.out 0 → ((s.threads j).rank ≡ 2) × ((s.threads j).kind ≡ 1) × (s.out 0 < s.out 1) × (own 1 (s.out 0) ≡ j) × (j < n)
  early j h z =
      let cj = v.core.each j in
      let gj = v.good j in
      let r : (s.threads j).rank ≡ 2 = elim (cases_lt (s.threads j).rank 3) [ inl y ↦ omega arith | inr y ↦ absurd (omega (arith, gj.known y)) ] in
      let k : (s.threads j).kind ≡ 1 = elim (cases_eq (s.threads j).kind 0) [ inl y ↦ absurd (omega (arith, gj.listed h y)) | inr y ↦ omega (arith, cj.kinds) ] in
      let hj : Held (s.threads j) = (h, omega arith) in
      let o = (v.core.owed (s.threads j).kind (s.threads j).ticket cj.kinds (cj.below hj) (cj.early hj)).0 in
      (r, k, omega (arith, cj.below hj, ap s.out k), (λ y. own (sym k y) (sym z y)) ∙ cj.mine hj, omega (arith, o, cj.mine hj))

  -- a push takes its ticket; f is the thread that waits with the pop of that ticket, if one does
  pub inv_push : (i f : ℕ) → i < n → (s.threads i).rank ≡ 1 → (s.threads i).kind ≡ 0 → ((j : ℕ) → 2 ≤ (s.threads j).rank → (s.threads j).ticket ≡ s.out 0 → f ≡ j) → let e = (s.threads i).hand in Inv q n m (took s i 0 e (entry Push i (s.out 0) e ∷ cond (ltb (s.out 0) (s.out 1)) (entry Pop f (s.out 0) e ∷ []) [])) A (owns own 0 (s.out 0) i) (upd E (s.out 0) e)
  inv_push i f l g k first =
      let e = (s.threads i).hand in
      let p = s.out 0 in
      let d = s.out 1 in
      let F = upd E p e in
      let x = thread 2 0 p e in
      let ys = entry Push i p e ∷ cond (ltb p d) (entry Pop f p e ∷ []) [] in
      record {
        core = subst (λ z. Core q n (upd s.out z (suc (s.out z))) (upd s.threads i (thread 2 z (s.out z) e)) A (owns own z (s.out z) i)) k (core_take q n s.out s.threads A own v.core i e l g);
        good =
            rw (upd_same s.out 0 (suc p))
            (upd_all (Good q (suc p) F s.cells (s.entries ++ ys)) s.threads i x
            (let c = upd_same E p e in let lg = mem_right (entry Push i p (F p)) s.entries ys (inl (ap (entry Push i p) c)) in grind arith)
            (λ j _.
            let gj = v.good j in
            let t = (s.threads j).ticket in
            let keep : t < p → E t ≡ F t = λ y. sym (upd_other E p t e (λ z. omega arith)) in
            let lg : 2 ≤ (s.threads j).rank → t < suc p → Mem (entry (kind_of (s.threads j).kind) j t (F t)) (s.entries ++ ys) = λ h y. elim (cases_eq t p) [
              | inl z ↦
                  let (_, k1, pd, _, _) = early j h z in
                  let fj = first j h z in
                  mem_right (entry (kind_of (s.threads j).kind) j t (F t)) s.entries ys (rw (lt-ltb p d pd) (inr (inl (λ o. entry (kind_of (k1 o)) (sym fj o) (z o) (upd_eq E p t e z o)))))
              | inr z ↦ mem_left (entry (kind_of (s.threads j).kind) j t (F t)) s.entries ys (subst (λ o. Mem (entry (kind_of (s.threads j).kind) j t o) s.entries) (keep (omega arith)) (gj.logged h (omega arith)))
            ] in
            grind arith));
        marks = λ c u ll a none. v.marks c u ll a (λ j y. none j (upd_keeps (Busy q (u % q)) s.threads i j x y (λ b. absurd (omega arith))));
        elems = λ u a. v.elems u a ∙ sym (upd_other E p u e (λ z. let y = v.core.gone 0 u (omega arith) (omega arith) in omega arith));
        rows = v.rows;
        records = rw (upd_same s.out 0 (suc p), upd_other s.out 0 1 (suc p) (λ z. omega arith)) (record_push p d E s.entries i f e v.records);
      }

  pub inv_pop : (i : ℕ) → i < n → (s.threads i).rank ≡ 1 → (s.threads i).kind ≡ 1 → let e = (s.threads i).hand in Inv q n m (took s i 1 e (cond (ltb (s.out 1) (s.out 0)) (entry Pop i (s.out 1) (unwrap_or (first_push s.entries (s.out 1)) e) ∷ []) [])) A (owns own 1 (s.out 1) i) E
  inv_pop i l g k =
      let e = (s.threads i).hand in
      let p = s.out 0 in
      let d = s.out 1 in
      let x = thread 2 1 d e in
      let ys = cond (ltb d p) (entry Pop i d (unwrap_or (first_push s.entries d) e) ∷ []) [] in
      record {
        core = subst (λ z. Core q n (upd s.out z (suc (s.out z))) (upd s.threads i (thread 2 z (s.out z) e)) A (owns own z (s.out z) i)) k (core_take q n s.out s.threads A own v.core i e l g);
        good =
            rw (upd_other s.out 1 0 (suc d) (λ z. omega arith))
            (upd_all (Good q p E s.cells (s.entries ++ ys)) s.threads i x
            (let lg : d < p → Mem (entry Pop i d (E d)) (s.entries ++ ys) = λ y. mem_right (entry Pop i d (E d)) s.entries ys (rw (lt-ltb d p y) (inl (ap (λ o. entry Pop i d (unwrap_or o e)) (sym (v.records.found d y))))) in grind arith)
            (λ j _.
            let gj = v.good j in
            let lg : 2 ≤ (s.threads j).rank → (s.threads j).ticket < p → Mem (entry (kind_of (s.threads j).kind) j (s.threads j).ticket (E (s.threads j).ticket)) (s.entries ++ ys) = λ h y. mem_left _ s.entries ys (gj.logged h y) in
            grind arith));
        marks = λ c u ll a none. v.marks c u ll a (λ j y. none j (upd_keeps (Busy q (u % q)) s.threads i j x y (λ b. absurd (omega arith))));
        elems = v.elems;
        rows = v.rows;
        records = rw (upd_same s.out 1 (suc d), upd_other s.out 1 0 (suc d) (λ z. omega arith)) (record_pop p d E s.entries i e v.records);
      }
