-- How the operations told so far are tied to what the threads are doing and to the record, and that each kind of
-- change keeps the ties.
use Rattle.std.proofs.Common.{◌≡◌, ℕ, zero, suc, ◌≤◌, true, false, ◌≢◌, ◌⊎◌, List, ◌∷◌, ◌++◌, Some, None, Option, sym, refl, ap, ◌∙◌, inl, inr, arith}
use mathlib.Core.Path.{subst⁻¹}
use Rattle.std.proofs.lemmas.Bool.{both_ways}
use Rattle.history.specs.declared.entry.Entry.{Entry}
use Rattle.history.specs.declared.entry.Kind.{Kind}
use Rattle.history.specs.declared.entry.Kind.TheVariants.{Push, Pop}
use Rattle.world.specs.Takes.{entry}
use Rattle.law.specs.Laws.{Of, WholeOf}
use Rattle.law.specs.Operations.{Operation, begun, ticketed, element_at_end, finish, latest}
use Rattle.law.proofs.Core.{Held}
use Rattle.law.proofs.Count.{upd, upd_all}
use Rattle.law.proofs.Histories.{Closed, Last, last_map, last_mem, closed_other, last_other, last_changes, last_closes, mem_latest, latest_mem}
use Rattle.law.proofs.Members.{Mem, mem_left, mem_parts}
use Rattle.law.proofs.Views.{Thread, thread, bit, kind_of}

kind_bit : (k : Kind) → k ≡ kind_of (bit k)
kind_bit Push = refl
kind_bit Pop = refl

none_some : (o : Option ℕ) (t : ℕ) → o ≡ None → o ≡ Some t → ⊥
none_some o t p q = let z : ◌≡◌ {A = ℕ} 0 1 = cc in omega arith

same_some : (o : Option ℕ) (t u : ℕ) → o ≡ Some t → o ≡ Some u → t ≡ u
same_some o t u p q = cc

module _ {T : Type 0} where
  -- an operation under way, of kind k and with this ticket; a push's element is e
  abbrev pub Going : ℕ → Option ℕ → T → Operation T → Type 0
  Going k ticket e o = (o.finished ≡ false) × (o.kind ≡ kind_of k) × (o.ticket ≡ ticket) × (k ≡ 0 → o.element ≡ Some e)

  -- the operations of thread i, which is as x says
  pub record Tied (E : ℕ → T) (os : List (Operation T)) (i : ℕ) (x : Thread T) : Type 0 where
    pub idle : x.rank ≡ 0 → Closed i os
    pub taking : x.rank ≡ 1 → Last i (Going x.kind None x.hand) os
    pub going : Held x → Last i (Going x.kind (Some x.ticket) (E x.ticket)) os
    pub done : x.rank ≡ 6 → Closed i os

  -- an entry is that of a finished operation, or of one that is under way
  abbrev pub Accounted : List (Operation T) → Entry T → Type 0
  Accounted os x = (o : Operation T) × Mem o os × (((o.finished ≡ true) × WholeOf o x) ⊎ ((o.finished ≡ false) × Of o x))

  pub record Told (E : ℕ → T) (threads : ℕ → Thread T) (log : List (Entry T)) (os : List (Operation T)) : Type 0 where
    pub tied : (i : ℕ) → Tied E os i (threads i)
    pub finished : (o : Operation T) → Mem o os → o.finished ≡ true → (x : Entry T) × WholeOf o x × Mem x log
    pub accounted : (x : Entry T) → Mem x log → Accounted os x

  -- a finished operation's element
  end_element : (k : ℕ) (o : Operation T) (e f : T) → o.kind ≡ kind_of k → (k ≡ 0 → o.element ≡ Some f) → e ≡ f → element_at_end o.kind o.element (Some e) ≡ Some f
  end_element zero o e f h g z = ap (λ y. element_at_end y o.element (Some e)) h ∙ g refl
  end_element (suc k) o e f h g z = ap (λ y. element_at_end y o.element (Some e)) h ∙ ap Some z

  -- another thread's ties, when thread i's last operation changes
  tied_other : (E F : ℕ → T) (os : List (Operation T)) (i j : ℕ) (f : Operation T → Operation T) (x : Thread T) → j ≢ i → ((o : Operation T) → (f o).thread ≡ o.thread) → (Held x → x.kind ≡ 0 → E x.ticket ≡ F x.ticket) → Tied E os j x → Tied F (latest i f os) j x
  tied_other E F os i j f x n keeps same t =
      record {
        idle = λ z. closed_other i f j n keeps os (t.idle z);
        taking = λ z. last_other i f j n keeps (Going x.kind None x.hand) os (t.taking z);
        going = λ h. last_other i f j n keeps (Going x.kind (Some x.ticket) (F x.ticket)) os (last_map j (Going x.kind (Some x.ticket) (E x.ticket)) (Going x.kind (Some x.ticket) (F x.ticket)) (λ o g. (g.0, g.1, g.2, λ z. g.3 z ∙ ap Some (same h z))) os (t.going h));
        done = λ z. closed_other i f j n keeps os (t.done z);
      }

module _ {T : Type 0} (E : ℕ → T) (threads : ℕ → Thread T) (log : List (Entry T)) (os : List (Operation T)) (v : Told E threads log os) (i : ℕ) where
  -- a thread moves on, and tells nothing
  told_thread : (x : Thread T) → Tied E os i x → Told E (upd threads i x) log os
  told_thread x h =
      record {
        tied = upd_all (Tied E os) threads i x h (λ j _. v.tied j);
        finished = v.finished;
        accounted = v.accounted;
      }

  -- it goes on with its ticket
  pub told_move : (r : ℕ) (e : T) → 2 ≤ r → r ≤ 5 → Held (threads i) → Told E (upd threads i (thread r (threads i).kind (threads i).ticket e)) log os
  told_move r e l m h =
      told_thread (thread r (threads i).kind (threads i).ticket e) (record {
        idle = λ z. absurd (omega arith);
        taking = λ z. absurd (omega arith);
        going = λ _. (v.tied i).going h;
        done = λ z. absurd (omega arith);
      })

  -- it is idle again
  pub told_collect : (e : T) → (threads i).rank ≡ 6 → Told E (upd threads i (thread 0 0 0 e)) log os
  told_collect e g =
      told_thread (thread 0 0 0 e) (record {
        idle = λ _. (v.tied i).done g;
        taking = λ z. absurd (omega arith);
        going = λ z. absurd (omega arith);
        done = λ z. absurd (omega arith);
      })

  -- it begins an operation
  pub told_begin : (k : Kind) (given : Option T) (e : T) → (threads i).rank ≡ 0 → (bit k ≡ 0 → given ≡ Some e) → Told E (upd threads i (thread 1 (bit k) 0 e)) log (begun k i given ∷ os)
  told_begin k given e g el =
      let o = begun k i given in
      record {
        tied =
            upd_all (Tied E (o ∷ os)) threads i (thread 1 (bit k) 0 e)
            (record {
              idle = λ z. absurd (omega arith);
              taking = λ _. inl (refl, (refl, kind_bit k, refl, el), (v.tied i).idle g);
              going = λ z. absurd (omega arith);
              done = λ z. absurd (omega arith);
            })
            (λ j n.
            let t = v.tied j in
            record {
              idle = λ z. ((λ y. absurd (n (sym y))), t.idle z);
              taking = λ z. inr ((λ y. n (sym y)), t.taking z);
              going = λ h. inr ((λ y. n (sym y)), t.going h);
              done = λ z. ((λ y. absurd (n (sym y))), t.done z);
            });
        finished = λ a m z. elim m [
          | inl y ↦ absurd (both_ways a.finished (ap (λ (b : Operation T). b.finished) y) z)
          | inr y ↦ v.finished a y z
        ];
        accounted = λ x m. let y = v.accounted x m in (y.0, inr y.1, y.2);
      }

  -- it takes a ticket of its kind, by which entries are written: its own, or that of another thread that has the ticket
  pub told_take : (F : ℕ → T) (t : ℕ) (more : List (Entry T)) → (threads i).rank ≡ 1 → ((threads i).kind ≡ 0 → (threads i).hand ≡ F t) → ((j : ℕ) → Held (threads j) → (threads j).kind ≡ 0 → E (threads j).ticket ≡ F (threads j).ticket) → ((y : Entry T) → Mem y more → ((kind_of (threads i).kind ≡ y.kind) × (i ≡ y.thread) × (t ≡ y.ticket)) ⊎ ((y.thread ≢ i) × Held (threads y.thread) × (kind_of (threads y.thread).kind ≡ y.kind) × ((threads y.thread).ticket ≡ y.ticket))) → Told F (upd threads i (thread 2 (threads i).kind t (threads i).hand)) (log ++ more) (latest i (ticketed t) os)
  told_take F t more g mine same new =
      let k = (threads i).kind in
      let e = (threads i).hand in
      let f : Operation T → Operation T = ticketed t in
      let Q : Operation T → Type 0 = Going k None e in
      let R : Operation T → Type 0 = Going k (Some t) (F t) in
      let was = (v.tied i).taking g in
      let now : Last i R (latest i f os) = last_changes i f Q R (λ o z q. (z, (q.0, q.1, refl, λ y. q.3 y ∙ ap Some (mine y)))) os was in
      let others : (j : ℕ) → j ≢ i → Tied F (latest i f os) j (threads j) = λ j n. tied_other E F os i j f (threads j) n (λ o. refl) (same j) (v.tied j) in
      record {
        tied =
            upd_all (Tied F (latest i f os)) threads i (thread 2 k t e)
            (record {
              idle = λ z. absurd (omega arith);
              taking = λ z. absurd (omega arith);
              going = λ _. now;
              done = λ z. absurd (omega arith);
            })
            others;
        finished = λ a m z. elim (mem_latest i f Q os was a m) [
          | inl y ↦ let w = v.finished a y z in (w.0, w.1, mem_left w.0 log more w.2)
          | inr y ↦ absurd (both_ways a.finished (ap (λ (b : Operation T). b.finished) y.3 ∙ y.2.0) z)
        ];
        accounted = λ x m. elim (mem_parts x log more m) [
          | inl y ↦
              let w = v.accounted x y in
              elim (latest_mem i f Q os was w.0 w.1) [
                | inl z ↦ (w.0, z, w.2)
                | inr z ↦ absurd (elim w.2 [ inl b ↦ none_some w.0.ticket x.ticket z.0.2 b.1.0.2 | inr b ↦ none_some w.0.ticket x.ticket z.0.2 b.1.2 ])
              ]
          | inr y ↦ elim (new x y) [
            | inl b ↦ let w = last_mem i R (latest i f os) now in (w.0, w.3, inr (w.2.0, (w.2.1 ∙ b.0, w.1 ∙ b.1, w.2.2 ∙ ap Some b.2)))
            | inr b ↦
                let j = x.thread in
                let w = last_mem j (Going (threads j).kind (Some (threads j).ticket) (F (threads j).ticket)) (latest i f os) ((others j b.0).going b.1) in
                (w.0, w.3, inr (w.2.0, (w.2.1 ∙ b.2, w.1, w.2.2 ∙ ap Some b.3)))
          ]
        ];
      }

  -- it completes, and its operation is finished
  pub told_complete : (threads i).rank ≡ 5 → let k = (threads i).kind in let t = (threads i).ticket in let e = (threads i).hand in e ≡ E t → Mem (entry (kind_of k) i t (E t)) log → ((x : Entry T) → Mem x log → x.element ≡ E x.ticket) → Told E (upd threads i (thread 6 k t e)) log (latest i (finish (Some e)) os)
  told_complete g he logged elements =
      let k = (threads i).kind in
      let t = (threads i).ticket in
      let e = (threads i).hand in
      let f : Operation T → Operation T = finish (Some e) in
      let Q : Operation T → Type 0 = Going k (Some t) (E t) in
      let was = (v.tied i).going (omega arith, omega arith) in
      record {
        tied =
            upd_all (Tied E (latest i f os)) threads i (thread 6 k t e)
            (record {
              idle = λ z. absurd (omega arith);
              taking = λ z. absurd (omega arith);
              going = λ z. absurd (omega arith);
              done = λ _. last_closes i f Q (λ o. refl) os was;
            })
            (λ j n. tied_other E E os i j f (threads j) n (λ o. refl) (λ _ _. refl) (v.tied j));
        finished = λ a m z. elim (mem_latest i f Q os was a m) [
          | inl y ↦ v.finished a y z
          | inr y ↦
              let o = y.0 in
              let q = y.2 in
              let x = entry (kind_of k) i t (E t) in
              (x, subst⁻¹ (λ b. WholeOf b x) y.3 ((q.1, y.1, q.2), end_element k o e (E t) q.1 q.3 he), logged)
        ];
        accounted = λ x m.
            let w = v.accounted x m in
            let o = w.0 in
            elim (latest_mem i f Q os was o w.1) [
              | inl z ↦ (o, z, w.2)
              | inr z ↦ elim w.2 [
                | inl b ↦ absurd (both_ways o.finished z.0.0 b.0)
                | inr b ↦
                    let tx : t ≡ x.ticket = same_some o.ticket t x.ticket z.0.2 b.1.2 in
                    (f o, z.1, inl (refl, (b.1, end_element k o e x.element z.0.1 (λ y. z.0.3 y ∙ ap Some (ap E tx ∙ sym (elements x m))) (he ∙ ap E tx ∙ sym (elements x m)))))
              ]
            ];
      }
