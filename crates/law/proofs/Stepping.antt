-- A view is sound when the invariant holds of it for some ghosts, with the operations told so far. Each kind of call
-- keeps a view sound.
use Rattle.std.proofs.Common.{◌≡◌, ℕ, suc, ◌*◌, ◌%◌, ◌<◌, ◌≤◌, cond, ltb, ◌≢◌, ◌⊎◌, List, [], ◌∷◌, ◌++◌, Some, Option, unwrap_or, sym, refl, ap, ◌∙◌, subst, inl, inr, arith}
use Rattle.std.proofs.lemmas.Bool.{cases_eq, cases_lt, lt-ltb, le-ltb}
use Rattle.history.specs.declared.entry.Entry.{Entry}
use Rattle.history.specs.declared.entry.Kind.{Kind}
use Rattle.history.specs.declared.entry.Kind.TheVariants.{Push, Pop}
use Rattle.history.specs.Pushes.{first_push}
use Rattle.world.specs.declared.cell.Mark.TheVariants.{Empty, Full}
use Rattle.world.specs.Steps.{cell}
use Rattle.world.specs.Takes.{entry}
use Rattle.law.specs.Operations.{Operation, begun, ticketed, finish, latest}
use Rattle.law.proofs.Arith.{turn, same, exact}
use Rattle.law.proofs.Core.{Held, Past, near, owns}
use Rattle.law.proofs.Count.{upd, upd_same, upd_other}
use Rattle.law.proofs.Invariant.{Inv, inv_th, inv_cell, inv_complete, inv_push, inv_pop}
use Rattle.law.proofs.Members.{Mem, all_mem}
use Rattle.law.proofs.Records.{Right}
use Rattle.law.proofs.Ties.{Told, told_move, told_collect, told_begin, told_take, told_complete}
use Rattle.law.proofs.Views.{thread, View, moved, wrote, took, ended, bit, kind_of}

abbrev pub Sound : {T : Type 0} → ℕ → ℕ → ℕ → View T → List (Operation T) → Type 0
Sound {T} q n m s os = (A : ℕ → ℕ) × (own : ℕ → ℕ → ℕ) × (E : ℕ → T) × Inv q n m s A own E × Told E s.threads s.entries os

bit_below : (k : Kind) → bit k < 2
bit_below Push = omega arith
bit_below Pop = omega arith

module _ {T : Type 0} (q n m : ℕ) (q0 : 0 < q) (long : 2 * n ≤ m) (s : View T) (os : List (Operation T)) (A : ℕ → ℕ) (own : ℕ → ℕ → ℕ) (E : ℕ → T) (v : Inv q n m s A own E) (h : Told E s.threads s.entries os) (i : ℕ) where
  pub sound_begin : (k : Kind) (given : Option T) (e : T) → (s.threads i).rank ≡ 0 → (bit k ≡ 0 → given ≡ Some e) → Sound q n m (moved s i (thread 1 (bit k) 0 e)) (begun k i given ∷ os)
  sound_begin k given e g el =
      let lk = bit_below k in
      (A, own, E, inv_th q n m s A own E v i (thread 1 (bit k) 0 e) (omega arith) (λ l t y. absurd (omega arith)) (λ p y. absurd (omega arith)) (grind arith), told_begin E s.threads s.entries os h i k given e g el)

  pub sound_collect : (e : T) → (s.threads i).rank ≡ 6 → Sound q n m (moved s i (thread 0 0 0 e)) os
  sound_collect e g =
      (A, own, E, inv_th q n m s A own E v i (thread 0 0 0 e) (omega arith) (λ l t y. absurd (omega arith)) (λ p y. absurd (omega arith)) (grind arith), told_collect E s.threads s.entries os h i e g)

  -- the modular test tells the turn
  comes : Held (s.threads i) → let x = s.threads i in s.row (x.ticket % q) ≡ turn q x.kind x.ticket % m → A (x.ticket % q) ≡ turn q x.kind x.ticket
  comes y e =
      let x = s.threads i in
      exact m (A (x.ticket % q)) (turn q x.kind x.ticket) ((v.core.each i).early y) (omega (arith, near q n s.out s.threads A own v.core i q0 y)) (sym (v.rows (x.ticket % q)) ∙ e)

  pub sound_pass : let x = s.threads i in x.rank ≡ 2 → s.row (x.ticket % q) ≡ turn q x.kind x.ticket % m → Sound q n m (moved s i (thread 3 x.kind x.ticket x.hand)) os
  sound_pass g came =
      let k = (s.threads i).kind in
      let t = (s.threads i).ticket in
      let e = (s.threads i).hand in
      let ci = v.core.each i in
      let gi = v.good i in
      let y : Held (s.threads i) = (omega arith, omega arith) in
      let on = comes y came in
      let kn : t < s.out 0 = elim (cases_eq k 0) [ inl z ↦ gi.listed (omega arith) z | inr z ↦ v.core.gone 0 t (omega arith) (omega arith) ] in (
        A,
        own,
        E,
        inv_th q n m s A own E v i (thread 3 k t e) (omega arith) (λ l u y. ((omega arith, omega arith), y.1, y.2)) (λ p y. absurd (omega arith)) (grind arith),
        told_move E s.threads s.entries os h i 3 e (omega arith) (omega arith) y,
      )

  pub sound_store : let x = s.threads i in x.rank ≡ 3 → x.kind ≡ 0 → Sound q n m (wrote s i (thread 5 x.kind x.ticket x.hand) (x.ticket % q) (cell x.hand Full)) os
  sound_store g k =
      let e = (s.threads i).hand in
      let t = (s.threads i).ticket in
      let ci = v.core.each i in
      let p : Past (s.threads i) = (omega arith, omega arith) in
      let he = (v.good i).handed (omega arith) k in (
        A,
        own,
        E,
        inv_cell q n m s A own E v i e (cell e Full) p (omega arith) he (λ u a z. absurd (let y = ap A z in omega (arith, ci.past p, (same q 1 (s.threads i).kind u t (omega arith) ci.kinds z (sym a ∙ y ∙ ci.past p)).0))) (λ _. he),
        told_move E s.threads s.entries os h i 5 e (omega arith) (omega arith) (omega arith, omega arith),
      )

  pub sound_read : let x = s.threads i in x.rank ≡ 3 → x.kind ≡ 1 → Sound q n m (moved s i (thread 4 x.kind x.ticket (s.cells (x.ticket % q)).element)) os
  sound_read g k =
      let t = (s.threads i).ticket in
      let e = (s.cells (t % q)).element in
      let ci = v.core.each i in
      let gi = v.good i in
      let y : Held (s.threads i) = (omega arith, omega arith) in
      let p : Past (s.threads i) = (omega arith, omega arith) in
      let rd : e ≡ E t = v.elems t (let y = ci.past p in omega arith) in (
        A,
        own,
        E,
        inv_th q n m s A own E v i (thread 4 (s.threads i).kind t e) (omega arith) (λ l u y. ((omega arith, omega arith), y.1, y.2)) (λ p y. absurd (omega arith)) (grind arith),
        told_move E s.threads s.entries os h i 4 e (omega arith) (omega arith) y,
      )

  pub sound_empty : let x = s.threads i in x.rank ≡ 4 → Sound q n m (wrote s i (thread 5 x.kind x.ticket x.hand) (x.ticket % q) (cell (s.cells (x.ticket % q)).element Empty)) os
  sound_empty g =
      let e = (s.threads i).hand in
      let t = (s.threads i).ticket in
      let f = (s.cells (t % q)).element in
      let k = (v.good i).empties g in (
        A,
        own,
        E,
        inv_cell q n m s A own E v i e (cell f Empty) (omega arith, omega arith) (omega arith) ((v.good i).read (omega arith)) (λ u a z. ap (λ y. (s.cells y).element) (sym z) ∙ v.elems u a) (λ z. absurd (omega arith)),
        told_move E s.threads s.entries os h i 5 e (omega arith) (omega arith) (omega arith, omega arith),
      )

  pub sound_complete : let x = s.threads i in 2 ≤ m → x.rank ≡ 5 → Sound q n m (ended q m s i x) (latest i (finish (Some x.hand)) os)
  sound_complete two g =
      let t = (s.threads i).ticket in
      let gi = v.good i in (
        upd A (t % q) (suc (A (t % q))),
        own,
        E,
        inv_complete q n m s A own E v i two g,
        told_complete E s.threads s.entries os h i g (gi.read (omega arith)) (gi.logged (omega arith) (gi.known (omega arith))) (λ x y. (all_mem (Right (s.out 0) (s.out 1) E) x s.entries v.records.each y).2),
      )

  -- f is the thread that waits with the pop of the ticket, if one does
  pub sound_push : (f : ℕ) → i < n → (s.threads i).rank ≡ 1 → (s.threads i).kind ≡ 0 → ((j : ℕ) → 2 ≤ (s.threads j).rank → (s.threads j).ticket ≡ s.out 0 → f ≡ j) → let e = (s.threads i).hand in let p = s.out 0 in Sound q n m (took s i 0 e (entry Push i p e ∷ cond (ltb p (s.out 1)) (entry Pop f p e ∷ []) [])) (latest i (ticketed p) os)
  sound_push f l g k first =
      let e = (s.threads i).hand in
      let p = s.out 0 in
      let d = s.out 1 in
      let F = upd E p e in
      let more = entry Push i p e ∷ cond (ltb p d) (entry Pop f p e ∷ []) [] in
      let popper : p < d → (f ≢ i) × Held (s.threads f) × (kind_of (s.threads f).kind ≡ Pop) × ((s.threads f).ticket ≡ p) = λ y.
      let o = v.core.owed 1 p (omega arith) y (elim (cases_lt (turn q 1 p) (A (p % q))) [ inl a ↦ absurd (omega (arith, v.core.gone 0 p (omega arith) (omega arith))) | inr a ↦ a ]) in
      let fj = first (own 1 p) o.1.0.0 o.1.2 in
      subst (λ z. (z ≢ i) × Held (s.threads z) × (kind_of (s.threads z).kind ≡ Pop) × ((s.threads z).ticket ≡ p)) (sym fj) ((λ z. let y = ap (λ j. (s.threads j).rank) z in omega (arith, o.1.0.0)), o.1.0, ap kind_of o.1.1, o.1.2) in
      let new : (y : Entry T) → Mem y more → ((kind_of (s.threads i).kind ≡ y.kind) × (i ≡ y.thread) × (p ≡ y.ticket)) ⊎ ((y.thread ≢ i) × Held (s.threads y.thread) × (kind_of (s.threads y.thread).kind ≡ y.kind) × ((s.threads y.thread).ticket ≡ y.ticket)) = λ y m. elim m [
        | inl z ↦ inl (ap kind_of k ∙ ap (λ (x : Entry T). x.kind) (sym z), ap (λ (x : Entry T). x.thread) (sym z), ap (λ (x : Entry T). x.ticket) (sym z))
        | inr z ↦ elim (cases_lt p d) [
          | inl a ↦ elim (rw (lt-ltb p d a) at z) [
            | inl b ↦ inr (subst (λ (x : Entry T). (x.thread ≢ i) × Held (s.threads x.thread) × (kind_of (s.threads x.thread).kind ≡ x.kind) × ((s.threads x.thread).ticket ≡ x.ticket)) (sym b) (popper a))
            | inr b ↦ absurd b
          ]
          | inr a ↦ absurd (rw (le-ltb p d a) at z)
        ]
      ] in (
        A,
        owns own 0 p i,
        F,
        inv_push q n m s A own E v i f l g k first,
        subst (λ z. Told F (upd s.threads i (thread 2 z p e)) (s.entries ++ more) (latest i (ticketed p) os)) k (told_take E s.threads s.entries os h i F p more g (λ _. sym (upd_same E p e)) (λ j y z. sym (upd_other E p (s.threads j).ticket e (λ w. omega (arith, (v.good j).listed y.0 z)))) new),
      )

  pub sound_pop : i < n → (s.threads i).rank ≡ 1 → (s.threads i).kind ≡ 1 → let e = (s.threads i).hand in let d = s.out 1 in Sound q n m (took s i 1 e (cond (ltb d (s.out 0)) (entry Pop i d (unwrap_or (first_push s.entries d) e) ∷ []) [])) (latest i (ticketed d) os)
  sound_pop l g k =
      let e = (s.threads i).hand in
      let p = s.out 0 in
      let d = s.out 1 in
      let more = cond (ltb d p) (entry Pop i d (unwrap_or (first_push s.entries d) e) ∷ []) [] in
      let new : (y : Entry T) → Mem y more → ((kind_of (s.threads i).kind ≡ y.kind) × (i ≡ y.thread) × (d ≡ y.ticket)) ⊎ ((y.thread ≢ i) × Held (s.threads y.thread) × (kind_of (s.threads y.thread).kind ≡ y.kind) × ((s.threads y.thread).ticket ≡ y.ticket)) = λ y z. elim (cases_lt d p) [
        | inl a ↦ elim (rw (lt-ltb d p a) at z) [
          | inl b ↦ inl (ap kind_of k ∙ ap (λ (x : Entry T). x.kind) (sym b), ap (λ (x : Entry T). x.thread) (sym b), ap (λ (x : Entry T). x.ticket) (sym b))
          | inr b ↦ absurd b
        ]
        | inr a ↦ absurd (rw (le-ltb d p a) at z)
      ] in (
        A,
        owns own 1 d i,
        E,
        inv_pop q n m s A own E v i l g k,
        subst (λ z. Told E (upd s.threads i (thread 2 z d e)) (s.entries ++ more) (latest i (ticketed d) os)) k (told_take E s.threads s.entries os h i E d more g (λ z. absurd (omega arith)) (λ j y z. refl) new),
      )
