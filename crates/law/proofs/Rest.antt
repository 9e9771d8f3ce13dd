-- The count of the waiting threads at rest. A push ticket is then unfinished exactly when it is D + q or above, and a pop
-- ticket when it is P or above; each of these is held by one waiting thread.
use Rattle.std.proofs.Common.{◌≡◌, ℕ, suc, ◌+◌, ◌-◌, ◌*◌, ◌/◌, ◌%◌, ◌<◌, ◌≤◌, Bool, true, eqb, ◌≢◌, sym, refl, ap, ◌∙◌, subst, inl, inr, mod-lt, le-div_iff_mul-le, arith}
use Rattle.std.proofs.lemmas.Bool.{cases_eq, cases_lt, eq-eqb, eqb-true}
use Rattle.law.proofs.Arith.{turn, ticket_at, slot_of, round_of_lem, ticket_le, as_ticket}
use Rattle.law.proofs.Count.{count, injects, all_count}
use Rattle.law.proofs.Core.{Held, Has}
use Rattle.law.proofs.Invariant.{Inv}
use Rattle.law.proofs.Views.{Thread, View}

-- a thread that has a ticket waits for a turn that has not come
abbrev pub Rests : {T : Type 0} → ℕ → ℕ → View T → Thread T → Type 0
Rests q m s x = Held x → (x.rank ≡ 2) × (s.row (x.ticket % q) ≢ turn q x.kind x.ticket % m)

module _ {T : Type 0} (q n m : ℕ) (q0 : 0 < q) (s : View T) (A : ℕ → ℕ) (own : ℕ → ℕ → ℕ) (E : ℕ → T) (v : Inv q n m s A own E) (rest : (i : ℕ) → i < n → Rests q m s (s.threads i)) where
  -- a thread with a ticket waits, and its turn has not come
  waits : (i : ℕ) → i < n → Held (s.threads i) → ((s.threads i).rank ≡ 2) × (A ((s.threads i).ticket % q) ≢ turn q (s.threads i).kind (s.threads i).ticket)
  waits i l h = let g = rest i l h in (g.0, λ e. g.1 (v.rows ((s.threads i).ticket % q) ∙ ap (λ y. y % m) e))

  -- no ticket that is out has its turn
  stuck : (k t : ℕ) → k < 2 → A (t % q) ≡ turn q k t → s.out k ≤ t
  stuck k t lk a =
      elim (cases_lt t (s.out k)) [
        | inl l ↦ let o = v.core.owed k t lk l (omega arith) in absurd ((waits (own k t) o.0 o.1.0).1 (ap (λ y. A (y % q)) o.1.2 ∙ a ∙ (λ z. turn q (sym o.1.1 z) (sym o.1.2 z))))
        | inr l ↦ l
      ]

  -- the next ticket of a slot is not out
  next : (p : ℕ) → p < q → s.out (A p % 2) ≤ ticket_at q (A p / 2) p
  next p l = stuck (A p % 2) (ticket_at q (A p / 2) p) (omega arith) (ap A (slot_of q (A p / 2) p l) ∙ omega (arith, round_of_lem q (A p / 2) p l))

  push_rest : (t : ℕ) → t < s.out 0 → A (t % q) ≤ turn q 0 t → s.out 1 + q ≤ t
  push_rest t l a =
      let p = t % q in
      let c = A p / 2 in
      let nx = next p (mod-lt t q0) in
      elim (cases_eq (A p % 2) 0) [
        | inl z ↦ absurd (omega (arith, ap s.out z, ticket_le q c (t / q) p (omega arith), as_ticket q t))
        | inr z ↦ let o : A p % 2 ≡ 1 = omega arith in omega (arith, ap s.out o, ticket_le q (suc c) (t / q) p (omega arith), as_ticket q t)
      ]

  pop_rest : (t : ℕ) → t < s.out 1 → A (t % q) ≤ turn q 1 t → s.out 0 ≤ t
  pop_rest t l a =
      let p = t % q in
      let c = A p / 2 in
      let nx = next p (mod-lt t q0) in
      elim (cases_eq (A p % 2) 0) [
        | inl z ↦ omega (arith, ap s.out z, ticket_le q c (t / q) p (omega arith), as_ticket q t)
        | inr z ↦ let o : A p % 2 ≡ 1 = omega arith in absurd (omega (arith, ap s.out o, ticket_le q c (t / q) p (omega arith), as_ticket q t))
      ]

  push_open : (t : ℕ) → s.out 1 + q ≤ t → A (t % q) ≤ turn q 0 t
  push_open t l =
      let p = t % q in
      let r = t / q in
      let lp : p < q = mod-lt t q0 in
      elim (cases_lt (turn q 0 t) (A p)) [
        | inl a ↦
            let u = ticket_at q (r - 1) p in
            let r1 : 1 ≤ r = (le-div_iff_mul-le q0).1 (omega arith) in
            let e : suc (r - 1) ≡ r = omega arith in
            absurd (omega (arith, v.core.gone 1 u (omega arith) (omega (arith, ap A (slot_of q (r - 1) p lp), round_of_lem q (r - 1) p lp)), as_ticket q t, ap (λ y. y * q) e))
        | inr a ↦ a
      ]

  pop_open : (t : ℕ) → s.out 0 ≤ t → A (t % q) ≤ turn q 1 t
  pop_open t l = elim (cases_lt (turn q 1 t) (A (t % q))) [ inl a ↦ absurd (omega (arith, v.core.gone 0 t (omega arith) (omega arith))) | inr a ↦ a ]

  counted : (k lo w : ℕ) → k < 2 → ((i : ℕ) → Held (s.threads i) → ((s.threads i).kind ≡ k) × (lo ≤ (s.threads i).ticket) × ((s.threads i).ticket < lo + w)) → ((t : ℕ) → lo ≤ t → t < lo + w → (t < s.out k) × (A (t % q) ≤ turn q k t)) → count n (λ i. eqb (s.threads i).rank 2) ≡ w
  counted k lo w lk f g =
      let b : ℕ → Bool = λ i. eqb (s.threads i).rank 2 in
      let held : (i : ℕ) → b i ≡ true → Held (s.threads i) = λ i e. let r = eqb-true (s.threads i).rank 2 e in (omega arith, omega arith) in
      let o : (j : ℕ) → j < w → (own k (lo + j) < n) × Has k (lo + j) (s.threads (own k (lo + j))) = λ j l. let y = g (lo + j) (omega arith) (omega arith) in v.core.owed k (lo + j) lk y.0 y.1 in
      let up = injects n w b (λ _. true) (λ i. (s.threads i).ticket - lo) (λ i l e. let y = f i (held i e) in (omega arith, refl)) (λ i j _ _ ei ej e.
      let yi = f i (held i ei) in
      let yj = f j (held j ej) in
      let et : (s.threads i).ticket ≡ (s.threads j).ticket = omega arith in
      sym ((v.core.each i).mine (held i ei)) ∙ (λ z. own ((yi.0 ∙ sym yj.0) z) (et z)) ∙ (v.core.each j).mine (held j ej)) in
      let down = injects w n (λ _. true) b (λ j. own k (lo + j)) (λ j l _. ((o j l).0, eq-eqb (s.threads (own k (lo + j))).rank 2 (waits (own k (lo + j)) (o j l).0 (o j l).1.0).0)) (λ i j li lj _ _ e.
      let et : lo + i ≡ lo + j = sym (o i li).1.2 ∙ ap (λ z. (s.threads z).ticket) e ∙ (o j lj).1.2 in
      omega arith) in
      let a = all_count w in
      omega arith

  pub at_rest_lem : count n (λ i. eqb (s.threads i).rank 2) ≡ (s.out 0 - (s.out 1 + q)) + (s.out 1 - s.out 0)
  at_rest_lem =
      let p = s.out 0 in
      let d = s.out 1 in
      let c = v.core in
      let pushes : (i : ℕ) → Held (s.threads i) → (s.threads i).kind ≡ 0 → (d + q ≤ (s.threads i).ticket) × ((s.threads i).ticket < p) = λ i h k.
      let l : (s.threads i).ticket < p = subst (λ z. (s.threads i).ticket < s.out z) k ((c.each i).below h) in
      (push_rest (s.threads i).ticket l (omega (arith, (c.each i).early h)), l) in
      let pops : (i : ℕ) → Held (s.threads i) → (s.threads i).kind ≢ 0 → ((s.threads i).kind ≡ 1) × (p ≤ (s.threads i).ticket) × ((s.threads i).ticket < d) = λ i h k.
      let k1 : (s.threads i).kind ≡ 1 = omega (arith, (c.each i).kinds) in
      let l : (s.threads i).ticket < d = subst (λ z. (s.threads i).ticket < s.out z) k1 ((c.each i).below h) in
      (k1, pop_rest (s.threads i).ticket l (omega (arith, (c.each i).early h)), l) in
      elim (cases_lt (d + q) p) [
        | inl a ↦
            let w = counted 0 (d + q) (p - (d + q)) (omega arith) (λ i h. elim (cases_eq (s.threads i).kind 0) [ inl k ↦ let y = pushes i h k in (k, omega arith, omega arith) | inr k ↦ let y = pops i h k in absurd (omega arith) ]) (λ t l k. (omega arith, push_open t l)) in
            omega arith
        | inr a ↦
            let w = counted 1 p (d - p) (omega arith) (λ i h. elim (cases_eq (s.threads i).kind 0) [ inl k ↦ let y = pushes i h k in absurd (omega arith) | inr k ↦ let y = pops i h k in (y.0, omega arith, omega arith) ]) (λ t l k. (omega arith, pop_open t l)) in
            omega arith
      ]
