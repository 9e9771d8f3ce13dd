-- Who holds which ticket, and which turn each slot is at.
use Rattle.std.proofs.Common.{◌≡◌, ℕ, suc, ◌+◌, ◌-◌, ◌*◌, ◌/◌, ◌%◌, ◌<◌, ◌≤◌, true, ◌⊎◌, sym, refl, ap, ◌∙◌, inl, inr, mod-lt, arith}
use Rattle.std.proofs.lemmas.Bool.{cases_eq, cases_lt}
use Rattle.law.proofs.Views.{Thread, thread}
use Rattle.law.proofs.Arith.{turn, same, ticket_at, slot_of, round_of_lem, ticket_le, as_ticket}
use Rattle.law.proofs.Count.{upd, upd_same, upd_other, upd_eq, upd_all, upd_keeps, injects, all_count}

abbrev pub Held : {T : Type 0} → Thread T → Type 0
Held x = (2 ≤ x.rank) × (x.rank ≤ 5)

abbrev pub Past : {T : Type 0} → Thread T → Type 0
Past x = (3 ≤ x.rank) × (x.rank ≤ 5)

abbrev pub Has : {T : Type 0} → ℕ → ℕ → Thread T → Type 0
Has k t x = (Held x) × (x.kind ≡ k) × (x.ticket ≡ t)

-- what is true of thread i, which is as x says
pub record Holder {T : Type 0} (q : ℕ) (out A : ℕ → ℕ) (own : ℕ → ℕ → ℕ) (i : ℕ) (x : Thread T) : Type 0 where
  pub kinds : x.kind < 2
  pub mine : Held x → own x.kind x.ticket ≡ i
  pub below : Held x → x.ticket < out x.kind
  pub early : Held x → A (x.ticket % q) ≤ turn q x.kind x.ticket
  pub past : Past x → A (x.ticket % q) ≡ turn q x.kind x.ticket

pub record Core {T : Type 0} (q n : ℕ) (out : ℕ → ℕ) (th : ℕ → Thread T) (A : ℕ → ℕ) (own : ℕ → ℕ → ℕ) : Type 0 where
  pub each : (i : ℕ) → Holder q out A own i (th i)
  pub owed : (k t : ℕ) → k < 2 → t < out k → A (t % q) ≤ turn q k t → (own k t < n) × Has k t (th (own k t))
  pub gone : (k t : ℕ) → k < 2 → turn q k t < A (t % q) → t < out k

bump_le : (out : ℕ → ℕ) (k l : ℕ) → out l ≤ upd out k (suc (out k)) l
unfolding upd
bump_le out k l = grind arith

pub bump_cases : (out : ℕ → ℕ) (k l t : ℕ) → t < upd out k (suc (out k)) l → ((l ≡ k) × (t ≡ out k)) ⊎ (t < out l)
unfolding upd
bump_cases out k l t h = grind arith

-- thread i owns ticket t of kind k
abbrev pub owns : (ℕ → ℕ → ℕ) → ℕ → ℕ → ℕ → ℕ → ℕ → ℕ
owns own k t i = upd own k (upd (own k) t i)

pub owns_same : (own : ℕ → ℕ → ℕ) (k t i : ℕ) → owns own k t i k t ≡ i
unfolding upd
owns_same own k t i = grind arith

pub owns_other : (own : ℕ → ℕ → ℕ) (k t i l u : ℕ) → (l ≡ k → u ≡ t → ⊥) → owns own k t i l u ≡ own l u
unfolding upd
owns_other own k t i l u h = grind arith

module _ {T : Type 0} (q n : ℕ) (out : ℕ → ℕ) (th : ℕ → Thread T) (A : ℕ → ℕ) (own : ℕ → ℕ → ℕ) (c : Core q n out th A own) where
  -- one thread past the wait in a slot
  pub alone : (i j : ℕ) → Past (th i) → Held (th j) → A ((th j).ticket % q) ≡ turn q (th j).kind (th j).ticket → (th i).ticket % q ≡ (th j).ticket % q → i ≡ j
  alone i j p h a e =
      let ci = c.each i in
      let cj = c.each j in
      let (ek, et) = same q (th i).kind (th j).kind (th i).ticket (th j).ticket ci.kinds cj.kinds e (sym (ci.past p) ∙ ap A e ∙ a) in
      sym (ci.mine (omega arith, p.1)) ∙ (λ d. own (ek d) (et d)) ∙ cj.mine h

  -- a thread moves on, with its ticket
  pub core_th : (i : ℕ) (x : Thread T) → Holder q out A own i x → ((k t : ℕ) → Has k t (th i) → Has k t x) → Core q n out (upd th i x) A own
  core_th i x h k =
      record {
        each = upd_all (Holder q out A own) th i x h (λ j _. c.each j);
        owed = λ l t lk lt a. let o = c.owed l t lk lt a in (o.0, upd_keeps (Has l t) th i (own l t) x o.1 (k l t));
        gone = c.gone;
      }

  pub core_take : (i : ℕ) (e : T) → i < n → (th i).rank ≡ 1 → let k = (th i).kind in Core q n (upd out k (suc (out k))) (upd th i (thread 2 k (out k) e)) A (owns own k (out k) i)
  core_take i e l g =
      let k = (th i).kind in
      let ci = c.each i in
      let out' = upd out k (suc (out k)) in
      let own' = owns own k (out k) i in
      record {
        each =
            upd_all (Holder q out' A own') th i (thread 2 k (out k) e)
            (let a = owns_same own k (out k) i in let b = upd_same out k (suc (out k)) in let z = c.gone k (out k) ci.kinds in grind arith)
            (λ j d.
            let cj = c.each j in
            let a = owns_other own k (out k) i (th j).kind (th j).ticket in
            let b = bump_le out k (th j).kind in
            grind arith);
        owed = λ m t lm lt a. elim (bump_cases out k m t lt) [
          | inl d ↦ let o : own' m t ≡ i = (λ z. own' (d.0 z) (d.1 z)) ∙ owns_same own k (out k) i in rw (o, upd_same th i (thread 2 k (out k) e)) (l, ((omega arith, omega arith), sym d.0, sym d.1))
          | inr d ↦
              let o = c.owed m t lm d a in
              rw (owns_other own k (out k) i m t (λ x y. let z = ap out x in omega arith)) (o.0, upd_keeps (Has m t) th i (own m t) (thread 2 k (out k) e) o.1 (λ h. absurd (omega arith)))
        ];
        gone = λ m t lm a. omega (arith, c.gone m t lm a, bump_le out k m);
      }

  pub core_complete : (i : ℕ) (e : T) → (th i).rank ≡ 5 → let k = (th i).kind in let t = (th i).ticket in Core q n out (upd th i (thread 6 k t e)) (upd A (t % q) (suc (A (t % q)))) own
  core_complete i e g =
      let k = (th i).kind in
      let t = (th i).ticket in
      let ci = c.each i in
      let a = A (t % q) in
      let A' = upd A (t % q) (suc a) in
      let pi : Past (th i) = (omega arith, omega arith) in
      let on = ci.past pi in
      record {
        each =
            upd_all (Holder q out A' own) th i (thread 6 k t e)
            (omega arith)
            (λ j d.
            let cj = c.each j in
            let u = (th j).ticket in
            let v = turn q (th j).kind u in
            let other : Held (th j) → A (u % q) ≡ v → t % q ≡ u % q → ⊥ = λ h b s. d (sym (alone i j pi h b s)) in
            let x1 = upd_eq A (t % q) (u % q) (suc a) in
            let x2 = upd_other A (t % q) (u % q) (suc a) in
            let x3 = cases_eq (u % q) (t % q) in
            grind arith);
        owed = λ l u lk lu b.
            let o = c.owed l u lk lu (omega (arith, bump_le A (t % q) (u % q))) in
            (o.0, upd_keeps (Has l u) th i (own l u) (thread 6 k t e) o.1 (λ h. absurd (omega (arith, upd_eq A (t % q) (u % q) (suc a) (ap (λ x. x % q) (sym h.2)), ap (λ x. x / q) h.2))));
        gone = λ l u lk b. elim (cases_eq (u % q) (t % q)) [
          | inl s ↦ elim (cases_eq (turn q l u) a) [
            | inl f ↦ let (ek, et) = same q l k u t lk ci.kinds s (f ∙ on) in rw (ek, et) (ci.below (omega arith, omega arith))
            | inr f ↦ c.gone l u lk (let z = upd_eq A (t % q) (u % q) (suc a) s in let y = ap A s in omega arith)
          ]
          | inr s ↦ c.gone l u lk (rw (upd_other A (t % q) (u % q) (suc a) s) at b)
        ];
      }

  -- within one cycle
  pub near : (i : ℕ) → 0 < q → Held (th i) → turn q (th i).kind (th i).ticket < A ((th i).ticket % q) + 2 * n
  near i z h =
      let k = (th i).kind in
      let t = (th i).ticket in
      let r = t / q in
      let s = t % q in
      let ci = c.each i in
      let u : ℕ → ℕ = λ j. ticket_at q (r - j) s in
      let ls : s < q = mod-lt t z in
      elim (cases_lt (turn q k t) (A s + 2 * n)) [
        | inl a ↦ a
        | inr a ↦
            let o : (j : ℕ) → j < suc n → (own k (u j) < n) × Has k (u j) (th (own k (u j))) =
            λ j l. c.owed k (u j) ci.kinds (omega (arith, ci.below h, as_ticket q t, ticket_le q (r - j) r s (omega arith))) (omega (arith, ap A (slot_of q (r - j) s ls), round_of_lem q (r - j) s ls, ci.kinds)) in
            absurd (omega (
              arith,
              rw (all_count (suc n), all_count n) at (injects (suc n) n (λ _. true) (λ _. true) (λ j. own k (u j)) (λ j l _. ((o j l).0, refl)) (λ j l lj ll _ _ e.
                  let f : u j ≡ u l = sym (o j lj).1.2 ∙ ap (λ x. (th x).ticket) e ∙ (o l ll).1.2 in
                  omega (arith, ap (λ x. x / q) f, round_of_lem q (r - j) s ls, round_of_lem q (r - l) s ls, ci.kinds))),
            ))
      ]
