-- The record: what it replays to, what stands in it, and what a take adds.
use Rattle.std.proofs.Common.{◌≡◌, ℕ, zero, suc, ◌+◌, ◌-◌, ◌<◌, ◌≤◌, cond, ltb, List, [], ◌∷◌, ◌++◌, Some, None, unwrap_or, sym, refl, ap, ◌∙◌, inl, inr, add-zero, add-suc, suc-add, arith}
use Rattle.std.proofs.lemmas.Bool.{cases_lt, lt-ltb, le-ltb, eq-eqb, ne_eqb}
use Rattle.history.specs.declared.entry.Entry.{Entry}
use Rattle.history.specs.declared.entry.Kind.TheVariants.{Push, Pop}
use Rattle.history.specs.Pushes.{first_push}
use Rattle.history.specs.Queues.{Replays}
use Rattle.history.proofs.Replaying.{replays_append}
use Rattle.history.proofs.Searching.{or_else, first_push_append}
use Rattle.world.specs.Takes.{entry}
use Rattle.law.specs.Laws.{Stands}
use Rattle.law.proofs.Count.{upd, upd_same, upd_other, upd_eq}
use Rattle.law.proofs.Members.{All, all_append, all_map, all_mem, stands_mem}
use Rattle.law.proofs.Views.{bit}

module _ {T : Type 0} where
  abbrev pub Apart : Entry T → Entry T → Type 0
  Apart x y = x.kind ≡ y.kind → x.ticket ≡ y.ticket → ⊥

  abbrev pub Distinct : List (Entry T) → Type 0
  Distinct [] = Unit {0}
  Distinct (x ∷ xs) = All (Apart x) xs × Distinct xs

  distinct_append : (xs ys : List (Entry T)) → Distinct xs → Distinct ys → All (λ x. All (Apart x) ys) xs → Distinct (xs ++ ys)
  distinct_append [] ys h g f = g
  distinct_append (x ∷ xs) ys h g f = (all_append (Apart x) xs ys h.0 f.0, distinct_append xs ys h.1 g f.1)

  -- entries of one kind and ticket stand at one place
  pub distinct_apart : (xs : List (Entry T)) → Distinct xs → (j k : ℕ) (x y : Entry T) → Stands xs j x → Stands xs k y → x.kind ≡ y.kind → x.ticket ≡ y.ticket → j ≡ k
  distinct_apart [] h j k x y sj sk e f = absurd sj
  distinct_apart (z ∷ zs) h zero zero x y sj sk e f = refl
  distinct_apart (z ∷ zs) h zero (suc k) x y sj sk e f = absurd (all_mem (Apart z) y zs h.0 (stands_mem y zs k sk) (ap (λ (v : Entry T). v.kind) sj ∙ e) (ap (λ (v : Entry T). v.ticket) sj ∙ f))
  distinct_apart (z ∷ zs) h (suc j) zero x y sj sk e f = absurd (all_mem (Apart z) x zs h.0 (stands_mem x zs j sj) (ap (λ (v : Entry T). v.kind) sk ∙ sym e) (ap (λ (v : Entry T). v.ticket) sk ∙ sym f))
  distinct_apart (z ∷ zs) h (suc j) (suc k) x y sj sk e f = ap suc (distinct_apart zs h.1 j k x y sj sk e f)

  -- k elements from place a on
  abbrev pub window : (ℕ → T) → ℕ → ℕ → List T
  window E a zero = []
  window E a (suc k) = E a ∷ window E (suc a) k

  window_push : (E : ℕ → T) (a k : ℕ) → window E a (suc k) ≡ window E a k ++ E (a + k) ∷ []
  window_push E a zero = rw (add-zero a)
  window_push E a (suc k) = rw (add-suc a k, ← suc-add a k) (ap {B = List T} (λ l. E a ∷ l) (window_push E (suc a) k))

  window_same : (E F : ℕ → T) (a k : ℕ) → ((j : ℕ) → j < a + k → E j ≡ F j) → window E a k ≡ window F a k
  window_same E F a zero h = refl
  window_same E F a (suc k) h = λ i. h a (omega arith) i ∷ window_same E F (suc a) k (λ j l. h j (omega arith)) i

  window_none : (E : ℕ → T) (a k : ℕ) → k ≡ 0 → window E a k ≡ []
  window_none E a k e = ap (window E a) e

  -- an entry has a ticket of which the push is out, and a pop's entry one of which the pop is out too; its element is
  -- that ticket's
  abbrev pub Right : ℕ → ℕ → (ℕ → T) → Entry T → Type 0
  Right p d E x = (x.ticket < p) × (x.kind ≡ Pop → x.ticket < d) × (x.element ≡ E x.ticket)

  -- the record when p push and d pop tickets are out and E gives the element of each push ticket
  pub record RecordOk (p d : ℕ) (E : ℕ → T) (log : List (Entry T)) : Type 0 where
    pub replay : Replays log [] (window E d (p - d))
    pub distinct : Distinct log
    pub each : All (Right p d E) log
    pub found : (t : ℕ) → t < p → first_push log t ≡ Some (E t)
    pub fresh : (t : ℕ) → p ≤ t → first_push log t ≡ None

  -- a new entry is right and apart from those that were right before
  abbrev Added : ℕ → ℕ → (ℕ → T) → ℕ → ℕ → (ℕ → T) → Entry T → Type 0
  Added p d E p' d' E' y = Right p' d' E' y × ((x : Entry T) → Right p d E x → Apart x y)

  record_more : (p d p' d' : ℕ) (E E' : ℕ → T) (log ys : List (Entry T)) → RecordOk p d E log → p ≤ p' → d ≤ d' → ((t : ℕ) → t < p → E t ≡ E' t) → Replays ys (window E d (p - d)) (window E' d' (p' - d')) → Distinct ys → All (Added p d E p' d' E') ys → ((t : ℕ) → p ≤ t → t < p' → first_push ys t ≡ Some (E' t)) → ((t : ℕ) → p' ≤ t → first_push ys t ≡ None) → RecordOk p' d' E' (log ++ ys)
  record_more p d p' d' E E' log ys h lp ld same r u b f g =
      record {
        replay = replays_append log ys [] (window E d (p - d)) (window E' d' (p' - d')) h.replay r;
        distinct = distinct_append log ys h.distinct u (all_map (Right p d E) (λ x. All (Apart x) ys) (λ x rx. all_map (Added p d E p' d' E') (Apart x) (λ y ay. ay.1 x rx) ys b) log h.each);
        each = all_append (Right p' d' E') log ys (all_map (Right p d E) (Right p' d' E') (λ x rx. (omega arith, λ z. omega (arith, rx.1 z), rx.2 ∙ same x.ticket rx.0)) log h.each) (all_map (Added p d E p' d' E') (Right p' d' E') (λ y ay. ay.0) ys b);
        found = λ t l. first_push_append log ys t ∙ elim (cases_lt t p) [ inl a ↦ ap (λ o. or_else o (first_push ys t)) (h.found t a) ∙ ap Some (same t a) | inr a ↦ ap (λ o. or_else o (first_push ys t)) (h.fresh t a) ∙ f t a l ];
        fresh = λ t l. first_push_append log ys t ∙ ap (λ o. or_else o (first_push ys t)) (h.fresh t (omega arith)) ∙ g t l;
      }

  -- a push, and with it the pop of its ticket if that is out
  pub record_push : (p d : ℕ) (E : ℕ → T) (log : List (Entry T)) (i j : ℕ) (e : T) → RecordOk p d E log → RecordOk (suc p) d (upd E p e) (log ++ (entry Push i p e ∷ cond (ltb p d) (entry Pop j p e ∷ []) []))
  record_push p d E log i j e h =
      let F = upd E p e in
      let kept : (t : ℕ) → t < p → E t ≡ F t = λ t l. sym (upd_other E p t e (λ z. omega arith)) in
      elim (cases_lt p d) [
        | inl a ↦
            rw (lt-ltb p d a)
            (record_more p d (suc p) d E F log (entry Push i p e ∷ entry Pop j p e ∷ []) h (omega arith) (omega arith) kept
            (window E d (p - d) ++ e ∷ [], refl, ([], ap {B = List T} (λ l. l ++ e ∷ []) (window_none E d (p - d) (omega arith)), sym (window_none F d (suc p - d) (omega arith))))
            ((λ z _. let y = ap bit z in omega arith, tt), (tt, tt))
            (((omega arith, λ z. a, sym (upd_same E p e)), λ x b _ z. omega arith), (((omega arith, λ z. a, sym (upd_same E p e)), λ x b _ z. omega arith), tt))
            (λ t l m. rw (eq-eqb p t (omega arith)) (ap Some (sym (upd_eq E p t e (omega arith)))))
            (λ t l. rw (ne_eqb p t (λ z. omega arith))))
        | inr a ↦
            let n : suc p - d ≡ suc (p - d) = omega arith in
            rw (le-ltb p d a)
            (record_more p d (suc p) d E F log (entry Push i p e ∷ []) h (omega arith) (omega arith) kept
            (window E d (p - d) ++ e ∷ [], refl, sym (ap (window F d) n ∙ window_push F d (p - d) ∙ (λ z. window_same F E d (p - d) (λ t l. sym (kept t (omega arith))) z ++ upd_eq E p (d + (p - d)) e (omega arith) z ∷ [])))
            (tt, tt)
            (((omega arith, λ z. absurd (let y = ap bit z in omega arith), sym (upd_same E p e)), λ x b _ z. omega arith), tt)
            (λ t l m. rw (eq-eqb p t (omega arith)) (ap Some (sym (upd_eq E p t e (omega arith)))))
            (λ t l. rw (ne_eqb p t (λ z. omega arith))))
      ]

  -- a pop, if the push of its ticket is out
  pub record_pop : (p d : ℕ) (E : ℕ → T) (log : List (Entry T)) (i : ℕ) (e : T) → RecordOk p d E log → RecordOk p (suc d) E (log ++ cond (ltb d p) (entry Pop i d (unwrap_or (first_push log d) e) ∷ []) [])
  record_pop p d E log i e h =
      elim (cases_lt d p) [
        | inl a ↦
            let c = window E (suc d) (p - suc d) in
            let n : p - d ≡ suc (p - suc d) = omega arith in
            let o : unwrap_or (first_push log d) e ≡ E d = ap (λ v. unwrap_or v e) (h.found d a) in
            rw (lt-ltb d p a)
            (record_more p d p (suc d) E E log (entry Pop i d (unwrap_or (first_push log d) e) ∷ []) h (omega arith) (omega arith) (λ t l. refl)
            (c, ap (window E d) n ∙ ap {B = List T} (λ x. x ∷ c) (sym o), refl)
            (tt, tt)
            (((a, λ z. omega arith, o), λ x b k z. omega (arith, b.1 k)), tt)
            (λ t l m. absurd (omega arith))
            (λ t l. refl))
        | inr a ↦
            rw (le-ltb d p a)
            (record_more p d p (suc d) E E log [] h (omega arith) (omega arith) (λ t l. refl) (window_none E d (p - d) (omega arith) ∙ sym (window_none E (suc d) (p - suc d) (omega arith))) tt tt (λ t l m. absurd (omega arith)) (λ t l. refl))
      ]
