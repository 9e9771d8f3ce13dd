-- Functions changed at one place, and counting: an injection of the numbers below m that pass into those below n that
-- pass.
use Rattle.std.proofs.Common.{◌≡◌, ℕ, zero, suc, ◌<◌, ◌≤◌, Bool, true, false, cond, eqb, ◌≢◌, sym, refl, ap, ◌∙◌, subst, inl, inr, suc-le-suc, zero-le, not-suc-le-zero, arith, eq-eqb}
use Rattle.std.proofs.lemmas.Bool.{cond_both, cases_eq, cases_Bool, eqb-true, eqb-false}

-- f, but v at i
unfoldable pub upd : {A : Type 0} → (ℕ → A) → ℕ → A → ℕ → A
upd f i v j = cond (eqb j i) v (f j)

-- how many numbers below n pass the test
abbrev pub count : ℕ → (ℕ → Bool) → ℕ
count zero b = 0
count (suc n) b = cond (b n) (suc (count n b)) (count n b)

pub upd_same : {A : Type 0} (f : ℕ → A) (i : ℕ) (v : A) → upd f i v i ≡ v
unfolding upd
upd_same f i v = rw (eq-eqb i i refl)

pub upd_other : {A : Type 0} (f : ℕ → A) (i j : ℕ) (v : A) → j ≢ i → upd f i v j ≡ f j
unfolding upd
upd_other f i j v h = grind arith

pub upd_eq : {A : Type 0} (f : ℕ → A) (i j : ℕ) (v : A) → j ≡ i → upd f i v j ≡ v
unfolding upd
upd_eq f i j v h = grind arith

-- what held of f at j still does, if it holds of v where it held at i
pub upd_keeps : {A : Type 0} (P : A → Type 0) (f : ℕ → A) (i j : ℕ) (v : A) → P (f j) → (P (f i) → P v) → P (upd f i v j)
unfolding upd
upd_keeps P f i j v h k = cond_both (eqb j i) v (f j) P (λ e. k (subst (λ x. P (f x)) (eqb-true j i e) h)) (λ e. h)

-- what holds of v at i and of f elsewhere holds of the update everywhere
pub upd_all : {A : Type 0} (P : ℕ → A → Type 0) (f : ℕ → A) (i : ℕ) (v : A) → P i v → ((j : ℕ) → j ≢ i → P j (f j)) → (j : ℕ) → P j (upd f i v j)
unfolding upd
upd_all P f i v h k j =
    cond_both (eqb j i) v (f j) (P j) (λ e. subst (λ (x : ℕ). P x v) (sym (eqb-true j i e)) h) (λ e. k j (eqb-false j i e))

-- a function that is v at i and f elsewhere is the update
pub upd_is : {A : Type 0} (f g : ℕ → A) (i : ℕ) (v : A) → g i ≡ v → ((j : ℕ) → j ≢ i → g j ≡ f j) → (j : ℕ) → g j ≡ upd f i v j
upd_is f g i v h k = upd_all (λ j y. g j ≡ y) f i v h k

same_count : (n : ℕ) (a b : ℕ → Bool) → ((j : ℕ) → j < n → a j ≡ b j) → count n a ≡ count n b
same_count zero a b h = refl
same_count (suc n) a b h =
    let ih = same_count n a b (λ j l. h j (omega arith)) in
    let e = h n (omega arith) in
    λ i. cond (e i) (suc (ih i)) (ih i)

-- one number less
without : (n i : ℕ) (b : ℕ → Bool) → i < n → b i ≡ true → count n b ≡ suc (count n (upd b i false))
without zero i b h e = absurd (not-suc-le-zero h)
without (suc n) i b h e =
    elim (cases_eq n i) [
      | inl d ↦ rw (d, upd_same b i false, e) (ap suc (same_count i b (upd b i false) (λ j l. sym (upd_other b i j false (omega arith)))))
      | inr d ↦ let ih = without n i b (omega arith) e in rw (upd_other b i n false d, ih) (elim (b n) as (λ x. cond x (suc (suc (count n (upd b i false)))) (suc (count n (upd b i false))) ≡ suc (cond x (suc (count n (upd b i false))) (count n (upd b i false)))) [ true ↦ refl | false ↦ refl ])
    ]

pub injects : (m n : ℕ) (a b : ℕ → Bool) (f : ℕ → ℕ) → ((j : ℕ) → j < m → a j ≡ true → (f j < n) × (b (f j) ≡ true)) → ((j k : ℕ) → j < m → k < m → a j ≡ true → a k ≡ true → f j ≡ f k → j ≡ k) → count m a ≤ count n b
injects zero n a b f into inj = zero-le
injects (suc m) n a b f into inj =
    elim (cases_Bool (a m)) [
      | inl e ↦
          let (l, t) = into m (omega arith) e in
          let ih = injects m n a (upd b (f m) false) f (λ j l e'. ((into j (omega arith) e').0, upd_other b (f m) (f j) false (λ s. let z = inj j m (omega arith) (omega arith) e' e s in omega arith) ∙ (into j (omega arith) e').1)) (λ j k l l'. inj j k (omega arith) (omega arith)) in
          rw (e, without n (f m) b l t) (suc-le-suc ih)
      | inr e ↦ rw e (injects m n a b f (λ j l. into j (omega arith)) (λ j k l l'. inj j k (omega arith) (omega arith)))
    ]

pub all_count : (n : ℕ) → count n (λ _. true) ≡ n
all_count zero = refl
all_count (suc n) = ap suc (all_count n)
