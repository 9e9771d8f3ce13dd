-- The operations told so far: the one that a thread began last, which alone a step may change.
use Rattle.std.proofs.Common.{◌≡◌, ℕ, true, ◌≢◌, ◌⊎◌, List, [], ◌∷◌, sym, refl, ap, ◌∙◌, subst, inl, inr}
use Rattle.std.proofs.lemmas.Bool.{cases_eq, eq-eqb, ne_eqb}
use Rattle.law.specs.Operations.{Operation, latest}
use Rattle.law.proofs.Members.{Mem, All}

module _ {T : Type 0} where
  -- every operation of thread i is finished
  abbrev pub Closed : ℕ → List (Operation T) → Type 0
  Closed i os = All (λ o. o.thread ≡ i → o.finished ≡ true) os

  -- the operation that thread i began last is as Q says, and all that it began before are finished
  abbrev pub Last : ℕ → (Operation T → Type 0) → List (Operation T) → Type 0
  Last i Q [] = ⊥
  Last i Q (o ∷ os) = ((o.thread ≡ i) × Q o × Closed i os) ⊎ ((o.thread ≡ i → ⊥) × Last i Q os)

  pub last_map : (i : ℕ) (Q R : Operation T → Type 0) → ((o : Operation T) → Q o → R o) → (os : List (Operation T)) → Last i Q os → Last i R os
  last_map i Q R g [] h = absurd h
  last_map i Q R g (o ∷ os) (inl h) = inl (h.0, g o h.1, h.2)
  last_map i Q R g (o ∷ os) (inr h) = inr (h.0, last_map i Q R g os h.1)

  pub last_mem : (i : ℕ) (Q : Operation T → Type 0) (os : List (Operation T)) → Last i Q os → (o : Operation T) × (o.thread ≡ i) × Q o × Mem o os
  last_mem i Q [] h = absurd h
  last_mem i Q (o ∷ os) (inl h) = (o, h.0, h.1, inl refl)
  last_mem i Q (o ∷ os) (inr h) = let m = last_mem i Q os h.1 in (m.0, m.1, m.2, inr m.3)

module _ {T : Type 0} (i : ℕ) (f : Operation T → Operation T) where
  -- the change of thread i's last operation leaves another thread's as they are
  module _ (j : ℕ) (other : j ≢ i) (keeps : (o : Operation T) → (f o).thread ≡ o.thread) where
    pub closed_other : (os : List (Operation T)) → Closed j os → Closed j (latest i f os)
    closed_other [] h = tt
    closed_other (o ∷ os) h =
        elim (cases_eq o.thread i) [
          | inl e ↦ rw (eq-eqb o.thread i e) ((λ z. absurd (other (sym z ∙ keeps o ∙ e))), h.1)
          | inr n ↦ rw (ne_eqb o.thread i n) (h.0, closed_other os h.1)
        ]

    pub last_other : (Q : Operation T → Type 0) (os : List (Operation T)) → Last j Q os → Last j Q (latest i f os)
    last_other Q [] h = absurd h
    last_other Q (o ∷ os) (inl h) = rw (ne_eqb o.thread i (λ e. other (sym h.0 ∙ e))) (inl (h.0, h.1, closed_other os h.2))
    last_other Q (o ∷ os) (inr h) =
        elim (cases_eq o.thread i) [
          | inl e ↦ rw (eq-eqb o.thread i e) (inr ((λ z. other (sym z ∙ keeps o ∙ e)), h.1))
          | inr n ↦ rw (ne_eqb o.thread i n) (inr (h.0, last_other Q os h.1))
        ]

  module _ (Q : Operation T → Type 0) where
    pub last_changes : (R : Operation T → Type 0) → ((o : Operation T) → o.thread ≡ i → Q o → ((f o).thread ≡ i) × R (f o)) → (os : List (Operation T)) → Last i Q os → Last i R (latest i f os)
    last_changes R g [] h = absurd h
    last_changes R g (o ∷ os) (inl h) = let y = g o h.0 h.1 in rw (eq-eqb o.thread i h.0) (inl (y.0, y.1, h.2))
    last_changes R g (o ∷ os) (inr h) = rw (ne_eqb o.thread i h.0) (inr (h.0, last_changes R g os h.1))

    -- the change that finishes it leaves all finished
    pub last_closes : ((o : Operation T) → (f o).finished ≡ true) → (os : List (Operation T)) → Last i Q os → Closed i (latest i f os)
    last_closes g [] h = absurd h
    last_closes g (o ∷ os) (inl h) = rw (eq-eqb o.thread i h.0) ((λ _. g o), h.2)
    last_closes g (o ∷ os) (inr h) = rw (ne_eqb o.thread i h.0) ((λ e. absurd (h.0 e)), last_closes g os h.1)

    -- what stands in the list afterwards stood there before, or is what was made of the last one
    pub mem_latest : (os : List (Operation T)) → Last i Q os → (a : Operation T) → Mem a (latest i f os) → Mem a os ⊎ ((o : Operation T) × (o.thread ≡ i) × Q o × (a ≡ f o))
    mem_latest [] h a m = absurd m
    mem_latest (o ∷ os) (inl h) a m = elim (rw (eq-eqb o.thread i h.0) at m) [ inl e ↦ inr (o, h.0, h.1, e) | inr g ↦ inl (inr g) ]
    mem_latest (o ∷ os) (inr h) a m = elim (rw (ne_eqb o.thread i h.0) at m) [
      | inl e ↦ inl (inl e)
      | inr g ↦ elim (mem_latest os h.1 a g) [ inl y ↦ inl (inr y) | inr y ↦ inr y ]
    ]

    -- and what stood there before still does, or was the last one
    pub latest_mem : (os : List (Operation T)) → Last i Q os → (a : Operation T) → Mem a os → Mem a (latest i f os) ⊎ (Q a × Mem (f a) (latest i f os))
    latest_mem [] h a m = absurd m
    latest_mem (o ∷ os) (inl h) a (inl e) = inr (subst Q (sym e) h.1, rw (eq-eqb o.thread i h.0) (inl (ap f e)))
    latest_mem (o ∷ os) (inl h) a (inr m) = inl (rw (eq-eqb o.thread i h.0) (inr m))
    latest_mem (o ∷ os) (inr h) a (inl e) = inl (rw (ne_eqb o.thread i h.0) (inl e))
    latest_mem (o ∷ os) (inr h) a (inr m) = elim (latest_mem os h.1 a m) [
      | inl y ↦ inl (rw (ne_eqb o.thread i h.0) (inr y))
      | inr y ↦ inr (y.0, rw (ne_eqb o.thread i h.0) (inr y.1))
    ]
