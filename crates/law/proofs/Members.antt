-- What stands in a list: by cases for the proofs, and by places as the law says it.
use Rattle.std.proofs.Common.{◌≡◌, ℕ, zero, suc, ◌<◌, ◌⊎◌, List, [], ◌∷◌, ◌++◌, length, get_or, sym, subst, inl, inr, not-suc-le-zero, arith}
use Rattle.law.specs.Laws.{Placed, Stands, Member}

abbrev pub Mem : {A : Type 0} → A → List A → Type 0
Mem a [] = ⊥
Mem a (x ∷ xs) = (a ≡ x) ⊎ Mem a xs

abbrev pub All : {A : Type 0} → (A → Type 0) → List A → Type 0
All P [] = Unit {0}
All P (x ∷ xs) = P x × All P xs

module _ {A : Type 0} where
  pub mem_left : (a : A) (xs ys : List A) → Mem a xs → Mem a (xs ++ ys)
  mem_left a [] ys h = absurd h
  mem_left a (x ∷ xs) ys (inl e) = inl e
  mem_left a (x ∷ xs) ys (inr h) = inr (mem_left a xs ys h)

  pub mem_right : (a : A) (xs ys : List A) → Mem a ys → Mem a (xs ++ ys)
  mem_right a [] ys h = h
  mem_right a (x ∷ xs) ys h = inr (mem_right a xs ys h)

  pub mem_parts : (a : A) (xs ys : List A) → Mem a (xs ++ ys) → Mem a xs ⊎ Mem a ys
  mem_parts a [] ys h = inr h
  mem_parts a (x ∷ xs) ys (inl e) = inl (inl e)
  mem_parts a (x ∷ xs) ys (inr h) = elim (mem_parts a xs ys h) [ inl g ↦ inl (inr g) | inr g ↦ inr g ]

  pub mem_member : (a : A) (xs : List A) → Mem a xs → Member a xs
  mem_member a [] h = absurd h
  mem_member a (x ∷ xs) (inl e) = (zero, sym e)
  mem_member a (x ∷ xs) (inr h) = let m = mem_member a xs h in (suc m.0, m.1)

  pub stands_mem : (a : A) (xs : List A) (j : ℕ) → Stands xs j a → Mem a xs
  stands_mem a [] j h = absurd h
  stands_mem a (x ∷ xs) zero h = inl (sym h)
  stands_mem a (x ∷ xs) (suc j) h = inr (stands_mem a xs j h)

  -- the element within a list is placed there
  pub placed : (P : A → Type 0) (xs : List A) (j : ℕ) (d : A) → j < length xs → P (get_or xs j d) → Placed xs j P
  placed P [] j d l h = absurd (not-suc-le-zero l)
  placed P (x ∷ xs) zero d l h = h
  placed P (x ∷ xs) (suc j) d l h = placed P xs j d (omega arith) h

  pub all_append : (P : A → Type 0) (xs ys : List A) → All P xs → All P ys → All P (xs ++ ys)
  all_append P [] ys h g = g
  all_append P (x ∷ xs) ys h g = (h.0, all_append P xs ys h.1 g)

  pub all_map : (P Q : A → Type 0) → ((x : A) → P x → Q x) → (xs : List A) → All P xs → All Q xs
  all_map P Q f [] h = tt
  all_map P Q f (x ∷ xs) h = (f x h.0, all_map P Q f xs h.1)

  pub all_mem : (P : A → Type 0) (a : A) (xs : List A) → All P xs → Mem a xs → P a
  all_mem P a [] h m = absurd m
  all_mem P a (x ∷ xs) h (inl e) = subst P (sym e) h.0
  all_mem P a (x ∷ xs) h (inr m) = all_mem P a xs h.1 m
