-- The first push of a ticket, as a search from the front finds it.
use Rattle.std.proofs.Common.{◌≡◌, ℕ, zero, suc, ◌<◌, true, false, Bool, ◌&&◌, eqb, List, [], ◌∷◌, length, Some, None, Option, refl, sym, arith}
use Rattle.std.specs.List.{AllWithin, HoldsAt}
use Rattle.std.specs.Option.{MatchOption, option_map}
use Rattle.history.specs.declared.entry.Entry.{Entry}
use Rattle.history.specs.Pushes.{is_push, first_push}

-- whether an entry is the push of a ticket
abbrev pub wanted : {T : Type 0} → ℕ → Entry T → Bool
wanted t x = is_push x.kind && eqb x.ticket t

module _ {T : Type 0} (t : ℕ) where
  none_found : (xs : List (Entry T)) → AllWithin (λ x. wanted t x ≡ false) xs 0 (length xs) → first_push xs t ≡ None
  none_found [] h = refl
  none_found (x ∷ xs) h = rw (h 0 x (omega arith) (omega arith)) (none_found xs (λ k d a b. h (suc k) d (omega arith) (omega arith)))

  some_found : (xs : List (Entry T)) (i : ℕ) (x : Entry T) → i < length xs → HoldsAt (λ y. y ≡ x) xs i → AllWithin (λ y. wanted t y ≡ false) xs 0 i → wanted t x ≡ true → first_push xs t ≡ Some x.element
  some_found [] i x b at before w = absurd (omega arith)
  some_found (y ∷ ys) zero x b at before w = let e : y ≡ x = at y in rw (e, w)
  some_found (y ∷ ys) (suc i) x b at before w = rw (before 0 y (omega arith) (omega arith)) (some_found ys i x (omega arith) at (λ k d a b. before (suc k) d (omega arith) (omega arith)) w)

  -- r is the answer: an entry, or what leads to one
  pub found : {A : Type 0} (v : A → Entry T) (xs : List (Entry T)) (r : Option A) → MatchOption r (AllWithin (λ x. wanted t x ≡ false) xs 0 (length xs)) (λ x. (wanted t (v x) ≡ true) × (i : ℕ) × (i < length xs) × HoldsAt (λ y. y ≡ v x) xs i × AllWithin (λ y. wanted t y ≡ false) xs 0 i) → option_map (λ x. (v x).element) r ≡ first_push xs t
  found v xs (Some x) h = sym (some_found xs h.1 (v x) h.2 h.3 h.4 h.0)
  found v xs None h = sym (none_found xs h)
