-- What the used entries are after a take, when the buffer has room for what it writes.
use Rattle.std.proofs.Common.{◌≡◌, ℕ, zero, suc, ◌+◌, ◌<◌, ◌≤◌, List, [], ◌∷◌, ◌++◌, length, get_or, take, set, sym, refl, ap, ◌∙◌, inl, inr, not-suc-le-zero, add-zero, arith}
use Rattle.std.proofs.lemmas.List.{append-nil, append_assoc, length-set, take_more_set}
use Rattle.std.proofs.lemmas.Bool.{cases_lt, lt-ltb, le-ltb}
use Rattle.history.specs.declared.entry.Entry.{Entry}
use Rattle.history.specs.declared.entry.Kind.{Kind}
use Rattle.history.specs.declared.entry.Kind.TheVariants.{Push, Pop}
use Rattle.world.specs.declared.table.Table.{Table}
use Rattle.world.specs.Takes.{writes_of, push_entered, pop_entered, record_after}
use Rattle.world.specs.Worlds.{at}
use Rattle.law.specs.Facts.{new_entries}

-- within a list, the default does not matter
pub at_is : {A B : Type 0} (xs : List A) (i : ℕ) (f : A → B) (fallback : B) (d : A) → i < length xs → at xs i f fallback ≡ f (get_or xs i d)
at_is [] i f b d l = absurd (not-suc-le-zero l)
at_is (x ∷ xs) zero f b d l = refl
at_is (x ∷ xs) (suc i) f b d l = at_is xs i f b d (omega arith)

-- two elements more
take_two_more : {A : Type 0} (u : ℕ) (xs : List A) (x y : A) → u + 2 ≤ length xs → take (u + 2) (set (set xs u x) (u + 1) y) ≡ take u xs ++ x ∷ y ∷ []
take_two_more {A} u xs x y h =
    let n : u + 2 ≡ u + 1 + 1 = omega arith in
    let e = take_more_set (set xs u x) (u + 1) y (omega (arith, length-set xs u x)) in
    let f = take_more_set xs u x (omega arith) in
    ap (λ k. take k (set (set xs u x) (u + 1) y)) n ∙ e ∙ ap {B = List A} (λ l. l ++ y ∷ []) f ∙ append_assoc (take u xs) (x ∷ []) (y ∷ [])

-- the entries used after a take are those used before and the new ones
pub entered_take : {T : Type 0} (k : Kind) (t : Table) (i : ℕ) (hands : List T) (entries : List (Entry T)) (d : T) → i < length hands → t.used + writes_of k t ≤ length entries → take (t.used + writes_of k t) (record_after k t i hands entries) ≡ take t.used entries ++ new_entries k t i (take t.used entries) (get_or hands i d)
entered_take Push t i hands entries d l h =
    rw (at_is hands i (push_entered t i entries) entries d l)
    (elim (cases_lt t.pushes t.pops) [
      | inl a ↦ let r = rw (lt-ltb t.pushes t.pops a) at h in rw (lt-ltb t.pushes t.pops a) (take_two_more t.used entries _ _ r)
      | inr a ↦ let r = rw (le-ltb t.pushes t.pops a) at h in rw (le-ltb t.pushes t.pops a) (take_more_set entries t.used _ (omega arith))
    ])
entered_take Pop t i hands entries d l h =
    rw (at_is hands i (pop_entered t i entries) entries d l)
    (elim (cases_lt t.pops t.pushes) [
      | inl a ↦ let r = rw (lt-ltb t.pops t.pushes a) at h in rw (lt-ltb t.pops t.pushes a) (take_more_set entries t.used _ (omega arith))
      | inr a ↦ rw (le-ltb t.pops t.pushes a) (ap (λ k. take k entries) (add-zero t.used) ∙ sym (append-nil (take t.used entries)))
    ])
