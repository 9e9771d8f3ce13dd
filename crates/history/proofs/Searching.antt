-- The first push of a ticket over two parts of a record.
use Rattle.std.proofs.Common.{◌≡◌, ℕ, ◌&&◌, eqb, List, [], ◌∷◌, ◌++◌, Some, None, Option, refl, inl, inr}
use Rattle.std.proofs.lemmas.Bool.{cases_Bool}
use Rattle.history.specs.declared.entry.Entry.{Entry}
use Rattle.history.specs.Pushes.{is_push, first_push}

-- the first answer, or the second where the first is none
abbrev pub or_else : {T : Type 0} → Option T → Option T → Option T
or_else (Some e) other = Some e
or_else None other = other

pub first_push_append : {T : Type 0} (xs ys : List (Entry T)) (t : ℕ) → first_push (xs ++ ys) t ≡ or_else (first_push xs t) (first_push ys t)
first_push_append [] ys t = refl
first_push_append (x ∷ xs) ys t =
    elim (cases_Bool (is_push x.kind && eqb x.ticket t)) [ inl e ↦ rw e | inr e ↦ rw e (first_push_append xs ys t) ]
