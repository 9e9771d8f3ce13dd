-- Programs, as the code reads them: from a slice's start, and what is left of it.
use Rattle.std.proofs.Common.{◌≡◌, ℕ, zero, suc, ◌+◌, ◌-◌, ◌<◌, ◌≤◌, cond, eqb, ltb, List, [], ◌∷◌, length, get_or, take, drop, Ok, Err, Result, sym, refl, ap, ◌∙◌, inl, inr, add-zero, arith, length-drop, length-take}
use Rattle.runfile.proofs.ChainLaws.{never, chain_ok, cond_ok, cond_not_ok}
use Rattle.std.proofs.lemmas.Bool.{eq-eqb, ne_eqb, cases_eq}
use Rattle.std.proofs.lemmas.List.{take_rest, drop-drop}
use Rattle.std.proofs.lemmas.Slice.{between_to_end}
use Rattle.runfile.specs.declared.operation.Operation.{Operation}
use Rattle.runfile.specs.declared.operation.Operation.TheVariants.{Push, Pop}
use Rattle.runfile.specs.Chains.{chain, sound}
use Rattle.runfile.specs.Elements.{Format, element}
use Rattle.std.specs.Result.{ok_prefix}
use Rattle.runfile.specs.Faults.{FileFault, body}
use Rattle.runfile.specs.Programs.{first_then, operation, operations, operations_of, reading_then, readings, wide}

-- the first fault among readings
abbrev pub first_wrong : {T : Type 0} → List (Result (Operation T) FileFault) → Result (Unit {0}) FileFault
first_wrong [] = Ok tt
first_wrong (Ok o ∷ rs) = first_wrong rs
first_wrong (Err f ∷ rs) = Err f

module _ {T : Type 0} (form : Format T) where
  pub operation_push : (xs : List ℕ) (place : ℕ) → 0 < length xs → get_or xs 0 0 ≡ 0x50 → operation form xs place ≡ chain (element form (take (length xs - 1) (drop 1 xs)) place) (λ e. Ok (Push e))
  operation_push [] place h e = absurd (omega arith)
  operation_push (x ∷ xs) place h e = rw (between_to_end (x ∷ xs) 1 (length (x ∷ xs)) (omega arith), eq-eqb x 0x50 e)

  pub wide_some : (o : Operation T) → 0 < wide form.width o
  wide_some (Push e) = omega arith
  wide_some Pop = omega arith

  sound_in_front : (o : Operation T) (r : Result (List (Operation T)) FileFault) → sound (chain r (λ os. Ok (o ∷ os))) ≡ sound r
  sound_in_front o (Ok os) = refl
  sound_in_front o (Err f) = refl

  readings_skip : (k : ℕ) (xs : List ℕ) (place : ℕ) → k ≤ length xs → readings form k xs place ≡ readings form 0 (drop k xs) (place + k)
  readings_skip zero xs place h = rw add-zero
  readings_skip (suc k) [] place h = absurd (omega arith)
  readings_skip (suc k) (x ∷ xs) place h =
      readings_skip k xs (place + 1) (omega arith)
      ∙ ap (λ n. readings form 0 (drop k xs) n) (omega arith)

  -- after an operation of w bytes
  after_first : (x : ℕ) (xs : List ℕ) (w place : ℕ) → 0 < w → w ≤ length (x ∷ xs) → readings form (w - 1) xs (place + 1) ≡ readings form 0 (take (length (x ∷ xs) - w) (drop w (x ∷ xs))) (place + w)
  after_first x xs w place some h =
      let v : 1 + (w - 1) ≡ w = omega arith in
      let q : place + 1 + (w - 1) ≡ place + w = omega arith in
      let d : drop (w - 1) xs ≡ drop w (x ∷ xs) = (drop-drop (w - 1) 1 (x ∷ xs) ∙ ap (λ n. drop n (x ∷ xs)) v) in
      readings_skip (w - 1) xs (place + 1) (omega arith)
      ∙ rw (take_rest (x ∷ xs) w, q, d)

  pub readings_more : (xs : List ℕ) (place : ℕ) (o : Operation T) → 0 < length xs → Ok o ≡ operation form xs place → wide form.width o ≤ length xs → readings form 0 xs place ≡ Ok o ∷ readings form 0 (take (length xs - wide form.width o) (drop (wide form.width o) xs)) (place + wide form.width o)
  readings_more [] place o some e h = absurd (omega arith)
  readings_more (x ∷ xs) place o some e h =
      ap (λ r. reading_then r (λ p. readings form (wide form.width p - 1) xs (place + 1))) (sym e)
      ∙ ap (λ l. Ok o ∷ l) (after_first x xs (wide form.width o) place (wide_some o) h)

  pub readings_fault : (xs : List ℕ) (place : ℕ) (f : FileFault) → 0 < length xs → Err f ≡ operation form xs place → readings form 0 xs place ≡ Err f ∷ []
  readings_fault [] place f some e = absurd (omega arith)
  readings_fault (x ∷ xs) place f some e = ap (λ r. reading_then r (λ p. readings form (wide form.width p - 1) xs (place + 1))) (sym e)

  pub readings_none : (xs : List ℕ) (place : ℕ) → length xs ≡ 0 → readings form 0 xs place ≡ []
  readings_none [] place e = refl
  readings_none (x ∷ xs) place e = absurd (omega arith)

  -- one reading, and how far it goes
  pub read_right : (xs : List ℕ) (place w : ℕ) (r : Result (Operation T) FileFault) (o : Operation T) → 0 < length xs → r ≡ operation form xs place → r ≡ Ok o → wide form.width o ≤ length xs → w ≡ wide form.width o → readings form 0 xs place ≡ r ∷ readings form 0 (take (length xs - w) (drop w xs)) (place + w)
  read_right xs place w r o some e is h v = rw (is, v) (readings_more xs place o some (sym is ∙ e) h)

  pub read_wrong : (xs : List ℕ) (place w : ℕ) (r : Result (Operation T) FileFault) (f : FileFault) → 0 < length xs → r ≡ operation form xs place → r ≡ Err f → w ≡ length xs → readings form 0 xs place ≡ r ∷ readings form 0 (take (length xs - w) (drop w xs)) (place + w)
  read_wrong xs place w r f some e is v =
      let n : length (take (length xs - w) (drop w xs)) ≡ 0 = simp (length-take, length-drop) (omega arith) in
      rw (is, readings_none (take (length xs - w) (drop w xs)) (place + w) n) (readings_fault xs place f some (sym is ∙ e))

  first_of : (r : Result (Operation T) FileFault) (next : Operation T → Result (List (Operation T)) FileFault) (more : Operation T → List (Result (Operation T) FileFault)) → ((o : Operation T) → sound (next o) ≡ first_wrong (more o)) → sound (chain r (λ o. chain (next o) (λ os. Ok (o ∷ os)))) ≡ first_wrong (reading_then r more)
  first_of (Ok o) next more h = sound_in_front o (next o) ∙ h o
  first_of (Err f) next more h = refl

  -- a program is right when none of its readings is a fault
  pub sound_readings : (skip : ℕ) (xs : List ℕ) (place : ℕ) → sound (operations form skip xs place) ≡ first_wrong (readings form skip xs place)
  sound_readings skip [] place = refl
  sound_readings (suc skip) (x ∷ xs) place = sound_readings skip xs (place + 1)
  sound_readings zero (x ∷ xs) place = first_of (operation form (x ∷ xs) place) (λ o. operations form (wide form.width o - 1) xs (place + 1)) (λ o. readings form (wide form.width o - 1) xs (place + 1)) (λ o. sound_readings (wide form.width o - 1) xs (place + 1))

  -- an operation that is right at one place is right at each
  element_anywhere : (xs : List ℕ) (p q : ℕ) (e : T) → element form xs p ≡ Ok e → element form xs q ≡ Ok e
  element_anywhere xs p q e h =
      let a = cond_not_ok (ltb (length xs) form.width) _ (body p) e h in
      let b = cond_ok (form.lawful (take form.width xs)) (Ok (form.reading (take form.width xs))) (body p) e a.1 in
      rw (a.0, b.0) b.1

  operation_anywhere : (x : ℕ) (xs : List ℕ) (p q : ℕ) (o : Operation T) → operation form (x ∷ xs) p ≡ Ok o → operation form (x ∷ xs) q ≡ Ok o
  operation_anywhere x xs p q o h = elim (cases_eq x 0x50) [
    | inl is ↦ (
        let c : chain (element form xs p) (λ e. Ok (Push e)) ≡ Ok o = (rw (eq-eqb x 0x50 is) at h) in
        let k = chain_ok (element form xs p) (λ e. Ok (Push e)) o c in
        rw (eq-eqb x 0x50 is, element_anywhere xs p q k.0 k.1) k.2)
    | inr not ↦ (
        let c : cond (eqb x 0x44) (Ok Pop) (Err (body p)) ≡ Ok o = (rw (ne_eqb x 0x50 not) at h) in
        let k = cond_ok (eqb x 0x44) (Ok Pop) (body p) o c in
        rw (ne_eqb x 0x50 not, k.0) k.1)
  ]

  -- the operations of a program that is right are all of it, wherever it stands
  pub operations_all : (skip : ℕ) (xs : List ℕ) (p q : ℕ) (os : List (Operation T)) → operations form skip xs p ≡ Ok os → operations form skip xs q ≡ Ok (operations_of form skip xs)
  operations_all skip [] p q os e = refl
  operations_all (suc skip) (x ∷ xs) p q os e = operations_all skip xs (p + 1) (q + 1) os e
  operations_all zero (x ∷ xs) p q os e =
      let k = chain_ok (operation form (x ∷ xs) p) _ os e in
      let m = chain_ok (operations form (wide form.width k.0 - 1) xs (p + 1)) _ os k.2 in
      let i = operations_all (wide form.width k.0 - 1) xs (p + 1) (q + 1) m.0 m.1 in
      rw (operation_anywhere x xs p q k.0 k.1, operation_anywhere x xs p 0 k.0 k.1, i)

  right_first : (r q : Result (Operation T) FileFault) (next : Operation T → List (Operation T)) (more : Operation T → List (Result (Operation T) FileFault)) → ((o : Operation T) → r ≡ Ok o → q ≡ Ok o) → ((o : Operation T) → q ≡ Ok o → r ≡ Ok o) → ((o : Operation T) → next o ≡ o ∷ ok_prefix (more o)) → first_then r next ≡ ok_prefix (reading_then q more)
  right_first (Ok o) q next more to from h = h o ∙ ap (λ r. ok_prefix (reading_then r more)) (sym (to o refl))
  right_first (Err f) (Ok o) next more to from h = absurd (never o f (sym (from o refl)))
  right_first (Err f) (Err e) next more to from h = refl

  -- the right operations are the readings before a fault, wherever the program stands
  pub operations_read : (skip : ℕ) (xs : List ℕ) (place : ℕ) → operations_of form skip xs ≡ ok_prefix (readings form skip xs place)
  operations_read skip [] place = refl
  operations_read (suc skip) (x ∷ xs) place = operations_read skip xs (place + 1)
  operations_read zero (x ∷ xs) place = right_first (operation form (x ∷ xs) 0) (operation form (x ∷ xs) place) (λ o. o ∷ operations_of form (wide form.width o - 1) xs) (λ o. readings form (wide form.width o - 1) xs (place + 1)) (operation_anywhere x xs 0 place) (operation_anywhere x xs place 0) (λ o. ap (λ l. o ∷ l) (operations_read (wide form.width o - 1) xs (place + 1)))
