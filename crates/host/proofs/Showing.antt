-- A text at the start of an area of zeroes.
use Rattle.std.proofs.Common.{◌≡◌, ℕ, zero, suc, ◌+◌, ◌-◌, ◌^◌, ◌<◌, ◌≤◌, ltb, List, ◌++◌, length, take, drop, replicate, ℤ, pos, Ok, Result, sym, ap, ◌∙◌, subst, arith, w64, to_z}
use lib.ListN.{length-replicate}
use mir.Facts.{to_z_pos}
use Rattle.std.proofs.lemmas.Bool.{ltb-false}
use Rattle.text.specs.Areas.{left, put, wrote}
use Rattle.text.specs.declared.refusal.AreaRefusal.TheVariants.{ShortArea}
use Rattle.host.specs.declared.fault.Fault.{Fault}
use Rattle.host.specs.Faults.{refusal_line}
use Rattle.host.specs.Tells.{FaithfulTo, Promise, answered, hosted, line_shown, shown, told}
use Rattle.host.proofs.Telling.{by_false, by_test, put_first}

drop_same : {A : Type 0} (a : A) (n k : ℕ) → drop k (replicate n a) ≡ replicate (n - k) a
drop_same a n zero = let e : n ≡ n - 0 = omega arith in ap (λ m. replicate m a) e
drop_same a zero (suc k) = let e : 0 ≡ 0 - suc k = omega arith in ap (λ m. replicate m a) e
drop_same a (suc n) (suc k) = let e : n - k ≡ suc n - suc k = omega arith in drop_same a n k ∙ ap (λ m. replicate m a) e

-- the length as a signed number: no area is as long as that could not hold
pub shows : (room size : ℕ) (area after text : List ℕ) → area ≡ replicate room 0 → room < 2 ^ 63 → size ≡ length text → size ≤ room → after ≡ put area 0 text → (to_z w64 size, after) ≡ shown room text
shows room size area after text zeroes small e within h =
    let fits : size < 2 ^ 63 = omega arith in
    let n : 0 + length text ≡ length text = omega arith in
    let a : after ≡ text ++ replicate (room - length text) 0 = h ∙ ap (λ xs. put xs 0 text) zeroes ∙ ap (λ k. text ++ drop {A = ℕ} k (replicate room 0)) n ∙ ap (λ xs. text ++ xs) (drop_same 0 room (length text)) in
    let z : to_z w64 size ≡ pos (length text) = to_z_pos w64 fits ∙ ap pos e in
    ap (λ (i : ℤ). (i, after)) z ∙ ap (λ (xs : List ℕ). (pos (length text), xs)) a

ok_same : {A E : Type 0} (x y : A) → ◌≡◌ {A = Result A E} (Ok x) (Ok y) → x ≡ y
ok_same x y e = cc

-- a report that was written whole
module _ (file : List ℕ) (room size : ℕ) (area after text : List ℕ) (zeroes : area ≡ replicate room 0) (small : room < 2 ^ 63) (tells : told file room ≡ Ok text) (e : size ≡ length text) (within : size ≤ room) (h : after ≡ put area 0 text) where
  pub answers : (to_z w64 size, after) ≡ hosted file room
  answers = shows room size area after text zeroes small e within h ∙ ap (answered room) (sym tells)

  pub promises : FaithfulTo file (take size after) → Promise file room (to_z w64 size) after
  promises faithful = record {
    written = λ other t. shows room size area after text zeroes small e within h ∙ ap (shown room) (ok_same text other (sym tells ∙ t));
    faithful = λ other t. subst (FaithfulTo file) (put_first area text after size e h ∙ ok_same text other (sym tells ∙ t)) faithful;
  }

-- a refusal's line that was written, or was not
module _ (f : Fault) (room : ℕ) (area line : List ℕ) (zeroes : area ≡ replicate room 0) (line_is : line ≡ refusal_line f) where
  same_test : ltb (length area) (length line) ≡ ltb room (length (refusal_line f))
  same_test = ap (λ (xs : List ℕ). ltb (length xs) (length line)) zeroes ∙ ap (λ n. ltb n (length line)) (length-replicate room 0) ∙ ap (λ (xs : List ℕ). ltb room (length xs)) line_is

  pub line_shown_lem : (size : ℕ) (after : List ℕ) → room < 2 ^ 63 → Ok size ≡ wrote area line → after ≡ left area line → (to_z w64 size, after) ≡ line_shown room f
  line_shown_lem size after small answer h =
      let fits = by_test (ltb (length area) (length line)) size (length line) ShortArea answer in
      let narrow = sym same_test ∙ fits.0 in
      let l = ltb-false room (length (refusal_line f)) narrow in
      let e : size ≡ length (refusal_line f) = fits.1 ∙ ap (λ (xs : List ℕ). length xs) line_is in
      let p : after ≡ put area 0 (refusal_line f) = h ∙ by_false _ _ _ fits.0 ∙ ap (put area 0) line_is in
      shows room size area after (refusal_line f) zeroes small e (omega arith) p ∙ sym (by_false _ _ _ narrow)
