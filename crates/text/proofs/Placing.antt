-- A piece put into an area, and into the rest of one that is lent on from a place.
use Rattle.std.proofs.Common.{◌≡◌, ℕ, ◌+◌, ◌-◌, ◌<◌, ◌≤◌, true, false, ltb, List, [], ◌++◌, length, take, drop, Ok, Err, ap, ◌∙◌, inl, inr, append_assoc, append-nil, add_assoc, zero-add, arith, length-append, length-drop}
use borrow.Rule.Slice.PartMut.{put_mid}
use Rattle.std.proofs.lemmas.List.{length-take-le, take_all, drop_all, take_at, drop_at, drop-drop, take-append-drop, take_rest}
use Rattle.std.proofs.lemmas.Bool.{cases_lt, lt-ltb, le-ltb}
use Rattle.std.proofs.lemmas.Bool.Decides.{nat_tests}
use Rattle.text.specs.Areas.{put, wrote, left}
use Rattle.text.specs.declared.refusal.AreaRefusal.{AreaRefusal}
use Rattle.text.specs.declared.refusal.AreaRefusal.TheVariants.{ShortArea}

-- an area keeps its length
pub length_put : (xs : List ℕ) (at : ℕ) (ys : List ℕ) → at + length ys ≤ length xs → length (put xs at ys) ≡ length xs
length_put xs at ys h =
    let l : length (take at xs) ≡ at = length-take-le at xs (omega arith) in
    simp (length-append, length-drop) (omega arith)

length_front : (xs : List ℕ) (at : ℕ) (ys : List ℕ) → at ≤ length xs → length (take at xs ++ ys) ≡ at + length ys
length_front xs at ys h = rw (length-append, length-take-le at xs h)

-- up to the end of the piece
pub take_put : (xs : List ℕ) (at : ℕ) (ys : List ℕ) → at ≤ length xs → take (at + length ys) (put xs at ys) ≡ take at xs ++ ys
take_put xs at ys h =
    rw (← append_assoc) (take_at (take at xs ++ ys) (drop (at + length ys) xs) (at + length ys) (length_front xs at ys h))

-- past the piece nothing is changed
pub drop_put : (xs : List ℕ) (at : ℕ) (ys : List ℕ) (n : ℕ) → at ≤ length xs → at + length ys ≤ n → drop n (put xs at ys) ≡ drop n xs
drop_put xs at ys n h k =
    let m : ℕ = at + length ys in
    let d : drop m (put xs at ys) ≡ drop m xs = rw (← append_assoc) (drop_at (take at xs ++ ys) (drop m xs) m (length_front xs at ys h)) in
    let w : m + (n - m) ≡ n = omega arith in
    let a = drop-drop (n - m) m (put xs at ys) in
    let b = drop-drop (n - m) m xs in
    cc

-- one piece behind another
pub put_put : (xs : List ℕ) (at : ℕ) (ys zs : List ℕ) → at ≤ length xs → put (put xs at ys) (at + length ys) zs ≡ put xs at (ys ++ zs)
put_put xs at ys zs h =
    let t = take_put xs at ys h in
    let d = drop_put xs at ys (at + length ys + length zs) h (omega arith) in
    rw (t, d) (simp (append_assoc, length-append, add_assoc))

pub length_rest : (xs : List ℕ) (at : ℕ) → length (take (length xs - at) (drop at xs)) ≡ length xs - at
length_rest xs at = rw (take_rest xs at) (length-drop at xs)

-- the rest from `at` on goes to the end; k is its length, as a goal has it
rest_all : (xs : List ℕ) (at k : ℕ) → k ≡ length xs - at → (take k (drop at xs) ≡ drop at xs) × (drop k (drop at xs) ≡ [])
rest_all xs at k e =
    let d : length (drop at xs) ≤ k = simp length-drop (omega arith) in
    (take_all k (drop at xs) d, drop_all k (drop at xs) d)

-- what is put at the start of the rest is put at that place of the area
pub rest_put : (xs zs ys : List ℕ) (at k : ℕ) → k ≡ length xs - at → zs ≡ put (take k (drop at xs)) 0 ys → put_mid at k xs zs ≡ put xs at ys
rest_put xs zs ys at k e z =
    let a = rest_all xs at k e in
    rw (z, a.0, a.1, append-nil, drop-drop (0 + length ys) at xs, zero-add)

-- a rest that comes back as it was leaves the area as it was
pub rest_same : (xs zs : List ℕ) (at k : ℕ) → k ≡ length xs - at → zs ≡ take k (drop at xs) → put_mid at k xs zs ≡ xs
rest_same xs zs at k e z =
    let a = rest_all xs at k e in
    rw (z, a.0, a.1, append-nil, take-append-drop)

-- a piece that fits
pub wrote_fits : (xs ys : List ℕ) → length ys ≤ length xs → (wrote xs ys ≡ Ok (length ys)) × (left xs ys ≡ put xs 0 ys)
wrote_fits xs ys h =
    let f : ltb (length xs) (length ys) ≡ false = le-ltb (length xs) (length ys) h in
    (rw f, rw f)

-- and one that does not
pub wrote_over : (xs ys : List ℕ) → length xs < length ys → (wrote xs ys ≡ Err ShortArea) × (left xs ys ≡ xs)
wrote_over xs ys h =
    let f : ltb (length xs) (length ys) ≡ true = lt-ltb (length xs) (length ys) h in
    (rw f, rw f)

-- back from the answer
pub wrote_ok : (xs ys : List ℕ) (n : ℕ) → Ok n ≡ wrote xs ys → (n ≡ length ys) × (length ys ≤ length xs) × (left xs ys ≡ put xs 0 ys)
wrote_ok xs ys n e = grind (arith, nat_tests)

pub wrote_err : (xs ys : List ℕ) (r : AreaRefusal) → Err r ≡ wrote xs ys → (r ≡ ShortArea) × (length xs < length ys) × (left xs ys ≡ xs)
wrote_err xs ys r e = grind (arith, nat_tests)

pub length_left : (xs ys : List ℕ) → length (left xs ys) ≡ length xs
length_left xs ys =
    elim (cases_lt (length xs) (length ys)) [ inl h ↦ ap length (wrote_over xs ys h).1 | inr h ↦ ap length (wrote_fits xs ys h).1 ∙ length_put xs 0 ys (omega arith) ]

-- a writer that was lent the rest of an area, from `at` on, and wrote its piece: what the caller then knows
pub rest_ok : (xs zs ys : List ℕ) (at k n : ℕ) → at ≤ length xs → k ≡ length xs - at → Ok n ≡ wrote (take k (drop at xs)) ys → zs ≡ left (take k (drop at xs)) ys → (n ≡ length ys) × (at + length ys ≤ length xs) × (put_mid at k xs zs ≡ put xs at ys)
rest_ok xs zs ys at k n h e r z =
    let o = wrote_ok (take k (drop at xs)) ys n r in
    let l : length (take k (drop at xs)) ≡ length xs - at = rw e (length_rest xs at) in
    (o.0, omega arith, rest_put xs zs ys at k e (z ∙ o.2))

-- and when it refused
pub rest_err : (xs zs ys : List ℕ) (at k : ℕ) (s : AreaRefusal) → at ≤ length xs → k ≡ length xs - at → Err s ≡ wrote (take k (drop at xs)) ys → zs ≡ left (take k (drop at xs)) ys → (s ≡ ShortArea) × (length xs < at + length ys) × (put_mid at k xs zs ≡ xs)
rest_err xs zs ys at k s h e r z =
    let o = wrote_err (take k (drop at xs)) ys s r in
    let l : length (take k (drop at xs)) ≡ length xs - at = rw e (length_rest xs at) in
    (o.0, omega arith, rest_same xs zs at k e (z ∙ o.2))
