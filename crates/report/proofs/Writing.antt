-- Pieces written one after another, each behind the last.
use Rattle.std.proofs.Common.{◌≡◌, ℕ, ◌+◌, ◌-◌, ◌≤◌, true, false, cond, ltb, List, [], ◌∷◌, ◌++◌, map, length, IfOk, Ok, Err, Result, sym, refl, ap, ◌∙◌, inl, inr, append_assoc, append-nil, arith, length-append}
use Rattle.std.proofs.lemmas.List.{take-append-drop}
use Rattle.std.proofs.lemmas.Bool.{cases_lt, lt-ltb, le-ltb}
use Rattle.std.proofs.lemmas.Bool.Decides.{nat_tests}
use Rattle.std.specs.List.{flat_map}
use Rattle.text.proofs.Placing.{length_put, put_put}
use Rattle.text.specs.Areas.{put}
use Rattle.text.specs.declared.refusal.AreaRefusal.{AreaRefusal}
use Rattle.text.specs.declared.refusal.AreaRefusal.TheVariants.{ShortArea}
use Rattle.history.specs.declared.entry.Entry.{Entry}
use Rattle.turns.specs.declared.shape.Shape.{Shape}
use Rattle.report.specs.Lines.{heading_line, line_for, closing_line}
use Rattle.report.specs.Pieces.{overlong, left_at}
use Rattle.report.specs.Reports.{report_text, pieces_of, text_of, fitting, reported}
use Rattle.report.specs.States.{headed, accepted, longer, closed}
use Rattle.report.specs.declared.counts.Counts.{Counts}
use Rattle.faults.specs.declared.fault.Fault.{Fault}
use Rattle.report.specs.declared.states.NewReport.{NewReport}
use Rattle.report.specs.declared.states.OpenReport.{OpenReport}
use Rattle.report.specs.declared.states.ClosedReport.{ClosedReport}
use Rattle.report.specs.declared.states.Refused.{Refused}

-- what is to be written behind the heading
abbrev pub body_of : {T : Type 0} → (T → List ℕ) → List (Entry T) → Counts → List (List ℕ)
body_of text entries counts = map (line_for text) entries ++ closing_line counts.pushes counts.pops counts.waiting ∷ []

-- short area, with so much written
abbrev pub short : ℕ → Fault AreaRefusal
short at = record { refusal = ShortArea; place = at }

-- the answer and the area at the end, with `at` bytes written before
abbrev pub run : List ℕ → ℕ → List (List ℕ) → Result ℕ (Fault AreaRefusal) × List ℕ
run xs at [] = (Ok at, xs)
run xs at (p ∷ ps) = cond (overlong xs at p) (Err (short at), xs) (run (put xs at p) (at + length p) ps)

abbrev fits : List ℕ → ℕ → List (List ℕ) → List ℕ
fits xs at ps = text_of (fitting (length xs - at) ps)

abbrev outcome : List ℕ → ℕ → List (List ℕ) → Result ℕ (Fault AreaRefusal)
outcome xs at ps = cond (ltb (length xs) (at + length (text_of ps))) (Err (short (at + length (fits xs at ps)))) (Ok (at + length (text_of ps)))

-- a run writes the pieces that fit, and is refused exactly when they are not all
run_is : (ps : List (List ℕ)) (xs : List ℕ) (at : ℕ) → at ≤ length xs → run xs at ps ≡ (outcome xs at ps, put xs at (fits xs at ps))
run_is [] xs at h =
    let f : ltb (length xs) (at + 0) ≡ false = le-ltb (length xs) (at + 0) (omega arith) in
    let z : at + 0 ≡ at = omega arith in
    let p : put xs at [] ≡ xs = rw z (take-append-drop at xs) in
    rw (f, p, z)
run_is (p ∷ ps) xs at h =
    elim (cases_lt (length xs) (at + length p)) [
      | inl o ↦
          let a : overlong xs at p ≡ true = lt-ltb (length xs) (at + length p) o in
          let b : ltb (length xs - at) (length p) ≡ true = lt-ltb (length xs - at) (length p) (omega arith) in
          let l = length-append p (text_of ps) in
          let c : ltb (length xs) (at + length (p ++ text_of ps)) ≡ true = lt-ltb (length xs) (at + length (p ++ text_of ps)) (omega arith) in
          let z : at + 0 ≡ at = omega arith in
          let q : put xs at [] ≡ xs = rw z (take-append-drop at xs) in
          rw (a, b, c, q, z)
      | inr o ↦
          let ys = put xs at p in
          let n = at + length p in
          let zs = text_of (fitting (length xs - at - length p) ps) in
          let a : overlong xs at p ≡ false = le-ltb (length xs) (at + length p) o in
          let b : ltb (length xs - at) (length p) ≡ false = le-ltb (length xs - at) (length p) (omega arith) in
          let l : length ys ≡ length xs = length_put xs at p o in
          let r : length ys - n ≡ length xs - at - length p = omega arith in
          let s : n + length (text_of ps) ≡ at + length (p ++ text_of ps) = rw (length-append p (text_of ps)) (omega arith) in
          let e : n + length zs ≡ at + length (p ++ zs) = rw (length-append p zs) (omega arith) in
          let t : n + length (fits ys n ps) ≡ at + length (p ++ zs) = ap (λ k. n + length (text_of (fitting k ps))) r ∙ e in
          let q : put ys n (fits ys n ps) ≡ put xs at (p ++ zs) = ap (λ k. put ys n (text_of (fitting k ps))) r ∙ put_put xs at p zs h in
          rw (a, b) (run_is ps ys n (omega arith) ∙ (λ j. (cond (ltb (l j) (s j)) (Err (short (t j))) (Ok (s j)), q j)))
    ]

-- from the start of an area
pub run_whole : (xs : List ℕ) (ps : List (List ℕ)) → run xs 0 ps ≡ (reported (length xs) ps, put xs 0 (text_of (fitting (length xs) ps)))
run_whole xs ps =
    let r : length xs - 0 ≡ length xs = omega arith in
    let s : 0 + length (text_of ps) ≡ length (text_of ps) = omega arith in
    let t : 0 + length (fits xs 0 ps) ≡ length (text_of (fitting (length xs) ps)) = ap (λ k. 0 + length (text_of (fitting k ps))) r ∙ (omega arith) in
    let q : put xs 0 (fits xs 0 ps) ≡ put xs 0 (text_of (fitting (length xs) ps)) = ap (λ k. put xs 0 (text_of (fitting k ps))) r in
    run_is ps xs 0 (omega arith) ∙ (λ j. (cond (ltb (length xs) (s j)) (Err (short (t j))) (Ok (s j)), q j))

-- the heading
module _ (n : NewReport) (xs ys piece : List ℕ) (ps : List (List ℕ)) (a : ys ≡ left_at xs n.written piece) where
  pub headed_ok : (o : OpenReport) → Ok o ≡ headed n xs piece → run xs n.written (piece ∷ ps) ≡ run ys o.written ps
  headed_ok o e = grind (arith, nat_tests)

  pub headed_err : (f : Refused NewReport) → Err f ≡ headed n xs piece → run xs n.written (piece ∷ ps) ≡ (Err (record { refusal = f.refusal; place = f.report.written }), ys)
  headed_err f e = grind (arith, nat_tests)

-- an entry
module _ (o p : OpenReport) (xs ys piece : List ℕ) (ps : List (List ℕ)) (r : p ≡ longer o xs piece) (a : ys ≡ left_at xs o.written piece) where
  pub accepted_ok : Ok tt ≡ accepted o xs piece → run xs o.written (piece ∷ ps) ≡ run ys p.written ps
  accepted_ok e = grind (arith, nat_tests)

  pub accepted_err : (s : AreaRefusal) → Err s ≡ accepted o xs piece → run xs o.written (piece ∷ ps) ≡ (Err (record { refusal = s; place = p.written }), ys)
  accepted_err s e = grind (arith, nat_tests)

-- the closing line
module _ (o : OpenReport) (xs ys piece : List ℕ) (a : ys ≡ left_at xs o.written piece) where
  pub closed_ok : (c : ClosedReport) → Ok c ≡ closed o xs piece → run xs o.written (piece ∷ []) ≡ (Ok c.written, ys)
  closed_ok c e = grind (arith, nat_tests)

  pub closed_err : (f : Refused OpenReport) → Err f ≡ closed o xs piece → run xs o.written (piece ∷ []) ≡ (Err (record { refusal = f.refusal; place = f.report.written }), ys)
  closed_err f e = grind (arith, nat_tests)

text_body : {T : Type 0} (text : T → List ℕ) (es : List (Entry T)) (last : List ℕ) → text_of (map (line_for text) es ++ last ∷ []) ≡ flat_map (line_for text) es ++ last
text_body text [] last = append-nil last
text_body text (x ∷ es) last = ap (λ t. line_for text x ++ t) (text_body text es last) ∙ sym (append_assoc (line_for text x) (flat_map (line_for text) es) last)

-- all pieces fit into enough room
fitting_all : (ps : List (List ℕ)) (room : ℕ) → length (text_of ps) ≤ room → fitting room ps ≡ ps
fitting_all [] room h = refl
fitting_all (p ∷ ps) room h =
    let l = length-append p (text_of ps) in
    let f : ltb room (length p) ≡ false = le-ltb room (length p) (omega arith) in
    rw f (ap (λ qs. p ∷ qs) (fitting_all ps (room - length p) (omega arith)))

-- an answered length is that of the whole text, which stands in the area then
finished : (xs ys whole : List ℕ) (q : Result ℕ (Fault AreaRefusal)) (ps : List (List ℕ)) → text_of ps ≡ whole → q ≡ reported (length xs) ps → ys ≡ put xs 0 (text_of (fitting (length xs) ps)) → IfOk q (λ size. (size ≡ length whole) × (ys ≡ put xs 0 whole))
finished xs ys whole q ps w a b =
    elim (cases_lt (length xs) (length (text_of ps))) [
      | inl o ↦
          let f : q ≡ Err (short (length (text_of (fitting (length xs) ps)))) = a ∙ rw (lt-ltb (length xs) (length (text_of ps)) o) in
          rw f tt
      | inr o ↦
          let f : q ≡ Ok (length (text_of ps)) = a ∙ rw (le-ltb (length xs) (length (text_of ps)) o) in
          let g : text_of (fitting (length xs) ps) ≡ whole = ap text_of (fitting_all ps (length xs) o) ∙ w in
          rw f (ap length w, b ∙ ap (put xs 0) g)
    ]

-- a whole report
module _ {T : Type 0} (text : T → List ℕ) (shape : Shape) (entries : List (Entry T)) (counts : Counts) where
  abbrev heading : List ℕ
  heading = heading_line shape.slots shape.threads

  abbrev body : List (List ℕ)
  body = body_of text entries counts

  abbrev pieces : List (List ℕ)
  pieces = pieces_of text shape entries counts

  abbrev whole : List ℕ
  whole = report_text text shape entries counts

  -- its pieces are its text
  pieces_text : text_of pieces ≡ whole
  unfolding pieces_of report_text
  pieces_text = ap (λ t. heading ++ t) (text_body text entries (closing_line counts.pushes counts.pops counts.waiting))

  -- from a new report, its heading first
  module _ (n : NewReport) (xs ys : List ℕ) (z : n.written ≡ 0) (a : ys ≡ left_at xs n.written heading) where
    started : run xs 0 pieces ≡ run xs n.written (heading ∷ body)
    unfolding pieces_of
    started = ap (λ at. run xs at (heading ∷ body)) (sym z)

    -- it is open
    pub begun : (o : OpenReport) → Ok o ≡ headed n xs heading → run xs 0 pieces ≡ run ys o.written body
    begun o e = started ∙ headed_ok n xs ys heading body a o e

    -- its heading does not fit
    pub not_begun : (f : Refused NewReport) → Err f ≡ headed n xs heading → run xs 0 pieces ≡ (Err (record { refusal = f.refusal; place = f.report.written }), ys)
    not_begun f e = started ∙ headed_err n xs ys heading body a f e

  -- what a run from the start ends with, where the code answers q
  pub ended : (xs ys : List ℕ) (q r : Result ℕ (Fault AreaRefusal)) → q ≡ r → run xs 0 pieces ≡ (r, ys) → (q ≡ reported (length xs) pieces) × (ys ≡ put xs 0 (text_of (fitting (length xs) pieces))) × IfOk q (λ size. (size ≡ length whole) × (ys ≡ put xs 0 whole))
  ended xs ys q r qr h =
      let e = sym h ∙ run_whole xs pieces in
      let a : q ≡ reported (length xs) pieces = qr ∙ ap (λ w. w.0) e in
      let b : ys ≡ put xs 0 (text_of (fitting (length xs) pieces)) = ap (λ w. w.1) e in
      (a, b, finished xs ys whole q pieces pieces_text a b)
