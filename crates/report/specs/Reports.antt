-- Whole reports: what they consist of, and how much of them an area takes.
use Rattle.std.specs.Prelude.{ℕ, ◌-◌, cond, List, [], ◌∷◌, ◌++◌, map, length, Ok, Err, Result, nat_lt}
use Rattle.std.specs.List.{flat_map}
use Rattle.history.specs.declared.entry.Entry.{Entry}
use Rattle.text.specs.declared.refusal.AreaRefusal.{AreaRefusal}
use Rattle.text.specs.declared.refusal.AreaRefusal.TheVariants.{ShortArea}
use Rattle.turns.specs.declared.shape.Shape.{Shape}
use Rattle.report.specs.Lines.{heading_line, line_for, closing_line}
use Rattle.report.specs.declared.counts.Counts.{Counts}
use Rattle.faults.specs.declared.fault.Fault.{Fault}

-- the text of a report: its heading, then a line for each entry in order, then its closing line, and nothing else
unfoldable pub report_text : {T : Type 0} → (T → List ℕ) → Shape → List (Entry T) → Counts → List ℕ
report_text text shape entries counts =
    heading_line shape.slots shape.threads ++ (flat_map (line_for text) entries ++ closing_line counts.pushes counts.pops counts.waiting)

-- the same as the pieces that are written one after another
unfoldable pub pieces_of : {T : Type 0} → (T → List ℕ) → Shape → List (Entry T) → Counts → List (List ℕ)
pieces_of text shape entries counts =
    heading_line shape.slots shape.threads ∷ (map (line_for text) entries ++ closing_line counts.pushes counts.pops counts.waiting ∷ [])

-- pieces one behind another, and nothing else
abbrev pub text_of : List (List ℕ) → List ℕ
text_of pieces = flat_map (λ piece. piece) pieces

-- the pieces that go whole into so much room, one behind another, up to the first that does not fit
abbrev pub fitting : ℕ → List (List ℕ) → List (List ℕ)
fitting room [] = []
fitting room (piece ∷ pieces) = cond (nat_lt room (length piece)) [] (piece ∷ fitting (room - length piece) pieces)

-- the answer for so much room: the text's length, or short area, at the length of the pieces that fit, exactly when the
-- text is longer than the room
abbrev pub reported : ℕ → List (List ℕ) → Result ℕ (Fault AreaRefusal)
reported room pieces =
    cond (nat_lt room (length (text_of pieces)))
    (Err (record { refusal = ShortArea; place = length (text_of (fitting room pieces)) }))
    (Ok (length (text_of pieces)))
