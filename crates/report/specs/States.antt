-- What a piece makes of a report: new, then open, then closed.
use Rattle.std.specs.Prelude.{ℕ, ◌+◌, cond, List, length, Ok, Err, Result}
use Rattle.text.specs.declared.refusal.AreaRefusal.{AreaRefusal}
use Rattle.text.specs.declared.refusal.AreaRefusal.TheVariants.{ShortArea}
use Rattle.report.specs.Pieces.{overlong}
use Rattle.report.specs.declared.states.NewReport.{NewReport}
use Rattle.report.specs.declared.states.OpenReport.{OpenReport}
use Rattle.report.specs.declared.states.ClosedReport.{ClosedReport}
use Rattle.report.specs.declared.states.Refused.{Refused}

-- a refused piece gives the report back as it was
abbrev pub refused : {R : Type 0} → R → Refused R
refused report = record { refusal = ShortArea; report = report }

-- the heading opens a new report
abbrev pub headed : NewReport → List ℕ → List ℕ → Result OpenReport (Refused NewReport)
headed report area piece =
    cond (overlong area report.written piece) (Err (refused report)) (Ok (record { written = report.written + length piece }))

-- the answer to an entry
abbrev pub accepted : OpenReport → List ℕ → List ℕ → Result (Unit {0}) AreaRefusal
accepted report area piece = cond (overlong area report.written piece) (Err ShortArea) (Ok tt)

-- an open report after an entry
abbrev pub longer : OpenReport → List ℕ → List ℕ → OpenReport
longer report area piece =
    cond (overlong area report.written piece) report (record { written = report.written + length piece })

-- the closing line closes an open report
abbrev pub closed : OpenReport → List ℕ → List ℕ → Result ClosedReport (Refused OpenReport)
closed report area piece =
    cond (overlong area report.written piece) (Err (refused report)) (Ok (record { written = report.written + length piece }))
