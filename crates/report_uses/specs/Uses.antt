-- An entry on a report that is let go when the entry does not fit.
use Rattle.std.specs.Prelude.{ℕ, ◌+◌, cond, List, length, Ok, Err, Result}
use Rattle.text.specs.declared.refusal.AreaRefusal.{AreaRefusal}
use Rattle.text.specs.declared.refusal.AreaRefusal.TheVariants.{ShortArea}
use Rattle.report.specs.Pieces.{overlong}
use Rattle.faults.specs.declared.fault.Fault.{Fault}
use Rattle.report.specs.declared.counts.Counts.{Counts}
use Rattle.report.specs.declared.states.OpenReport.{OpenReport}

abbrev pub entered : OpenReport → List ℕ → List ℕ → Result OpenReport (Fault AreaRefusal)
entered report area piece =
    cond (overlong area report.written piece) (Err (record { refusal = ShortArea; place = report.written }))
    (Ok (record { written = report.written + length piece }))

-- one push and one pop handed out, and nobody waits
abbrev pub one_of_each : Counts
one_of_each = record { pushes = 1; pops = 1; waiting = 0 }
