use Rattle.std.proofs.Common.{◌≡◌, take, drop}
use Rattle.report.proofs.Writing.{body_of, run}
use Rattle.report.proofs.whole.write_report.Given as goal

-- what is still to be written leads to the same end as all of it did where the loop began
abbrev pub invariant-loop-entry : goal.invariant-loop-entry
invariant-loop-entry g l =
    run l.initial.area l.initial.report.written (body_of g.E.Element.printed (take l.used l.entries) l.counts)
    ≡ run l.area l.report.written (body_of g.E.Element.printed (drop l.entry-index l.used_entries) l.counts)
