use Rattle.std.proofs.Common.{◌<◌, length, ap, ◌∙◌, arith, rules}
use Rattle.std.proofs.lemmas.Bool.Decides.{nat_tests}
use Rattle.runfile.proofs.ProgramLaws.{read_right, read_wrong}
use Rattle.runfile.proofs.program.OperationsIterator.next.Goals as goal
use Rattle.runfile.proofs.program.OperationsIterator.next.Goals.{in-Ok, in-Err}

pub returns-clause-steps : goal.returns-clause-steps
returns-clause-steps g c =
    let e = c.read_operation-read.ensures in
    let some : 0 < length c.args.self.now.rest.now = grind (arith, nat_tests) in
    elim c.match-read.branch [
      | in-Ok w ↦ read_right g.E.Element.format _ _ _ _ _ some e.value w.in-Ok.is (rw w.in-Ok.is at e.within) (w.width-is ∙ w.byte_count-width.ensures)
      | in-Err w ↦ read_wrong g.E.Element.format _ _ _ _ _ some e.value w.in-Err.is w.width-is
    ]

pub returns-clause-goes : goal.returns-clause-goes
returns-clause-goes g c =
    let n = ap length (returns-clause-steps g c) in
    search rules
