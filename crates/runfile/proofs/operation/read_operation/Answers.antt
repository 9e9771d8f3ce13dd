use Rattle.std.proofs.Common.{arith, rules, ltb-false}
use Rattle.std.proofs.lemmas.Result.{err_from_is_err_and}
use Rattle.runfile.proofs.ProgramLaws.{operation_push}
use Rattle.runfile.proofs.operation.read_operation.Goals as goal

pub returns-in_err-element-in-80 : goal.returns-in_err-element-in-80
returns-in_err-element-in-80 g c =
    let o = operation_push g.E.Element.format c.args.program.now c.args.place (omega (arith, ltb-false)) (omega arith) in
    let p = err_from_is_err_and c.from_residual.result c.from_residual.ensures.1 in
    let e = c.in_err-element-in-80.ensures in
    search rules

pub returns-in_ok-element-in-80 : goal.returns-in_ok-element-in-80
returns-in_ok-element-in-80 g c =
    let o = operation_push g.E.Element.format c.args.program.now c.args.place (omega (arith, ltb-false)) (omega arith) in
    let e = c.in_ok-element-in-80.ensures in
    search rules
