use Rattle.std.proofs.Common.{sym, ap, ◌∙◌}
use Rattle.std.proofs.lemmas.Result.{err_from_is_err_and}
use Rattle.runfile.proofs.ProgramLaws.{first_wrong, sound_readings}
use Rattle.runfile.proofs.program.check_program.Goals as goal

pub returns-in_err-operation : goal.returns-in_err-operation
returns-in_err-operation g c =
    let p = err_from_is_err_and c.from_residual.result c.from_residual.ensures.1 in
    let s = sound_readings g.E.Element.format 0 c.args.program.now c.args.place in
    let f = ap first_wrong (rw c.in_err-operation.was at c.in-Some.ensures.steps) in
    rw (p.1, p.2) (sym (s ∙ c.loop-operation.invariant.left ∙ f))

pub returns : goal.returns
returns g c =
    let s = sound_readings g.E.Element.format 0 c.args.program.now c.args.place in
    sym (s ∙ c.loop-operation.invariant.left ∙ ap first_wrong c.in-None.ensures.steps.0)
