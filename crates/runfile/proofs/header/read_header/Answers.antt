use Rattle.std.proofs.Common.{◌≡◌, ◌+◌, ◌*◌, length, sym, arith, rules}
use Rattle.std.proofs.lemmas.Result.{err_from_is_err_and}
use Rattle.turns.specs.Shapes.{Few}
use Rattle.runfile.specs.Faults.{body}
use Rattle.runfile.proofs.OutcomeLaws.{err_case, slots_wrong, headed_slots}
use Rattle.runfile.proofs.header.read_header.Goals as goal

pub returns-in_err-shape-clause-value : goal.returns-in_err-shape-clause-value
returns-in_err-shape-clause-value c =
    let few : Few c.threads-expected.result = (omega arith, omega arith) in
    let e = err_case c.new.result _ _ c.new.ensures c.in_err-shape.ensures.variant in
    let w = slots_wrong _ c.threads-expected.result few e.1.1 in
    let l : length c.args.body.now ≡ 4 = omega arith in
    let place : c.table_end-place.result ≡ 1 + 5 * c.args.count.entries = c.table_end-place.ensures in
    let f : c.in_err-shape.field-0.0 ≡ body (1 + 5 * c.args.count.entries) = search rules in
    let p = err_from_is_err_and c.from_residual.result c.from_residual.ensures.1 in
    rw (p.1, p.2, f) (sym (headed_slots c.args.count.entries (1 + 5 * c.args.count.entries) c.args.body.now l w))
