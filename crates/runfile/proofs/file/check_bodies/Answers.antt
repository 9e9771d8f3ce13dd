use Rattle.std.proofs.Common.{◌+◌, ◌*◌, ◌<◌, ◌≤◌, length, sym, refl, ap, arith, length-take}
use Rattle.std.proofs.lemmas.List.{length-map}
use Rattle.std.proofs.lemmas.Result.{err_from_is_err_and}
use Rattle.runfile.specs.declared.runs.RunFile.{RunFile}
use Rattle.runfile.specs.Tables.{cut_of}
use Rattle.runfile.proofs.CutLaws.{cut_at, joined_first, shape_fault, run_read}
use Rattle.runfile.proofs.file.check_bodies.Goals as goal

pub returns-in_err-header : goal.returns-in_err-header
returns-in_err-header c =
    let p = err_from_is_err_and c.from_residual.result c.from_residual.ensures.1 in
    let n = c.args.count in
    let l = c.args.bodies.long in
    let s = cut_at c.args.bodies.cuts n.entries 0 (omega arith) (omega arith) in
    rw (p.1, p.2) (sym (shape_fault n.entries (1 + 5 * c.args.count.entries) (cut_of n.entries c.args.bodies) _ s c.in_err-header.field-0.0 c.in_err-header.ensures.value))

pub check_run-requires : goal.check_run-requires
check_run-requires c =
    let n = c.args.count in
    let l = c.args.bodies.long in
    let some : 0 < length (cut_of n.entries c.args.bodies) = simp (length-take, length-map) (omega arith) in
    let j = joined_first (cut_of n.entries c.args.bodies) some in
    let s = ap length (cut_at c.args.bodies.cuts n.entries 0 (omega arith) (omega arith)) in
    let few = n.few in
    let t = c.in_ok-header.ensures.threads in
    record { few = omega arith; within = rw t (omega arith) }

pub returns-in_err-check_run : goal.returns-in_err-check_run
returns-in_err-check_run c =
    let p = err_from_is_err_and c.from_residual-in_err-check_run.result c.from_residual-in_err-check_run.ensures.1 in
    let f : RunFile = record { header = c.in_ok-header.header; bodies = c.args.bodies } in
    let e = c.in_ok-header.ensures in
    let few : c.in_ok-header.header.threads ≤ 64 = let n = c.args.count.few in let t = e.threads in omega arith in
    rw (p.1, p.2) (sym (run_read f c.args.count.entries (1 + 5 * c.args.count.entries) _ _ _ e.threads few refl e.value (let t = c.table_end.ensures in omega arith) c.in_err-check_run.ensures))

pub returns : goal.returns
returns c =
    let f : RunFile = record { header = c.in_ok-header.header; bodies = c.args.bodies } in
    let e = c.in_ok-header.ensures in
    let few : c.in_ok-header.header.threads ≤ 64 = let n = c.args.count.few in let t = e.threads in omega arith in
    sym (run_read f c.args.count.entries (1 + 5 * c.args.count.entries) _ _ _ e.threads few refl e.value (let t = c.table_end.ensures in omega arith) c.in_ok-check_run.ensures)
