use Rattle.std.proofs.Common.{length, ap, arith}
use Rattle.std.specs.List.{flat_map}
use Rattle.runfile.proofs.CutLaws.{run_parts}
use Rattle.runfile.proofs.file.check_run.Goals as goal

pub check_kind-requires : goal.check_kind-requires
check_kind-requires c =
    let r = run_parts c.args.run.now c.requires.few in
    let p = ap (λ ps. length (flat_map (λ b. b) ps)) c.programs.ensures in
    omega arith

pub check_schedule-requires : goal.check_schedule-requires
check_schedule-requires c =
    let r = run_parts c.args.run.now c.requires.few in
    let p = ap (λ ps. length (flat_map (λ b. b) ps)) c.programs.ensures in
    let l = ap length c.lead_in-lead_in.ensures in
    let e = c.in_ok-end.ensures.end in
    omega arith

pub check_schedule-requires-2 : goal.check_schedule-requires-2
check_schedule-requires-2 c =
    let r = run_parts c.args.run.now c.requires.few in
    let p = ap (λ ps. length (flat_map (λ b. b) ps)) c.programs.ensures in
    let l = ap length c.lead_in-lead_in.ensures in
    let m = ap length c.main.ensures in
    let e = c.in_ok-end.ensures.end in
    omega arith
