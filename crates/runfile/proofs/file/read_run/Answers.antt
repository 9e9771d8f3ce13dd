use Rattle.std.proofs.Common.{◌≡◌, ◌+◌, ◌*◌, length, sym, ap, arith, length-drop, rules}
use Rattle.runfile.specs.Files.{outcome, parsed}
use Rattle.runfile.specs.Tables.{cut_of}
use Rattle.runfile.proofs.FormLaws.{formed}
use Rattle.runfile.proofs.FileLaws.{divided_joined}
use Rattle.runfile.proofs.file.read_run.Goals as goal

pub check_bodies-requires : goal.check_bodies-requires
check_bodies-requires c =
    let file = c.in_ok-file.file in
    let j = ap length (divided_joined file.count.entries file.bytes.now (cut_of file.count.entries c.in_ok-bodies.bodies) (sym c.in_ok-bodies.ensures)) in
    let l = length-drop (1 + 5 * file.count.entries) file.bytes.now in
    omega arith

-- the value by itself; its form follows for every file
pub returns-in_err-bodies : goal.returns-in_err-bodies
returns-in_err-bodies c =
    let v : outcome c.from_residual-in_err-bodies.result ≡ parsed c.args.file.now = search rules in
    record { value = v; form = formed c.args.file.now (outcome c.from_residual-in_err-bodies.result) v }

pub returns : goal.returns
returns c =
    let v : outcome c.check_bodies.result ≡ parsed c.args.file.now = search rules in
    record { value = v; form = formed c.args.file.now (outcome c.check_bodies.result) v }
