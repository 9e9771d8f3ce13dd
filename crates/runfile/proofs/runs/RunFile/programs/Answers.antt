use Rattle.std.proofs.Common.{◌≡◌, length, drop, arith, length-drop}
use Rattle.runfile.proofs.CutLaws.{run_programs}
use Rattle.runfile.proofs.runs.RunFile.programs.Goals as goal

pub returns : goal.returns
returns c =
    let long = c.args.self.now.bodies.long in
    let behind : length (drop 1 c.args.self.now.bodies.cuts) ≡ 66 = simp length-drop (omega arith) in
    let few = c.min-threads.ensures in
    run_programs c.args.self.now _ (omega arith)
