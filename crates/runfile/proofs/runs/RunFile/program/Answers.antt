use Rattle.std.proofs.Common.{◌≡◌, ◌+◌, Some, ap, arith}
use Rattle.std.proofs.lemmas.Bool.{lt-ltb}
use Rattle.runfile.proofs.CutLaws.{cut_body_at}
use Rattle.runfile.proofs.runs.RunFile.program.Goals as goal

pub returns-then-thread-self : goal.returns-then-thread-self
returns-then-thread-self c =
    rw (lt-ltb c.args.thread c.args.self.now.header.threads c.if-thread-self.true)
    (ap Some (cut_body_at c.args.self.now.bodies c.args.self.now.header.threads _ (1 + c.args.thread) c.body.result.now (omega arith) (omega arith) c.body.ensures))
