use Rattle.std.proofs.Common.{refl, rules}
use Rattle.runfile.specs.Files.{contents_of}
use Rattle.play.specs.Players.{world_of}
use Rattle.play.proofs.Halves.{ended_in_first, went_on}
use Rattle.play.proofs.player.Player.play_both.Goals as goal

pub returns-in_err-play-clause-answer : goal.returns-in_err-play-clause-answer
returns-in_err-play-clause-answer g c = let p = c.args.self.now in ended_in_first g.E.Element.format g.B.Bank.CYCLE (contents_of p.run.now) (world_of g.B.Bank.row p) p.begun c.still_to_run-first.result.now _ (search rules) refl c.from_residual.result c.in_err-play.field-0.0 _ _ (search rules) c.in_err-play.ensures.answer

pub returns-clause-answer : goal.returns-clause-answer
returns-clause-answer g c =
    let p = c.args.self.now in
    let q = c.play.new.self in
    went_on g.E.Element.format g.B.Bank.CYCLE (contents_of p.run.now) (world_of g.B.Bank.row p) p.begun c.still_to_run-first.result.now c.still_to_run.result.now (search rules) (search rules) (world_of g.B.Bank.row q) q.begun _ c.in_ok-play.ensures.answer (search rules)
