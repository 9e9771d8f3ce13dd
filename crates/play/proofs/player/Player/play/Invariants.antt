use Rattle.std.proofs.Common.{◌≡◌, ◌+◌, drop}
use Rattle.runfile.specs.Files.{contents_of}
use Rattle.play.specs.Players.{Keeps, world_of}
use Rattle.play.specs.Plays.{played}
use Rattle.play.proofs.player.Player.play.Given as goal

-- what is still to come decides
abbrev pub invariant-loop-index : goal.invariant-loop-index
invariant-loop-index g l =
    Keeps l.initial.self l.self
    × (played g.E.Element.format g.B.Bank.CYCLE (contents_of l.initial.self.run.now) (world_of g.B.Bank.row l.initial.self) l.initial.self.begun l.schedule l.first
    ≡ played g.E.Element.format g.B.Bank.CYCLE (contents_of l.initial.self.run.now) (world_of g.B.Bank.row l.self) l.self.begun (drop l.index l.schedule) (l.first + l.index))
