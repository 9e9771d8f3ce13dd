use Rattle.std.proofs.Common.{rules}
use Rattle.runfile.specs.Files.{contents_of}
use Rattle.play.proofs.Wholes.{reached}
use Rattle.play.proofs.playing.play_run.Goals as goal

pub returns-clause-reached : goal.returns-clause-reached
returns-clause-reached g c =
    let m = c.args.machine.now in
    let o = c.open.new in
    reached g.E.Element.format g.B.Bank.CYCLE (contents_of c.args.run.now) c.args.shape (g.B.Bank.row m.bank) m.table c.args.cells.now c.args.hands.now c.args.entries.now (c.open.result, g.B.Bank.row o.self.bank, o.self.table, o.cells) c.open.ensures.answer c.open.ensures.law _ _ (search rules)
