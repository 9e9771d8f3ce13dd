use Rattle.std.proofs.Common.{take, rules, tests}
use Rattle.std.proofs.lemmas.Iterator.{YieldsList-from_slice}
use Rattle.std.proofs.lemmas.Iterator.Search.{all_from_yields_List}
use Rattle.world.specs.Queries.{rests}
use Rattle.machine.proofs.Lists.{all_resting}
use Rattle.machine.proofs.state.Machine.at_rest.Goals as goal

pub returns : goal.returns
returns g c =
    let m = c.args.self.now in
    rw (all_resting) (all_from_yields_List (rests g.B.Bank.CYCLE (g.B.Bank.row m.bank) m.table.shape.slots) _ _ _ c.all.ensures.ran (YieldsList-from_slice (take m.table.shape.threads m.table.threads) cc) (λ x b q k. search (rules, tests)))
