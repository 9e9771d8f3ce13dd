use Rattle.std.proofs.Common.{◌≡◌, ◌*◌, ◌≤◌, length, rules}
use Rattle.law.proofs.Truths.{opening_law}
use Rattle.machine.proofs.state.Machine.open.Goals as goal

pub returns-clause-law : goal.returns-clause-law
returns-clause-law g c =
    let long : 2 * c.args.shape.threads ≤ g.B.Bank.CYCLE = search rules in
    let fit : length c.args.cells.now ≡ c.args.shape.slots = search rules in
    rw (c.clear.ensures, c.new_table-self.ensures, c.empty_cells.ensures) (opening_law _ g.B.Bank.CYCLE c.args.shape c.args.cells.now long fit)
