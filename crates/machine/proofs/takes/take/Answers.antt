use Rattle.std.proofs.Common.{rules}
use Rattle.machine.proofs.Lists.{at_read}
use Rattle.machine.proofs.takes.take.Goals as goal

pub returns-clause-entries : goal.returns-clause-entries
returns-clause-entries g c = search (rules, at_read)
