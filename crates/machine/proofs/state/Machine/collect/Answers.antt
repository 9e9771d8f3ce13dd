use Rattle.std.proofs.Common.{rules}
use Rattle.machine.proofs.Lists.{at_read}
use Rattle.machine.proofs.state.Machine.collect.Goals as goal

pub returns-clause-answer : goal.returns-clause-answer
returns-clause-answer g c = search (rules, at_read)
