use Rattle.std.proofs.Common.{rules}
use Rattle.machine.proofs.Lists.{waiting_counted}
use Rattle.machine.proofs.state.Machine.waiting.Goals as goal

pub returns : goal.returns
returns g c = rw (waiting_counted) (search rules)
