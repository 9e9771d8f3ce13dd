use Rattle.std.proofs.Common.{rules}
use Rattle.machine.proofs.Lists.{lowest_found}
use Rattle.machine.proofs.takes.early_popper.Goals as goal

pub returns : goal.returns
returns c = rw (lowest_found) (search rules)
