use Rattle.std.proofs.Common.{rules}
use Rattle.turns.proofs.Turning.{advances_count}
use Rattle.turns.proofs.advances.advance_many.Goals as goal

pub returns : goal.returns
returns g c = search (rules, advances_count)
