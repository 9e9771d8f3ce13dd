use Rattle.std.proofs.Common.{refl}
use Rattle.law.proofs.Truths.{opening_law}
use Rattle.law.proofs.law_of_opening.Goals as goal

pub returns : goal.returns
returns g c = record { value = refl; law = opening_law _ }
