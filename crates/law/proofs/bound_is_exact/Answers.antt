use Rattle.std.proofs.Common.{refl}
use Rattle.law.proofs.Bound.{bound_is_exact}
use Rattle.law.proofs.bound_is_exact.Goals as goal

pub returns : goal.returns
returns c = record { value = refl; bound = bound_is_exact }
