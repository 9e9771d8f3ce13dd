use Rattle.std.proofs.Common.{refl, arith}
use Rattle.turns.proofs.Turning.{zeros}
use Rattle.turns.proofs.word_bank.WordBank.new.Goals as goal

pub invariant_of-result : goal.invariant_of-result
invariant_of-result c = record { long = refl; clean = λ slot h. omega (arith, zeros 64 slot) }
