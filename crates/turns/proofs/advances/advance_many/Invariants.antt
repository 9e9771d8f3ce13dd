use Rattle.std.proofs.Common.{◌≡◌}
use Rattle.turns.specs.Advances.{advanced_times}
use Rattle.turns.proofs.advances.advance_many.Given as goal

-- as many advances as turns of the loop
abbrev pub invariant-loop : goal.invariant-loop
invariant-loop g l = g.B.Bank.row l.bank ≡ advanced_times g.B.Bank.CYCLE (g.B.Bank.row l.initial.bank) l.slot l.counter
