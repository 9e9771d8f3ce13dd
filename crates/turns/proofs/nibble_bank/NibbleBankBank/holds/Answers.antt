use Rattle.std.proofs.Common.{arith}
use Rattle.std.proofs.lemmas.Bool.Decides.{nat_tests}
use Rattle.turns.specs.Nibbles.{nibble_holding}
use Rattle.turns.proofs.nibble_bank.NibbleBankBank.holds.Goals as goal
use Rattle.turns.proofs.nibble_bank.NibbleBankBank.holds.Goals.{then-slot-eq0, else-slot-eq0}

pub returns : goal.returns
returns c =
    let e = nibble_holding c.args.self.now.bytes c.args.slot c.args.turn c.if-slot-ge-SLOTS.false in
    elim c.if-slot-eq0.branch [ then-slot-eq0 w ↦ grind (arith, nat_tests) | else-slot-eq0 w ↦ grind (arith, nat_tests) ]
