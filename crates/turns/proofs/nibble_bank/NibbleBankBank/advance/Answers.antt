use Rattle.std.proofs.Common.{arith}
use Rattle.std.proofs.lemmas.Bool.Decides.{nat_tests}
use Rattle.turns.specs.Nibbles.{nibble_advanced}
use Rattle.turns.proofs.nibble_bank.NibbleBankBank.advance.Goals as goal
use Rattle.turns.proofs.nibble_bank.NibbleBankBank.advance.Goals.{then-slot-eq0, else-slot-eq0}

pub returns : goal.returns
returns c =
    let e = nibble_advanced c.args.self.now.bytes c.args.slot c.if-slot-ge-SLOTS.false in
    elim c.if-slot-eq0.branch [ then-slot-eq0 w ↦ grind (arith, nat_tests) | else-slot-eq0 w ↦ grind (arith, nat_tests) ]
