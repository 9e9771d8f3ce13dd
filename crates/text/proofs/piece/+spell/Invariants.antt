use Rattle.text.proofs.piece.+spell.Given as goal

abbrev pub decreases-spell : goal.decreases-spell
decreases-spell l = l.n
