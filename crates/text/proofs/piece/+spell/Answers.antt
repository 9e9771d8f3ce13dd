use Rattle.std.proofs.Common.{refl, arith, rules}
use Rattle.std.proofs.lemmas.Fmt.{decimal_nonempty}
use Rattle.text.proofs.Figures.{length_step, spell_one, spell_more}
use Rattle.text.proofs.piece.+spell.Goals as goal

pub overflow_sub-last : goal.overflow_sub-last
overflow_sub-last t c = let p = decimal_nonempty c.args.n (omega arith) in omega arith

pub bounds-place-last : goal.bounds-place-last
bounds-place-last t c = let p = decimal_nonempty c.args.n (omega arith) in omega arith

pub spell-requires : goal.spell-requires
spell-requires t c = search (rules, length_step)

pub returns-then-n-ge10 : goal.returns-then-n-ge10
returns-then-n-ge10 t c = spell_more c.args.place.now c.spell.new.place c.args.n _ _ (omega arith) (omega arith) (search rules) refl (omega arith) c.spell.ensures

pub returns-else-n-ge10 : goal.returns-else-n-ge10
returns-else-n-ge10 t c = search (rules, spell_one)
