use Rattle.std.proofs.Common.{◌^◌, arith, rules}
use Rattle.text.proofs.Figures.{length_below, length_one, length_step}
use Rattle.text.proofs.piece.+decimal_width.Goals as goal

pub returns-then-n-lt10 : goal.returns-then-n-lt10
returns-then-n-lt10 t c = search (rules, length_one)

pub returns-else-n-lt10 : goal.returns-else-n-lt10
returns-else-n-lt10 t c =
    let s = length_step c.args.n (omega arith) (omega arith) in
    let b = length_below 20 (2 ^ 64) c.args.n tt tt tt (omega arith) in
    search rules
