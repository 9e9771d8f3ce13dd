use Rattle.std.proofs.Common.{◌^◌, ◌<◌, [], decimal, arith}
use Rattle.runfile.proofs.ElementLaws.{push_fits, length_decimal_32}
use Rattle.runfile.proofs.number.NumberElement.text.Goals as goal

pub returns : goal.returns
returns c =
    let v : c.args.self.now.value < 2 ^ 32 = omega arith in
    let w = length_decimal_32 c.args.self.now.value v in
    push_fits _ _ [] (decimal c.args.self.now.value) c.new-text.ensures c.push.ensures.after (omega arith)
