use Rattle.std.proofs.Common.{◌^◌, ◌<◌, arith}
use Rattle.runfile.proofs.ElementLaws.{letter_pieces}
use Rattle.runfile.proofs.letter.LetterElement.text.Goals as goal

pub returns : goal.returns
returns c =
    let s : c.args.self.now.sender < 256 = omega arith in
    let n : c.args.self.now.serial < 2 ^ 32 = omega arith in
    letter_pieces c.args.self.now _ _ _ _ _ _ _ s n c.new-text.ensures c.push.ensures.after c.as_slice.ensures c.push-2.ensures.after c.push-3.ensures.after c.mark.ensures c.push-4.ensures.after
