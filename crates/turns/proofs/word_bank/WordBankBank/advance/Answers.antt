use Rattle.std.proofs.Common.{rules}
use Rattle.turns.specs.Words.{word_advanced}
use Rattle.turns.proofs.word_bank.WordBankBank.advance.Goals as goal

pub returns : goal.returns
returns c = search (rules, word_advanced)
