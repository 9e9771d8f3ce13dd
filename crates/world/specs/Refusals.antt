-- The numbers and the words of the refusals. Of those that a call could give, the lower number wins.
use Rattle.std.specs.Prelude.{ℕ, List, codes}
use Rattle.world.specs.declared.refusal.Refusal.{Refusal}
use Rattle.world.specs.declared.refusal.Refusal.TheVariants.{Stranger, Misfit, Busy, NoWork, Spent, RecordFull, Unfinished, ShortCycle, BadShape}

abbrev pub number_of : Refusal → ℕ
number_of Stranger = 1
number_of Misfit = 2
number_of Busy = 3
number_of NoWork = 4
number_of Spent = 5
number_of RecordFull = 6
number_of Unfinished = 7
number_of ShortCycle = 8
number_of BadShape = 9

abbrev pub word_of : Refusal → List ℕ
word_of Stranger = codes "stranger"
word_of Misfit = codes "misfit"
word_of Busy = codes "busy"
word_of NoWork = codes "no work"
word_of Spent = codes "spent"
word_of RecordFull = codes "record full"
word_of Unfinished = codes "unfinished"
word_of ShortCycle = codes "short cycle"
word_of BadShape = codes "bad shape"
