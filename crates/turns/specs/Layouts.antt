-- How the two banks lay their rows out, and how long their cycles are.
use Rattle.std.specs.Prelude.{ℕ, ◌/◌, ◌%◌, List, [], ◌∷◌, map}

-- the word bank's turns have 26 bits
abbrev pub word_cycle : ℕ
word_cycle = 67108864

-- the turn of a word: its 26 bits above the low six
abbrev pub word_turn : ℕ → ℕ
word_turn word = word / 64 % word_cycle

-- the row of a bank of words: a word for each slot
abbrev pub word_turns : List ℕ → List ℕ
word_turns words = map word_turn words

-- the nibble bank's turns have four bits
abbrev pub nibble_cycle : ℕ
nibble_cycle = 16

-- the row of a bank of bytes: two slots to a byte, the even one in its low four bits, the odd one in the four above
abbrev pub nibble_turns : List ℕ → List ℕ
nibble_turns [] = []
nibble_turns (byte ∷ bytes) = byte % nibble_cycle ∷ byte / 16 % nibble_cycle ∷ nibble_turns bytes
