-- Lines of a report: words and decimal numbers, with single spaces between them and a line feed at the end.
use Rattle.std.specs.Prelude.{ℕ, List, [], ◌∷◌, ◌++◌, codes, decimal}
use Rattle.history.specs.declared.entry.Entry.{Entry}
use Rattle.history.specs.declared.entry.Kind.{Kind}
use Rattle.history.specs.declared.entry.Kind.TheVariants.{Push, Pop}
use Rattle.report.specs.declared.line.Part.{Part}
use Rattle.report.specs.declared.line.Part.TheVariants.{Word, Number}

-- a part's bytes: a word as it stands, a number in decimal
abbrev pub bytes_of : Part → List ℕ
bytes_of (Word word) = word.now
bytes_of (Number n) = decimal n

-- what stands behind a part: a space (32) when others follow, and a line feed (10) behind the last
abbrev pub end_of : {X : Type 0} → List X → ℕ
end_of [] = 10
end_of (p ∷ ps) = 32

-- the parts of a line in order, each with what stands behind it
abbrev pub line_of : List (List ℕ) → List ℕ
line_of [] = []
line_of (p ∷ ps) = p ++ end_of ps ∷ line_of ps

-- the heading: how many slots and threads there are
abbrev pub heading_line : ℕ → ℕ → List ℕ
heading_line slots threads = line_of (codes "slots" ∷ decimal slots ∷ codes "threads" ∷ decimal threads ∷ [])

-- the word for what took effect
abbrev pub word_of : Kind → List ℕ
word_of Push = codes "push"
word_of Pop = codes "pop"

-- an entry: what took effect, by which thread, with which ticket, and the element's text
abbrev pub entry_line : Kind → ℕ → ℕ → List ℕ → List ℕ
entry_line kind thread ticket text = line_of (word_of kind ∷ decimal thread ∷ decimal ticket ∷ text ∷ [])

-- the closing line: the push and pop tickets handed out, and the threads that still wait
abbrev pub closing_line : ℕ → ℕ → ℕ → List ℕ
closing_line pushes pops waiting = line_of (codes "left" ∷ decimal pushes ∷ decimal pops ∷ decimal waiting ∷ [])

-- the line of an entry whose element prints as `text` says
abbrev pub line_for : {T : Type 0} → (T → List ℕ) → Entry T → List ℕ
line_for text entry = entry_line entry.kind entry.thread entry.ticket (text entry.element)
