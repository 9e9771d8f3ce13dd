-- What a short text holds, and how it grows by a piece.
use Rattle.std.specs.Prelude.{ℕ, ◌+◌, Bool, cond, List, ◌++◌, length, take, Ok, Err, Result, nat_lt}
use Rattle.text.specs.declared.holder.Text.{Text}
use Rattle.text.specs.declared.refusal.AreaRefusal.{AreaRefusal}
use Rattle.text.specs.declared.refusal.AreaRefusal.TheVariants.{ShortArea}

-- the text: the used bytes
abbrev pub text_of : Text → List ℕ
text_of t = take t.used t.bytes

-- whether the text with the piece behind it would be longer than 32 bytes
abbrev pub overlong : List ℕ → List ℕ → Bool
overlong text piece = nat_lt 32 (length text + length piece)

-- the answer to a piece: short area exactly when it does not fit behind the text
abbrev pub grew : List ℕ → List ℕ → Result (Unit {0}) AreaRefusal
grew text piece = cond (overlong text piece) (Err ShortArea) (Ok tt)

-- the text afterwards: the piece whole behind it, or the text as it was when the piece does not fit
abbrev pub grown : List ℕ → List ℕ → List ℕ
grown text piece = cond (overlong text piece) text (text ++ piece)
