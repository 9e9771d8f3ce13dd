-- What every writer answers, and what it leaves in the area that it was handed.
use Rattle.std.specs.Prelude.{ℕ, ◌+◌, cond, List, ◌++◌, length, take, drop, Ok, Err, Result, nat_lt}
use Rattle.text.specs.declared.refusal.AreaRefusal.{AreaRefusal}
use Rattle.text.specs.declared.refusal.AreaRefusal.TheVariants.{ShortArea}

-- the area with the piece standing from `at` on, over what stood there
abbrev pub put : List ℕ → ℕ → List ℕ → List ℕ
put area at piece = take at area ++ (piece ++ drop (at + length piece) area)

-- the answer: the piece's length, or short area exactly when the piece is longer than the area
abbrev pub wrote : List ℕ → List ℕ → Result ℕ AreaRefusal
wrote area piece = cond (nat_lt (length area) (length piece)) (Err ShortArea) (Ok (length piece))

-- the area afterwards: the piece whole at its start, or the area as it was when the piece is longer
abbrev pub left : List ℕ → List ℕ → List ℕ
left area piece = cond (nat_lt (length area) (length piece)) area (put area 0 piece)
