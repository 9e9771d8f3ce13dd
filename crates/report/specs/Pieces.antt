-- A piece in the rest of an area, of which so much is written already.
use Rattle.std.specs.Prelude.{ℕ, ◌+◌, Bool, cond, List, length, Ok, Err, Result, nat_lt}
use Rattle.text.specs.Areas.{put}
use Rattle.text.specs.declared.refusal.AreaRefusal.{AreaRefusal}
use Rattle.text.specs.declared.refusal.AreaRefusal.TheVariants.{ShortArea}

-- whether the piece is longer than the rest of the area; where more is written than the area has, there is no rest
abbrev pub overlong : List ℕ → ℕ → List ℕ → Bool
overlong area written piece = nat_lt (length area) (written + length piece)

-- the area afterwards: the piece whole from `written` on, or the area as it was
abbrev pub left_at : List ℕ → ℕ → List ℕ → List ℕ
left_at area written piece = cond (overlong area written piece) area (put area written piece)

-- the answer: how much is written then, or short area
abbrev pub wrote_at : List ℕ → ℕ → List ℕ → Result ℕ AreaRefusal
wrote_at area written piece = cond (overlong area written piece) (Err ShortArea) (Ok (written + length piece))
