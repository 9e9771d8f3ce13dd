-- The number by which users are told why no shape was made: 9, bad shape.
use Rattle.std.specs.Prelude.{ℕ}
use Rattle.turns.specs.declared.refusal.ShapeRefusal.{ShapeRefusal}
use Rattle.turns.specs.declared.refusal.ShapeRefusal.TheVariants.{BadShape}

abbrev pub number_of : ShapeRefusal → ℕ
number_of BadShape = 9
