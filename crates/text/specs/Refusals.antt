-- The number by which users are told why a piece was not written: 14, short area.
use Rattle.std.specs.Prelude.{ℕ}
use Rattle.text.specs.declared.refusal.AreaRefusal.{AreaRefusal}
use Rattle.text.specs.declared.refusal.AreaRefusal.TheVariants.{ShortArea}

abbrev pub number_of : AreaRefusal → ℕ
number_of ShortArea = 14
