-- The bytes that stand for kinds of elements and of banks, 1 and 2, and of bodies, 1 to 4, and no other.
use Rattle.std.specs.Prelude.{ℕ, Bool, false, cond, List, Some, None, codes, Option, ◌==◌}
use Rattle.runfile.specs.declared.kinds.ElementKind.{ElementKind}
use Rattle.runfile.specs.declared.kinds.ElementKind.TheVariants.{Number, Letter}
use Rattle.runfile.specs.declared.kinds.BankKind.{BankKind}
use Rattle.runfile.specs.declared.kinds.BankKind.TheVariants.{Word, Nibble}
use Rattle.runfile.specs.declared.kinds.BodyKind.{BodyKind}
use Rattle.runfile.specs.declared.kinds.BodyKind.TheVariants.{Shape, Program, LeadIn, Main}

abbrev pub element_kind : ℕ → Option ElementKind
element_kind code = cond (code == 1) (Some Number) (cond (code == 2) (Some Letter) None)

abbrev pub bank_kind : ℕ → Option BankKind
bank_kind code = cond (code == 1) (Some Word) (cond (code == 2) (Some Nibble) None)

-- the words that users are told
abbrev pub element_word : ElementKind → List ℕ
element_word Number = codes "number"
element_word Letter = codes "letter"

abbrev pub bank_word : BankKind → List ℕ
bank_word Word = codes "word"
bank_word Nibble = codes "nibble"

abbrev pub body_kind : ℕ → Option BodyKind
body_kind code =
    cond (code == 1) (Some Shape)
    (cond (code == 2) (Some Program)
    (cond (code == 3) (Some LeadIn)
    (cond (code == 4) (Some Main)
    None)))

abbrev pub body_code : BodyKind → ℕ
body_code Shape = 1
body_code Program = 2
body_code LeadIn = 3
body_code Main = 4

abbrev pub is_kind : Option BodyKind → BodyKind → Bool
is_kind (Some kind) expected = body_code kind == body_code expected
is_kind None expected = false
