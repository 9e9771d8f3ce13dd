-- Elements in files: each kind has a width in bytes, a rule for lawful bytes, a reading and a text.
use Rattle.std.specs.Prelude.{ℕ, ◌+◌, ◌*◌, Bool, true, cond, List, [], ◌++◌, length, take, Ok, Err, codes, decimal, Result, ◌==◌, nat_lt, slice_index}
use Rattle.runfile.specs.declared.kinds.UnknownKind.{UnknownKind}
use Rattle.runfile.specs.declared.number.Number.{Number}
use Rattle.runfile.specs.declared.letter.Letter.{Letter}
use Rattle.runfile.specs.declared.letter.Tone.{Tone}
use Rattle.runfile.specs.declared.letter.Tone.TheVariants.{Plain, Urgent}
use Rattle.runfile.specs.Faults.{FileFault, body}

-- four bytes as a number, the most significant first
abbrev pub big_endian : ℕ → ℕ → ℕ → ℕ → ℕ
big_endian a b c d = a * 16777216 + b * 65536 + c * 256 + d

-- how a kind of elements stands in files: how many bytes an element has, which bytes are lawful, and what they mean
pub record Format (T : Type 0) : Type 0 where
  pub width : ℕ
  pub lawful : List ℕ → Bool
  pub reading : List ℕ → T

-- the element whose bytes stand first in `bytes`, for an operation that begins at `place`:
-- where bytes are missing or unlawful, the operation's place is the fault's
abbrev pub element : {T : Type 0} → Format T → List ℕ → ℕ → Result T FileFault
element form bytes place =
    cond (nat_lt (length bytes) form.width) (Err (body place))
    (cond (form.lawful (take form.width bytes)) (Ok (form.reading (take form.width bytes))) (Err (body place)))

-- a number: four bytes, all of them lawful
abbrev pub number_format : Format Number
number_format = record {
  width = 4;
  lawful = λ xs. true;
  reading = λ xs. record { value = big_endian (slice_index xs 0) (slice_index xs 1) (slice_index xs 2) (slice_index xs 3) };
}

-- printed in decimal
abbrev pub number_text : Number → List ℕ
number_text n = decimal n.value

-- a letter: a sender, a tone that is 0 (plain) or 1 (urgent), and four bytes of a serial number
abbrev pub tone : ℕ → Tone
tone b = cond (b == 0) Plain Urgent

abbrev pub tone_read : ℕ → Result Tone UnknownKind
tone_read b = cond (nat_lt b 2) (Ok (tone b)) (Err (record { 0 = b }))

abbrev pub letter_format : Format Letter
letter_format = record {
  width = 6;
  lawful = λ xs. nat_lt (slice_index xs 1) 2;
  reading = λ xs. record {
    sender = slice_index xs 0;
    tone = tone (slice_index xs 1);
    serial = big_endian (slice_index xs 2) (slice_index xs 3) (slice_index xs 4) (slice_index xs 5);
  };
}

-- printed as sender, a dot, serial, and "!" when urgent
abbrev pub mark : Tone → List ℕ
mark Plain = []
mark Urgent = codes "!"

abbrev pub letter_text : Letter → List ℕ
letter_text l = decimal l.sender ++ (codes "." ++ (decimal l.serial ++ mark l.tone))
