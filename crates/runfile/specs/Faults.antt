-- The four refusals of a run file, by the numbers that users are told, and faults as a refusal at a place.
use Rattle.std.specs.Prelude.{ℕ}
use Rattle.runfile.specs.declared.fault.FileRefusal.{FileRefusal}
use Rattle.runfile.specs.declared.fault.FileRefusal.TheVariants.{Cut, Contents, Body, Tail}
use Rattle.faults.specs.declared.fault.Fault.{Fault}

-- a refusal and its place in the file
abbrev pub FileFault : Type 0
FileFault = Fault FileRefusal

abbrev pub number_of : FileRefusal → ℕ
number_of Cut = 10
number_of Contents = 11
number_of Body = 12
number_of Tail = 13

-- the file ends too early
abbrev pub cut : ℕ → FileFault
cut p = record { refusal = Cut; place = p }

-- the table of contents is wrong
abbrev pub contents : ℕ → FileFault
contents p = record { refusal = Contents; place = p }

-- a body is wrong
abbrev pub body : ℕ → FileFault
body p = record { refusal = Body; place = p }

-- bytes are left over
abbrev pub tail : ℕ → FileFault
tail p = record { refusal = Tail; place = p }
