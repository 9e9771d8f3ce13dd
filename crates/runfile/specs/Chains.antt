-- One reading after another: the first fault is the fault of all.
use Rattle.std.specs.Prelude.{Ok, Err, Result}
use Rattle.runfile.specs.Faults.{FileFault}

abbrev pub chain : {A B : Type 0} → Result A FileFault → (A → Result B FileFault) → Result B FileFault
chain (Ok a) next = next a
chain (Err f) next = Err f

-- whether a reading comes to its end, whatever it gives
abbrev pub sound : {A : Type 0} → Result A FileFault → Result (Unit {0}) FileFault
sound (Ok a) = Ok tt
sound (Err f) = Err f
