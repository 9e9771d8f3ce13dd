-- A schedule is right when each of its bytes is below the number of threads; the first other byte is the fault.
use Rattle.std.specs.Prelude.{ℕ, ◌+◌, cond, List, [], ◌∷◌, Ok, Err, Result, nat_lt}
use Rattle.runfile.specs.Faults.{FileFault, body}

abbrev pub scheduled : ℕ → List ℕ → ℕ → Result (Unit {0}) FileFault
scheduled threads [] place = Ok tt
scheduled threads (t ∷ ts) place = cond (nat_lt t threads) (scheduled threads ts (place + 1)) (Err (body place))
