-- A thread's program: hex 50 and an element for a push, hex 44 for a pop, one operation after another.
use Rattle.std.specs.Prelude.{ℕ, zero, suc, ◌+◌, ◌-◌, cond, List, [], ◌∷◌, length, Ok, Err, Result, ◌==◌}
use Rattle.runfile.specs.declared.operation.Operation.{Operation}
use Rattle.runfile.specs.declared.operation.Operation.TheVariants.{Push, Pop}
use Rattle.runfile.specs.Chains.{chain}
use Rattle.runfile.specs.Elements.{Format, element}
use Rattle.runfile.specs.Faults.{FileFault, body}

-- how many bytes an operation has in a program whose elements are `width` bytes wide
abbrev pub wide : {T : Type 0} → ℕ → Operation T → ℕ
wide width (Push e) = 1 + width
wide width Pop = 1

-- the operation at the start of `program`, which begins at `place`
abbrev pub operation : {T : Type 0} → Format T → List ℕ → ℕ → Result (Operation T) FileFault
operation form [] place = Err (body place)
operation form (code ∷ bytes) place =
    cond (code == 0x50) (chain (element form bytes place) (λ e. Ok (Push e)))
    (cond (code == 0x44) (Ok Pop) (Err (body place)))

-- all operations of a program, or the fault of the first wrong one;
-- the first `skip` bytes still belong to the operation before
abbrev pub operations : {T : Type 0} → Format T → ℕ → List ℕ → ℕ → Result (List (Operation T)) FileFault
operations form skip [] place = Ok []
operations form (suc skip) (b ∷ bytes) place = operations form skip bytes (place + 1)
operations form zero (b ∷ bytes) place =
    chain (operation form (b ∷ bytes) place)
    (λ o. chain (operations form (wide form.width o - 1) bytes (place + 1)) (λ os. Ok (o ∷ os)))

-- the operations of a program up to its first wrong one: all of them, in a file that is accepted
abbrev pub first_then : {A B : Type 0} → Result A FileFault → (A → List B) → List B
first_then (Ok a) next = next a
first_then (Err f) next = []

abbrev pub operations_of : {T : Type 0} → Format T → ℕ → List ℕ → List (Operation T)
operations_of form skip [] = []
operations_of form (suc skip) (b ∷ bytes) = operations_of form skip bytes
operations_of form zero (b ∷ bytes) =
    first_then (operation form (b ∷ bytes) 0) (λ o. o ∷ operations_of form (wide form.width o - 1) bytes)

-- the same operations one by one, and behind them the fault of the first wrong one
abbrev pub reading_then : {T : Type 0} → Result (Operation T) FileFault → (Operation T → List (Result (Operation T) FileFault)) → List (Result (Operation T) FileFault)
reading_then (Ok o) next = Ok o ∷ next o
reading_then (Err f) next = Err f ∷ []

abbrev pub readings : {T : Type 0} → Format T → ℕ → List ℕ → ℕ → List (Result (Operation T) FileFault)
readings form skip [] place = []
readings form (suc skip) (b ∷ bytes) place = readings form skip bytes (place + 1)
readings form zero (b ∷ bytes) place =
    reading_then (operation form (b ∷ bytes) place) (λ o. readings form (wide form.width o - 1) bytes (place + 1))

-- programs one after another: where they end, or the fault of the first wrong operation
abbrev pub programmed : {T : Type 0} → Format T → List (List ℕ) → ℕ → Result ℕ FileFault
programmed form [] place = Ok place
programmed form (p ∷ ps) place =
    chain (operations form 0 p place) (λ _. programmed form ps (place + length p))
