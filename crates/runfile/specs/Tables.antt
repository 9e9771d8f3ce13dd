-- The table of contents: a shape, then a program for each thread, a lead-in and a main schedule, each with its body's length.
use Rattle.std.specs.Prelude.{ℕ, ◌+◌, ◌-◌, ◌*◌, Bool, true, false, cond, List, [], ◌∷◌, map, length, take, drop, Ok, Err, Result, ◌==◌, nat_lt}
use Rattle.runfile.specs.declared.bodies.Bodies.{Bodies}
use Rattle.runfile.specs.declared.kinds.BodyKind.{BodyKind}
use Rattle.runfile.specs.declared.kinds.BodyKind.TheVariants.{Shape, Program, LeadIn, Main}
use Rattle.runfile.specs.declared.table.Entry.{Entry}
use Rattle.runfile.specs.Chains.{chain}
use Rattle.runfile.specs.Elements.{big_endian}
use Rattle.runfile.specs.Kinds.{body_kind, is_kind}
use Rattle.runfile.specs.Faults.{FileFault, cut, contents, tail}

-- the entries of a table: a kind byte, then the length in four bytes, the most significant first
abbrev pub entries : List ℕ → List Entry
entries [] = []
entries (k ∷ []) = []
entries (k ∷ a ∷ []) = []
entries (k ∷ a ∷ b ∷ []) = []
entries (k ∷ a ∷ b ∷ c ∷ []) = []
entries (k ∷ a ∷ b ∷ c ∷ d ∷ rest) = record { kind = body_kind k; size = big_endian a b c d } ∷ entries rest

-- the kind of entry `i` of `count`
abbrev pub expected : ℕ → ℕ → BodyKind
expected count i = cond (i == 0) Shape (cond (nat_lt i (count - 2)) Program (cond (i == count - 2) LeadIn Main))

-- an entry of another kind is wrong, and so is a shape that is not four bytes long
abbrev pub right : ℕ → ℕ → Entry → Bool
right count i e = cond (is_kind e.kind (expected count i)) (cond (i == 0) (e.size == 4) true) false

-- the entries from entry `i` on: the first wrong one is the fault; the table begins at byte 1
abbrev pub tabled : ℕ → ℕ → List Entry → Result (Unit {0}) FileFault
tabled count i [] = Ok tt
tabled count i (e ∷ es) = cond (right count i e) (tabled count (i + 1) es) (Err (contents (1 + 5 * i)))

-- the bodies, one after another, up to the file's end
abbrev pub bodied : List Entry → List ℕ → ℕ → Result (List (List ℕ)) FileFault
bodied [] bytes end = cond (length bytes == 0) (Ok []) (Err (tail (end - length bytes)))
bodied (e ∷ es) bytes end =
    cond (nat_lt (length bytes) e.size) (Err (cut end))
    (chain (bodied es (drop e.size bytes) end) (λ bs. Ok (take e.size bytes ∷ bs)))

-- the first `count` of the bodies that were cut
abbrev pub cut_of : ℕ → Bodies → List (List ℕ)
cut_of count b = take count (map (λ x. x.now) b.cuts)

abbrev pub parts : ℕ → Result Bodies FileFault → Result (List (List ℕ)) FileFault
parts count r = chain r (λ b. Ok (cut_of count b))
