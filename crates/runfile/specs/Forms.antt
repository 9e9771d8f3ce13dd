-- What a run file is, in the words of its description: a table, then the bodies that it speaks of, and nothing left over.
use Rattle.std.specs.Prelude.{◌≡◌, ℕ, ◌+◌, ◌<◌, ◌≤◌, true, List, [], ◌∷◌, ◌++◌, length, Some, Ok, Result, MatchResult, slice_index_or}
use Rattle.std.specs.List.{flat_map, AllByRecursion}
use Rattle.runfile.specs.Faults.{FileFault}
use Rattle.runfile.specs.declared.kinds.ElementKind.{ElementKind}
use Rattle.runfile.specs.declared.kinds.ElementKind.TheVariants.{Number, Letter}
use Rattle.runfile.specs.declared.kinds.BankKind.{BankKind}
use Rattle.runfile.specs.declared.kinds.BankKind.TheVariants.{Word, Nibble}
use Rattle.runfile.specs.declared.table.Entry.{Entry}
use Rattle.runfile.specs.Elements.{Format, number_format, letter_format}
use Rattle.runfile.specs.Files.{Contents, programs_in, lead_in_in, main_in}
use Rattle.runfile.specs.Programs.{operations, operations_of}
use Rattle.runfile.specs.Tables.{entries, expected}

-- the entries of a table for these bodies: each has the kind of its place and the body's length
abbrev pub entries_for : ℕ → ℕ → List (List ℕ) → List Entry
entries_for count i [] = []
entries_for count i (b ∷ bs) = record { kind = Some (expected count i); size = length b } ∷ entries_for count (i + 1) bs

abbrev pub element_code : ElementKind → ℕ
element_code Number = 1
element_code Letter = 2

abbrev pub bank_code : BankKind → ℕ
bank_code Word = 1
bank_code Nibble = 2

-- a program of elements of one kind: whole operations, one after another
pub data Program {T : Type 0} (form : Format T) : List ℕ → Type 0 where
  done : Program form []
  pop : {rest : List ℕ} → Program form rest → Program form (0x44 ∷ rest)
  push : {bytes rest : List ℕ} → length bytes ≡ form.width → form.lawful bytes ≡ true → Program form rest → Program form (0x50 ∷ (bytes ++ rest))

abbrev pub Programs : ElementKind → List (List ℕ) → Type 0
Programs Number ps = AllByRecursion (Program number_format) ps
Programs Letter ps = AllByRecursion (Program letter_format) ps

-- read one after another, the operations of each program are all of it, wherever it stands
abbrev pub Read : ElementKind → List (List ℕ) → Type 0
Read Number ps = AllByRecursion (λ p. (place : ℕ) → operations number_format 0 p place ≡ Ok (operations_of number_format 0 p)) ps
Read Letter ps = AllByRecursion (λ p. (place : ℕ) → operations letter_format 0 p place ≡ Ok (operations_of letter_format 0 p)) ps

-- a file that holds these contents
pub record Described (file : List ℕ) (c : Contents) : Type 0 where
  -- at most 49,152 bytes
  pub short : length file ≤ 49152
  -- 1 to 64 slots and threads
  pub slots : (1 ≤ c.header.slots) × (c.header.slots ≤ 64)
  pub threads : (1 ≤ c.header.threads) × (c.header.threads ≤ 64)
  -- the count of table entries, the table, the bodies, and no byte more
  pub table : List ℕ
  pub whole : file ≡ (c.header.threads + 3) ∷ (table ++ flat_map (λ b. b) c.bodies)
  pub listed : entries table ≡ entries_for (c.header.threads + 3) 0 c.bodies
  -- a shape, a program for each thread, and two schedules
  pub count : length c.bodies ≡ c.header.threads + 3
  pub shape : slice_index_or c.bodies 0 [] ≡ c.header.slots ∷ c.header.threads ∷ element_code c.header.element ∷ bank_code c.header.bank ∷ []
  pub programs : Programs c.header.element (programs_in c.header.threads c.bodies)
  pub operations : Read c.header.element (programs_in c.header.threads c.bodies)
  pub lead_in : AllByRecursion (λ t. t < c.header.threads) (lead_in_in c.header.threads c.bodies)
  pub main : AllByRecursion (λ t. t < c.header.threads) (main_in c.header.threads c.bodies)

-- what is accepted has exactly the described form, and a refusal's place lies within the file's length
abbrev pub Formed : List ℕ → Result Contents FileFault → Type 0
Formed file r = MatchResult r (λ c. Described file c) (λ f. f.place ≤ length file)
