-- What the lister prints: the parts of a run file a line each, words and numbers apart by a space, every number in decimal.
use Rattle.std.specs.Prelude.{ℕ, ◌+◌, List, [], ◌∷◌, ◌++◌, Ok, Err, codes, decimal, Result}
use Rattle.std.specs.List.{flat_map}
use Rattle.runfile.specs.declared.kinds.ElementKind.{ElementKind}
use Rattle.runfile.specs.declared.kinds.ElementKind.TheVariants.{Number, Letter}
use Rattle.runfile.specs.declared.operation.Operation.{Operation}
use Rattle.runfile.specs.declared.operation.Operation.TheVariants.{Push, Pop}
use Rattle.runfile.specs.Elements.{Format, number_format, number_text, letter_format, letter_text}
use Rattle.runfile.specs.Faults.{FileFault, number_of}
use Rattle.runfile.specs.Files.{Contents, programs_in, lead_in_in, main_in}
use Rattle.runfile.specs.declared.header.Header.{Header}
use Rattle.runfile.specs.Kinds.{element_word, bank_word}
use Rattle.runfile.specs.Programs.{operations_of}

-- every line ends in a line feed
abbrev pub line_feed : List ℕ
line_feed = 10 ∷ []

abbrev pub shape_line : ℕ → ℕ → List ℕ
shape_line slots threads = codes "slots " ++ (decimal slots ++ (codes " threads " ++ (decimal threads ++ line_feed)))

abbrev pub kind_line : List ℕ → List ℕ → List ℕ
kind_line label word = label ++ (word ++ line_feed)

-- the shape, the kind of elements, and the kind of bank
abbrev pub head_lines : Header → List ℕ
head_lines h =
    shape_line h.slots h.threads
    ++ (kind_line (codes "element ") (element_word h.element) ++ kind_line (codes "bank ") (bank_word h.bank))

-- an operation: " push" with its element's text, or " pop"
abbrev pub operation_text : {T : Type 0} → (T → List ℕ) → Operation T → List ℕ
operation_text printed (Push e) = codes " push " ++ printed e
operation_text printed Pop = codes " pop"

-- a thread's program
abbrev pub program_line : {T : Type 0} → (T → List ℕ) → ℕ → List (Operation T) → List ℕ
program_line printed thread os = codes "program " ++ (decimal thread ++ (flat_map (operation_text printed) os ++ line_feed))

-- the programs from thread `k` on
abbrev pub program_lines : {T : Type 0} → Format T → (T → List ℕ) → ℕ → List (List ℕ) → List ℕ
program_lines form printed k [] = []
program_lines form printed k (p ∷ ps) =
    program_line printed k (operations_of form 0 p) ++ program_lines form printed (k + 1) ps

abbrev pub programs_text : ElementKind → List (List ℕ) → List ℕ
programs_text Number ps = program_lines number_format number_text 0 ps
programs_text Letter ps = program_lines letter_format letter_text 0 ps

-- a schedule: its word, and its threads
abbrev pub thread_text : ℕ → List ℕ
thread_text t = codes " " ++ decimal t

abbrev pub schedule_line : List ℕ → List ℕ → List ℕ
schedule_line word ts = word ++ (flat_map thread_text ts ++ line_feed)

-- all of a file that is accepted
abbrev pub contents_text : Contents → List ℕ
contents_text c =
    head_lines c.header
    ++ (programs_text c.header.element (programs_in c.header.threads c.bodies)
    ++ (schedule_line (codes "lead-in") (lead_in_in c.header.threads c.bodies)
    ++ schedule_line (codes "main") (main_in c.header.threads c.bodies)))

-- the line of a file that is refused
abbrev pub refusal_line : FileFault → List ℕ
refusal_line f = codes "refused file " ++ (decimal (number_of f.refusal) ++ (codes " " ++ (decimal f.place ++ line_feed)))

abbrev pub listed : Result Contents FileFault → List ℕ
listed (Ok c) = contents_text c
listed (Err f) = refusal_line f
