-- What a host is told of a file: the text of its report, or why there is none.
use Rattle.std.specs.Prelude.{◌≡◌, ℕ, ◌-◌, ◌≤◌, min, max, cond, List, ◌++◌, length, take, replicate, ℤ, pos, negsuc, Ok, Err, Result, nat_lt}
use Rattle.std.proofs.Common.{arith}
use Rattle.text.specs.Areas.{put}
use Rattle.text.specs.declared.refusal.AreaRefusal.TheVariants.{ShortArea}
use Rattle.turns.specs.declared.shape.Shape.{Shape}
use Rattle.turns.specs.Layouts.{nibble_cycle, word_cycle}
use Rattle.turns.specs.Rows.{cleared}
use Rattle.history.specs.declared.entry.Entry.{Entry}
use Rattle.history.specs.declared.entry.Kind.TheVariants.{Push}
use Rattle.runfile.specs.Faults.{FileFault}
use Rattle.runfile.specs.declared.kinds.BankKind.{BankKind}
use Rattle.runfile.specs.declared.kinds.BankKind.TheVariants.{Word, Nibble}
use Rattle.runfile.specs.declared.kinds.ElementKind.{ElementKind}
use Rattle.runfile.specs.declared.kinds.ElementKind.TheVariants.{Number, Letter}
use Rattle.runfile.specs.declared.letter.Letter.{Letter as LetterOf}
use Rattle.runfile.specs.declared.letter.Tone.TheVariants.{Plain}
use Rattle.runfile.specs.declared.number.Number.{Number as NumberOf}
use Rattle.runfile.specs.Elements.{Format, letter_format, letter_text, number_format, number_text}
use Rattle.runfile.specs.Files.{Contents, parsed}
use Rattle.report.specs.declared.counts.Counts.{Counts}
use Rattle.report.specs.Reports.{fitting, pieces_of, report_text, text_of}
use Rattle.world.specs.declared.cell.Cell.{Cell}
use Rattle.world.specs.declared.cell.Mark.TheVariants.{Empty}
use Rattle.world.specs.Calls.{new_table, new_world}
use Rattle.world.specs.Queries.{waiting_threads}
use Rattle.world.specs.Steps.{cell}
use Rattle.world.specs.Takes.{entry}
use Rattle.world.specs.Worlds.{World, entered, world}
use Rattle.host.specs.declared.fault.Fault.{Fault}
use Rattle.host.specs.declared.fault.Fault.TheVariants.{File, Machine, Report}
use Rattle.faults.specs.declared.fault.Fault.{Fault as FaultOf}
use Rattle.world.specs.declared.refusal.Refusal.{Refusal}
use Rattle.host.specs.Faults.{refusal_line}
use Rattle.play.specs.Plays.{Played}
use Rattle.play.specs.Runs.{Reached, ran}

-- P, D and W of a world
abbrev pub counts_in : {T : Type 0} → World T → Counts
counts_in w = record { pushes = w.table.pushes; pops = w.table.pops; waiting = waiting_threads w.table }

-- the report of a world, in pieces and as one text: the used entries, with P, D and W at the end
abbrev pub pieces_in : {T : Type 0} → (T → List ℕ) → Shape → World T → List (List ℕ)
pieces_in printed shape w = pieces_of printed shape (entered w) (counts_in w)

abbrev pub text_in : {T : Type 0} → (T → List ℕ) → Shape → World T → List ℕ
text_in printed shape w = report_text printed shape (entered w) (counts_in w)

-- a report that is longer than the room is refused, at the length of the pieces that fit
abbrev pub report_in : {T : Type 0} → (T → List ℕ) → Shape → ℕ → World T → Result (List ℕ) Fault
report_in printed shape room w =
    cond (nat_lt room (length (text_of (pieces_in printed shape w))))
    (Err (Report (record { refusal = ShortArea; place = length (text_of (fitting room (pieces_in printed shape w))) })))
    (Ok (text_in printed shape w))

-- what is told of a run that has ended
abbrev pub told_end : {T : Type 0} → (T → List ℕ) → Shape → ℕ → Result (Unit {0}) (FaultOf Refusal) → World T → Result (List ℕ) Fault
told_end printed shape room (Ok u) w = report_in printed shape room w
told_end printed shape room (Err f) w = Err (Machine f)

abbrev pub told_run : {T : Type 0} → (T → List ℕ) → Shape → ℕ → Played T → Result (List ℕ) Fault
told_run printed shape room p = told_end printed shape room p.0 p.1

-- the shape of a file; an accepted file has 1 to 64 slots and threads, so nothing is brought into bounds there
abbrev pub bounded : ℕ → ℕ
bounded n = max 1 (min n 64)

pub few_bounded : (n : ℕ) → (1 ≤ bounded n) × (bounded n ≤ 64)
few_bounded n = (omega arith, omega arith)

abbrev pub shape_of : Contents → Shape
shape_of c = record { slots = bounded c.header.slots; threads = bounded c.header.threads; few = (few_bounded c.header.slots, few_bounded c.header.threads) }

abbrev pub cycle_of : BankKind → ℕ
cycle_of Word = word_cycle
cycle_of Nibble = nibble_cycle

-- what is told of a file that is played in the first cells and hands of these buffers; what the machine was before its
-- opening is no matter
abbrev pub told_in : {T : Type 0} → Format T → (T → List ℕ) → ℕ → Contents → List (Cell T) → List T → List (Entry T) → Result (List ℕ) Fault
told_in form printed room c cells hands entries =
    told_run printed (shape_of c) room (ran form (cycle_of c.header.bank) c (shape_of c) (world cleared (new_table (shape_of c)) (take (shape_of c).slots cells) (take (shape_of c).threads hands) entries))

-- buffers that hold one element everywhere, before anything is pushed: cells and hands for any shape, and a record of 2,048
-- entries
abbrev pub told_as : {T : Type 0} → Format T → (T → List ℕ) → T → ℕ → Contents → Result (List ℕ) Fault
told_as form printed blank room c = told_in form printed room c (replicate 64 (cell blank Empty)) (replicate 64 blank) (replicate 2048 (entry Push 0 0 blank))

-- elements that hands and cells have before anything is pushed; no run prints them
abbrev pub blank_number : NumberOf
blank_number = record { value = 0 }

abbrev pub blank_letter : LetterOf
blank_letter = record { sender = 0; tone = Plain; serial = 0 }

abbrev pub told_kind : ElementKind → ℕ → Contents → Result (List ℕ) Fault
told_kind Number room c = told_as number_format number_text blank_number room c
told_kind Letter room c = told_as letter_format letter_text blank_letter room c

abbrev pub told_file : Result Contents FileFault → ℕ → Result (List ℕ) Fault
told_file (Ok c) room = told_kind c.header.element room c
told_file (Err f) room = Err (File f)

-- what is told of a file's bytes, to a host with so much room
abbrev pub told : List ℕ → ℕ → Result (List ℕ) Fault
told file room = told_file (parsed file) room

-- the answer and the area: a text at its start and zeroes behind it
abbrev pub shown : ℕ → List ℕ → ℤ × List ℕ
shown room text = (pos (length text), text ++ replicate (room - length text) 0)

-- a refusal's line in place of the report; −14 and zeroes where even that has no room
abbrev pub line_shown : ℕ → Fault → ℤ × List ℕ
line_shown room f = cond (nat_lt room (length (refusal_line f))) (negsuc 13, replicate room 0) (shown room (refusal_line f))

abbrev pub answered : ℕ → Result (List ℕ) Fault → ℤ × List ℕ
answered room (Ok text) = shown room text
answered room (Err f) = line_shown room f

-- the call for hosts: its answer, and every byte of the area afterwards
abbrev pub hosted : List ℕ → ℕ → ℤ × List ℕ
hosted file room = answered room (told file room)

-- the text is the report of a world that a run of calls reached from a newly opened machine, and of which the record's
-- whole law is true
pub record Faithful {T : Type 0} (printed : T → List ℕ) (cycle : ℕ) (shape : Shape) (text : List ℕ) : Type 0 where
  pub cells : List (Cell T)
  pub hands : List T
  pub entries : List (Entry T)
  pub w : World T
  pub reached : Reached cycle (new_world shape cells hands entries) w
  pub report : text ≡ text_in printed shape w

abbrev pub FaithfulKind : ElementKind → ℕ → Shape → List ℕ → Type 0
FaithfulKind Number cycle shape text = Faithful number_text cycle shape text
FaithfulKind Letter cycle shape text = Faithful letter_text cycle shape text

-- of whatever file these are the contents
abbrev pub FaithfulTo : List ℕ → List ℕ → Type 0
FaithfulTo file text = (c : Contents) → parsed file ≡ Ok c → FaithfulKind c.header.element (cycle_of c.header.bank) (shape_of c) text

-- whatever report the definition gives, its text stands at the start of the area, and it is a faithful one
pub record Promise (file : List ℕ) (room : ℕ) (answer : ℤ) (area : List ℕ) : Type 0 where
  pub written : (text : List ℕ) → told file room ≡ Ok text → (answer, area) ≡ shown room text
  pub faithful : (text : List ℕ) → told file room ≡ Ok text → FaithfulTo file text

-- what a writer of a report answers and leaves, for the text or the refusal that is told
abbrev pub Writes : Result ℕ Fault → List ℕ → List ℕ → Result (List ℕ) Fault → Type 0
Writes (Ok size) before after t = (text : List ℕ) × (t ≡ Ok text) × (size ≡ length text) × (size ≤ length before) × (after ≡ put before 0 text)
Writes (Err f) before after t = t ≡ Err f
