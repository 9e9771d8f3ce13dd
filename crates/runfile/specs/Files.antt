-- The run file: a table of contents, then the bodies in table order. The checks stand in their order, and the first that fails wins.
use Rattle.std.specs.Prelude.{ℕ, ◌+◌, ◌*◌, cond, List, [], length, take, drop, Some, None, Ok, Err, Option, Result, ◌==◌, nat_lt, slice_index, slice_index_or}
use Rattle.runfile.specs.declared.header.Header.{Header}
use Rattle.runfile.specs.declared.kinds.ElementKind.{ElementKind}
use Rattle.runfile.specs.declared.kinds.ElementKind.TheVariants.{Number, Letter}
use Rattle.runfile.specs.declared.runs.RunFile.{RunFile}
use Rattle.runfile.specs.declared.tabled.TabledFile.{TabledFile}
use Rattle.runfile.specs.Chains.{chain}
use Rattle.runfile.specs.Elements.{number_format, letter_format}
use Rattle.runfile.specs.Faults.{FileFault, cut, contents, tail}
use Rattle.runfile.specs.Headers.{headed}
use Rattle.runfile.specs.Programs.{programmed}
use Rattle.runfile.specs.Schedules.{scheduled}
use Rattle.runfile.specs.Tables.{entries, tabled, bodied, cut_of}

-- byte 0 is the count of table entries: a file is at most 49,152 bytes long, has 4 to 67 entries, and its table is complete
abbrev pub counted : List ℕ → Result ℕ FileFault
counted file =
    cond (nat_lt 49152 (length file)) (Err (tail 49152))
    (cond (length file == 0) (Err (cut 0))
    (cond (nat_lt (slice_index file 0) 4) (Err (contents 0))
    (cond (nat_lt 67 (slice_index file 0)) (Err (contents 0))
    (cond (nat_lt (length file) (1 + 5 * slice_index file 0)) (Err (cut (length file)))
    (Ok (slice_index file 0))))))

abbrev pub count_read : Result TabledFile FileFault → Result ℕ FileFault
count_read r = chain r (λ t. Ok t.count.entries)

abbrev pub table : ℕ → List ℕ → List ℕ
table count file = take (5 * count) (drop 1 file)

-- every entry is right, and the bodies end where the file ends
abbrev pub divided : ℕ → List ℕ → Result (List (List ℕ)) FileFault
divided count file =
    chain (tabled count 0 (entries (table count file)))
    (λ _. bodied (entries (table count file)) (drop (1 + 5 * count) file) (length file))

-- every operation is right; where the programs end
abbrev pub programs_checked : ElementKind → List (List ℕ) → ℕ → Result ℕ FileFault
programs_checked Number ps place = programmed number_format ps place
programs_checked Letter ps place = programmed letter_format ps place

-- first every operation, then every schedule byte; the programs begin at `place`
abbrev pub run_checked : Header → List (List ℕ) → List ℕ → List ℕ → ℕ → Result (Unit {0}) FileFault
run_checked h programs lead_in main place =
    chain (programs_checked h.element programs place) (λ end.
    chain (scheduled h.threads lead_in end) (λ _.
    scheduled h.threads main (end + length lead_in)))

-- of the bodies: the shape's first, then a program for each thread, the lead-in, and the main schedule
abbrev pub programs_in : ℕ → List (List ℕ) → List (List ℕ)
programs_in threads bs = take threads (drop 1 bs)

abbrev pub lead_in_in : ℕ → List (List ℕ) → List ℕ
lead_in_in threads bs = slice_index_or bs (1 + threads) []

abbrev pub main_in : ℕ → List (List ℕ) → List ℕ
main_in threads bs = slice_index_or bs (2 + threads) []

-- the shape body, and then all the others; the bodies begin at `start`
abbrev pub bodies_checked : ℕ → List (List ℕ) → ℕ → Result Header FileFault
bodies_checked count bs start =
    chain (headed count (slice_index_or bs 0 []) start) (λ h.
    chain (run_checked h (programs_in h.threads bs) (lead_in_in h.threads bs) (main_in h.threads bs) (start + length (slice_index_or bs 0 []))) (λ _.
    Ok h))

-- what a run file holds
pub record Contents : Type 0 where
  pub header : Header
  pub bodies : List (List ℕ)

-- a thread's program, where there is such a thread
abbrev pub program_of : Contents → ℕ → Option (List ℕ)
program_of c thread = cond (nat_lt thread c.header.threads) (Some (slice_index_or c.bodies (1 + thread) [])) None

-- what the bodies hold, once they are checked
abbrev pub bodies_read : ℕ → List (List ℕ) → ℕ → Result Contents FileFault
bodies_read count bs start = chain (bodies_checked count bs start) (λ h. Ok (record { header = h; bodies = bs }))

-- every byte string is a run file with its contents, or has its fault
abbrev pub parsed : List ℕ → Result Contents FileFault
parsed file =
    chain (counted file) (λ count.
    chain (divided count file) (λ bs.
    bodies_read count bs (1 + 5 * count)))

-- what a file that was read holds
abbrev pub contents_of : RunFile → Contents
contents_of f = record { header = f.header; bodies = cut_of (f.header.threads + 3) f.bodies }

abbrev pub outcome : Result RunFile FileFault → Result Contents FileFault
outcome r = chain r (λ f. Ok (contents_of f))
