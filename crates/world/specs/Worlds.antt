-- The world of a run: the bank's row, the machine's table, and the caller's cells, hands and record.
use Rattle.std.specs.Prelude.{ℕ, zero, suc, List, [], ◌∷◌, take, slice_index_or, slice_set}
use Rattle.history.specs.declared.entry.Entry.{Entry}
use Rattle.world.specs.declared.cell.Cell.{Cell}
use Rattle.world.specs.declared.phase.Phase.{Phase}
use Rattle.world.specs.declared.phase.Phase.TheVariants.{Idle}
use Rattle.world.specs.declared.table.Table.{Table}

-- `entries` is the record's whole buffer, of which the first `used` entries count
pub record World (T : Type 0) : Type 0 where
  pub row : List ℕ
  pub table : Table
  pub cells : List (Cell T)
  pub hands : List T
  pub entries : List (Entry T)

abbrev pub world : {T : Type 0} → List ℕ → Table → List (Cell T) → List T → List (Entry T) → World T
world row table cells hands entries = record { row = row; table = table; cells = cells; hands = hands; entries = entries }

-- the entries of the record that count
abbrev pub entered : {T : Type 0} → World T → List (Entry T)
entered w = take w.table.used w.entries

-- f of the element at place i, or the fallback where the list is too short: no element is made up
abbrev pub at : {A B : Type 0} → List A → ℕ → (A → B) → B → B
at [] i f fallback = fallback
at (x ∷ xs) zero f fallback = f x
at (x ∷ xs) (suc i) f fallback = at xs i f fallback

-- the phase of a thread
abbrev pub phase_at : Table → ℕ → Phase
phase_at t i = slice_index_or t.threads i Idle

-- the table with one thread's phase replaced
abbrev pub rephased : Table → ℕ → Phase → Table
rephased t i p = record { shape = t.shape; pushes = t.pushes; pops = t.pops; used = t.used; threads = slice_set t.threads i p }
