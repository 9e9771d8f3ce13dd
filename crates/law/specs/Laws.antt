-- The record's law: at every moment of every run from a newly opened machine, the record is the true history.
use Rattle.std.specs.Prelude.{◌≡◌, ℕ, zero, suc, ◌+◌, ◌-◌, ◌*◌, ◌≤◌, true, false, cond, ◌⊎◌, List, [], ◌∷◌, map, length, Some, nat_lt}
use Rattle.turns.specs.declared.shape.Shape.{Shape}
use Rattle.turns.specs.Rows.{cleared}
use Rattle.turns.specs.Tickets.{slot_of}
use Rattle.history.specs.declared.entry.Entry.{Entry}
use Rattle.history.specs.Queues.{Run}
use Rattle.world.specs.declared.cell.Cell.{Cell}
use Rattle.world.specs.declared.cell.Mark.{Mark}
use Rattle.world.specs.declared.cell.Mark.TheVariants.{Empty, Full}
use Rattle.world.specs.declared.phase.Phase.{Phase}
use Rattle.world.specs.declared.phase.Phase.TheVariants.{Idle, Taking, Waiting, Storing, Reading, Emptying, Completing, Done}
use Rattle.world.specs.declared.table.Table.{Table}
use Rattle.world.specs.Calls.{new_table, empty_cell}
use Rattle.world.specs.Queries.{waiting_threads, at_rest}
use Rattle.world.specs.Worlds.{World, world, entered, phase_at}
use Rattle.law.specs.Operations.{Operation}
use Rattle.law.specs.Runs.{Moment}

-- a list has an element at place j, and it is as P says
abbrev pub Placed : {A : Type 0} → List A → ℕ → (A → Type 0) → Type 0
Placed [] j P = ⊥
Placed (x ∷ xs) zero P = P x
Placed (x ∷ xs) (suc j) P = Placed xs j P

-- x stands at place j of a list
abbrev pub Stands : {A : Type 0} → List A → ℕ → A → Type 0
Stands xs j x = Placed xs j (λ y. y ≡ x)

abbrev pub Member : {A : Type 0} → A → List A → Type 0
Member x xs = (j : ℕ) × Stands xs j x

-- x stands at exactly one place of a list
abbrev pub Once : {A : Type 0} → A → List A → Type 0
Once x xs = (j : ℕ) × Stands xs j x × ((k : ℕ) → Stands xs k x → k ≡ j)

-- an entry has an operation's kind, thread and ticket
abbrev pub Of : {T : Type 0} → Operation T → Entry T → Type 0
Of o x = (o.kind ≡ x.kind) × (o.thread ≡ x.thread) × (o.ticket ≡ Some x.ticket)

-- and its element too
abbrev pub WholeOf : {T : Type 0} → Operation T → Entry T → Type 0
WholeOf o x = Of o x × (o.element ≡ Some x.element)

-- a slot's holder is a thread whose operation has a ticket of that slot, is past the wait and is not finished
abbrev pub Holds : ℕ → ℕ → Phase → Type 0
Holds slots slot Idle = ⊥
Holds slots slot (Taking kind) = ⊥
Holds slots slot (Waiting kind ticket) = ⊥
Holds slots slot (Storing ticket) = slot_of slots ticket ≡ slot
Holds slots slot (Reading ticket) = slot_of slots ticket ≡ slot
Holds slots slot (Emptying ticket) = slot_of slots ticket ≡ slot
Holds slots slot (Completing kind ticket) = slot_of slots ticket ≡ slot
Holds slots slot (Done kind ticket) = ⊥

-- a slot's cell has this mark
abbrev pub Marked : {T : Type 0} → List (Cell T) → ℕ → Mark → Type 0
Marked cells slot mark = Placed cells slot (λ c. c.mark ≡ mark)

-- how many threads wait at rest: P − D − q if positive, else D − P if positive, else 0
abbrev pub resting_waiters : Table → ℕ
resting_waiters t =
    cond (nat_lt (t.pops + t.shape.slots) t.pushes) (t.pushes - t.pops - t.shape.slots)
    (cond (nat_lt t.pushes t.pops) (t.pops - t.pushes) 0)

-- what is true at a moment, in which these operations have been told
pub record Truth {T : Type 0} (cycle : ℕ) (w : World T) (os : List (Operation T)) : Type 0 where
  -- the used entries are a run of the single-file queue
  pub queue : Run (entered w)
  -- each finished operation has exactly one entry with its kind, thread, ticket and element
  pub finished : (o : Operation T) → Member o os → o.finished ≡ true → (x : Entry T) × WholeOf o x × Once x (entered w)
  -- any other entry has kind, thread and ticket of an operation that is begun and not finished
  pub others : (x : Entry T) → Member x (entered w) → (o : Operation T) × Member o os × (((o.finished ≡ true) × WholeOf o x) ⊎ ((o.finished ≡ false) × Of o x))
  -- no two entries share kind and ticket
  pub apart : (j k : ℕ) (x y : Entry T) → Stands (entered w) j x → Stands (entered w) k y → x.kind ≡ y.kind → x.ticket ≡ y.ticket → j ≡ k
  -- a slot has at most one holder
  pub holder : (slot i j : ℕ) → Holds w.table.shape.slots slot (phase_at w.table i) → Holds w.table.shape.slots slot (phase_at w.table j) → i ≡ j
  -- its cell is empty before a store and full before a read
  pub storing : (i ticket : ℕ) → phase_at w.table i ≡ Storing ticket → Marked w.cells (slot_of w.table.shape.slots ticket) Empty
  pub reading : (i ticket : ℕ) → phase_at w.table i ≡ Reading ticket → Marked w.cells (slot_of w.table.shape.slots ticket) Full
  -- at rest, the answered W is what P, D and q say
  pub resting : at_rest cycle w.row w.table ≡ true → waiting_threads w.table ≡ resting_waiters w.table

-- whatever hands and record a run that starts here uses, and whatever it does, all this is true at its every moment
pub record Law {T : Type 0} (cycle : ℕ) (row : List ℕ) (table : Table) (cells : List (Cell T)) : Type 0 where
  pub law : (hands : List T) (entries : List (Entry T)) (w : World T) (os : List (Operation T)) → Moment cycle (world row table cells hands entries) w os → Truth cycle w os

-- the law holds of every newly opened machine: of any shape with as many cells, and a cycle of twice its threads or more
abbrev pub OpeningLaw : Type 0 → Type 0
OpeningLaw T = (cycle : ℕ) (shape : Shape) (cells : List (Cell T)) → 2 * shape.threads ≤ cycle → length cells ≡ shape.slots → Law cycle cleared (new_table shape) (map empty_cell cells)
