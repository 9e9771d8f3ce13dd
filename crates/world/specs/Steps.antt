-- The step table: what a step of a thread answers and what the world is afterwards, a row for each phase.
use Rattle.std.specs.Prelude.{ℕ, ◌-◌, Bool, false, cond, List, length, Ok, Err, Result, ◌==◌, nat_le, nat_lt, slice_set}
use Rattle.turns.specs.Rows.{advanced, holding, reduced_by}
use Rattle.turns.specs.Tickets.{slot_of, round_of, push_turn, pop_turn}
use Rattle.history.specs.declared.entry.Kind.{Kind}
use Rattle.history.specs.declared.entry.Kind.TheVariants.{Push, Pop}
use Rattle.world.specs.declared.cell.Cell.{Cell}
use Rattle.world.specs.declared.cell.Mark.{Mark}
use Rattle.world.specs.declared.cell.Mark.TheVariants.{Empty, Full}
use Rattle.world.specs.declared.phase.Phase.{Phase}
use Rattle.world.specs.declared.phase.Phase.TheVariants.{Idle, Taking, Waiting, Storing, Reading, Emptying, Completing, Done}
use Rattle.world.specs.declared.refusal.Refusal.{Refusal}
use Rattle.world.specs.declared.refusal.Refusal.TheVariants.{Stranger, Misfit, NoWork, Spent, RecordFull}
use Rattle.world.specs.declared.step.Step.{Step}
use Rattle.world.specs.declared.step.Step.TheVariants.{Took, Waited, Passed, Stored, Read, Emptied, Completed}
use Rattle.world.specs.Takes.{count_of, writes_of, ticket_limit, record_after, table_after}
use Rattle.world.specs.Worlds.{World, world, at, phase_at, rephased}

-- the turn of its slot that an operation of a round waits for
abbrev pub turn_of : Kind → ℕ → ℕ
turn_of Push round = push_turn round
turn_of Pop round = pop_turn round

-- whether a ticket's turn has come: the bank holds it, reduced by its cycle
abbrev pub turn_came : ℕ → List ℕ → ℕ → Kind → ℕ → Bool
turn_came cycle row slots kind ticket = holding row (slot_of slots ticket) (reduced_by cycle (turn_of kind (round_of slots ticket)))

-- behind the wait, a push stores and a pop reads
abbrev pub past_wait : Kind → ℕ → Phase
past_wait Push ticket = Storing ticket
past_wait Pop ticket = Reading ticket

abbrev pub cell : {T : Type 0} → T → Mark → Cell T
cell element mark = record { element = element; mark = mark }

-- store: the hand goes to the cell, which is marked full
abbrev pub stored_cells : {T : Type 0} → List (Cell T) → ℕ → ℕ → List T → List (Cell T)
stored_cells cells slot i hands = at hands i (λ x. slice_set cells slot (cell x Full)) cells

-- read: the cell's element goes to the hand, with either mark
abbrev pub read_hands : {T : Type 0} → List (Cell T) → ℕ → ℕ → List T → List T
read_hands cells slot i hands = at cells slot (λ c. slice_set hands i c.element) hands

-- empty: the cell is marked empty, and its element stays
abbrev pub emptied_cells : {T : Type 0} → List (Cell T) → ℕ → List (Cell T)
emptied_cells cells slot = at cells slot (λ c. slice_set cells slot (cell c.element Empty)) cells

-- what a step answers, and the world afterwards
abbrev pub Outcome : Type 0 → Type 0
Outcome T = Result (Step × ℕ) Refusal × World T

-- take: refused when the count is at its limit, or when fewer entries are free than this take would write
abbrev pub taken : {T : Type 0} → World T → ℕ → Kind → Outcome T
taken w i kind =
    cond (count_of kind w.table == ticket_limit) (Err Spent, w)
    (cond (nat_lt (length w.entries - w.table.used) (writes_of kind w.table)) (Err RecordFull, w) (
      Ok (Took, count_of kind w.table),
      world w.row (table_after kind w.table i) w.cells w.hands (record_after kind w.table i w.hands w.entries),
    ))

-- wait: passed when the turn has come, and otherwise nothing is altered
abbrev pub waited : {T : Type 0} → ℕ → World T → ℕ → Kind → ℕ → Outcome T
waited cycle w i kind ticket =
    cond (turn_came cycle w.row w.table.shape.slots kind ticket)
    (Ok (Passed, ticket), world w.row (rephased w.table i (past_wait kind ticket)) w.cells w.hands w.entries)
    (Ok (Waited, ticket), w)

abbrev pub stored : {T : Type 0} → World T → ℕ → ℕ → Outcome T
stored w i ticket = (
  Ok (Stored, ticket),
  world w.row (rephased w.table i (Completing Push ticket)) (stored_cells w.cells (slot_of w.table.shape.slots ticket) i w.hands) w.hands w.entries,
)

abbrev pub read : {T : Type 0} → World T → ℕ → ℕ → Outcome T
read w i ticket = (
  Ok (Read, ticket),
  world w.row (rephased w.table i (Emptying ticket)) w.cells (read_hands w.cells (slot_of w.table.shape.slots ticket) i w.hands) w.entries,
)

abbrev pub emptied : {T : Type 0} → World T → ℕ → ℕ → Outcome T
emptied w i ticket = (
  Ok (Emptied, ticket),
  world w.row (rephased w.table i (Completing Pop ticket)) (emptied_cells w.cells (slot_of w.table.shape.slots ticket)) w.hands w.entries,
)

-- complete: the bank is advanced at the slot, and the thread is done
abbrev pub completed : {T : Type 0} → ℕ → World T → ℕ → Kind → ℕ → Outcome T
completed cycle w i kind ticket = (
  Ok (Completed, ticket),
  world (advanced cycle w.row (slot_of w.table.shape.slots ticket)) (rephased w.table i (Done kind ticket)) w.cells w.hands w.entries,
)

-- the next step of thread i, by its phase
abbrev pub acted : {T : Type 0} → ℕ → World T → ℕ → Phase → Outcome T
acted cycle w i Idle = (Err NoWork, w)
acted cycle w i (Taking kind) = taken w i kind
acted cycle w i (Waiting kind ticket) = waited cycle w i kind ticket
acted cycle w i (Storing ticket) = stored w i ticket
acted cycle w i (Reading ticket) = read w i ticket
acted cycle w i (Emptying ticket) = emptied w i ticket
acted cycle w i (Completing kind ticket) = completed cycle w i kind ticket
acted cycle w i (Done kind ticket) = (Err NoWork, w)

-- the buffers of a step fit: as many cells as slots, as many hands as threads, and a record no shorter than its used entries
abbrev pub fitting : {T : Type 0} → World T → Bool
fitting w = cond (length w.cells == w.table.shape.slots) (cond (length w.hands == w.table.shape.threads) (nat_le w.table.used (length w.entries)) false) false

-- a step of thread i: refused to a stranger, then where a buffer does not fit
abbrev pub stepped : {T : Type 0} → ℕ → World T → ℕ → Outcome T
stepped cycle w i =
    cond (nat_le w.table.shape.threads i) (Err Stranger, w)
    (cond (fitting w) (acted cycle w i (phase_at w.table i)) (Err Misfit, w))
