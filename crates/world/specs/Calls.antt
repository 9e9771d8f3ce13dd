-- The calls beside the step: opening, begins and collects, with their answers and what the world is afterwards.
use Rattle.std.specs.Prelude.{ℕ, ◌*◌, Bool, true, false, cond, List, map, length, replicate, Ok, Err, Result, ◌==◌, nat_le, nat_lt, slice_set}
use Rattle.turns.specs.declared.shape.Shape.{Shape}
use Rattle.turns.specs.Rows.{cleared}
use Rattle.history.specs.declared.entry.Entry.{Entry}
use Rattle.history.specs.declared.entry.Kind.{Kind}
use Rattle.history.specs.declared.entry.Kind.TheVariants.{Push, Pop}
use Rattle.world.specs.declared.cell.Cell.{Cell}
use Rattle.world.specs.declared.cell.Mark.TheVariants.{Empty}
use Rattle.world.specs.declared.phase.Phase.{Phase}
use Rattle.world.specs.declared.phase.Phase.TheVariants.{Idle, Taking, Waiting, Storing, Reading, Emptying, Completing, Done}
use Rattle.world.specs.declared.refusal.Refusal.{Refusal}
use Rattle.world.specs.declared.refusal.Refusal.TheVariants.{Stranger, Misfit, Busy, Unfinished, ShortCycle}
use Rattle.world.specs.declared.table.Table.{Table}
use Rattle.world.specs.Steps.{cell}
use Rattle.world.specs.Worlds.{World, world, at, phase_at, rephased}

-- the table of a newly opened machine: no ticket is out, no entry is used, all threads are idle
abbrev pub new_table : Shape → Table
new_table shape = record { shape = shape; pushes = 0; pops = 0; used = 0; threads = replicate 64 Idle }

-- the cells of a newly opened machine: all empty, their elements left
abbrev pub empty_cell : {T : Type 0} → Cell T → Cell T
empty_cell c = cell c.element Empty

-- the world of a newly opened machine, with the cells that it was opened with and whatever hands and record
abbrev pub new_world : {T : Type 0} → Shape → List (Cell T) → List T → List (Entry T) → World T
new_world shape cells hands entries = world cleared (new_table shape) (map empty_cell cells) hands entries

-- opening: refused when the cycle is below twice the threads, then when there are not as many cells as slots;
-- the answer, and the row, the table and the cells afterwards
abbrev pub opened : {T : Type 0} → ℕ → List ℕ → Table → List (Cell T) → Shape → Result (Unit {0}) Refusal × List ℕ × Table × List (Cell T)
opened cycle row table cells shape =
    cond (nat_lt cycle (2 * shape.threads)) (Err ShortCycle, row, table, cells)
    (cond (length cells == shape.slots) (Ok tt, cleared, new_table shape, map empty_cell cells) (Err Misfit, row, table, cells))

abbrev pub is_idle : Phase → Bool
is_idle Idle = true
is_idle (Taking kind) = false
is_idle (Waiting kind ticket) = false
is_idle (Storing ticket) = false
is_idle (Reading ticket) = false
is_idle (Emptying ticket) = false
is_idle (Completing kind ticket) = false
is_idle (Done kind ticket) = false

-- begin push: the element goes into the thread's hand; the answer, and the table and the hands afterwards
abbrev pub push_begun : {T : Type 0} → Table → ℕ → T → List T → Result (Unit {0}) Refusal × Table × List T
push_begun table i x hands =
    cond (nat_le table.shape.threads i) (Err Stranger, table, hands)
    (cond (length hands == table.shape.threads)
    (cond (is_idle (phase_at table i)) (Ok tt, rephased table i (Taking Push), slice_set hands i x) (Err Busy, table, hands))
    (Err Misfit, table, hands))

-- begin pop: the answer, and the table afterwards
abbrev pub pop_begun : Table → ℕ → Result (Unit {0}) Refusal × Table
pop_begun table i =
    cond (nat_le table.shape.threads i) (Err Stranger, table)
    (cond (is_idle (phase_at table i)) (Ok tt, rephased table i (Taking Pop)) (Err Busy, table))

-- a done thread has its operation's kind and ticket
abbrev pub done_with : Phase → Result (Kind × ℕ) Refusal
done_with Idle = Err Unfinished
done_with (Taking kind) = Err Unfinished
done_with (Waiting kind ticket) = Err Unfinished
done_with (Storing ticket) = Err Unfinished
done_with (Reading ticket) = Err Unfinished
done_with (Emptying ticket) = Err Unfinished
done_with (Completing kind ticket) = Err Unfinished
done_with (Done kind ticket) = Ok (kind, ticket)

-- the operation of a done thread with the element in its hand, and the table in which it is idle
abbrev pub handed_over : {T : Type 0} → Result (Kind × ℕ) Refusal → Table → ℕ → List T → Result (Kind × ℕ × T) Refusal × Table
handed_over (Ok d) table i hands = at hands i (λ x. (Ok (d.0, d.1, x), rephased table i Idle)) (Err Misfit, table)
handed_over (Err e) table i hands = (Err e, table)

-- collect: the answer, and the table afterwards
abbrev pub collected : {T : Type 0} → Table → ℕ → List T → Result (Kind × ℕ × T) Refusal × Table
collected table i hands =
    cond (nat_le table.shape.threads i) (Err Stranger, table)
    (cond (length hands == table.shape.threads) (handed_over (done_with (phase_at table i)) table i hands) (Err Misfit, table))
