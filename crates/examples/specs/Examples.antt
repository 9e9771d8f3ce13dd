-- Worked examples, with numbers that can be checked by hand. q is the number of slots, P and D are the push and pop tickets
-- handed out, W is the number of threads at the wait.
use Rattle.std.specs.Prelude.{◌≡◌, ℕ, ◌+◌, ◌-◌, ◌*◌, ◌<◌, ◌≤◌, true, ◌≢◌, List, [], ◌∷◌, map, length, Ok, Err}
use Rattle.turns.specs.declared.shape.Shape.{Shape}
use Rattle.turns.specs.Layouts.{nibble_cycle}
use Rattle.turns.specs.Rows.{cleared, reduced_by}
use Rattle.turns.specs.Tickets.{round_of, split_of, push_turn, pop_turn}
use Rattle.history.specs.declared.entry.Entry.{Entry}
use Rattle.history.specs.declared.entry.Kind.TheVariants.{Push, Pop}
use Rattle.world.specs.declared.cell.Cell.{Cell}
use Rattle.world.specs.declared.phase.Phase.TheVariants.{Taking}
use Rattle.world.specs.declared.refusal.Refusal.TheVariants.{Spent, RecordFull, ShortCycle}
use Rattle.world.specs.declared.step.Step.TheVariants.{Took, Waited, Passed, Stored, Read, Emptied, Completed}
use Rattle.world.specs.declared.table.Table.{Table}
use Rattle.world.specs.Calls.{new_table, empty_cell, opened, new_world}
use Rattle.world.specs.Queries.{waiting_threads, at_rest}
use Rattle.world.specs.Refusals.{number_of}
use Rattle.world.specs.Steps.{fitting, stepped}
use Rattle.world.specs.Takes.{writes_of}
use Rattle.world.specs.Worlds.{World, phase_at}
use Rattle.law.specs.Operations.{Event, begin_push, begin_pop, step, collect, ask_pushes, ask_pops, ask_rest, ask_waiting, Operation}
use Rattle.law.specs.Runs.{Moment}
use Rattle.examples.specs.Scripts.{Played}

-- among q slots, a ticket belongs to this slot and this round, and its push and its pop wait for these turns of the slot
pub record Turns (q ticket slot round push pop : ℕ) : Type 0 where
  pub split : split_of q ticket ≡ (slot, round)
  pub pushes_at : push_turn round ≡ push
  pub pops_at : pop_turn round ≡ pop

-- Every run of every newly opened machine with q slots, whatever its threads (as long as the cycle is at least twice
-- their number), its cells, hands and record: at each moment at which P and D are these and the machine is at rest, W is this.
abbrev pub RestsWith : Type 0 → ℕ → ℕ → ℕ → ℕ → Type 0
RestsWith T q pushes pops waiting =
    (cycle : ℕ) (shape : Shape) (cells : List (Cell T)) (hands : List T) (entries : List (Entry T)) (w : World T) (os : List (Operation T)) →
    shape.slots ≡ q → 2 * shape.threads ≤ cycle → length cells ≡ shape.slots →
    Moment cycle (new_world shape cells hands entries) w os →
    w.table.pushes ≡ pushes → w.table.pops ≡ pops → at_rest cycle w.row w.table ≡ true →
    waiting_threads w.table ≡ waiting

-- three pushes and no pop with one slot: the first push runs to its end and leaves the slot full, the others wait
abbrev pub three_pushes : {T : Type 0} → T → T → T → List (Event T)
three_pushes x y z =
    begin_push 0 x (Ok tt)
    ∷ step 0 (Ok (Took, 0))
    ∷ step 0 (Ok (Passed, 0))
    ∷ step 0 (Ok (Stored, 0))
    ∷ step 0 (Ok (Completed, 0))
    ∷ begin_push 1 y (Ok tt)
    ∷ step 1 (Ok (Took, 1))
    ∷ step 1 (Ok (Waited, 1))
    ∷ begin_push 2 z (Ok tt)
    ∷ step 2 (Ok (Took, 2))
    ∷ step 2 (Ok (Waited, 2))
    ∷ ask_pushes 3
    ∷ ask_pops 0
    ∷ ask_rest true
    ∷ ask_waiting 2
    ∷ []

-- two pops and no push with two slots: both wait
abbrev pub two_pops : (T : Type 0) → List (Event T)
two_pops T =
    begin_pop 0 (Ok tt)
    ∷ step 0 (Ok (Took, 0))
    ∷ step 0 (Ok (Waited, 0))
    ∷ begin_pop 1 (Ok tt)
    ∷ step 1 (Ok (Took, 1))
    ∷ step 1 (Ok (Waited, 1))
    ∷ ask_pushes 0
    ∷ ask_pops 2
    ∷ ask_rest true
    ∷ ask_waiting 2
    ∷ []

-- two pushes with two slots, of which the later one stores first, and then a pop: it gives the element of the push of ticket 0
abbrev pub overtaken : {T : Type 0} → T → T → List (Event T)
overtaken x y =
    begin_push 0 x (Ok tt)
    ∷ step 0 (Ok (Took, 0))
    ∷ begin_push 1 y (Ok tt)
    ∷ step 1 (Ok (Took, 1))
    ∷ step 1 (Ok (Passed, 1))
    ∷ step 1 (Ok (Stored, 1))
    ∷ step 0 (Ok (Passed, 0))
    ∷ step 0 (Ok (Stored, 0))
    ∷ step 0 (Ok (Completed, 0))
    ∷ begin_pop 2 (Ok tt)
    ∷ step 2 (Ok (Took, 0))
    ∷ step 2 (Ok (Passed, 0))
    ∷ step 2 (Ok (Read, 0))
    ∷ step 2 (Ok (Emptied, 0))
    ∷ step 2 (Ok (Completed, 0))
    ∷ collect 2 (Ok (Pop, 0, x))
    ∷ []

-- thread i is about to take a push ticket, and its step is refused neither as a stranger's nor for a buffer that does not fit
pub record PushTakes {T : Type 0} (w : World T) (i : ℕ) : Type 0 where
  pub within : i < w.table.shape.threads
  pub fits : fitting w ≡ true
  pub taking : phase_at w.table i ≡ Taking Push

-- how many entries of the record are free
abbrev pub free : {T : Type 0} → World T → ℕ
free w = length w.entries - w.table.used

-- a step answers that it took this ticket; P and the used count are these afterwards
pub record TookPush {T : Type 0} (cycle : ℕ) (w : World T) (i ticket pushes used : ℕ) : Type 0 where
  pub answers : (stepped cycle w i).0 ≡ Ok (Took, ticket)
  pub pushes_are : (stepped cycle w i).1.table.pushes ≡ pushes
  pub used_are : (stepped cycle w i).1.table.used ≡ used

pub record Examples (T : Type 0) : Type 0 where
  -- With 1 slot, ticket 0 belongs to slot 0 and round 0; its push waits for turn 0 and its pop for turn 1.
  pub first_ticket : Turns 1 0 0 0 0 1
  -- With 3 slots, ticket 7 belongs to slot 1 and round 2; its push waits for turn 4 and its pop for turn 5.
  pub later_ticket : Turns 3 7 1 2 4 5
  -- With 64 slots, ticket 65,534, the last one, belongs to slot 62 and round 1,023; its push waits for turn 2,046 and its pop
  -- for turn 2,047.
  pub last_ticket : Turns 64 65534 62 1023 2046 2047
  -- With 64 slots and a nibble bank, which keeps turns modulo 16, the push of ticket 65,534 waits for 14 and its pop for 15.
  pub last_ticket_in_nibbles :
      (reduced_by nibble_cycle (push_turn (round_of 64 65534)) ≡ 14) ×
      (reduced_by nibble_cycle (pop_turn (round_of 64 65534)) ≡ 15)
  -- A machine with a nibble bank is opened for 8 threads, whatever it was before, if there are as many cells as slots: the
  -- answer is Ok, the bank is cleared, the table is new, and the cells are empty.
  pub eight_threads :
      (row : List ℕ) (table : Table) (cells : List (Cell T)) (shape : Shape) →
      shape.threads ≡ 8 → length cells ≡ shape.slots →
      opened nibble_cycle row table cells shape ≡ (Ok tt, cleared, new_table shape, map empty_cell cells)
  -- For 9 threads its opening is refused, whatever the cells, by refusal 8, the short cycle, since 16 is below twice 9; the
  -- bank, the table and the cells stay as they were.
  pub nine_threads :
      (number_of ShortCycle ≡ 8) ×
      ((row : List ℕ) (table : Table) (cells : List (Cell T)) (shape : Shape) →
      shape.threads ≡ 9 →
      opened nibble_cycle row table cells shape ≡ (Err ShortCycle, row, table, cells))
  -- With 1 slot, three pushes and no pop leave two threads at the wait when the machine is at rest. Three threads can run so,
  -- with a nibble bank and any three elements; and in every run, at every rest with P 3 and D 0, W is 2.
  pub three_pushes_wait : ((x y z : T) → Played nibble_cycle 1 3 (three_pushes x y z)) × RestsWith T 1 3 0 2
  -- With 2 slots, two pops and no push leave two threads at the wait when the machine is at rest. Two threads can run so, with
  -- a nibble bank (the element x only serves to make cells and hands); and in every run, at every rest with P 0 and D 2, W is 2.
  pub two_pops_wait : ((x : T) → Played nibble_cycle 2 2 (two_pops T)) × RestsWith T 2 0 2 2
  -- With one free entry, the take of a push with P below D, which would write two entries, is refused by refusal 6, the full
  -- record, and nothing is altered. (P at 65,535 would be told before that.)
  pub one_entry_for_two :
      (number_of RecordFull ≡ 6) ×
      ((cycle : ℕ) (w : World T) (i : ℕ) → PushTakes w i →
      w.table.pushes ≢ 65535 → free w ≡ 1 → w.table.pushes < w.table.pops →
      stepped cycle w i ≡ (Err RecordFull, w))
  -- With one free entry, the take of a push with P equal to D, which writes one entry, is accepted: it answers ticket P, and
  -- then P and the used count are one more.
  pub one_entry_for_one :
      (cycle : ℕ) (w : World T) (i : ℕ) → PushTakes w i →
      w.table.pushes ≢ 65535 → free w ≡ 1 → w.table.pushes ≡ w.table.pops →
      TookPush cycle w i w.table.pushes (w.table.pushes + 1) (w.table.used + 1)
  -- With P at 65,534 the take of a push that finds room in the record answers ticket 65,534, the last one, and P is then 65,535.
  -- With P at 65,535 it is refused by refusal 5, spent, whatever the room, and nothing is altered.
  pub last_takes :
      ((cycle : ℕ) (w : World T) (i : ℕ) → PushTakes w i →
      w.table.pushes ≡ 65534 → writes_of Push w.table ≤ free w →
      TookPush cycle w i 65534 65535 (w.table.used + writes_of Push w.table)) ×
      (number_of Spent ≡ 5) ×
      ((cycle : ℕ) (w : World T) (i : ℕ) → PushTakes w i →
      w.table.pushes ≡ 65535 →
      stepped cycle w i ≡ (Err Spent, w))
  -- With 2 slots, thread 0 takes push ticket 0, thread 1 takes push ticket 1 and stores, and only then thread 0 stores: the first
  -- pop, of thread 2, gives the element of the push of ticket 0. So it goes for any two elements.
  pub first_pop : (x y : T) → Played nibble_cycle 2 3 (overtaken x y)
