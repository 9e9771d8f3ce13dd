-- A take: the ticket that it gets and the entries that it writes into the record.
use Rattle.std.specs.Prelude.{ℕ, ◌+◌, Bool, false, cond, List, [], ◌∷◌, take, ◌==◌, nat_lt, slice_set}
use Rattle.std.specs.Option.{unwrap_or}
use Rattle.history.specs.declared.entry.Entry.{Entry}
use Rattle.history.specs.declared.entry.Kind.{Kind}
use Rattle.history.specs.declared.entry.Kind.TheVariants.{Push, Pop}
use Rattle.history.specs.Pushes.{first_push}
use Rattle.world.specs.declared.phase.Phase.{Phase}
use Rattle.world.specs.declared.phase.Phase.TheVariants.{Idle, Taking, Waiting, Storing, Reading, Emptying, Completing, Done}
use Rattle.world.specs.declared.table.Table.{Table}
use Rattle.world.specs.Worlds.{at}

-- no count of tickets goes past this
abbrev pub ticket_limit : ℕ
ticket_limit = 65535

-- how many tickets of a kind are handed out, which is the next ticket
abbrev pub count_of : Kind → Table → ℕ
count_of Push t = t.pushes
count_of Pop t = t.pops

-- a push is entered by its take, and with it the pop of its ticket, if that took its ticket before
abbrev pub push_writes : Table → ℕ
push_writes t = cond (nat_lt t.pushes t.pops) 2 1

-- a pop is entered by its take only if the push of its ticket took before
abbrev pub pop_writes : Table → ℕ
pop_writes t = cond (nat_lt t.pops t.pushes) 1 0

-- how many entries a take writes
abbrev pub writes_of : Kind → Table → ℕ
writes_of Push t = push_writes t
writes_of Pop t = pop_writes t

abbrev pub entry : {T : Type 0} → Kind → ℕ → ℕ → T → Entry T
entry kind thread ticket element = record { kind = kind; thread = thread; ticket = ticket; element = element }

-- whether a thread is at the wait with a pop ticket
abbrev pub awaits_pop : ℕ → Phase → Bool
awaits_pop ticket Idle = false
awaits_pop ticket (Taking kind) = false
awaits_pop ticket (Waiting Push t) = false
awaits_pop ticket (Waiting Pop t) = t == ticket
awaits_pop ticket (Storing t) = false
awaits_pop ticket (Reading t) = false
awaits_pop ticket (Emptying t) = false
awaits_pop ticket (Completing kind t) = false
awaits_pop ticket (Done kind t) = false

-- the lowest thread, counted from i on, that is at the wait with a pop ticket, or 0 if none is
abbrev pub lowest_waiting : ℕ → ℕ → List Phase → ℕ
lowest_waiting ticket i [] = 0
lowest_waiting ticket i (p ∷ ps) = cond (awaits_pop ticket p) i (lowest_waiting ticket (i + 1) ps)

-- the thread of the pop that is entered behind the push of its ticket
abbrev pub early_popper : Table → ℕ
early_popper t = lowest_waiting t.pushes 0 (take t.shape.threads t.threads)

-- the record after thread i, with x in its hand, took a push ticket
abbrev pub push_entered : {T : Type 0} → Table → ℕ → List (Entry T) → T → List (Entry T)
push_entered t i entries x =
    cond (nat_lt t.pushes t.pops)
    (slice_set (slice_set entries t.used (entry Push i t.pushes x)) (t.used + 1) (entry Pop (early_popper t) t.pushes x))
    (slice_set entries t.used (entry Push i t.pushes x))

-- the record after thread i, with x in its hand, took a pop ticket: the element is that of the first push entry of
-- the ticket, or the hand's if a record that was swapped has none
abbrev pub pop_entered : {T : Type 0} → Table → ℕ → List (Entry T) → T → List (Entry T)
pop_entered t i entries x =
    cond (nat_lt t.pops t.pushes)
    (slice_set entries t.used (entry Pop i t.pops (unwrap_or (first_push (take t.used entries) t.pops) x)))
    entries

abbrev pub record_after : {T : Type 0} → Kind → Table → ℕ → List T → List (Entry T) → List (Entry T)
record_after Push t i hands entries = at hands i (push_entered t i entries) entries
record_after Pop t i hands entries = at hands i (pop_entered t i entries) entries

-- the table after thread i took: the count grows by one, and the thread is at the wait with its ticket
abbrev pub table_after : Kind → Table → ℕ → Table
table_after Push t i = record { shape = t.shape; pushes = t.pushes + 1; pops = t.pops; used = t.used + push_writes t; threads = slice_set t.threads i (Waiting Push t.pushes) }
table_after Pop t i = record { shape = t.shape; pushes = t.pushes; pops = t.pops + 1; used = t.used + pop_writes t; threads = slice_set t.threads i (Waiting Pop t.pops) }
