-- Whether a thread may go on, before its step moves it.
use Rattle.std.specs.Prelude.{ℕ, ◌<◌, ◌≤◌, Bool, true, cond, List, Ok, Err, Result, ◌==◌, nat_lt}
use Rattle.world.specs.declared.phase.Phase.{Phase}
use Rattle.world.specs.declared.phase.Phase.TheVariants.{Idle, Taking, Waiting, Storing, Reading, Emptying, Completing, Done}
use Rattle.world.specs.declared.refusal.Refusal.{Refusal}
use Rattle.world.specs.declared.refusal.Refusal.TheVariants.{Spent, RecordFull}
use Rattle.world.specs.declared.table.Table.{Table}
use Rattle.world.specs.Steps.{turn_came}
use Rattle.world.specs.Takes.{count_of, writes_of, ticket_limit}

-- a take is refused without a ticket, then without free entries for what it writes; a wait goes on when its turn has
-- come; nothing holds the other phases back
abbrev pub admission : ℕ → List ℕ → Table → ℕ → Phase → Result Bool Refusal
admission cycle row table free Idle = Ok true
admission cycle row table free (Taking kind) = cond (count_of kind table == ticket_limit) (Err Spent) (cond (nat_lt free (writes_of kind table)) (Err RecordFull) (Ok true))
admission cycle row table free (Waiting kind ticket) = Ok (turn_came cycle row table.shape.slots kind ticket)
admission cycle row table free (Storing ticket) = Ok true
admission cycle row table free (Reading ticket) = Ok true
admission cycle row table free (Emptying ticket) = Ok true
admission cycle row table free (Completing kind ticket) = Ok true
admission cycle row table free (Done kind ticket) = Ok true

-- an admitted take has a ticket and the entries that it needs
abbrev pub Ready : Table → ℕ → Phase → Type 0
Ready table free Idle = Unit {0}
Ready table free (Taking kind) = (count_of kind table < ticket_limit) × (writes_of kind table ≤ free)
Ready table free (Waiting kind ticket) = Unit {0}
Ready table free (Storing ticket) = Unit {0}
Ready table free (Reading ticket) = Unit {0}
Ready table free (Emptying ticket) = Unit {0}
Ready table free (Completing kind ticket) = Unit {0}
Ready table free (Done kind ticket) = Unit {0}
