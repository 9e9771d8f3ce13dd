-- What a machine tells of itself; a query alters nothing.
use Rattle.std.specs.Prelude.{ℕ, ◌+◌, Bool, true, false, cond, not, List, [], ◌∷◌, take, Ok, Err, Result, nat_le}
use Rattle.world.specs.declared.phase.Phase.{Phase}
use Rattle.world.specs.declared.phase.Phase.TheVariants.{Idle, Taking, Waiting, Storing, Reading, Emptying, Completing, Done}
use Rattle.world.specs.declared.refusal.Refusal.{Refusal}
use Rattle.world.specs.declared.refusal.Refusal.TheVariants.{Stranger}
use Rattle.world.specs.declared.table.Table.{Table}
use Rattle.world.specs.Steps.{turn_came}
use Rattle.world.specs.Worlds.{phase_at}

-- a thread's phase, or the refusal of a strange thread
abbrev pub phase_answer : Table → ℕ → Result Phase Refusal
phase_answer table i = cond (nat_le table.shape.threads i) (Err Stranger) (Ok (phase_at table i))

abbrev pub is_waiting : Phase → Bool
is_waiting Idle = false
is_waiting (Taking kind) = false
is_waiting (Waiting kind ticket) = true
is_waiting (Storing ticket) = false
is_waiting (Reading ticket) = false
is_waiting (Emptying ticket) = false
is_waiting (Completing kind ticket) = false
is_waiting (Done kind ticket) = false

abbrev pub count_waiting : List Phase → ℕ
count_waiting [] = 0
count_waiting (p ∷ ps) = cond (is_waiting p) (1 + count_waiting ps) (count_waiting ps)

-- W: how many threads are at the wait
abbrev pub waiting_threads : Table → ℕ
waiting_threads table = count_waiting (take table.shape.threads table.threads)

-- a thread rests when it is idle, done, or at the wait for a turn that has not come
abbrev pub rests : ℕ → List ℕ → ℕ → Phase → Bool
rests cycle row slots Idle = true
rests cycle row slots (Taking kind) = false
rests cycle row slots (Waiting kind ticket) = not (turn_came cycle row slots kind ticket)
rests cycle row slots (Storing ticket) = false
rests cycle row slots (Reading ticket) = false
rests cycle row slots (Emptying ticket) = false
rests cycle row slots (Completing kind ticket) = false
rests cycle row slots (Done kind ticket) = true

abbrev pub all_rest : ℕ → List ℕ → ℕ → List Phase → Bool
all_rest cycle row slots [] = true
all_rest cycle row slots (p ∷ ps) = cond (rests cycle row slots p) (all_rest cycle row slots ps) false

-- the machine is at rest when every thread rests
abbrev pub at_rest : ℕ → List ℕ → Table → Bool
at_rest cycle row table = all_rest cycle row table.shape.slots (take table.shape.threads table.threads)
