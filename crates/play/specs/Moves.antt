-- What one schedule entry does with the thread that it names.
use Rattle.std.specs.Prelude.{ℕ, ◌+◌, cond, List, [], drop, Some, None, Ok, Err, Option, Result, nat_le, slice_index, slice_set}
use Rattle.std.specs.Option.{unwrap_or}
use Rattle.std.specs.Result.{result_ok}
use Rattle.runfile.specs.declared.operation.Operation.{Operation}
use Rattle.runfile.specs.declared.operation.Operation.TheVariants.{Push, Pop}
use Rattle.runfile.specs.Elements.{Format}
use Rattle.runfile.specs.Files.{Contents, program_of}
use Rattle.runfile.specs.Programs.{operation, wide}
use Rattle.world.specs.declared.phase.Phase.{Phase}
use Rattle.world.specs.declared.phase.Phase.TheVariants.{Idle, Taking, Waiting, Storing, Reading, Emptying, Completing, Done}
use Rattle.world.specs.declared.refusal.Refusal.{Refusal}
use Rattle.world.specs.declared.refusal.Refusal.TheVariants.{Stranger}
use Rattle.world.specs.declared.table.Table.{Table}
use Rattle.world.specs.Calls.{push_begun, pop_begun, collected}
use Rattle.world.specs.Steps.{stepped}
use Rattle.world.specs.Worlds.{World, world, phase_at}

-- whether a call was accepted, whatever it answered
abbrev pub accepted : {A : Type 0} → Result A Refusal → Result (Unit {0}) Refusal
accepted (Ok a) = Ok tt
accepted (Err r) = Err r

-- a thread's next operation stands behind the bytes of its program that are begun; at the program's end there is none
abbrev pub next_operation : {T : Type 0} → Format T → Contents → ℕ → ℕ → Option (Operation T)
next_operation form c i begun = result_ok (operation form (drop begun (unwrap_or (program_of c i) [])) 0)

-- an accepted begin takes its operation off the thread's program
abbrev pub begun_after : Result (Unit {0}) Refusal → List ℕ → ℕ → ℕ → List ℕ
begun_after (Ok u) begun i width = slice_set begun i (slice_index begun i + width)
begun_after (Err r) begun i width = begun

-- a thread begins an operation: the answer, and the table and the hands afterwards
abbrev pub operation_begun : {T : Type 0} → Operation T → Table → List T → ℕ → Result (Unit {0}) Refusal × Table × List T
operation_begun (Push x) table hands i = push_begun table i x hands
operation_begun Pop table hands i = ((pop_begun table i).0, (pop_begun table i).1, hands)

-- a thread begins its next operation; where none is left it rests. `begun` has how many bytes of each program are begun.
-- The answer, and the table, the hands and what is begun afterwards
abbrev pub begun_with : {T : Type 0} → Format T → Option (Operation T) → Table → List T → List ℕ → ℕ → Result (Unit {0}) Refusal × Table × List T × List ℕ
begun_with form (Some o) table hands begun i = (
  (operation_begun o table hands i).0,
  (operation_begun o table hands i).1,
  (operation_begun o table hands i).2,
  begun_after (operation_begun o table hands i).0 begun i (wide form.width o),
)
begun_with form None table hands begun i = (Ok tt, table, hands, begun)

abbrev pub next_begun : {T : Type 0} → Format T → Contents → Table → List T → List ℕ → ℕ → Result (Unit {0}) Refusal × Table × List T × List ℕ
next_begun form c table hands begun i = begun_with form (next_operation form c i (slice_index begun i)) table hands begun i

-- what a schedule entry answers, and the world and what is begun afterwards
abbrev pub Moved : Type 0 → Type 0
Moved T = Result (Unit {0}) Refusal × World T × List ℕ

abbrev pub begins : {T : Type 0} → Format T → Contents → World T → List ℕ → ℕ → Moved T
begins form c w begun i = (
  (next_begun form c w.table w.hands begun i).0,
  world w.row (next_begun form c w.table w.hands begun i).1 w.cells (next_begun form c w.table w.hands begun i).2 w.entries,
  (next_begun form c w.table w.hands begun i).3,
)

abbrev pub steps : {T : Type 0} → ℕ → World T → List ℕ → ℕ → Moved T
steps cycle w begun i = (accepted (stepped cycle w i).0, (stepped cycle w i).1, begun)

abbrev pub collects : {T : Type 0} → World T → List ℕ → ℕ → Moved T
collects w begun i = (
  accepted (collected w.table i w.hands).0,
  world w.row (collected w.table i w.hands).1 w.cells w.hands w.entries,
  begun,
)

-- an idle thread begins its next operation or rests, a done one is collected, any other is stepped
abbrev pub moved_in : {T : Type 0} → Format T → ℕ → Contents → World T → List ℕ → ℕ → Phase → Moved T
moved_in form cycle c w begun i Idle = begins form c w begun i
moved_in form cycle c w begun i (Taking kind) = steps cycle w begun i
moved_in form cycle c w begun i (Waiting kind ticket) = steps cycle w begun i
moved_in form cycle c w begun i (Storing ticket) = steps cycle w begun i
moved_in form cycle c w begun i (Reading ticket) = steps cycle w begun i
moved_in form cycle c w begun i (Emptying ticket) = steps cycle w begun i
moved_in form cycle c w begun i (Completing kind ticket) = steps cycle w begun i
moved_in form cycle c w begun i (Done kind ticket) = collects w begun i

-- a schedule entry that names thread i
abbrev pub moved : {T : Type 0} → Format T → ℕ → Contents → World T → List ℕ → ℕ → Moved T
moved form cycle c w begun i = cond (nat_le w.table.shape.threads i) (Err Stranger, w, begun) (moved_in form cycle c w begun i (phase_at w.table i))
