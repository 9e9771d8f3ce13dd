-- A begin on a thread's phase.
use Rattle.std.specs.Prelude.{cond, Ok, Err, Result}
use Rattle.history.specs.declared.entry.Kind.{Kind}
use Rattle.world.specs.Calls.{is_idle}
use Rattle.world.specs.declared.phase.Phase.{Phase}
use Rattle.world.specs.declared.phase.Phase.TheVariants.{Taking}
use Rattle.world.specs.declared.refusal.Refusal.{Refusal}
use Rattle.world.specs.declared.refusal.Refusal.TheVariants.{Busy}

-- the answer, and the phase afterwards: an idle thread is about to take
abbrev pub begun : Phase → Kind → Result (Unit {0}) Refusal × Phase
begun phase kind = cond (is_idle phase) (Ok tt, Taking kind) (Err Busy, phase)
