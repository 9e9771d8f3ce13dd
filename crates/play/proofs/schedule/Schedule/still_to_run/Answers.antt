use Rattle.std.proofs.Common.{rules}
use Rattle.std.proofs.lemmas.Slice.{between_to_end}
use Rattle.play.proofs.schedule.Schedule.still_to_run.Goals as goal

pub returns-then-taken-self : goal.returns-then-taken-self
returns-then-taken-self c = search (rules, between_to_end)
