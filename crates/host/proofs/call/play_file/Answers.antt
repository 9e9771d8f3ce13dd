use Rattle.std.proofs.Common.{rules}
use Rattle.host.proofs.Telling.{came}
use Rattle.host.proofs.call.play_file.Goals as goal

pub returns-in-Number-clause-writes : goal.returns-in-Number-clause-writes
returns-in-Number-clause-writes c = let e = came _ c.read_run.result c.in_ok-run.run' c.in_ok-run.ensures.cases in search rules

pub returns-in-Number-clause-faithful : goal.returns-in-Number-clause-faithful
returns-in-Number-clause-faithful c = let e = came _ c.read_run.result c.in_ok-run.run' c.in_ok-run.ensures.cases in search rules

pub returns-in-Letter-clause-writes : goal.returns-in-Letter-clause-writes
returns-in-Letter-clause-writes c = let e = came _ c.read_run.result c.in_ok-run.run' c.in_ok-run.ensures.cases in search rules

pub returns-in-Letter-clause-faithful : goal.returns-in-Letter-clause-faithful
returns-in-Letter-clause-faithful c = let e = came _ c.read_run.result c.in_ok-run.run' c.in_ok-run.ensures.cases in search rules
