use Rattle.std.proofs.Common.{◌≡◌, ℕ, List, length, OnOk, Result, sym, ap, ◌∙◌, subst}
use Rattle.faults.specs.declared.fault.Fault.{Fault as FaultOf}
use Rattle.report.specs.declared.counts.Counts.{Counts}
use Rattle.runfile.specs.Files.{contents_of}
use Rattle.world.specs.declared.refusal.Refusal.{Refusal}
use Rattle.world.specs.Calls.{new_world}
use Rattle.world.specs.Worlds.{world}
use Rattle.play.specs.Runs.{Reached, ran}
use Rattle.host.specs.Tells.{Faithful, Writes, counts_in, text_in}
use Rattle.host.proofs.Telling.{came, reported_up, told_anyway}
use Rattle.host.proofs.reporting.report_run.Goals as goal

pub returns : goal.returns
returns g c =
    let m = c.play_run.new.machine in
    let w = world (g.B.Bank.row m.bank) m.table c.play_run.new.cells c.play_run.new.hands c.play_run.new.entries in
    let printed = g.E.Element.printed in
    let cycle = g.B.Bank.CYCLE in
    let shape = c.args.shape in
    let room = length c.args.area.now in
    let made = c.new-machine.result in
    let before = world (g.B.Bank.row made.bank) made.table c.args.cells.now c.args.hands.now c.args.entries.now in
    let p = ran g.E.Element.format cycle (contents_of c.args.run.now) shape before in
    let anyway = told_anyway g.E.Element.format printed room cycle (contents_of c.args.run.now) shape (g.B.Bank.row made.bank) made.table c.args.cells.now c.args.hands.now c.args.entries.now in
    let played = c.play_run.ensures in
    let done = came _ c.play_run.result tt c.in_ok-map_err.ensures.cases in
    let reached = subst (λ (r : Result (Unit {0}) (FaultOf Refusal)). OnOk r (Reached cycle (new_world shape c.args.cells.now c.args.hands.now c.args.entries.now) w)) done played.reached in
    let report = c.write_report.ensures in
    let faithful : (text : List ℕ) → text ≡ text_in printed shape w → Faithful printed cycle shape text = λ text e. record { cells = c.args.cells.now; hands = c.args.hands.now; entries = c.args.entries.now; w = w; reached = reached; report = e } in
    let counts : Counts = record { pushes = c.pushes.result; pops = c.pops.result; waiting = c.waiting.result } in
    let counts_are : counts ≡ counts_in w = λ i. record { pushes = c.pushes.ensures i; pops = c.pops.ensures i; waiting = c.waiting.ensures i } in
    let up = reported_up printed shape w c.used.result counts c.used.ensures counts_are p (sym done ∙ ap (λ q. q.0) played.answer) (ap (λ q. q.1) played.answer) c.args.area.now c.write_report.new.area (Faithful printed cycle shape) faithful c.write_report.result c.map_err-2.result c.map_err-2.ensures.cases report.answer report.whole in
    record { writes = subst (Writes c.map_err-2.result c.args.area.now c.write_report.new.area) anyway up.0; faithful = up.1 }
