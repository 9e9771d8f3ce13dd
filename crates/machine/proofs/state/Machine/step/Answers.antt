use Rattle.std.proofs.lemmas.List.{set-get_or}
use Rattle.std.proofs.Common.{◌≡◌, ◌-◌, length, subst, rules}
use Rattle.world.specs.declared.phase.Phase.TheVariants.{Taking}
use Rattle.world.specs.Worlds.{world}
use Rattle.machine.specs.Admissions.{Ready}
use Rattle.machine.proofs.Lists.{at_read}
use Rattle.machine.proofs.Taking.{Admitted, took_lent}
use Rattle.machine.proofs.state.Machine.step.Goals as goal

pub returns-in-Taking-default : goal.returns-in-Taking-default
returns-in-Taking-default g c =
    let m = c.args.self.now in
    let i = c.args.thread in
    let kind = c.in-Taking-default.kind in
    let w = world (g.B.Bank.row m.bank) m.table c.args.cells.now c.args.hands.now c.args.entries.now in
    let free = length w.entries - m.table.used in
    let ready : Ready m.table free (Taking kind) = subst (Ready m.table free) c.in-Taking-default.is-0 c.in_ok-came.ensures.ready in
    let a : Admitted w i kind = search rules in
    let same : c.in_ok-i.i ≡ i = search rules in
    let took = took_lent g.B.Bank.CYCLE w i kind a c.take-ticket.result c.take-ticket.new.table c.take-ticket.new.entries (cc) (cc) (cc) in
    record { answer = cc }

pub returns-in-Waiting-false : goal.returns-in-Waiting-false
returns-in-Waiting-false g c = search (rules, set-get_or)

pub returns-in-Storing-default : goal.returns-in-Storing-default
returns-in-Storing-default g c = search (rules, at_read)

pub returns-in-Reading-default : goal.returns-in-Reading-default
returns-in-Reading-default g c = search (rules, at_read)

pub returns-in-Emptying-default : goal.returns-in-Emptying-default
returns-in-Emptying-default g c = search (rules, at_read)
