-- Takes of a push at the limits of the record and of the tickets.
use Rattle.std.proofs.Common.{◌≡◌, ℕ, ◌+◌, ◌<◌, ◌≤◌, ◌≢◌, Ok, Err, ap, ◌∙◌, arith}
use Rattle.std.proofs.lemmas.Bool.{eq-eqb, ne_eqb, le-ltb, lt-leb, lt-ltb}
use Rattle.history.specs.declared.entry.Kind.TheVariants.{Push}
use Rattle.world.specs.declared.refusal.Refusal.TheVariants.{Spent, RecordFull}
use Rattle.world.specs.declared.step.Step.TheVariants.{Took}
use Rattle.world.specs.Steps.{Outcome, stepped, taken}
use Rattle.world.specs.Takes.{push_writes, record_after, table_after, ticket_limit, writes_of}
use Rattle.world.specs.Worlds.{World, world}
use Rattle.examples.specs.Examples.{PushTakes, TookPush, free}

module _ {T : Type 0} (cycle : ℕ) (w : World T) (i : ℕ) (p : PushTakes w i) where
  -- the step is the take
  takes : stepped cycle w i ≡ taken w i Push
  takes = rw (lt-leb w.table.shape.threads i p.within, p.fits, p.taking)

  -- a take that is neither spent nor without room
  took : w.table.pushes ≢ ticket_limit → push_writes w.table ≤ free w → TookPush cycle w i w.table.pushes (w.table.pushes + 1) (w.table.used + push_writes w.table)
  took unspent room =
      let e : stepped cycle w i ≡ (Ok (Took, w.table.pushes), world w.row (table_after Push w.table i) w.cells w.hands (record_after Push w.table i w.hands w.entries)) =
      takes ∙ rw (ne_eqb w.table.pushes ticket_limit unspent, le-ltb (free w) (push_writes w.table) room) in
      record {
        answers = ap (λ (a : Outcome T). a.0) e;
        pushes_are = ap (λ (a : Outcome T). a.1.table.pushes) e;
        used_are = ap (λ (a : Outcome T). a.1.table.used) e;
      }

  pub record_full : w.table.pushes ≢ 65535 → free w ≡ 1 → w.table.pushes < w.table.pops → stepped cycle w i ≡ (Err RecordFull, w)
  record_full unspent one early = takes ∙ rw (ne_eqb w.table.pushes ticket_limit unspent, lt-ltb w.table.pushes w.table.pops early, one)

  pub took_last_entry : w.table.pushes ≢ 65535 → free w ≡ 1 → w.table.pushes ≡ w.table.pops → TookPush cycle w i w.table.pushes (w.table.pushes + 1) (w.table.used + 1)
  took_last_entry unspent one even =
      let e : push_writes w.table ≡ 1 = rw (le-ltb w.table.pushes w.table.pops (omega arith)) in
      let t = took unspent (omega arith) in
      record { answers = t.answers; pushes_are = t.pushes_are; used_are = t.used_are ∙ ap (λ k. w.table.used + k) e }

  pub took_last_ticket : w.table.pushes ≡ 65534 → writes_of Push w.table ≤ free w → TookPush cycle w i 65534 65535 (w.table.used + writes_of Push w.table)
  took_last_ticket e room =
      let t = took (λ z. omega arith) room in
      record { answers = t.answers ∙ ap (λ k. Ok (Took, k)) e; pushes_are = t.pushes_are ∙ ap (λ k. k + 1) e; used_are = t.used_are }

  pub spent : w.table.pushes ≡ 65535 → stepped cycle w i ≡ (Err Spent, w)
  spent e = takes ∙ rw (eq-eqb w.table.pushes ticket_limit e)
