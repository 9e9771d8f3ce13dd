-- A take that is not refused, as a step of its thread.
use Rattle.std.proofs.Common.{◌≡◌, ℕ, ◌-◌, ◌<◌, ◌≤◌, List, length, Ok, ap, arith}
use Rattle.std.proofs.lemmas.List.{set-get_or}
use Rattle.std.proofs.lemmas.Bool.{lt-leb, le-leb, eq-eqb, ne_eqb, le-ltb}
use Rattle.history.specs.declared.entry.Entry.{Entry}
use Rattle.history.specs.declared.entry.Kind.{Kind}
use Rattle.world.specs.declared.phase.Phase.TheVariants.{Idle, Taking}
use Rattle.world.specs.declared.step.Step.TheVariants.{Took}
use Rattle.world.specs.declared.table.Table.{Table}
use Rattle.world.specs.Steps.{stepped}
use Rattle.world.specs.Takes.{count_of, writes_of, ticket_limit, record_after, table_after}
use Rattle.world.specs.Worlds.{World, world, phase_at, rephased}

-- a row that is lent and given back as it was leaves the table
pub lent_back : (t : Table) (i : ℕ) → rephased t i (phase_at t i) ≡ t
lent_back t i = ap (λ rows. record { shape = t.shape; pushes = t.pushes; pops = t.pops; used = t.used; threads = rows }) (set-get_or t.threads i Idle)

-- the facts that a take is admitted on
pub record Admitted {T : Type 0} (w : World T) (i : ℕ) (kind : Kind) : Type 0 where
  pub within : i < w.table.shape.threads
  pub cells : length w.cells ≡ w.table.shape.slots
  pub hands : length w.hands ≡ w.table.shape.threads
  pub used : w.table.used ≤ length w.entries
  pub phase : phase_at w.table i ≡ Taking kind
  pub unspent : count_of kind w.table < ticket_limit
  pub room : writes_of kind w.table ≤ length w.entries - w.table.used

module _ {T : Type 0} (cycle : ℕ) (w : World T) (i : ℕ) (kind : Kind) (a : Admitted w i kind) where
  pub took : stepped cycle w i ≡ (Ok (Took, count_of kind w.table), world w.row (table_after kind w.table i) w.cells w.hands (record_after kind w.table i w.hands w.entries))
  took =
      let spent : count_of kind w.table ≡ ticket_limit → ⊥ = λ e. omega (arith, a.unspent) in
      rw (lt-leb w.table.shape.threads i a.within, eq-eqb (length w.cells) w.table.shape.slots a.cells, eq-eqb (length w.hands) w.table.shape.threads a.hands, le-leb w.table.used (length w.entries) a.used, a.phase, ne_eqb (count_of kind w.table) ticket_limit spent, le-ltb (length w.entries - w.table.used) (writes_of kind w.table) a.room)

  -- the step that lends the thread's row, gives it back and takes
  pub took_lent : (ticket : ℕ) (table : Table) (entries : List (Entry T)) →
      ticket ≡ count_of kind (rephased w.table i (phase_at w.table i)) →
      table ≡ table_after kind (rephased w.table i (phase_at w.table i)) i →
      entries ≡ record_after kind (rephased w.table i (phase_at w.table i)) i w.hands w.entries →
      (Ok (Took, ticket), world w.row table w.cells w.hands entries) ≡ stepped cycle w i
  took_lent ticket table entries e f h = let b = lent_back w.table i in let s = took in cc
