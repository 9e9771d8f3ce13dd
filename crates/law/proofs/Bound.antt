-- The run that fails: thread 0 pushes and completes, so that the slot's turn is 1 and its cell full; then it takes push
-- ticket 1 and waits for turn 2; thread 1 takes push ticket 2, waits for turn 4, which is 1 in a cycle of 3, and passes.
use Rattle.std.proofs.Common.{◌≡◌, ℕ, List, [], ◌∷◌, map, refl, inl, arith}
use Rattle.turns.specs.declared.shape.Shape.{Shape}
use Rattle.turns.specs.Rows.{cleared}
use Rattle.history.specs.declared.entry.Entry.{Entry}
use Rattle.history.specs.declared.entry.Kind.TheVariants.{Push}
use Rattle.world.specs.declared.cell.Cell.{Cell}
use Rattle.world.specs.declared.cell.Mark.{Mark}
use Rattle.world.specs.declared.cell.Mark.TheVariants.{Empty, Full}
use Rattle.world.specs.Calls.{new_table, empty_cell, push_begun, collected}
use Rattle.world.specs.Steps.{cell, stepped}
use Rattle.world.specs.Takes.{entry}
use Rattle.world.specs.Worlds.{World, world}
use Rattle.law.specs.Bound.{FailingRun, BoundIsExact}
use Rattle.law.specs.Operations.{Operation, begin_push, step, collect, told}
use Rattle.law.specs.Runs.{Moment, first, next}

-- a moment with its world and operations
record Reached (start : World ℕ) : Type 0 where
  w : World ℕ
  os : List (Operation ℕ)
  moment : Moment 3 start w os

module _ (start : World ℕ) where
  pushing : ℕ → ℕ → Reached start → Reached start
  pushing i x r =
      let a = push_begun r.w.table i x r.w.hands in
      let after = world r.w.row a.1 r.w.cells a.2 r.w.entries in
      record { w = after; os = told (begin_push i x a.0) after.hands r.os; moment = next (begin_push i x a.0) r.moment (inl (refl, refl, refl, refl)) }

  stepping : ℕ → Reached start → Reached start
  stepping i r =
      let a = stepped 3 r.w i in
      record { w = a.1; os = told (step i a.0) a.1.hands r.os; moment = next (step i a.0) r.moment (inl refl) }

  collecting : ℕ → Reached start → Reached start
  collecting i r =
      let a = collected r.w.table i r.w.hands in
      let after = world r.w.row a.1 r.w.cells r.w.hands r.w.entries in
      record { w = after; os = told (collect i a.0) after.hands r.os; moment = next (collect i a.0) r.moment (inl (refl, refl)) }

abbrev shape : Shape
shape = record { slots = 1; threads = 2; few = ((omega arith, omega arith), (omega arith, omega arith)) }

abbrev cells : List (Cell ℕ)
cells = cell 0 Empty ∷ []

abbrev unused : Entry ℕ
unused = entry Push 0 0 0

abbrev start : World ℕ
start = world cleared (new_table shape) (map empty_cell cells) (0 ∷ 0 ∷ []) (unused ∷ unused ∷ unused ∷ [])

opened : Reached start
opened = record { w = start; os = []; moment = first }

reached : Reached start
reached =
    let pushed = collecting start 0 (stepping start 0 (stepping start 0 (stepping start 0 (stepping start 0 (pushing start 0 7 opened))))) in
    let waiting = stepping start 0 (pushing start 0 8 pushed) in
    stepping start 1 (stepping start 1 (pushing start 1 9 waiting))

full_empty : ◌≡◌ {A = Mark} Full Empty → ⊥
full_empty e = let z : ◌≡◌ {A = ℕ} 0 1 = cc in omega arith

failing_run : FailingRun
unfolding opened reached pushing stepping collecting
failing_run =
    record {
      shape = shape;
      one_slot = refl;
      two_threads = refl;
      cells = cells;
      fitting = refl;
      hands = 0 ∷ 0 ∷ [];
      entries = unused ∷ unused ∷ unused ∷ [];
      w = reached.w;
      os = reached.os;
      moment = reached.moment;
      storing = refl;
      full = refl;
      untrue = λ t. full_empty (t.storing 1 2 refl);
    }

pub bound_is_exact : BoundIsExact
bound_is_exact =
    record {
      run = failing_run;
      exact = λ law.
          let r = failing_run in
          r.untrue ((law 3 r.shape r.cells (omega (arith, r.two_threads)) r.fitting).law r.hands r.entries r.w r.os r.moment);
    }
