-- The three runs that are written down, each answered as written.
use Rattle.std.proofs.Common.{◌≡◌, ◌*◌, ◌≤◌, List, [], ◌∷◌, length, refl, arith}
use Rattle.turns.specs.declared.shape.Shape.{Shape}
use Rattle.turns.specs.Layouts.{nibble_cycle}
use Rattle.history.specs.declared.entry.Entry.{Entry}
use Rattle.history.specs.declared.entry.Kind.TheVariants.{Push}
use Rattle.world.specs.declared.cell.Cell.{Cell}
use Rattle.world.specs.declared.cell.Mark.TheVariants.{Empty}
use Rattle.world.specs.Steps.{cell}
use Rattle.world.specs.Takes.{entry}
use Rattle.law.specs.Operations.{Event}
use Rattle.law.specs.Runs.{first}
use Rattle.examples.specs.Examples.{three_pushes, two_pops, overtaken}
use Rattle.world.specs.Calls.{new_world}
use Rattle.examples.specs.Scripts.{Played}
use Rattle.examples.proofs.Playing.{AnswersAll, played_all, told_all, leads, leads_moment}

module _ {T : Type 0} (shape : Shape) (cells : List (Cell T)) (hands : List T) (entries : List (Entry T)) (script : List (Event T)) where
  -- a script that a newly opened machine answers as written is played
  plays : 2 * shape.threads ≤ nibble_cycle → length cells ≡ shape.slots → AnswersAll nibble_cycle (new_world shape cells hands entries) script → Played nibble_cycle shape.slots shape.threads script
  plays long fit a =
      let start = new_world shape cells hands entries in
      let l = leads nibble_cycle script start [] a in
      record {
        shape = shape;
        slots_are = refl;
        threads_are = refl;
        long = long;
        cells = cells;
        fitting = fit;
        hands = hands;
        entries = entries;
        last = played_all nibble_cycle start script;
        operations = told_all nibble_cycle start script [];
        leads = l;
        moment = leads_moment nibble_cycle start script start [] (played_all nibble_cycle start script) (told_all nibble_cycle start script []) first l;
      }

abbrev one_slot : Shape
one_slot = record { slots = 1; threads = 3; few = ((omega arith, omega arith), (omega arith, omega arith)) }

abbrev two_threads : Shape
two_threads = record { slots = 2; threads = 2; few = ((omega arith, omega arith), (omega arith, omega arith)) }

abbrev three_threads : Shape
three_threads = record { slots = 2; threads = 3; few = ((omega arith, omega arith), (omega arith, omega arith)) }

module _ {T : Type 0} (x : T) where
  -- what the buffers hold before they are written
  abbrev blank : Cell T
  blank = cell x Empty

  abbrev unused : Entry T
  unused = entry Push 0 0 x

  pub three_pushes_play : (y z : T) → Played nibble_cycle 1 3 (three_pushes x y z)
  three_pushes_play y z =
      plays one_slot (blank ∷ []) (x ∷ x ∷ x ∷ []) (unused ∷ unused ∷ unused ∷ []) (three_pushes x y z) (omega arith) refl (refl, (refl, (refl, (refl, (refl, (refl, (refl, (refl, (refl, (refl, (refl, (refl, (refl, (refl, (refl, tt)))))))))))))))

  pub two_pops_play : Played nibble_cycle 2 2 (two_pops T)
  two_pops_play =
      plays two_threads (blank ∷ blank ∷ []) (x ∷ x ∷ []) [] (two_pops T) (omega arith) refl (refl, (refl, (refl, (refl, (refl, (refl, (refl, (refl, (refl, (refl, tt))))))))))

  pub overtaken_plays : (y : T) → Played nibble_cycle 2 3 (overtaken x y)
  overtaken_plays y =
      plays three_threads (blank ∷ blank ∷ []) (x ∷ x ∷ x ∷ []) (unused ∷ unused ∷ unused ∷ []) (overtaken x y) (omega arith) refl (refl, (refl, (refl, (refl, (refl, (refl, (refl, (refl, (refl, (refl, (refl, (refl, (refl, (refl, (refl, (refl, tt))))))))))))))))
