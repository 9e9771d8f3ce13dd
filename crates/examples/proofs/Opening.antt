-- Openings with a nibble bank, of which eight threads are the most.
use Rattle.std.proofs.Common.{◌≡◌, ℕ, ◌*◌, List, map, length, Ok, Err, arith}
use Rattle.std.proofs.lemmas.Bool.{eq-eqb, le-ltb, lt-ltb}
use Rattle.turns.specs.declared.shape.Shape.{Shape}
use Rattle.turns.specs.Layouts.{nibble_cycle}
use Rattle.turns.specs.Rows.{cleared}
use Rattle.world.specs.declared.cell.Cell.{Cell}
use Rattle.world.specs.declared.refusal.Refusal.TheVariants.{ShortCycle}
use Rattle.world.specs.declared.table.Table.{Table}
use Rattle.world.specs.Calls.{new_table, empty_cell, opened}

module _ {T : Type 0} (row : List ℕ) (table : Table) (cells : List (Cell T)) (shape : Shape) where
  pub opens_eight : shape.threads ≡ 8 → length cells ≡ shape.slots → opened nibble_cycle row table cells shape ≡ (Ok tt, cleared, new_table shape, map empty_cell cells)
  opens_eight n e = rw (le-ltb nibble_cycle (2 * shape.threads) (omega arith), eq-eqb (length cells) shape.slots e)

  pub refuses_nine : shape.threads ≡ 9 → opened nibble_cycle row table cells shape ≡ (Err ShortCycle, row, table, cells)
  refuses_nine n = rw (lt-ltb nibble_cycle (2 * shape.threads) (omega arith))
