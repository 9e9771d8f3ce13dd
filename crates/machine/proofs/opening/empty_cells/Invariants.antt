use Rattle.std.proofs.Common.{◌≡◌, ◌++◌, map, take, drop}
use Rattle.world.specs.Calls.{empty_cell}
use Rattle.machine.proofs.opening.empty_cells.Given as goal

-- the cells before the loop's place are emptied, the others as they were
abbrev pub invariant-loop-cell : goal.invariant-loop-cell
invariant-loop-cell g l = l.cells ≡ map empty_cell (take l.cell-index l.initial.cells) ++ drop l.cell-index l.initial.cells
