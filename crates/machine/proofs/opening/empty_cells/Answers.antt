use Rattle.std.proofs.Common.{rules}
use Rattle.std.proofs.lemmas.List.Edits.{map_over_more}
use Rattle.world.specs.Calls.{empty_cell}
use Rattle.machine.proofs.opening.empty_cells.Goals as goal

pub loop-cell-preserved : goal.loop-cell-preserved
loop-cell-preserved g c = search (rules, map_over_more (empty_cell {T = g.row.T.Denot}))
