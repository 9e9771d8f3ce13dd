-- The room that the buffers of a run take.
use Rattle.std.specs.Prelude.{◌*◌, ◌^◌, ◌<◌}
use Rattle.std.specs.Mem.{type_size}
use denote.RattleType.{RattleType}
use Rattle.history.specs.contracts.entry.Entry.{the_row as entry_row}
use Rattle.world.specs.contracts.cell.Cell.{the_row as cell_row}

-- the cells, hands and record of elements of a type lie in memory; the compiler knows the size of each kind of elements
abbrev pub BuffersFit : RattleType → Type 0
BuffersFit R = (64 * type_size (cell_row R) < 2 ^ 63) × (64 * type_size R < 2 ^ 63) × (2048 * type_size (entry_row R) < 2 ^ 63)
