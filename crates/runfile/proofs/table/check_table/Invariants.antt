use Rattle.std.proofs.Common.{◌≡◌, ◌+◌, length}
use Rattle.runfile.specs.Files.{table}
use Rattle.runfile.specs.Tables.{entries, tabled}
use Rattle.runfile.proofs.table.check_table.Given as goal

abbrev pub invariant-loop-index : goal.invariant-loop-index
invariant-loop-index l = record {
  can_next : goal.iterator-loop-index.can_next l.index-iterator;
  is_finite : goal.iterator-loop-index.is_finite l.index-iterator;
  left : tabled l.file.count.entries 0 (entries (table l.file.count.entries l.file.bytes.now)) ≡ tabled l.file.count.entries l.index-iterator.count (entries l.index-iterator.iter.0.now);
  counted : l.index-iterator.count + length (entries l.index-iterator.iter.0.now) ≡ l.file.count.entries;
}
