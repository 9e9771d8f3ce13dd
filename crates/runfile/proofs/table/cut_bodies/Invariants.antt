use Rattle.std.proofs.Common.{◌≡◌, ◌+◌, ◌*◌, ◌≤◌, ◌++◌, map, length, take, drop, Ok}
use Rattle.runfile.specs.Chains.{chain}
use Rattle.runfile.specs.Files.{table}
use Rattle.runfile.specs.Tables.{entries, bodied}
use Rattle.runfile.proofs.table.cut_bodies.Given as goal

abbrev pub invariant-loop-index : goal.invariant-loop-index
invariant-loop-index l = record {
  can_next : goal.iterator-loop-index.can_next l.index-iterator;
  is_finite : goal.iterator-loop-index.is_finite l.index-iterator;
  cut : bodied (entries (table l.file.count.entries l.file.bytes.now)) (drop (1 + 5 * l.file.count.entries) l.file.bytes.now) l.end ≡ chain (bodied (entries l.index-iterator.iter.0.now) l.left l.end) (λ bs. Ok (take l.index-iterator.count (map (λ x. x.now) l.cuts) ++ bs));
  counted : l.index-iterator.count + length (entries l.index-iterator.iter.0.now) ≡ l.file.count.entries;
  within : length l.left ≤ l.end;
  long : length l.cuts ≡ 67;
}
