use Rattle.std.proofs.Common.{◌≡◌, refl, inl, arith, rules}
use Rattle.runfile.specs.Files.{table}
use Rattle.runfile.proofs.OutcomeLaws.{table_entries}
use Rattle.runfile.proofs.table.check_table.Goals as goal

pub loop-index-init : goal.loop-index-init
loop-index-init c =
    let file = c.args.file.now in
    let t = table_entries file in
    let s : c.into_iter-index-iterator.result.iter.0.now ≡ table file.count.entries file.bytes.now = search rules in
    let n : c.into_iter-index-iterator.result.count ≡ 0 = search rules in
    record {
      can_next = (tt, tt, inl (rw (n, s) (omega arith)));
      is_finite = tt;
      left = rw (n, s) refl;
      counted = rw (n, s) (omega arith);
    }
