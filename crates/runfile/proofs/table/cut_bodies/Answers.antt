use Rattle.std.proofs.Common.{◌≡◌, ◌+◌, ◌*◌, ◌∷◌, ◌<◌, length, drop, refl, ap, ◌∙◌, inl, arith, rules, length-set, length-drop}
use Rattle.runfile.specs.Files.{table}
use Rattle.runfile.specs.Tables.{bodied, entries}
use Rattle.runfile.proofs.OutcomeLaws.{table_entries}
use Rattle.runfile.proofs.TableLaws.{bodied_more, cut_none}
use Rattle.runfile.proofs.table.cut_bodies.Goals as goal

pub loop-index-init : goal.loop-index-init
loop-index-init c =
    let file = c.args.file.now in
    let t = table_entries file in
    let s : c.into_iter-index-iterator.result.iter.0.now ≡ table file.count.entries file.bytes.now = search rules in
    let n : c.into_iter-index-iterator.result.count ≡ 0 = search rules in
    record {
      can_next = (tt, tt, inl (rw (n, s) (omega arith)));
      is_finite = tt;
      cut = rw (n, s, c.bodies-left.ensures) (cut_none (bodied (entries (table file.count.entries file.bytes.now)) (drop (1 + 5 * file.count.entries) file.bytes.now) _));
      counted = rw (n, s) (omega arith);
      within = rw c.bodies-left.ensures (simp length-drop (omega arith));
      long = refl;
    }

pub loop-index-preserved : goal.loop-index-preserved
loop-index-preserved c =
    let file = c.args.file.now in
    let i = c.loop-index.invariant in
    let p = rw c.in_ok-body.ensures.ok_part at c.split_at_checked.ensures.cases in
    let n : c.in-Some.index ≡ c.loop-index.index-iterator.count = search rules in
    let m : c.next.new.self.count ≡ c.loop-index.index-iterator.count + 1 = search rules in
    let e : entries c.loop-index.index-iterator.iter.0.now ≡ c.in-Some.entry ∷ entries c.next.new.self.iter.0.now = search rules in
    let k = ap length e in
    let room : c.loop-index.index-iterator.count < length c.loop-index.cuts = omega arith in
    record {
      can_next = (tt, tt, inl (omega arith));
      is_finite = tt;
      cut = rw (m, n) (bodied_more _ c.loop-index.index-iterator.count c.loop-index.left.now c.loop-index.cuts _ _ _ _ _ c.in-Some.entry e p.0 room p.1 p.2 i.cut);
      counted = omega arith;
      within = omega arith;
      long = length-set _ _ _ ∙ i.long;
    }
