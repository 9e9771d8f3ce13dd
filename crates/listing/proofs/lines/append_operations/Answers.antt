use Rattle.std.proofs.Common.{◌≡◌, ◌++◌, vec_items, sym, ap, rules}
use Rattle.std.specs.List.{flat_map}
use Rattle.runfile.proofs.ProgramLaws.{operations_read}
use Rattle.listing.specs.Listings.{operation_text}
use Rattle.listing.proofs.lines.append_operations.Goals as goal

pub loop-read-init : goal.loop-read-init
loop-read-init g c =
    let r : c.into_iter-read-iterator.result.rest.now ≡ c.args.program.now = search rules in
    record {
      can_next = tt;
      is_finite = tt;
      left = rw r (ap (λ os. vec_items c.args.out.now ++ flat_map (operation_text g.E.Element.printed) os) (sym (operations_read g.E.Element.format 0 c.args.program.now _)));
    }
