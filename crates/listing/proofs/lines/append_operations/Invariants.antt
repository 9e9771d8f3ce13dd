use Rattle.std.proofs.Common.{◌≡◌, ◌++◌, vec_items}
use Rattle.std.specs.List.{flat_map}
use Rattle.std.specs.Result.{ok_prefix}
use Rattle.runfile.specs.Programs.{operations_of, readings}
use Rattle.listing.specs.Listings.{operation_text}
use Rattle.listing.proofs.lines.append_operations.Given as goal

abbrev pub invariant-loop-read : goal.invariant-loop-read
invariant-loop-read g l = record {
  can_next : (goal.iterator-loop-read g).can_next l.read-iterator;
  is_finite : (goal.iterator-loop-read g).is_finite l.read-iterator;
  left : vec_items l.out ++ flat_map (operation_text g.E.Element.printed) (ok_prefix (readings g.E.Element.format 0 l.read-iterator.rest.now l.read-iterator.place))
      ≡ vec_items l.initial.out ++ flat_map (operation_text g.E.Element.printed) (operations_of g.E.Element.format 0 l.program);
}
