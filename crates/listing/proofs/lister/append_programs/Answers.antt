use Rattle.std.proofs.Common.{map, vec_items}
use Rattle.std.proofs.lemmas.List.{at_drop_more}
use Rattle.runfile.proofs.CutLaws.{nothing}
use Rattle.listing.specs.Listings.{program_lines}
use Rattle.listing.proofs.Appends.{next_item}
use Rattle.listing.proofs.lister.append_programs.Goals as goal

pub loop-thread-preserved : goal.loop-thread-preserved
loop-thread-preserved g c =
    let k = c.loop-thread.thread in
    let m = at_drop_more (λ ps. program_lines g.E.Element.format g.E.Element.printed k (map (λ p. p.now) ps)) c.programs-program-items.result.now k nothing c.loop-thread-test.true in
    next_item (vec_items c.loop-thread.out) _ _ _ _ _ c.in_ok-append_program.ensures m c.loop-thread.invariant
