use Rattle.std.proofs.Common.{◌≡◌, ◌++◌, map, drop, vec_items}
use Rattle.listing.specs.Listings.{program_lines}
use Rattle.listing.proofs.lister.append_programs.Given as goal

abbrev pub invariant-loop-thread : goal.invariant-loop-thread
invariant-loop-thread g l =
    vec_items l.out ++ program_lines g.E.Element.format g.E.Element.printed l.thread (map (λ p. p.now) (drop l.thread l.program-items))
    ≡ vec_items l.initial.out ++ program_lines g.E.Element.format g.E.Element.printed 0 (map (λ p. p.now) l.program-items)
