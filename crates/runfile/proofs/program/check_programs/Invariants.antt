use Rattle.std.proofs.Common.{◌≡◌, ◌+◌, map, length, drop}
use Rattle.std.specs.List.{flat_map}
use Rattle.runfile.specs.Programs.{programmed}
use Rattle.runfile.proofs.program.check_programs.Given as goal

abbrev pub invariant-loop-program : goal.invariant-loop-program
invariant-loop-program g l =
    (programmed g.E.Element.format (map (λ p. p.now) l.programs) l.initial.at
    ≡ programmed g.E.Element.format (map (λ p. p.now) (drop l.program-index l.programs)) l.at)
    × (l.at + length (flat_map (λ p. p) (map (λ p. p.now) (drop l.program-index l.programs))) ≡ l.initial.at + length (flat_map (λ p. p) (map (λ p. p.now) l.programs)))
