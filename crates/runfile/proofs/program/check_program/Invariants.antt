use Rattle.std.proofs.Common.{◌≡◌}
use Rattle.runfile.specs.Programs.{readings}
use Rattle.runfile.proofs.ProgramLaws.{first_wrong}
use Rattle.runfile.proofs.program.check_program.Given as goal

abbrev pub invariant-loop-operation : goal.invariant-loop-operation
invariant-loop-operation g l = record {
  can_next : (goal.iterator-loop-operation g).can_next l.operation-iterator;
  is_finite : (goal.iterator-loop-operation g).is_finite l.operation-iterator;
  left : first_wrong (readings g.E.Element.format 0 l.program l.place) ≡ first_wrong (readings g.E.Element.format 0 l.operation-iterator.rest.now l.operation-iterator.place);
}
