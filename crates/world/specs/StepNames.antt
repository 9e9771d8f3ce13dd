-- The names by which steps answer.
use Rattle.std.specs.Prelude.{ℕ, List, codes}
use Rattle.world.specs.declared.step.Step.{Step}
use Rattle.world.specs.declared.step.Step.TheVariants.{Took, Waited, Passed, Stored, Read, Emptied, Completed}

abbrev pub name_of : Step → List ℕ
name_of Took = codes "took"
name_of Waited = codes "waited"
name_of Passed = codes "passed"
name_of Stored = codes "stored"
name_of Read = codes "read"
name_of Emptied = codes "emptied"
name_of Completed = codes "completed"
