-- Why there is no report: the layer that refused, the refusal's number, and its place.
use Rattle.std.specs.Prelude.{ℕ, List, [], ◌∷◌, codes, decimal}
use Rattle.text.specs.Refusals.{number_of as area_number}
use Rattle.report.specs.Lines.{line_of}
use Rattle.runfile.specs.Faults.{number_of as file_number}
use Rattle.world.specs.Refusals.{number_of as machine_number}
use Rattle.host.specs.declared.fault.Fault.{Fault}
use Rattle.host.specs.declared.fault.Fault.TheVariants.{File, Machine, Report}

-- number and place come up unchanged
abbrev pub refusal_parts : Fault → List (List ℕ)
refusal_parts (File f) = codes "refused" ∷ codes "file" ∷ decimal (file_number f.refusal) ∷ decimal f.place ∷ []
refusal_parts (Machine f) = codes "refused" ∷ codes "machine" ∷ decimal (machine_number f.refusal) ∷ decimal f.place ∷ []
refusal_parts (Report f) = codes "refused" ∷ codes "report" ∷ decimal (area_number f.refusal) ∷ decimal f.place ∷ []

-- the line that stands in place of a report
abbrev pub refusal_line : Fault → List ℕ
refusal_line f = line_of (refusal_parts f)
