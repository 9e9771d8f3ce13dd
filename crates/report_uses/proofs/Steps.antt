-- One entry of a run of pieces.
use Rattle.std.proofs.Common.{◌≡◌, ℕ, List, ◌∷◌, Ok, Err, arith}
use Rattle.std.proofs.lemmas.Bool.Decides.{nat_tests}
use Rattle.report.proofs.Writing.{run}
use Rattle.report.specs.Pieces.{left_at}
use Rattle.faults.specs.declared.fault.Fault.{Fault}
use Rattle.text.specs.declared.refusal.AreaRefusal.{AreaRefusal}
use Rattle.report.specs.declared.states.OpenReport.{OpenReport}
use Rattle.report_uses.specs.Uses.{entered}

module _ (o : OpenReport) (xs ys piece : List ℕ) (ps : List (List ℕ)) (a : ys ≡ left_at xs o.written piece) where
  pub entered_ok : (p : OpenReport) → Ok p ≡ entered o xs piece → run xs o.written (piece ∷ ps) ≡ run ys p.written ps
  entered_ok p e = grind (arith, nat_tests)

  pub entered_err : (f : Fault AreaRefusal) → Err f ≡ entered o xs piece → run xs o.written (piece ∷ ps) ≡ (Err f, ys)
  entered_err f e = grind (arith, nat_tests)
