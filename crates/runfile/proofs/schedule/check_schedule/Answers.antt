use Rattle.std.proofs.Common.{◌≡◌, ℕ, ◌+◌, leb, List, [], ◌∷◌, Some, None, Ok, Err, Option, Result, sym, refl, ap, ◌∙◌, add-zero, arith, rules}
use Rattle.std.proofs.lemmas.Bool.Decides.{nat_tests}
use Rattle.std.proofs.lemmas.Iterator.Adapters.{position_from-zero}
use Rattle.std.specs.List.{position, position_from}
use Rattle.runfile.specs.Faults.{FileFault, body}
use Rattle.runfile.specs.Schedules.{scheduled}
use Rattle.runfile.proofs.schedule.check_schedule.Goals as goal

-- the fault at the first thread that the run does not have
abbrev found : ℕ → Option ℕ → Result (Unit {0}) FileFault
found place (Some i) = Err (body (place + i))
found place None = Ok tt

module _ (threads place : ℕ) where
  found_from : (k : ℕ) (ts : List ℕ) → scheduled threads ts (place + k) ≡ found place (position_from (leb threads) k ts)
  found_from k [] = refl
  found_from k (t ∷ ts) =
      let e = found_from (k + 1) ts in
      let a : place + k + 1 ≡ place + (k + 1) = omega arith in
      grind (arith, nat_tests)

  found_first : (ts : List ℕ) (o : Option ℕ) → o ≡ position (leb threads) ts → scheduled threads ts place ≡ found place o
  found_first ts o e =
      ap (scheduled threads ts) (sym (add-zero place))
      ∙ found_from 0 ts
      ∙ ap (found place) (sym (e ∙ position_from-zero (leb threads) ts))

pub returns-in-Some : goal.returns-in-Some
returns-in-Some c =
    let e = found_first c.args.threads c.args.place c.args.schedule.now (Some c.in-Some.index) c.in-Some.ensures in
    search rules

pub returns-in-None : goal.returns-in-None
returns-in-None c = sym (found_first c.args.threads c.args.place c.args.schedule.now None c.in-None.ensures)
