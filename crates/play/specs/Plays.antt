-- Playing a schedule: its entries one after another, up to the first refusal.
use Rattle.std.specs.Prelude.{ℕ, ◌+◌, List, [], ◌∷◌, Ok, Err, Result}
use Rattle.faults.specs.declared.fault.Fault.{Fault}
use Rattle.runfile.specs.Elements.{Format}
use Rattle.runfile.specs.Files.{Contents}
use Rattle.world.specs.declared.refusal.Refusal.{Refusal}
use Rattle.world.specs.Worlds.{World}
use Rattle.play.specs.Moves.{moved}

-- a refusal, with the index of the schedule entry that met it
abbrev pub refused_at : Refusal → ℕ → Fault Refusal
refused_at r place = record { refusal = r; place = place }

-- the answer, and the world and what is begun afterwards
abbrev pub Played : Type 0 → Type 0
Played T = Result (Unit {0}) (Fault Refusal) × World T × List ℕ

-- a refusal ends the run, at the entry's place; otherwise it goes on
abbrev pub onward : {T : Type 0} → Result (Unit {0}) Refusal → World T → List ℕ → ℕ → Played T → Played T
onward (Ok u) w begun place rest = rest
onward (Err r) w begun place rest = (Err (refused_at r place), w, begun)

-- the entries of a schedule in order, the first of which has the index `place`
abbrev pub played : {T : Type 0} → Format T → ℕ → Contents → World T → List ℕ → List ℕ → ℕ → Played T
played form cycle c w begun [] place = (Ok tt, w, begun)
played form cycle c w begun (i ∷ is) place =
    onward (moved form cycle c w begun i).0 (moved form cycle c w begun i).1 (moved form cycle c w begun i).2 place
    (played form cycle c (moved form cycle c w begun i).1 (moved form cycle c w begun i).2 is (place + 1))
