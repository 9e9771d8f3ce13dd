-- Both schedules, one after the other, are the whole schedule.
use Rattle.std.proofs.Common.{◌≡◌, ℕ, ◌+◌, ◌-◌, ◌≤◌, List, [], ◌∷◌, ◌++◌, length, Ok, Err, Result, sym, refl, ap, ◌∙◌, arith}
use Rattle.std.proofs.lemmas.List.{drop_all, append-nil}
use Rattle.std.proofs.lemmas.Bool.{le-ltb}
use Rattle.faults.specs.declared.fault.Fault.{Fault}
use Rattle.runfile.specs.Elements.{Format}
use Rattle.runfile.specs.Files.{Contents, lead_in_in, main_in}
use Rattle.world.specs.declared.refusal.Refusal.{Refusal}
use Rattle.world.specs.Worlds.{World}
use Rattle.play.specs.Moves.{moved}
use Rattle.play.specs.Plays.{Played, onward, played}
use Rattle.play.specs.Runs.{whole_schedule}
use Rattle.play.specs.Schedules.{still_to_run}

-- what is still to run at first, and then after that, is all there is
pub halves : (lead_in main : List ℕ) → still_to_run lead_in main 0 ++ still_to_run lead_in main (length (still_to_run lead_in main 0)) ≡ lead_in ++ main
halves [] main = let none : 0 ≤ length main = omega arith in let all : length main ≤ length main - 0 = omega arith in rw (le-ltb (length main) 0 none, drop_all (length main - 0) main all) (append-nil main)
halves (x ∷ xs) main = grind arith

module _ {T : Type 0} (form : Format T) (cycle : ℕ) (c : Contents) where
  -- a fault ends the run; otherwise the rest is played
  abbrev next : Result (Unit {0}) (Fault Refusal) → World T → List ℕ → List ℕ → ℕ → Played T
  next (Ok u) w begun is place = played form cycle c w begun is place
  next (Err f) w begun is place = (Err f, w, begun)

  abbrev further : Played T → List ℕ → ℕ → Played T
  further p is place = next p.0 p.1 p.2 is place

  -- an entry, what comes behind it, and the rest of the schedule
  one_more : (r : Result (Unit {0}) Refusal) (w : World T) (begun is : List ℕ) (place : ℕ) (p q : Played T) (k : ℕ) →
      q ≡ further p is k → onward r w begun place q ≡ further (onward r w begun place p) is k
  one_more (Ok u) w begun is place p q k e = e
  one_more (Err r) w begun is place p q k e = refl

  played_append : (xs ys : List ℕ) (w : World T) (begun : List ℕ) (place k : ℕ) → k ≡ place + length xs → played form cycle c w begun (xs ++ ys) place ≡ further (played form cycle c w begun xs place) ys k
  played_append [] ys w begun place k h = let e : place ≡ k = omega arith in ap (played form cycle c w begun ys) e
  played_append (x ∷ xs) ys w begun place k h =
      let m = moved form cycle c w begun x in
      let e : k ≡ place + 1 + length xs = omega arith in
      one_more m.0 m.1 m.2 ys place _ _ k (played_append xs ys m.1 m.2 (place + 1) k e)

  -- what is still to run after so many entries
  abbrev left : ℕ → List ℕ
  left taken = still_to_run (lead_in_in c.header.threads c.bodies) (main_in c.header.threads c.bodies) taken

  -- the two schedules of a run, played one after the other
  module _ (w : World T) (begun first rest : List ℕ) (at_first : first ≡ left 0) (at_rest : rest ≡ left (length first)) where
    all_of_it : first ++ rest ≡ whole_schedule c
    all_of_it = rw (at_rest, at_first) (halves (lead_in_in c.header.threads c.bodies) (main_in c.header.threads c.bodies))

    in_two : (p : Played T) → p ≡ played form cycle c w begun first 0 → further p rest (length first) ≡ played form cycle c w begun (whole_schedule c) 0
    in_two p e = ap (λ q. further q rest (length first)) e ∙ sym (played_append first rest w begun 0 (length first) (omega arith)) ∙ ap (λ is. played form cycle c w begun is 0) all_of_it

    pub ended_in_first : (r : Result (Unit {0}) (Fault Refusal)) (f : Fault Refusal) (w' : World T) (begun' : List ℕ) → r ≡ Err f → (Err f, w', begun') ≡ played form cycle c w begun first 0 → (r, w', begun') ≡ played form cycle c w begun (whole_schedule c) 0
    ended_in_first r f w' begun' z e = rw z (in_two (Err f, w', begun') e)

    pub went_on : (w' : World T) (begun' : List ℕ) (q : Played T) → (Ok tt, w', begun') ≡ played form cycle c w begun first 0 → q ≡ played form cycle c w' begun' rest (length first) → q ≡ played form cycle c w begun (whole_schedule c) 0
    went_on w' begun' q e h = h ∙ in_two (Ok tt, w', begun') e
