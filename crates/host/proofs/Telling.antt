-- What is told of a run whose report was written.
use Rattle.std.proofs.Common.{◌≡◌, ℕ, ◌+◌, ◌*◌, ◌≤◌, Bool, true, false, cond, eqb, ltb, List, map, length, take, drop, IfOk, Ok, Err, Result, sym, refl, ap, ◌∙◌, subst, arith}
use Rattle.std.specs.Result.{MatchResult, IsErrAnd}
use Rattle.std.proofs.lemmas.List.{take_at}
use Rattle.std.proofs.lemmas.Bool.{ltb-false}
use Rattle.text.specs.Areas.{put}
use Rattle.turns.specs.declared.shape.Shape.{Shape}
use Rattle.turns.specs.Rows.{cleared}
use Rattle.history.specs.declared.entry.Entry.{Entry}
use Rattle.runfile.specs.Elements.{Format}
use Rattle.runfile.specs.Files.{Contents}
use Rattle.world.specs.declared.cell.Cell.{Cell}
use Rattle.world.specs.declared.refusal.Refusal.TheVariants.{Misfit, ShortCycle}
use Rattle.world.specs.declared.table.Table.{Table}
use Rattle.world.specs.Calls.{empty_cell, new_table}
use Rattle.report.specs.declared.counts.Counts.{Counts}
use Rattle.report.specs.Reports.{fitting, pieces_of, report_text, reported, text_of}
use Rattle.world.specs.Worlds.{World, world}
use Rattle.host.specs.declared.fault.Fault.{Fault}
use Rattle.host.specs.declared.fault.Fault.TheVariants.{Report}
use Rattle.text.specs.declared.refusal.AreaRefusal.{AreaRefusal}
use Rattle.text.specs.declared.refusal.AreaRefusal.TheVariants.{ShortArea}
use Rattle.faults.specs.declared.fault.Fault.{Fault as FaultOf}
use Rattle.world.specs.declared.refusal.Refusal.{Refusal}
use Rattle.play.specs.Plays.{Played}
use Rattle.play.specs.Runs.{ran, ran_from}
use Rattle.host.specs.Tells.{Writes, counts_in, pieces_in, report_in, text_in, told_end, told_run}

-- a text that is put at the start of an area stands there
pub put_first : (area text after : List ℕ) (size : ℕ) → size ≡ length text → after ≡ put area 0 text → take size after ≡ text
put_first area text after size e h = ap (take size) h ∙ take_at text (drop (0 + length text) area) size (sym e)

-- an accepted test
pub by_test : {A E : Type 0} (b : Bool) (x y : A) (e : E) → Ok x ≡ cond b (Err e) (Ok y) → (b ≡ false) × (x ≡ y)
by_test true x y e h = absurd (let z : ◌≡◌ {A = ℕ} 0 1 = cc in omega arith)
by_test false x y e h = (refl, cc)

pub by_false : {A : Type 0} (b : Bool) (x y : A) → b ≡ false → cond b x y ≡ y
by_false b x y e = ap (λ t. cond t x y) e

-- a refused one
by_error : {A E : Type 0} (b : Bool) (x e : E) (y : A) → Err e ≡ cond b (Err x) (Ok y) → (b ≡ true) × (e ≡ x)
by_error true x e y h = (refl, cc)
by_error false x e y h = absurd (let z : ◌≡◌ {A = ℕ} 0 1 = cc in omega arith)

by_true : {A : Type 0} (b : Bool) (x y : A) → b ≡ true → cond b x y ≡ x
by_true b x y e = ap (λ t. cond t x y) e

-- what came up as accepted was accepted below
pub came : {A E : Type 0} (D : Type 0) (r : Result A E) (v : A) → MatchResult r (λ x. ◌≡◌ {A = Result A D} (Ok v) (Ok x)) (λ _. ⊥) → r ≡ Ok v
came D (Ok x) v h = let e : x ≡ v = cc in ap Ok e
came D (Err e) v h = absurd h

-- what is told of a run does not depend on what the machine was before its opening
module _ {T : Type 0} (form : Format T) (printed : T → List ℕ) (room cycle : ℕ) (c : Contents) (shape : Shape) (row : List ℕ) (table : Table) (cells : List (Cell T)) (hands : List T) (entries : List (Entry T)) where
  abbrev by : Bool → Bool → List ℕ → Table → Result (List ℕ) Fault
  by a b r t = told_run printed shape room (ran_from form cycle c hands entries (cond a (Err ShortCycle, r, t, cells) (cond b (Ok tt, cleared, new_table shape, map empty_cell cells) (Err Misfit, r, t, cells))))

  by_same : (a b : Bool) → by a b row table ≡ by a b cleared (new_table shape)
  by_same true b = refl
  by_same false true = refl
  by_same false false = refl

  pub told_anyway : told_run printed shape room (ran form cycle c shape (world row table cells hands entries)) ≡ told_run printed shape room (ran form cycle c shape (world cleared (new_table shape) cells hands entries))
  told_anyway = by_same (ltb cycle (2 * shape.threads)) (eqb (length cells) shape.slots)

-- a report of what the queries answer is the report of the world
module _ {T : Type 0} (printed : T → List ℕ) (shape : Shape) (w : World T) (used : ℕ) (counts : Counts) (used_is : used ≡ w.table.used) (counts_are : counts ≡ counts_in w) where
  abbrev asked : List (List ℕ)
  asked = pieces_of printed shape (take used w.entries) counts

  abbrev asked_text : List ℕ
  asked_text = report_text printed shape (take used w.entries) counts

  asked_is : asked ≡ pieces_in printed shape w
  asked_is = let z = used_is in let p = counts_are in cc

  pub asked_text_lem : asked_text ≡ text_in printed shape w
  asked_text_lem = let z = used_is in let p = counts_are in cc

  -- what is told of a run that ended well, and what is written of it, as the report's fault comes up
  module _ (room : ℕ) (p : Played T) (ok : Ok tt ≡ p.0) (same : w ≡ p.1) where
    told_same : told_run printed shape room p ≡ report_in printed shape room w
    told_same = ap (λ (r : Result (Unit {0}) (FaultOf Refusal)). told_end printed shape room r p.1) (sym ok) ∙ ap (report_in printed shape room) (sym same)

    test_same : ltb room (length (text_of (pieces_in printed shape w))) ≡ ltb room (length (text_of asked))
    test_same = ap (λ xs. ltb room (length (text_of xs))) (sym asked_is)

    told_short : (e : FaultOf AreaRefusal) → Err e ≡ reported room asked → told_run printed shape room p ≡ Err (Report e)
    told_short e answer =
        let f = by_error (ltb room (length (text_of asked))) _ e _ answer in
        told_same
        ∙ by_true _ _ _ (test_same ∙ f.0)
        ∙ ap (λ xs. Err (Report (record { refusal = ShortArea; place = length (text_of (fitting room xs)) }))) (sym asked_is)
        ∙ ap (λ x. Err (Report x)) (sym f.1)

    module _ (size : ℕ) (answer : Ok size ≡ reported room asked) where
      fits : (ltb room (length (text_of asked)) ≡ false) × (size ≡ length (text_of asked))
      fits = by_test (ltb room (length (text_of asked))) size (length (text_of asked)) _ answer

      size_within : size ≤ room
      size_within = let l = ltb-false room (length (text_of asked)) fits.0 in let e = fits.1 in omega arith

      told_text : told_run printed shape room p ≡ Ok asked_text
      told_text = told_same ∙ by_false _ _ _ (test_same ∙ fits.0) ∙ ap (λ (t : List ℕ). Ok t) (sym asked_text_lem)

  pub reported_up : (p : Played T) → Ok tt ≡ p.0 → w ≡ p.1 → (before after : List ℕ) (P : List ℕ → Type 0) → ((text : List ℕ) → text ≡ text_in printed shape w → P text) → (r : Result ℕ (FaultOf AreaRefusal)) (q : Result ℕ Fault) →
      MatchResult r (λ x. q ≡ Ok x) (λ e. IsErrAnd q (λ y. y ≡ Report e)) → r ≡ reported (length before) asked → IfOk r (λ size. (size ≡ length asked_text) × (after ≡ put before 0 asked_text)) →
      Writes q before after (told_run printed shape (length before) p) × IfOk q (λ size. P (take size after))
  reported_up p ok same before after P h (Ok size) q up answer whole =
      let room = length before in (
        subst (λ (x : Result ℕ Fault). Writes x before after (told_run printed shape room p)) (sym up) (asked_text, told_text room p ok same size answer, whole.0, size_within room p ok same size answer, whole.1),
        subst (λ (x : Result ℕ Fault). IfOk x (λ n. P (take n after))) (sym up) (h _ (put_first before asked_text after size whole.0 whole.1 ∙ asked_text_lem)),
      )
  reported_up p ok same before after P h (Err e) (Ok x) up answer whole = absurd up
  reported_up p ok same before after P h (Err e) (Err y) up answer whole = (told_short (length before) p ok same e answer ∙ ap (λ z. Err z) (sym up), tt)
