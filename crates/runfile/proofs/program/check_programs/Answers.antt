use Rattle.std.proofs.Common.{◌≡◌, ℕ, ◌+◌, ◌<◌, List, [], map, length, get_or, drop, sym, ◌∙◌, arith, length-append, Bor}
use Rattle.std.specs.List.{flat_map}
use Rattle.std.proofs.lemmas.List.{at_drop_more, at_drop_all}
use Rattle.std.proofs.lemmas.Result.{err_from_is_err_and}
use Rattle.runfile.specs.Programs.{operations, programmed}
use Rattle.runfile.proofs.ChainLaws.{chain_sound, chain_fault}
use Rattle.runfile.proofs.program.check_programs.Goals as goal

abbrev nothing : Bor (List ℕ)
nothing = record { ref_ptr = (0, 0); now = [] }

-- what is left is the program at hand and what is left after it
left-more : (ps : List (Bor (List ℕ))) (i : ℕ) → i < length ps → length (flat_map (λ p. p) (map (λ p. p.now) (drop i ps))) ≡ length (get_or ps i nothing).now + length (flat_map (λ p. p) (map (λ p. p.now) (drop (i + 1) ps)))
left-more ps i h = at_drop_more (λ l. length (flat_map (λ p. p) (map (λ p. p.now) l))) ps i nothing h ∙ length-append (get_or ps i nothing).now (flat_map (λ p. p) (map (λ p. p.now) (drop (i + 1) ps)))

pub check_program-requires : goal.check_program-requires
check_program-requires g c =
    let m = left-more c.args.programs.now c.loop-program.program-index c.loop-program-test.true in
    omega (arith, c.requires, c.loop-program.invariant.1)

pub returns-in_err-check_program : goal.returns-in_err-check_program
returns-in_err-check_program g c =
    let p = err_from_is_err_and c.from_residual.result c.from_residual.ensures.1 in
    let e = c.in_err-check_program.ensures in
    let x = get_or c.args.programs.now c.loop-program.program-index nothing in
    let f = chain_fault (operations g.E.Element.format 0 x.now c.loop-program.at) c.in_err-check_program.field-0.0 (λ _. programmed g.E.Element.format (map (λ p. p.now) (drop (c.loop-program.program-index + 1) c.args.programs.now)) (c.loop-program.at + length x.now)) e in
    let m = at_drop_more (λ l. programmed g.E.Element.format (map (λ p. p.now) l) c.loop-program.at) c.args.programs.now c.loop-program.program-index nothing c.loop-program-test.true in
    record { value = rw (p.1, p.2) (sym (c.loop-program.invariant.0 ∙ m ∙ f)); end = rw p.1 tt }

pub loop-program-preserved : goal.loop-program-preserved
loop-program-preserved g c =
    let e = c.in_ok-check_program.ensures in
    let m = at_drop_more (λ l. programmed g.E.Element.format (map (λ p. p.now) l) c.loop-program.at) c.args.programs.now c.loop-program.program-index nothing c.loop-program-test.true in
    let n = left-more c.args.programs.now c.loop-program.program-index c.loop-program-test.true in
    (c.loop-program.invariant.0 ∙ m ∙ chain_sound (operations g.E.Element.format 0 (get_or c.args.programs.now c.loop-program.program-index nothing).now c.loop-program.at) c.in_ok-check_program.field-0 _ e, omega (arith, c.loop-program.invariant.1))

pub returns : goal.returns
returns g c =
    let m = at_drop_all (λ l. programmed g.E.Element.format (map (λ p. p.now) l) c.loop-program.at) c.args.programs.now c.loop-program.program-index c.loop-program-test.false in
    let n = at_drop_all (λ l. length (flat_map (λ p. p) (map (λ p. p.now) l))) c.args.programs.now c.loop-program.program-index c.loop-program-test.false in
    record { value = sym (c.loop-program.invariant.0 ∙ m); end = omega (arith, c.loop-program.invariant.1) }
