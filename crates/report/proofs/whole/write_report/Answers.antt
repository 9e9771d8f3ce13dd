use Rattle.std.proofs.Common.{◌+◌, ◌∷◌, take, drop, Ok, Err, sym, ap, ◌∙◌}
use Rattle.std.proofs.lemmas.Result.{err_from_is_err_and}
use Rattle.std.proofs.lemmas.List.{at_drop_all, at_drop_more, take_min}
use Rattle.report.specs.Lines.{closing_line}
use Rattle.report.proofs.Unspelling.{told, numbers_told}
use Rattle.report.proofs.Writing.{run, begun, not_begun, accepted_ok, accepted_err, closed_ok, closed_err, body_of, ended}
use Rattle.report.proofs.whole.write_report.Goals as goal

pub returns-in_err-report : goal.returns-in_err-report
returns-in_err-report g c =
    let e = c.in_err-report.ensures in
    let r = err_from_is_err_and c.from_residual.result c.from_residual.ensures.1 in
    let b = not_begun g.E.Element.printed c.args.shape.now (take c.args.used c.args.entries.now) c.args.counts c.new.result c.args.area.now c.heading.new.area c.new.ensures e.after c.in_err-report.field-0.0 e.answer in
    let o = ended g.E.Element.printed c.args.shape.now (take c.args.used c.args.entries.now) c.args.counts c.args.area.now c.heading.new.area _ _ (r.1 ∙ ap Err r.2) b in
    record { answer = o.0; after = o.1; whole = o.2; told = told g.E.Element.printed; numbers = numbers_told }

pub loop-entry-init : goal.loop-entry-init
loop-entry-init g c = ap (λ es. run c.heading.new.area c.in_ok-report.report.written (body_of g.E.Element.printed es c.args.counts)) (sym (ap (λ k. take k c.args.entries.now) c.min.ensures ∙ take_min c.args.used c.args.entries.now))

pub returns-in-Err : goal.returns-in-Err
returns-in-Err g c =
    let h = c.in_ok-report.ensures in
    let e = c.in-Err.ensures in
    let b = begun g.E.Element.printed c.args.shape.now (take c.args.used c.args.entries.now) c.args.counts c.new.result c.args.area.now c.heading.new.area c.new.ensures h.after c.in_ok-report.report h.answer in
    let n = at_drop_more (λ es. body_of g.E.Element.printed es c.args.counts) _ c.loop-entry.entry-index _ c.loop-entry-test.true ∙ ap (λ x. body_of g.E.Element.printed (x ∷ drop (c.loop-entry.entry-index + 1) (take c.min.result c.args.entries.now)) c.args.counts) (sym c.entry-item.is) in
    let a = accepted_err c.loop-entry.report c.entry.new.self c.loop-entry.area c.entry.new.area _ _ e.report e.after c.in-Err.refusal e.answer in
    let o = ended g.E.Element.printed c.args.shape.now (take c.args.used c.args.entries.now) c.args.counts c.args.area.now c.entry.new.area _ _ (ap Err (c.at.ensures ∙ ap (λ k. record { refusal = c.in-Err.refusal; place = k }) c.abandon.ensures)) (b ∙ (c.loop-entry.invariant ∙ (ap (run c.loop-entry.area c.loop-entry.report.written) n ∙ a))) in
    record { answer = o.0; after = o.1; whole = o.2; told = told g.E.Element.printed; numbers = numbers_told }

pub loop-entry-preserved : goal.loop-entry-preserved
loop-entry-preserved g c =
    let e = c.in_default.ensures in
    let n = at_drop_more (λ es. body_of g.E.Element.printed es c.args.counts) _ c.loop-entry.entry-index _ c.loop-entry-test.true ∙ ap (λ x. body_of g.E.Element.printed (x ∷ drop (c.loop-entry.entry-index + 1) (take c.min.result c.args.entries.now)) c.args.counts) (sym c.entry-item.is) in
    let a = accepted_ok c.loop-entry.report c.entry.new.self c.loop-entry.area c.entry.new.area _ _ e.report e.after e.answer in
    (c.loop-entry.invariant ∙ (ap (run c.loop-entry.area c.loop-entry.report.written) n ∙ a))

pub returns-in_err-closed : goal.returns-in_err-closed
returns-in_err-closed g c =
    let h = c.in_ok-report.ensures in
    let e = c.in_err-closed.ensures in
    let r = err_from_is_err_and c.from_residual-in_err-closed.result c.from_residual-in_err-closed.ensures.1 in
    let b = begun g.E.Element.printed c.args.shape.now (take c.args.used c.args.entries.now) c.args.counts c.new.result c.args.area.now c.heading.new.area c.new.ensures h.after c.in_ok-report.report h.answer in
    let n = at_drop_all (λ es. body_of g.E.Element.printed es c.args.counts) _ c.loop-entry.entry-index c.loop-entry-test.false in
    let a = closed_err c.loop-entry.report c.loop-entry.area c.closing.new.area (closing_line c.args.counts.pushes c.args.counts.pops c.args.counts.waiting) e.after c.in_err-closed.field-0.0 e.answer in
    let o = ended g.E.Element.printed c.args.shape.now (take c.args.used c.args.entries.now) c.args.counts c.args.area.now c.closing.new.area _ _ (r.1 ∙ ap Err r.2) (b ∙ (c.loop-entry.invariant ∙ (ap (run c.loop-entry.area c.loop-entry.report.written) n ∙ a))) in
    record { answer = o.0; after = o.1; whole = o.2; told = told g.E.Element.printed; numbers = numbers_told }

pub returns : goal.returns
returns g c =
    let h = c.in_ok-report.ensures in
    let e = c.in_ok-closed.ensures in
    let b = begun g.E.Element.printed c.args.shape.now (take c.args.used c.args.entries.now) c.args.counts c.new.result c.args.area.now c.heading.new.area c.new.ensures h.after c.in_ok-report.report h.answer in
    let n = at_drop_all (λ es. body_of g.E.Element.printed es c.args.counts) _ c.loop-entry.entry-index c.loop-entry-test.false in
    let a = closed_ok c.loop-entry.report c.loop-entry.area c.closing.new.area (closing_line c.args.counts.pushes c.args.counts.pops c.args.counts.waiting) e.after c.in_ok-closed.closed e.answer in
    let o = ended g.E.Element.printed c.args.shape.now (take c.args.used c.args.entries.now) c.args.counts c.args.area.now c.closing.new.area _ _ (ap Ok c.finish.ensures) (b ∙ (c.loop-entry.invariant ∙ (ap (run c.loop-entry.area c.loop-entry.report.written) n ∙ a))) in
    record { answer = o.0; after = o.1; whole = o.2; told = told g.E.Element.printed; numbers = numbers_told }
