use Rattle.std.proofs.Common.{[], ◌∷◌, Ok, Err, ap, ◌∙◌}
use Rattle.std.proofs.lemmas.Result.{err_from_is_err_and}
use Rattle.report.proofs.Writing.{begun, not_begun, closed_ok, closed_err, ended}
use Rattle.report.specs.Lines.{closing_line, line_for}
use Rattle.runfile.specs.Elements.{number_text}
use Rattle.report_uses.specs.Uses.{one_of_each}
use Rattle.report_uses.proofs.Steps.{entered_ok, entered_err}
use Rattle.report_uses.proofs.write_pair.Goals as goal

pub returns-in_err-open : goal.returns-in_err-open
returns-in_err-open c =
    let e = c.in_err-open.ensures in
    let r = err_from_is_err_and c.from_residual.result c.from_residual.ensures.1 in
    let b = not_begun number_text c.args.shape.now (c.args.first ∷ c.args.second ∷ []) one_of_each c.new-new.result c.args.area.now c.heading.new.area c.new-new.ensures e.after c.in_err-open.field-0.0 e.answer in
    let o = ended number_text c.args.shape.now (c.args.first ∷ c.args.second ∷ []) one_of_each c.args.area.now c.heading.new.area _ _ (r.1 ∙ ap Err r.2) b in
    record { answer = o.0; after = o.1 }

pub returns-in_err-open-2 : goal.returns-in_err-open-2
returns-in_err-open-2 c =
    let h = c.in_ok-open.ensures in
    let b = begun number_text c.args.shape.now (c.args.first ∷ c.args.second ∷ []) one_of_each c.new-new.result c.args.area.now c.heading.new.area c.new-new.ensures h.after c.in_ok-open.open h.answer in
    let e = c.in_err-open-2.ensures in
    let r = err_from_is_err_and c.from_residual-in_err-open-2.result c.from_residual-in_err-open-2.ensures.1 in
    let x = entered_err c.in_ok-open.open c.heading.new.area c.with_entry.new.area (line_for number_text c.args.first) (line_for number_text c.args.second ∷ closing_line 1 1 0 ∷ []) e.after c.in_err-open-2.field-0.0 e.answer in
    let o = ended number_text c.args.shape.now (c.args.first ∷ c.args.second ∷ []) one_of_each c.args.area.now c.with_entry.new.area _ _ (r.1 ∙ ap Err r.2) (b ∙ x) in
    record { answer = o.0; after = o.1 }

pub returns-in_err-open-3 : goal.returns-in_err-open-3
returns-in_err-open-3 c =
    let h = c.in_ok-open.ensures in
    let b = begun number_text c.args.shape.now (c.args.first ∷ c.args.second ∷ []) one_of_each c.new-new.result c.args.area.now c.heading.new.area c.new-new.ensures h.after c.in_ok-open.open h.answer in
    let f = c.in_ok-open-2.ensures in
    let p = entered_ok c.in_ok-open.open c.heading.new.area c.with_entry.new.area (line_for number_text c.args.first) (line_for number_text c.args.second ∷ closing_line 1 1 0 ∷ []) f.after c.in_ok-open-2.open f.answer in
    let e = c.in_err-open-3.ensures in
    let r = err_from_is_err_and c.from_residual-in_err-open-3.result c.from_residual-in_err-open-3.ensures.1 in
    let x = entered_err c.in_ok-open-2.open c.with_entry.new.area c.with_entry-2.new.area (line_for number_text c.args.second) (closing_line 1 1 0 ∷ []) e.after c.in_err-open-3.field-0.0 e.answer in
    let o = ended number_text c.args.shape.now (c.args.first ∷ c.args.second ∷ []) one_of_each c.args.area.now c.with_entry-2.new.area _ _ (r.1 ∙ ap Err r.2) (b ∙ (p ∙ x)) in
    record { answer = o.0; after = o.1 }

pub returns-in_err-closed : goal.returns-in_err-closed
returns-in_err-closed c =
    let h = c.in_ok-open.ensures in
    let b = begun number_text c.args.shape.now (c.args.first ∷ c.args.second ∷ []) one_of_each c.new-new.result c.args.area.now c.heading.new.area c.new-new.ensures h.after c.in_ok-open.open h.answer in
    let f = c.in_ok-open-2.ensures in
    let p = entered_ok c.in_ok-open.open c.heading.new.area c.with_entry.new.area (line_for number_text c.args.first) (line_for number_text c.args.second ∷ closing_line 1 1 0 ∷ []) f.after c.in_ok-open-2.open f.answer in
    let s = c.in_ok-open-3.ensures in
    let q = entered_ok c.in_ok-open-2.open c.with_entry.new.area c.with_entry-2.new.area (line_for number_text c.args.second) (closing_line 1 1 0 ∷ []) s.after c.in_ok-open-3.open s.answer in
    let e = c.in_err-closed.ensures in
    let r = err_from_is_err_and c.from_residual-in_err-closed.result c.from_residual-in_err-closed.ensures.1 in
    let x = closed_err c.in_ok-open-3.open c.with_entry-2.new.area c.closing.new.area (closing_line 1 1 0) e.after c.in_err-closed.field-0.0 e.answer in
    let o = ended number_text c.args.shape.now (c.args.first ∷ c.args.second ∷ []) one_of_each c.args.area.now c.closing.new.area _ _ (r.1 ∙ ap Err r.2) (b ∙ (p ∙ (q ∙ x))) in
    record { answer = o.0; after = o.1 }

pub returns : goal.returns
returns c =
    let h = c.in_ok-open.ensures in
    let b = begun number_text c.args.shape.now (c.args.first ∷ c.args.second ∷ []) one_of_each c.new-new.result c.args.area.now c.heading.new.area c.new-new.ensures h.after c.in_ok-open.open h.answer in
    let f = c.in_ok-open-2.ensures in
    let p = entered_ok c.in_ok-open.open c.heading.new.area c.with_entry.new.area (line_for number_text c.args.first) (line_for number_text c.args.second ∷ closing_line 1 1 0 ∷ []) f.after c.in_ok-open-2.open f.answer in
    let s = c.in_ok-open-3.ensures in
    let q = entered_ok c.in_ok-open-2.open c.with_entry.new.area c.with_entry-2.new.area (line_for number_text c.args.second) (closing_line 1 1 0 ∷ []) s.after c.in_ok-open-3.open s.answer in
    let e = c.in_ok-closed.ensures in
    let x = closed_ok c.in_ok-open-3.open c.with_entry-2.new.area c.closing.new.area (closing_line 1 1 0) e.after c.in_ok-closed.closed e.answer in
    let o = ended number_text c.args.shape.now (c.args.first ∷ c.args.second ∷ []) one_of_each c.args.area.now c.closing.new.area _ _ (ap Ok c.finish.ensures) (b ∙ (p ∙ (q ∙ x))) in
    record { answer = o.0; after = o.1 }
