use Rattle.std.proofs.Common.{◌≡◌, take, replicate, sym, refl, ap}
use Rattle.turns.specs.Layouts.{nibble_cycle, word_cycle}
use Rattle.runfile.specs.Files.{contents_of}
use Rattle.world.specs.declared.cell.Mark.TheVariants.{Empty}
use Rattle.world.specs.Steps.{cell}
use Rattle.host.specs.Tells.{cycle_of, shape_of}
use Rattle.host.proofs.Shaping.{at_file, shape_read}
use Rattle.host.proofs.reporting.report_file.Goals as goal

pub returns-in-Word : goal.returns-in-Word
returns-in-Word g c =
    let run = contents_of c.args.run.now in
    let s = c.unwrap-shape.result in
    let e : s ≡ shape_of run = shape_read run c.shape.result s _ c.unwrap-shape.ensures c.shape.ensures in
    let k : word_cycle ≡ cycle_of run.header.bank = ap cycle_of (sym c.in-Word.is) in
    let q : c.slots.result ≡ s.slots = c.slots.ensures in
    let n : c.threads.result ≡ s.threads = c.threads.ensures in
    let cells = replicate 64 (cell c.args.blank Empty) in
    let hands = replicate 64 c.args.blank in
    let b = at_file g.E.Element.format g.E.Element.printed word_cycle run s cells _ hands _ _ _ _ _ e k (ap (λ x. take x cells) q) (ap (λ x. take x hands) n) c.report_run.ensures.writes c.report_run.ensures.faithful in
    record { writes = b.0; faithful = b.1 }

pub returns-in-Nibble : goal.returns-in-Nibble
returns-in-Nibble g c =
    let run = contents_of c.args.run.now in
    let s = c.unwrap-shape.result in
    let e : s ≡ shape_of run = shape_read run c.shape.result s _ c.unwrap-shape.ensures c.shape.ensures in
    let k : nibble_cycle ≡ cycle_of run.header.bank = ap cycle_of (sym c.in-Nibble.is) in
    let q : c.slots.result ≡ s.slots = c.slots.ensures in
    let n : c.threads.result ≡ s.threads = c.threads.ensures in
    let cells = replicate 64 (cell c.args.blank Empty) in
    let hands = replicate 64 c.args.blank in
    let b = at_file g.E.Element.format g.E.Element.printed nibble_cycle run s cells _ hands _ _ _ _ _ e k (ap (λ x. take x cells) q) (ap (λ x. take x hands) n) c.report_run-in-Nibble.ensures.writes c.report_run-in-Nibble.ensures.faithful in
    record { writes = b.0; faithful = b.1 }
