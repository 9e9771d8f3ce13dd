use Rattle.std.proofs.Common.{◌++◌, vec_items, codes, refl, ap, ◌∙◌, append_assoc}
use Rattle.runfile.specs.Files.{contents_of, programs_in, lead_in_in}
use Rattle.listing.specs.Listings.{head_lines, programs_text, schedule_line}
use Rattle.listing.proofs.Appends.{after_piece, last_piece}
use Rattle.listing.proofs.lister.append_contents.Goals as goal

pub returns : goal.returns
returns c =
    let start = vec_items c.args.out.now in
    let run = contents_of c.args.run.now in
    let head = head_lines run.header in
    let programs = programs_text run.header.element (programs_in run.header.threads run.bodies) in
    let lead_in = schedule_line (codes "lead-in") (lead_in_in run.header.threads run.bodies) in
    let m = ap (schedule_line (codes "main")) c.main.ensures in
    let a = after_piece start head (head ++ programs) programs _ _ c.in_ok-append_head.ensures c.in_ok-append_kind_of_programs.ensures refl in
    let b = after_piece start (head ++ programs) ((head ++ programs) ++ lead_in) _ _ _ a c.in_ok-append_schedule.ensures (cc) in
    last_piece c.append_schedule-2.result start ((head ++ programs) ++ lead_in) _ _ _ _ b (ap (λ t. ((head ++ programs) ++ lead_in) ++ t) m ∙ simp append_assoc) c.append_schedule-2.ensures
