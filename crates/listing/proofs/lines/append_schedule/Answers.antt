use Rattle.std.proofs.Common.{◌≡◌, ◌<◌, ◌++◌, codes, get_or, vec_items, ap, ◌∙◌, append_assoc, arith}
use Rattle.std.specs.List.{flat_map}
use Rattle.std.proofs.lemmas.List.{at_drop_more}
use Rattle.listing.specs.Listings.{thread_text}
use Rattle.listing.proofs.Appends.{next_item, number_piece}
use Rattle.listing.proofs.lines.append_schedule.Goals as goal

pub loop-thread-preserved : goal.loop-thread-preserved
loop-thread-preserved c =
    let x = get_or c.args.schedule.now c.loop-thread.thread-index 0 in
    let m = at_drop_more (flat_map thread_text) c.args.schedule.now c.loop-thread.thread-index 0 c.loop-thread-test.true in
    let f = c.type_inv.schedule c.loop-thread.thread-index in
    let b : x < 256 = omega arith in
    let p = number_piece x _ _ b c.new-number.ensures c.push-in-loop-thread.ensures.after in
    let out = vec_items c.loop-thread.out in
    let e : vec_items c.extend_from_slice-in-loop-thread.new.self ≡ out ++ thread_text x =
    c.in_ok-extend_from_slice-2.ensures.items
    ∙ ap (λ l. l ++ c.as_bytes.result.now) c.in_ok-push.ensures.items
    ∙ append_assoc out (codes " ") c.as_bytes.result.now
    ∙ ap (λ l. out ++ (codes " " ++ l)) (c.as_bytes.ensures.exact ∙ p) in
    next_item out _ (thread_text x) _ _ _ e m c.loop-thread.invariant
