use Rattle.std.proofs.Common.{◌≡◌, length, min, take, rules, false, true}
use Rattle.std.proofs.lemmas.Iterator.{YieldsList-from_slice, first_from_find}
use Rattle.std.proofs.lemmas.List.{take_min}
use borrow.Author.Tests.{tests}
use Rattle.history.proofs.Finding.{found, wanted}
use Rattle.history.proofs.pushes.first_push.Goals as goal

pub returns : goal.returns
returns g c =
    let xs = c.args.entries.now in
    let u = c.args.used in
    let part : take (min u (length xs)) xs ≡ take u xs = take_min u xs in
    let chain = YieldsList-from_slice (take u xs) (search rules) in
    let f = first_from_find _ _ c.find.result (λ x. wanted c.args.ticket x ≡ true) (λ x. wanted c.args.ticket x ≡ false) c.find.ensures.ran chain (λ x q k. search (rules, tests)) (λ x q k. search (rules, tests)) in
    let e = found c.args.ticket (λ x. x.now) (take u xs) _ f in
    search rules
