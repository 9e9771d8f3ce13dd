use Rattle.std.proofs.Common.{◌≡◌, ℕ, ◌^◌, ◌<◌, ◌≤◌, length, replicate, Ok, Err, sym, refl, ap, ◌∙◌, subst, rules}
use Rattle.host.specs.Faults.{refusal_line}
use Rattle.host.specs.Tells.{answered, told}
use Rattle.host.proofs.Showing.{answers, line_shown_lem, promises}
use Rattle.host.proofs.call.queue_bench_play.Goals as goal

pub returns-in-Ok : goal.returns-in-Ok
returns-in-Ok c =
    let file = c.args.file.now in
    let room = length c.args.area.now in
    let zeroes = c.fill.ensures.after (λ y e. e) in
    let small : room < 2 ^ 63 = search rules in
    let same : length c.fill.new.self ≡ room = search rules in
    let (text, tells, e, within, h) = c.in-Ok.ensures.writes in
    let tells' : told file room ≡ Ok text = ap (told file) (sym same) ∙ tells in
    let within' : c.in-Ok.length ≤ room = subst (λ n. c.in-Ok.length ≤ n) same within in
    record {
      answer = answers file room c.in-Ok.length c.fill.new.self c.play_file.new.area text zeroes small tells' e within' h;
      promise = promises file room c.in-Ok.length c.fill.new.self c.play_file.new.area text zeroes small tells' e within' h c.in-Ok.ensures.faithful;
    }

pub returns-in-Ok-write_refusal-clause-answer : goal.returns-in-Ok-write_refusal-clause-answer
returns-in-Ok-write_refusal-clause-answer c =
    let file = c.args.file.now in
    let room = length c.args.area.now in
    let small : room < 2 ^ 63 = search rules in
    let same : length c.fill.new.self ≡ room = search rules in
    let long : length c.play_file.new.area ≡ room = search rules in
    let tells : told file room ≡ Err c.in-Err.fault = ap (told file) (sym same) ∙ c.in-Err.ensures.writes in
    let zeroes : replicate (length c.play_file.new.area) 0 ≡ replicate room 0 = ap (λ (n : ℕ). replicate n 0) long in
    line_shown_lem c.in-Err.fault room (replicate (length c.play_file.new.area) 0) (refusal_line c.in-Err.fault) zeroes refl c.in-Ok-write_refusal.length c.write_refusal.new.area small c.in-Ok-write_refusal.ensures.answer c.in-Ok-write_refusal.ensures.after ∙ ap (answered room) (sym tells)
