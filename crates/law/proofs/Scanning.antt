-- Lists of phases that are gone through from the front: the thread that waits with a ticket, how many wait, and whether
-- all rest.
use Rattle.std.proofs.Common.{◌≡◌, ℕ, zero, suc, ◌+◌, ◌*◌, ◌/◌, ◌%◌, ◌<◌, ◌≤◌, true, false, cond, not, eqb, ◌≢◌, List, [], ◌∷◌, ◌++◌, length, get_or, take, sym, refl, ap, ◌∙◌, inl, inr, add-zero, add-one, arith}
use Rattle.std.proofs.lemmas.List.{take_more}
use Rattle.std.proofs.lemmas.Bool.{cases_Bool, both_ways, eq-eqb, eqb-true, eqb-false, not-true, lt-ltb}
use Rattle.turns.specs.Tickets.{round_of}
use Rattle.history.specs.declared.entry.Kind.{Kind}
use Rattle.history.specs.declared.entry.Kind.TheVariants.{Push, Pop}
use Rattle.world.specs.declared.phase.Phase.{Phase}
use Rattle.world.specs.declared.phase.Phase.TheVariants.{Idle, Taking, Waiting, Storing, Reading, Emptying, Completing, Done}
use Rattle.world.specs.Queries.{is_waiting, count_waiting, rests, all_rest}
use Rattle.world.specs.Steps.{turn_of, turn_came}
use Rattle.world.specs.Takes.{awaits_pop, lowest_waiting}
use Rattle.law.proofs.Arith.{turn}
use Rattle.law.proofs.Core.{Held}
use Rattle.law.proofs.Count.{count}
use Rattle.law.proofs.Views.{thread_in, bit}

-- the lowest that waits is the only one that does
pub lowest_is : (t i j : ℕ) (ps : List Phase) → awaits_pop t (get_or ps j Idle) ≡ true → ((k : ℕ) → awaits_pop t (get_or ps k Idle) ≡ true → k ≡ j) → lowest_waiting t i ps ≡ i + j
lowest_is t i j [] h only = absurd (both_ways false refl h)
lowest_is t i zero (p ∷ ps) h only = rw h (sym (add-zero i))
lowest_is t i (suc j) (p ∷ ps) h only = elim (cases_Bool (awaits_pop t p)) [
  | inl e ↦ absurd (omega (arith, only 0 e))
  | inr e ↦ (let z : i + 1 + j ≡ i + suc j = omega arith in rw e (lowest_is t (i + 1) j ps h (λ k y. omega (arith, only (suc k) y)) ∙ z))
]

-- a thread that waits with a pop ticket, in its phase and in its view
module _ {T : Type 0} where
  pub awaits_seen : (t : ℕ) (p : Phase) (x : T) → awaits_pop t p ≡ true → ((thread_in p x).rank ≡ 2) × ((thread_in p x).kind ≡ 1) × ((thread_in p x).ticket ≡ t)
  awaits_seen t Idle x h = absurd (both_ways false refl h)
  awaits_seen t (Taking k) x h = absurd (both_ways false refl h)
  awaits_seen t (Waiting Push u) x h = absurd (both_ways false refl h)
  awaits_seen t (Waiting Pop u) x h = (refl, refl, eqb-true u t h)
  awaits_seen t (Storing u) x h = absurd (both_ways false refl h)
  awaits_seen t (Reading u) x h = absurd (both_ways false refl h)
  awaits_seen t (Emptying u) x h = absurd (both_ways false refl h)
  awaits_seen t (Completing k u) x h = absurd (both_ways false refl h)
  awaits_seen t (Done k u) x h = absurd (both_ways false refl h)

  pub seen_awaits : (t : ℕ) (p : Phase) (x : T) → (thread_in p x).rank ≡ 2 → (thread_in p x).kind ≡ 1 → (thread_in p x).ticket ≡ t → awaits_pop t p ≡ true
  seen_awaits t Idle x r k z = absurd (omega arith)
  seen_awaits t (Taking kind) x r k z = absurd (omega arith)
  seen_awaits t (Waiting Push u) x r k z = absurd (omega arith)
  seen_awaits t (Waiting Pop u) x r k z = eq-eqb u t z
  seen_awaits t (Storing u) x r k z = absurd (omega arith)
  seen_awaits t (Reading u) x r k z = absurd (omega arith)
  seen_awaits t (Emptying u) x r k z = absurd (omega arith)
  seen_awaits t (Completing kind u) x r k z = absurd (omega arith)
  seen_awaits t (Done kind u) x r k z = absurd (omega arith)

  waiting_seen : (p : Phase) (x : T) → is_waiting p ≡ eqb (thread_in p x).rank 2
  waiting_seen Idle x = refl
  waiting_seen (Taking k) x = refl
  waiting_seen (Waiting k t) x = refl
  waiting_seen (Storing t) x = refl
  waiting_seen (Reading t) x = refl
  waiting_seen (Emptying t) x = refl
  waiting_seen (Completing k t) x = refl
  waiting_seen (Done k t) x = refl

count_push : (ps : List Phase) (p : Phase) → count_waiting (ps ++ p ∷ []) ≡ cond (is_waiting p) (suc (count_waiting ps)) (count_waiting ps)
count_push [] p = refl
count_push (x ∷ ps) p =
    let ih = count_push ps p in
    elim (cases_Bool (is_waiting x)) [
      | inl e ↦ elim (cases_Bool (is_waiting p)) [ inl f ↦ rw (e, ih, f) (omega arith) | inr f ↦ rw (e, ih, f) ]
      | inr e ↦ elim (cases_Bool (is_waiting p)) [ inl f ↦ rw (e, ih, f) (omega arith) | inr f ↦ rw (e, ih, f) ]
    ]

count_front : (n : ℕ) (ps : List Phase) → n ≤ length ps → count_waiting (take n ps) ≡ count n (λ i. is_waiting (get_or ps i Idle))
count_front zero ps h = refl
count_front (suc n) ps h =
    let ih = count_front n ps (omega arith) in
    let more : take (suc n) ps ≡ take n ps ++ get_or ps n Idle ∷ [] = ap (λ k. take k ps) (sym (add-one n)) ∙ take_more ps n Idle (omega arith) in
    ap count_waiting more ∙ count_push (take n ps) (get_or ps n Idle) ∙ ap (λ c. cond (is_waiting (get_or ps n Idle)) (suc c) c) ih

-- how many wait, by their ranks
pub waiting_is : {T : Type 0} (n : ℕ) (ps : List Phase) (hand : ℕ → T) → n ≤ length ps → count_waiting (take n ps) ≡ count n (λ i. eqb (thread_in (get_or ps i Idle) (hand i)).rank 2)
waiting_is n ps hand h = count_front n ps h ∙ (λ y. count n (λ i. waiting_seen (get_or ps i Idle) (hand i) y))

-- a ticket's turn, with kinds as numbers
pub turn_is : (q : ℕ) (k : Kind) (t : ℕ) → turn_of k (round_of q t) ≡ turn q (bit k) t
turn_is q Push t = sym (add-zero (2 * (t / q)))
turn_is q Pop t = refl

-- whether a ticket's turn came is whether the row has its turn, in the cycle
module _ (cycle : ℕ) (row : List ℕ) (q : ℕ) (k : Kind) (t : ℕ) (low : t % q < 64) where
  came_is : turn_came cycle row q k t ≡ eqb (get_or row (t % q) 0) (turn q (bit k) t % cycle)
  came_is = rw (lt-ltb (t % q) 64 low) (ap (λ w. eqb (get_or row (t % q) 0) (w % cycle)) (turn_is q k t))

  pub came : turn_came cycle row q k t ≡ true → get_or row (t % q) 0 ≡ turn q (bit k) t % cycle
  came h = eqb-true (get_or row (t % q) 0) (turn q (bit k) t % cycle) (sym came_is ∙ h)

  pub not_came : not (turn_came cycle row q k t) ≡ true → get_or row (t % q) 0 ≢ turn q (bit k) t % cycle
  not_came h = eqb-false (get_or row (t % q) 0) (turn q (bit k) t % cycle) (sym came_is ∙ not-true (turn_came cycle row q k t) h)

-- where all rest, each does
pub each_rests : (cycle : ℕ) (row : List ℕ) (q : ℕ) (ps : List Phase) → all_rest cycle row q ps ≡ true → (i : ℕ) → rests cycle row q (get_or ps i Idle) ≡ true
each_rests cycle row q [] h i = refl
each_rests cycle row q (p ∷ ps) h zero = elim (cases_Bool (rests cycle row q p)) [
  | inl e ↦ e
  | inr e ↦ absurd (both_ways false refl (rw e at h))
]
each_rests cycle row q (p ∷ ps) h (suc i) = elim (cases_Bool (rests cycle row q p)) [
  | inl e ↦ each_rests cycle row q ps (rw e at h) i
  | inr e ↦ absurd (both_ways false refl (rw e at h))
]

pub rest_seen : {T : Type 0} (cycle : ℕ) (row : List ℕ) (q : ℕ) → ((t : ℕ) → t % q < 64) → (p : Phase) (x : T) → rests cycle row q p ≡ true → let y = thread_in p x in Held y → (y.rank ≡ 2) × (get_or row (y.ticket % q) 0 ≢ turn q y.kind y.ticket % cycle)
rest_seen cycle row q low Idle x h g = absurd (omega arith)
rest_seen cycle row q low (Taking k) x h g = absurd (omega arith)
rest_seen cycle row q low (Waiting k t) x h g = (refl, not_came cycle row q k t (low t) h)
rest_seen cycle row q low (Storing t) x h g = absurd (both_ways false refl h)
rest_seen cycle row q low (Reading t) x h g = absurd (both_ways false refl h)
rest_seen cycle row q low (Emptying t) x h g = absurd (both_ways false refl h)
rest_seen cycle row q low (Completing k t) x h g = absurd (both_ways false refl h)
rest_seen cycle row q low (Done k t) x h g = absurd (omega arith)
