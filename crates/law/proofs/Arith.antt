-- Tickets and turns, with a push's kind as 0 and a pop's as 1.
use Rattle.std.proofs.Common.{◌≡◌, ℕ, ◌+◌, ◌*◌, ◌/◌, ◌%◌, ◌<◌, ◌≤◌, sym, ◌∙◌, inl, inr, mul-le-mul_right, div-add-mod', arith}
use Rattle.std.proofs.lemmas.Bool.{cases_lt}
use lib.Arith.{digits_div, digits_mod}

-- the turn of its slot that ticket t of kind k waits for
abbrev pub turn : ℕ → ℕ → ℕ → ℕ
turn q k t = 2 * (t / q) + k

-- slot and turn tell kind and ticket
same_ticket : (q t u : ℕ) → t % q ≡ u % q → t / q ≡ u / q → t ≡ u
same_ticket q t u e f = sym (div-add-mod' t q) ∙ (λ i. f i * q + e i) ∙ div-add-mod' u q

pub same : (q k l t u : ℕ) → k < 2 → l < 2 → t % q ≡ u % q → turn q k t ≡ turn q l u → (k ≡ l) × (t ≡ u)
same q k l t u hk hl e f = (omega arith, same_ticket q t u e (omega arith))

-- the ticket of slot s in round r
abbrev pub ticket_at : ℕ → ℕ → ℕ → ℕ
ticket_at q r s = r * q + s

pub slot_of : (q r s : ℕ) → s < q → ticket_at q r s % q ≡ s
slot_of q r s h = digits_mod r h

pub round_of_lem : (q r s : ℕ) → s < q → ticket_at q r s / q ≡ r
round_of_lem q r s h = digits_div r h

pub ticket_le : (q r r' s : ℕ) → r ≤ r' → ticket_at q r s ≤ ticket_at q r' s
ticket_le q r r' s h = omega (arith, mul-le-mul_right q h)

pub as_ticket : (q t : ℕ) → ticket_at q (t / q) (t % q) ≡ t
as_ticket q t = div-add-mod' t q

-- the modular test is exact within one cycle
pub exact : (m a w : ℕ) → a ≤ w → w < a + m → a % m ≡ w % m → a ≡ w
exact m a w h l e =
    let u = div-add-mod' a m in
    let v = div-add-mod' w m in
    elim (cases_lt (a / m) (w / m)) [ inl x ↦ omega (arith, mul-le-mul_right m x) | inr x ↦ omega (arith, mul-le-mul_right m x) ]
