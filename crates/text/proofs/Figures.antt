-- How long a number is in decimal, and how its last digit is spelled.
use Rattle.std.proofs.Common.{◌≡◌, ℕ, ◌+◌, ◌-◌, ◌/◌, ◌%◌, ◌^◌, ◌<◌, ◌≤◌, T, ltb, leb, List, [], ◌∷◌, ◌++◌, length, drop, set, decimal, ap, ◌∙◌, arith, lit<, lit≤, length-append}
use Rattle.std.proofs.lemmas.Fmt.{decimal_digit, decimal_step, length-decimal-le}
use Rattle.std.proofs.lemmas.List.{drop-set, drop_all}

-- a number below b has at most k digits when b is at most 10 ^ k: 20 for 2 ^ 64, 10 for 2 ^ 32, 3 for 256;
-- at numerals the three tests are each `tt`
pub length_below : (k b n : ℕ) → T (ltb 0 k) → T (leb b (10 ^ k)) → T (leb b (2 ^ 64)) → n < b → length (decimal n) ≤ k
length_below k b n some few fits h =
    let s : 0 < k = lit< some in
    let f : b ≤ 10 ^ k = lit≤ few in
    let g : b ≤ 2 ^ 64 = lit≤ fits in
    length-decimal-le k n s (omega arith) (omega arith)

pub length_one : (n : ℕ) → n < 10 → length (decimal n) ≡ 1
length_one n h = ap length (decimal_digit n h)

pub length_step : (n : ℕ) → 10 ≤ n → n < 2 ^ 64 → length (decimal n) ≡ length (decimal (n / 10)) + 1
length_step n h f = ap length (decimal_step n h f) ∙ length-append (decimal (n / 10)) ((48 + n % 10) ∷ [])

-- what stands from the last place on, once it is written
pub drop_last : (xs : List ℕ) (i v : ℕ) → length xs ≡ i + 1 → drop i (set xs i v) ≡ v ∷ []
drop_last xs i v e = drop-set xs i v (omega arith) ∙ ap (λ ys. v ∷ ys) (drop_all (i + 1) xs (omega arith))

pub spell_one : (xs : List ℕ) (n : ℕ) → n < 10 → length xs ≡ length (decimal n) → set xs (length xs - 1) (48 + n % 10) ≡ decimal n
spell_one xs n h e =
    let o = length_one n h in
    let i : length xs - 1 ≡ 0 = omega arith in
    let m : n % 10 ≡ n = omega arith in
    let one : length xs ≡ 0 + 1 = omega arith in
    rw (i, m, decimal_digit n h) (drop_last xs 0 (48 + n) one)

-- after the part before the last place was written: k is the part's length, as the goal has it
pub spell_more : (xs ys : List ℕ) (n k i : ℕ) → 10 ≤ n → n < 2 ^ 64 → length xs ≡ length (decimal n) → i ≡ length xs - 1 → k ≡ i → ys ≡ decimal (n / 10) → ys ++ drop k (set xs i (48 + n % 10)) ≡ decimal n
spell_more xs ys n k i h f e j m y =
    let o = length_step n h f in
    let l : length xs ≡ i + 1 = omega arith in
    rw (m, decimal_step n h f, drop_last xs i (48 + n % 10) l, y)
