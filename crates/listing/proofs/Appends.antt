-- One piece after another.
use Rattle.std.proofs.Common.{◌≡◌, ℕ, ◌<◌, List, [], ◌++◌, IfOk, Ok, Err, decimal, Result, sym, ap, ◌∙◌, append_assoc, arith}
use Rattle.text.specs.Texts.{grown}
use Rattle.runfile.proofs.ElementLaws.{length_decimal_8, push_fits}

-- a piece behind a text that began as `start` and has grown by `more`
pub after_piece : (start more whole piece before after : List ℕ) → before ≡ start ++ more → after ≡ before ++ piece → more ++ piece ≡ whole → after ≡ start ++ whole
after_piece start more whole piece before after b a w = a ∙ ap (λ l. l ++ piece) b ∙ append_assoc start more piece ∙ ap (λ l. start ++ l) w

-- the same at the end of a function, where the piece may have found no memory
pub last_piece : {U E : Type 0} (r : Result U E) (start more whole piece before after : List ℕ) → before ≡ start ++ more → more ++ piece ≡ whole → IfOk r (λ _. after ≡ before ++ piece) → IfOk r (λ _. after ≡ start ++ whole)
last_piece (Ok u) start more whole piece before after b w m = after_piece start more whole piece before after b m w
last_piece (Err e) start more whole piece before after b w m = tt

-- a loop that appends: what is there, and what is still to come
pub next_item : (out after piece left rest whole : List ℕ) → after ≡ out ++ piece → left ≡ piece ++ rest → out ++ left ≡ whole → after ++ rest ≡ whole
next_item out after piece left rest whole a l w = ap (λ t. t ++ rest) a ∙ append_assoc out piece rest ∙ ap (λ t. out ++ t) (sym l) ∙ w

-- a number below 256 in a new text
pub number_piece : (n : ℕ) (before after : List ℕ) → n < 256 → before ≡ [] → after ≡ grown before (decimal n) → after ≡ decimal n
number_piece n before after b e a =
    let l = length_decimal_8 n b in
    push_fits before after [] (decimal n) e a (omega arith)
