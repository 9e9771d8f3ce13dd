-- Elements' texts, piece by piece.
use Rattle.std.proofs.Common.{◌≡◌, ℕ, ◌+◌, ◌^◌, ◌<◌, ◌≤◌, List, [], ◌++◌, length, codes, decimal, ap, ◌∙◌, append_assoc, arith, length-append}
use Rattle.text.specs.Texts.{grown}
use Rattle.text.proofs.Figures.{length_below}
use Rattle.text.proofs.Growing.{grew_fits}
use Rattle.runfile.specs.declared.letter.Letter.{Letter}
use Rattle.runfile.specs.declared.letter.Tone.{Tone}
use Rattle.runfile.specs.declared.letter.Tone.TheVariants.{Plain, Urgent}
use Rattle.runfile.specs.Elements.{letter_text, mark}

-- a piece that fits behind a text that is known
pub push_fits : (before after text piece : List ℕ) → before ≡ text → after ≡ grown before piece → length text + length piece ≤ 32 → after ≡ text ++ piece
push_fits before after text piece b a h = a ∙ ap (λ t. grown t piece) b ∙ (grew_fits text piece h).1

pub length_decimal_32 : (n : ℕ) → n < 2 ^ 32 → length (decimal n) ≤ 10
length_decimal_32 n h = length_below 10 (2 ^ 32) n tt tt tt h

pub length_decimal_8 : (n : ℕ) → n < 256 → length (decimal n) ≤ 3
length_decimal_8 n h = length_below 3 256 n tt tt tt h

length_mark : (t : Tone) → length (mark t) ≤ 1
length_mark Plain = omega arith
length_mark Urgent = omega arith

-- the four pieces of a letter
pub letter_pieces : (l : Letter) (t0 t1 t2 t3 t4 dot tail : List ℕ) → l.sender < 256 → l.serial < 2 ^ 32 → t0 ≡ [] → t1 ≡ grown t0 (decimal l.sender) → dot ≡ codes "." → t2 ≡ grown t1 dot → t3 ≡ grown t2 (decimal l.serial) → tail ≡ mark l.tone → t4 ≡ grown t3 tail → t4 ≡ letter_text l
letter_pieces l t0 t1 t2 t3 t4 dot tail s n e0 e1 d e2 e3 m e4 =
    let a = length_decimal_8 l.sender s in
    let b = length_decimal_32 l.serial n in
    let k = length_mark l.tone in
    let p1 = push_fits t0 t1 [] (decimal l.sender) e0 e1 (omega arith) in
    let p2 = push_fits t1 t2 (decimal l.sender) (codes ".") p1 (e2 ∙ ap (grown t1) d) (omega arith) in
    let p3 = push_fits t2 t3 (decimal l.sender ++ codes ".") (decimal l.serial) p2 e3 (simp length-append (omega arith)) in
    let p4 = push_fits t3 t4 ((decimal l.sender ++ codes ".") ++ decimal l.serial) (mark l.tone) p3 (e4 ∙ ap (grown t3) m) (simp length-append (omega arith)) in
    p4 ∙ simp append_assoc
