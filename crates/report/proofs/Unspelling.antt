-- Lines taken apart again.
use Rattle.std.proofs.Common.{◌≡◌, ℕ, ◌+◌, ◌%◌, ◌^◌, ◌<◌, ◌≤◌, List, [], ◌∷◌, ◌++◌, map, length, decimal, sym, refl, ap, ◌∙◌, append_assoc, arith, length-append}
use Rattle.std.proofs.lemmas.Fmt.{decimal_by_steps, decimal_injective}
use Rattle.std.proofs.ByRecursion.{All-append, All-weaker}
use Rattle.std.specs.List.{flat_map, AllByRecursion}
use Rattle.history.specs.declared.entry.Entry.{Entry}
use Rattle.history.specs.declared.entry.Kind.{Kind}
use Rattle.history.specs.declared.entry.Kind.TheVariants.{Push, Pop}
use Rattle.runfile.specs.Elements.{number_text}
use Rattle.runfile.specs.declared.number.Number.{Number}
use Rattle.report.specs.Lines.{line_of, line_for, word_of}
use Rattle.report.specs.Reading.{Legible, seen, Told, Fitting, NumbersTold}

abbrev Lacks : ℕ → List ℕ → Type 0
Lacks s xs = AllByRecursion (λ byte. byte ≡ s → ⊥) xs

-- what stands before the first s is determined, and so is what stands behind it
split_off : (s : ℕ) (p q r t : List ℕ) → Lacks s p → Lacks s q → p ++ s ∷ r ≡ q ++ s ∷ t → (p ≡ q) × (r ≡ t)
split_off s [] [] r t h g e = (refl, cc)
split_off s [] (y ∷ q) r t h g e = let z : y ≡ s = cc in absurd (g.0 z)
split_off s (x ∷ p) [] r t h g e = let z : x ≡ s = cc in absurd (h.0 z)
split_off s (x ∷ p) (y ∷ q) r t h g e =
    let a : x ≡ y = cc in
    let b : p ++ s ∷ r ≡ q ++ s ∷ t = cc in
    let i = split_off s p q r t h.1 g.1 b in
    (λ k. a k ∷ i.0 k, i.1)

-- a line of four parts, with more behind it
abbrev four : List ℕ → List ℕ → List ℕ → List ℕ → List ℕ
four a b c d = line_of (a ∷ b ∷ c ∷ d ∷ [])

four_more : (a b c d r : List ℕ) → four a b c d ++ r ≡ a ++ 32 ∷ (b ++ 32 ∷ (c ++ 32 ∷ (d ++ 10 ∷ r)))
four_more a b c d r = simp append_assoc

four_split : (a b c d r a' b' c' d' r' : List ℕ) → Lacks 32 a → Lacks 32 b → Lacks 32 c → Lacks 10 d → Lacks 32 a' → Lacks 32 b' → Lacks 32 c' → Lacks 10 d' → four a b c d ++ r ≡ four a' b' c' d' ++ r' → (a ≡ a') × (b ≡ b') × (c ≡ c') × (d ≡ d') × (r ≡ r')
four_split a b c d r a' b' c' d' r' ha hb hc hd ga gb gc gd e =
    let f = sym (four_more a b c d r) ∙ (e ∙ four_more a' b' c' d' r') in
    let p = split_off 32 a a' _ _ ha ga f in
    let q = split_off 32 b b' _ _ hb gb p.1 in
    let u = split_off 32 c c' _ _ hc gc q.1 in
    let v = split_off 10 d d' _ _ hd gd u.1 in
    (p.0, q.0, u.0, v.0, v.1)

-- a number's digits are neither spaces nor line feeds
digits_high : (n : ℕ) → n < 2 ^ 64 → AllByRecursion (λ byte. 48 ≤ byte) (decimal n)
digits_high n h =
    decimal_by_steps (λ _ ds. AllByRecursion (λ byte. 48 ≤ byte) ds) (λ k l. (omega arith, tt))
    (λ k ds l i. All-append (λ byte. 48 ≤ byte) ds ((48 + k % 10) ∷ []) i (omega arith, tt)) n h

digits_lack : (s n : ℕ) → s < 48 → n < 2 ^ 64 → Lacks s (decimal n)
digits_lack s n l h = All-weaker (λ byte. 48 ≤ byte) (λ byte. byte ≡ s → ⊥) (λ b g e. omega arith) (decimal n) (digits_high n h)

word_lacks : (k : Kind) → Lacks 32 (word_of k)
word_lacks Push = (λ e. omega arith, (λ e. omega arith, (λ e. omega arith, (λ e. omega arith, tt))))
word_lacks Pop = (λ e. omega arith, (λ e. omega arith, (λ e. omega arith, tt)))

word_tells : (k m : Kind) → word_of k ≡ word_of m → k ≡ m
word_tells Push Push e = refl
word_tells Push Pop e = let z : ◌≡◌ {A = ℕ} 0 1 = cc in absurd (omega arith)
word_tells Pop Push e = let z : ◌≡◌ {A = ℕ} 0 1 = cc in absurd (omega arith)
word_tells Pop Pop e = refl

four_some : (a b c d r : List ℕ) → [] ≡ four a b c d ++ r → ⊥
four_some a b c d r e =
    let f = ap length (e ∙ four_more a b c d r) in
    let l = length-append a (32 ∷ (b ++ 32 ∷ (c ++ 32 ∷ (d ++ 10 ∷ r)))) in
    omega arith

module _ {T : Type 0} (text : T → List ℕ) where
  -- one entry's line, with more behind it
  line_tells : (x y : Entry T) (r t : List ℕ) → Legible text x → Legible text y → line_for text x ++ r ≡ line_for text y ++ t → (seen text x ≡ seen text y) × (r ≡ t)
  line_tells x y r t h g e =
      let s =
      four_split (word_of x.kind) (decimal x.thread) (decimal x.ticket) (text x.element) r (word_of y.kind) (decimal y.thread) (decimal y.ticket) (text y.element) t
      (word_lacks x.kind) (digits_lack 32 x.thread (omega arith) h.0) (digits_lack 32 x.ticket (omega arith) h.1) h.2
      (word_lacks y.kind) (digits_lack 32 y.thread (omega arith) g.0) (digits_lack 32 y.ticket (omega arith) g.1) g.2 e in
      let k = word_tells x.kind y.kind s.0 in
      let n = decimal_injective x.thread y.thread h.0 g.0 s.1 in
      let m = decimal_injective x.ticket y.ticket h.1 g.1 s.2 in
      (λ i. record { kind = k i; thread = n i; ticket = m i; element = s.3 i }, s.4)

  lines_tell : (xs ys : List (Entry T)) → AllByRecursion (Legible text) xs → AllByRecursion (Legible text) ys → flat_map (line_for text) xs ≡ flat_map (line_for text) ys → map (seen text) xs ≡ map (seen text) ys
  lines_tell [] [] h g e = refl
  lines_tell [] (y ∷ ys) h g e = absurd (four_some (word_of y.kind) (decimal y.thread) (decimal y.ticket) (text y.element) (flat_map (line_for text) ys) e)
  lines_tell (x ∷ xs) [] h g e = absurd (four_some (word_of x.kind) (decimal x.thread) (decimal x.ticket) (text x.element) (flat_map (line_for text) xs) (sym e))
  lines_tell (x ∷ xs) (y ∷ ys) h g e =
      let s = line_tells x y (flat_map (line_for text) xs) (flat_map (line_for text) ys) h.0 g.0 e in
      let i = lines_tell xs ys h.1 g.1 s.1 in
      λ j. s.0 j ∷ i j

  pub told : Told text
  told = record { tells = lines_tell }

legible : (x : Entry Number) → Fitting x → Legible number_text x
legible x h = (h.0, h.1, digits_lack 10 x.element.value (omega arith) h.2)

-- an entry of a number is known by what is seen of it
same_seen : (x y : Entry Number) → Fitting x → Fitting y → seen number_text x ≡ seen number_text y → x ≡ y
same_seen x y h g e =
    let v = decimal_injective x.element.value y.element.value h.2 g.2 (ap (λ z. z.element) e) in
    λ i. record { kind = (e i).kind; thread = (e i).thread; ticket = (e i).ticket; element = record { value = v i } }

same_lists : (xs ys : List (Entry Number)) → AllByRecursion Fitting xs → AllByRecursion Fitting ys → map (seen number_text) xs ≡ map (seen number_text) ys → xs ≡ ys
same_lists [] [] h g e = refl
same_lists [] (y ∷ ys) h g e = let z : ◌≡◌ {A = ℕ} 0 1 = cc in absurd (omega arith)
same_lists (x ∷ xs) [] h g e = let z : ◌≡◌ {A = ℕ} 0 1 = cc in absurd (omega arith)
same_lists (x ∷ xs) (y ∷ ys) h g e =
    let a : seen number_text x ≡ seen number_text y = cc in
    let b : map (seen number_text) xs ≡ map (seen number_text) ys = cc in
    let p = same_seen x y h.0 g.0 a in
    let q = same_lists xs ys h.1 g.1 b in
    λ i. p i ∷ q i

pub numbers_told : NumbersTold
numbers_told =
    record {
      tells = λ xs ys h g e. same_lists xs ys h g (lines_tell number_text xs ys (All-weaker Fitting (Legible number_text) legible xs h) (All-weaker Fitting (Legible number_text) legible ys g) e);
    }
