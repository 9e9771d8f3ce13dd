-- The bodies as references into the file, against the bodies as lists.
use Rattle.std.proofs.Common.{◌≡◌, ℕ, zero, suc, ◌+◌, ◌<◌, ◌≤◌, List, [], ◌∷◌, map, min, length, get_or, take, drop, Ok, Err, Result, sym, refl, ap, ◌∙◌, arith, length-append, length-drop, length-take, Bor}
use Rattle.std.specs.List.{flat_map}
use Rattle.std.proofs.lemmas.List.{get_or-take, get_or-drop, get_or-map, take-map, take_min, drop-map, drop-take, take-take, length-map}
use Rattle.runfile.specs.declared.bodies.Bodies.{Bodies}
use Rattle.runfile.specs.declared.header.Header.{Header}
use Rattle.runfile.specs.declared.runs.RunFile.{RunFile}
use Rattle.runfile.specs.Faults.{FileFault}
use Rattle.runfile.specs.Chains.{chain}
use Rattle.runfile.specs.Tables.{cut_of}
use Rattle.runfile.specs.Headers.{headed}
use Rattle.runfile.specs.Files.{bodies_read, contents_of, run_checked, programs_in, lead_in_in, main_in}

-- what the checker reads past an array's end
abbrev pub nothing : Bor (List ℕ)
nothing = record { ref_ptr = (0, 0); now = [] }

pub cut_at : (cuts : List (Bor (List ℕ))) (count k : ℕ) → k < count → count ≤ length cuts → (get_or cuts k nothing).now ≡ get_or (take count (map (λ x. x.now) cuts)) k []
cut_at cuts count k h l =
    let i : k < length cuts = omega arith in
    sym (get_or-take count (map (λ x. x.now) cuts) k [] h ∙ get_or-map (λ x. x.now) cuts k nothing [] i)

pub cut_programs : (cuts : List (Bor (List ℕ))) (count n m : ℕ) → n + 3 ≡ count → m ≡ n → map (λ x. x.now) (take m (drop 1 cuts)) ≡ programs_in n (take count (map (λ x. x.now) cuts))
cut_programs cuts count n m e same =
    let c : count ≡ 1 + (n + 2) = omega arith in
    rw (same, c)
    (sym (take-map (λ x. x.now) n (drop 1 cuts))
    ∙ ap (take n) (sym (drop-map (λ x. x.now) 1 cuts))
    ∙ sym (take-take n (n + 2) (drop 1 (map (λ x. x.now) cuts)) (omega arith))
    ∙ ap (take n) (sym (drop-take 1 (n + 2) (map (λ x. x.now) cuts))))

-- programs, and two schedules after them
joined_two : (n : ℕ) (bs : List (List ℕ)) → length bs ≡ n + 2 → length (flat_map (λ b. b) bs) ≡ length (flat_map (λ b. b) (take n bs)) + length (get_or bs n []) + length (get_or bs (1 + n) [])
joined_two n [] h = absurd (omega arith)
joined_two zero (x ∷ []) h = absurd (omega arith)
joined_two zero (x ∷ y ∷ []) h = simp length-append (omega arith)
joined_two zero (x ∷ y ∷ z ∷ bs) h = absurd (omega arith)
joined_two (suc n) (x ∷ bs) h =
    let e = joined_two n bs (omega arith) in
    let k : 1 + suc n ≡ suc (1 + n) = omega arith in
    rw k (simp length-append (omega arith))

pub joined_parts : (n : ℕ) (bs : List (List ℕ)) → length bs ≡ n + 3 → length (flat_map (λ b. b) bs) ≡ length (get_or bs 0 []) + length (flat_map (λ b. b) (programs_in n bs)) + length (lead_in_in n bs) + length (main_in n bs)
joined_parts n [] h = absurd (omega arith)
joined_parts n (x ∷ bs) h =
    let e = joined_two n bs (omega arith) in
    let j : 1 + n ≡ suc n = omega arith in
    let k : 2 + n ≡ suc (1 + n) = omega arith in
    rw (j, k) (simp length-append (omega arith))

pub joined_first : (bs : List (List ℕ)) → 0 < length bs → length (flat_map (λ b. b) bs) ≡ length (get_or bs 0 []) + length (flat_map (λ b. b) (drop 1 bs))
joined_first [] h = absurd (omega arith)
joined_first (b ∷ bs) h = length-append b (flat_map (λ b. b) bs)

-- a run of at most 64 threads has a program for each, and three other bodies
pub bodies_count : (f : RunFile) → f.header.threads ≤ 64 → length (contents_of f).bodies ≡ f.header.threads + 3
bodies_count f few =
    let long = f.bodies.long in
    simp (length-take, length-map) (omega arith)

-- of the bodies behind the first, as many as there are threads, or all
pub run_programs : (f : RunFile) (m : ℕ) → m ≡ min f.header.threads (length (drop 1 f.bodies.cuts)) → map (λ x. x.now) (take m (drop 1 f.bodies.cuts)) ≡ programs_in f.header.threads (contents_of f).bodies
run_programs f m e =
    ap (λ k. map (λ x. x.now) (take k (drop 1 f.bodies.cuts))) e
    ∙ ap (map (λ x. x.now)) (take_min f.header.threads (drop 1 f.bodies.cuts))
    ∙ cut_programs f.bodies.cuts (f.header.threads + 3) f.header.threads f.header.threads refl refl

-- a body of the file, read off the cuts
pub cut_body : (b : Bodies) (threads k : ℕ) (part : List ℕ) → k < threads + 3 → part ≡ get_or (map (λ x. x.now) b.cuts) k [] → part ≡ get_or (cut_of (threads + 3) b) k []
cut_body b threads k part h e = e ∙ sym (get_or-take (threads + 3) (map (λ x. x.now) b.cuts) k [] h)

-- the same by whatever sum the code reads it
pub cut_body_at : (b : Bodies) (threads k m : ℕ) (part : List ℕ) → k ≡ m → k < threads + 3 → part ≡ get_or (map (λ x. x.now) b.cuts) k [] → part ≡ get_or (cut_of (threads + 3) b) m []
cut_body_at b threads k m part s h e = cut_body b threads k part h e ∙ ap (λ j. get_or (cut_of (threads + 3) b) j []) s

-- what follows the shape: programs and two schedules
pub run_parts : (f : RunFile) → f.header.threads ≤ 64 → length (flat_map (λ b. b) (drop 1 (contents_of f).bodies)) ≡ length (flat_map (λ b. b) (programs_in f.header.threads (contents_of f).bodies)) + length (lead_in_in f.header.threads (contents_of f).bodies) + length (main_in f.header.threads (contents_of f).bodies)
run_parts f few =
    let n = f.header.threads in
    let bs = (contents_of f).bodies in
    let l : length (drop 1 bs) ≡ n + 2 = simp length-drop (omega (arith, bodies_count f few)) in
    let k : 1 + (1 + n) ≡ 2 + n = omega arith in
    joined_two n (drop 1 bs) l ∙ simp (get_or-drop 1 bs n [], get_or-drop 1 bs (1 + n) [], k)

module _ (count start : ℕ) (bs : List (List ℕ)) (shape : List ℕ) (first : shape ≡ get_or bs 0 []) where
  pub shape_fault : (f : FileFault) → Err f ≡ headed count shape start → bodies_read count bs start ≡ Err f
  shape_fault f e = rw (← first, ← e)

  pub after_shape : (h : Header) (r : Result (Unit {0}) FileFault) → Ok h ≡ headed count shape start → r ≡ run_checked h (programs_in h.threads bs) (lead_in_in h.threads bs) (main_in h.threads bs) (start + length shape) → bodies_read count bs start ≡ chain r (λ _. Ok (record { header = h; bodies = bs }))
  after_shape h (Ok u) e d = rw (← first, ← e, ← d)
  after_shape h (Err f) e d = rw (← first, ← e, ← d)

pub run_read : (f : RunFile) (count start place : ℕ) (shape : List ℕ) (r : Result (Unit {0}) FileFault) → f.header.threads + 3 ≡ count → f.header.threads ≤ 64 → shape ≡ (get_or f.bodies.cuts 0 nothing).now → Ok f.header ≡ headed count shape start → place ≡ start + length shape → r ≡ run_checked f.header (programs_in f.header.threads (contents_of f).bodies) (lead_in_in f.header.threads (contents_of f).bodies) (main_in f.header.threads (contents_of f).bodies) place → bodies_read count (cut_of count f.bodies) start ≡ chain r (λ _. Ok (contents_of f))
run_read f count start place shape r same few is e q d =
    let long = f.bodies.long in
    let s = is ∙ cut_at f.bodies.cuts (f.header.threads + 3) 0 (omega arith) (omega arith) in
    rw (← same) (after_shape (f.header.threads + 3) start (cut_of (f.header.threads + 3) f.bodies) shape s f.header r (rw (← same) at e) (rw q at d))
