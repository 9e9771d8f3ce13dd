-- The table of contents, as the code reads it: entry by entry, and what is left of the table.
use Rattle.std.proofs.Common.{◌≡◌, ℕ, zero, suc, ◌+◌, ◌-◌, ◌*◌, ◌<◌, ◌≤◌, eqb, ltb, List, [], ◌∷◌, ◌++◌, map, length, get_or, take, drop, set, Some, None, Ok, Err, Option, Result, sym, refl, ap, ◌∙◌, append_assoc, arith, Bor}
use Rattle.std.proofs.lemmas.List.{take_more_set, map-set, length-map, nil_from_length, take-append-drop}
use Rattle.std.specs.List.{flat_map}
use Rattle.std.specs.Option.{ok_or}
use Rattle.std.specs.Result.{result_ok}
use Rattle.std.proofs.lemmas.Slice.{between_to_end}
use Rattle.std.proofs.lemmas.Bool.{le-ltb, eqb-true}
use Rattle.runfile.specs.declared.kinds.BodyKind.{BodyKind}
use Rattle.runfile.specs.declared.kinds.UnknownKind.{UnknownKind}
use Rattle.runfile.specs.declared.table.Entry.{Entry}
use Rattle.runfile.specs.Elements.{big_endian}
use Rattle.runfile.specs.Chains.{chain}
use Rattle.runfile.specs.Kinds.{body_kind}
use Rattle.runfile.specs.Faults.{FileFault, cut, tail}
use Rattle.runfile.proofs.ChainLaws.{chain_ok, cond_ok, cond_not_ok, ok_same}
use Rattle.runfile.specs.Tables.{entries, bodied}

pub entries_split : (xs : List ℕ) → 5 ≤ length xs → entries xs ≡ record { kind = body_kind (get_or xs 0 0); size = big_endian (get_or xs 1 0) (get_or xs 2 0) (get_or xs 3 0) (get_or xs 4 0) } ∷ entries (take (length xs - 5) (drop 5 xs))
entries_split [] h = absurd (omega arith)
entries_split (k ∷ []) h = absurd (omega arith)
entries_split (k ∷ a ∷ []) h = absurd (omega arith)
entries_split (k ∷ a ∷ b ∷ []) h = absurd (omega arith)
entries_split (k ∷ a ∷ b ∷ c ∷ []) h = absurd (omega arith)
entries_split (k ∷ a ∷ b ∷ c ∷ d ∷ rest) h =
    ap (λ (t : List ℕ). record { kind = body_kind k; size = big_endian a b c d } ∷ entries t) (sym (between_to_end (k ∷ a ∷ b ∷ c ∷ d ∷ rest) 5 _ (omega arith)))

-- a kind byte, as it is read
pub kind_read : (o : Option BodyKind) (u : UnknownKind) → result_ok (ok_or o u) ≡ o
kind_read (Some k) u = refl
kind_read None u = refl

pub entries_length : (k : ℕ) (xs : List ℕ) → length xs ≡ 5 * k → length (entries xs) ≡ k
entries_length zero [] h = refl
entries_length (suc k) [] h = absurd (omega arith)
entries_length k (x ∷ []) h = absurd (omega arith)
entries_length k (x ∷ a ∷ []) h = absurd (omega arith)
entries_length k (x ∷ a ∷ b ∷ []) h = absurd (omega arith)
entries_length k (x ∷ a ∷ b ∷ c ∷ []) h = absurd (omega arith)
entries_length zero (x ∷ a ∷ b ∷ c ∷ d ∷ xs) h = absurd (omega arith)
entries_length (suc k) (x ∷ a ∷ b ∷ c ∷ d ∷ xs) h = ap suc (entries_length k xs (omega arith))

-- before the first part
pub cut_none : (r : Result (List (List ℕ)) FileFault) → r ≡ chain r (λ bs. Ok ([] ++ bs))
cut_none (Ok bs) = refl
cut_none (Err f) = refl

-- one more part: the parts before, and then those that are cut from what is left
cut_on : (got more : List (List ℕ)) (part : List ℕ) (r : Result (List (List ℕ)) FileFault) → more ≡ got ++ (part ∷ []) → chain (chain r (λ bs. Ok (part ∷ bs))) (λ bs. Ok (got ++ bs)) ≡ chain r (λ bs. Ok (more ++ bs))
cut_on got more part (Ok bs) e = ap Ok (sym (ap (λ l. l ++ bs) e ∙ append_assoc got (part ∷ []) bs))
cut_on got more part (Err f) e = refl

module _ (end i : ℕ) (left : List ℕ) (cuts : List (Bor (List ℕ))) (whole : Result (List (List ℕ)) FileFault) where
  pub bodied_more : (part : Bor (List ℕ)) (rest : List ℕ) (all es : List Entry) (e : Entry) → all ≡ e ∷ es → e.size ≤ length left → i < length cuts → part.now ≡ take e.size left → rest ≡ drop e.size left → whole ≡ chain (bodied all left end) (λ bs. Ok (take i (map (λ x. x.now) cuts) ++ bs)) → whole ≡ chain (bodied es rest end) (λ bs. Ok (take (i + 1) (map (λ x. x.now) (set cuts i part)) ++ bs))
  bodied_more part rest all es e split within room is after before =
      let n : i < length (map (λ x. x.now) cuts) = rw length-map room in
      let w : take (i + 1) (map (λ x. x.now) (set cuts i part)) ≡ take i (map (λ x. x.now) cuts) ++ (take e.size left ∷ []) =
      (ap (take (i + 1)) (map-set (λ x. x.now) cuts i part) ∙ take_more_set (map (λ x. x.now) cuts) i part.now n ∙ ap (λ p. take i (map (λ x. x.now) cuts) ++ (p ∷ [])) is) in
      before
      ∙ ap (λ l. chain (bodied l left end) (λ bs. Ok (take i (map (λ x. x.now) cuts) ++ bs))) split
      ∙ rw (le-ltb (length left) e.size within, after) (cut_on (take i (map (λ x. x.now) cuts)) (take (i + 1) (map (λ x. x.now) (set cuts i part))) (take e.size left) (bodied es (drop e.size left) end) w)

-- the bodies are all that follows the table
pub bodied_joined : (es : List Entry) (bytes : List ℕ) (end : ℕ) (bs : List (List ℕ)) → bodied es bytes end ≡ Ok bs → flat_map (λ b. b) bs ≡ bytes
bodied_joined [] bytes end bs e =
    let o = cond_ok (eqb (length bytes) 0) (Ok []) (tail (end - length bytes)) bs e in
    let n = nil_from_length bytes (eqb-true (length bytes) 0 o.0) in
    ap (flat_map (λ b. b)) (sym (ok_same [] bs o.1)) ∙ sym n
bodied_joined (x ∷ es) bytes end bs e =
    let o = cond_not_ok (ltb (length bytes) x.size) (chain (bodied es (drop x.size bytes) end) (λ more. Ok (take x.size bytes ∷ more))) (cut end) bs e in
    let k = chain_ok (bodied es (drop x.size bytes) end) (λ more. Ok (take x.size bytes ∷ more)) bs o.1 in
    ap (flat_map (λ b. b)) (sym (ok_same (take x.size bytes ∷ k.0) bs k.2))
    ∙ ap (λ l. take x.size bytes ++ l) (bodied_joined es (drop x.size bytes) end k.0 k.1)
    ∙ take-append-drop x.size bytes
