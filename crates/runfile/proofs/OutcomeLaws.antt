-- What is known of a file once a check has passed.
use Rattle.std.proofs.Common.{◌≡◌, ℕ, suc, ◌+◌, ◌-◌, ◌*◌, ◌≤◌, Bool, true, false, eqb, ltb, List, [], ◌∷◌, length, get_or, take, drop, Some, None, Ok, Err, MatchResult, is_ok, Option, Result, sym, refl, ap, ◌∙◌, add-zero, arith, length-append, length-drop, length-take}
use Rattle.std.proofs.lemmas.Bool.{ltb-false, eqb-true}
use Rattle.std.proofs.lemmas.Bool.Decides.{nat_tests}
use Rattle.std.specs.List.{flat_map}
use Rattle.std.specs.Option.{ok_or}
use Rattle.runfile.specs.declared.kinds.ElementKind.{ElementKind}
use Rattle.runfile.specs.declared.kinds.ElementKind.TheVariants.{Number, Letter}
use Rattle.runfile.specs.declared.table.Entry.{Entry}
use Rattle.runfile.specs.declared.tabled.TabledFile.{TabledFile}
use Rattle.runfile.specs.Chains.{chain}
use Rattle.runfile.specs.Elements.{Format, number_format, letter_format}
use Rattle.turns.specs.Shapes.{Few}
use Rattle.runfile.specs.Faults.{FileFault, cut, contents, body, tail}
use Rattle.runfile.specs.Files.{counted, table, divided, programs_checked}
use Rattle.runfile.specs.declared.header.Header.{Header}
use Rattle.runfile.specs.Headers.{headed, slots_right}
use Rattle.runfile.specs.Kinds.{element_kind, bank_kind}
use Rattle.runfile.specs.Programs.{operations, programmed}
use Rattle.runfile.specs.Tables.{entries, tabled, bodied}
use Rattle.runfile.proofs.ChainLaws.{chain_ok, cond_ok, cond_not_ok, ok_same, never}
use Rattle.runfile.proofs.TableLaws.{entries_length}

pub record Counted (file : List ℕ) (count : ℕ) : Type 0 where
  pub first : get_or file 0 0 ≡ count
  pub some : 4 ≤ count
  pub few : count ≤ 67
  pub complete : 1 + 5 * count ≤ length file
  pub short : length file ≤ 49152

pub counted_ok : (file : List ℕ) (count : ℕ) → counted file ≡ Ok count → Counted file count
counted_ok file count e =
    let c : ℕ = get_or file 0 0 in
    let a = cond_not_ok (ltb 49152 (length file)) _ (tail 49152) count e in
    let b = cond_not_ok (eqb (length file) 0) _ (cut 0) count a.1 in
    let d = cond_not_ok (ltb (get_or file 0 0) 4) _ (contents 0) count b.1 in
    let f = cond_not_ok (ltb 67 (get_or file 0 0)) _ (contents 0) count d.1 in
    let g = cond_not_ok (ltb (length file) (1 + 5 * get_or file 0 0)) _ (cut (length file)) count f.1 in
    let s = ok_same (get_or file 0 0) count g.1 in
    let l1 = ltb-false 49152 (length file) a.0 in
    let l2 = ltb-false (get_or file 0 0) 4 d.0 in
    let l3 = ltb-false 67 (get_or file 0 0) f.0 in
    let l4 = ltb-false (length file) (1 + 5 * get_or file 0 0) g.0 in
    record { first = s; some = omega arith; few = omega arith; complete = omega arith; short = omega arith }

pub length_table : (count : ℕ) (file : List ℕ) → 1 + 5 * count ≤ length file → length (table count file) ≡ 5 * count
length_table count file h = simp (length-take, length-drop) (omega arith)

pub table_entries : (file : TabledFile) → length (entries (table file.count.entries file.bytes.now)) ≡ file.count.entries
table_entries file = entries_length file.count.entries (table file.count.entries file.bytes.now) (length_table file.count.entries file.bytes.now file.whole)

pub bodied_count : (es : List Entry) (bytes : List ℕ) (end : ℕ) (bs : List (List ℕ)) → bodied es bytes end ≡ Ok bs → length bs ≡ length es
bodied_count [] bytes end bs e =
    let o = cond_ok (eqb (length bytes) 0) (Ok []) (tail (end - length bytes)) bs e in
    ap length (sym (ok_same [] bs o.1))
bodied_count (x ∷ es) bytes end bs e =
    let o = cond_not_ok (ltb (length bytes) x.size) (chain (bodied es (drop x.size bytes) end) (λ more. Ok (take x.size bytes ∷ more))) (cut end) bs e in
    let k = chain_ok (bodied es (drop x.size bytes) end) (λ more. Ok (take x.size bytes ∷ more)) bs o.1 in
    ap length (sym (ok_same (take x.size bytes ∷ k.0) bs k.2)) ∙ ap suc (bodied_count es (drop x.size bytes) end k.0 k.1)

pub divided_count : (count : ℕ) (file : List ℕ) (bs : List (List ℕ)) → 1 + 5 * count ≤ length file → divided count file ≡ Ok bs → length bs ≡ count
divided_count count file bs h e =
    let k = chain_ok (tabled count 0 (entries (table count file))) (λ _. bodied (entries (table count file)) (drop (1 + 5 * count) file) (length file)) bs e in
    bodied_count (entries (table count file)) (drop (1 + 5 * count) file) (length file) bs k.2 ∙ entries_length count (table count file) (length_table count file h)

ok_or_ok : {A : Type 0} (o : Option A) (f : FileFault) (a : A) → ok_or o f ≡ Ok a → o ≡ Some a
ok_or_ok (Some x) f a e = ap Some (ok_same x a e)
ok_or_ok None f a e = absurd (never a f (sym e))

pub record Headed (count : ℕ) (b : List ℕ) (h : Header) : Type 0 where
  pub element : ℕ
  pub bank : ℕ
  pub bytes : b ≡ h.slots ∷ h.threads ∷ element ∷ bank ∷ []
  pub slots : (1 ≤ h.slots) × (h.slots ≤ 64)
  pub threads : h.threads ≡ count - 3
  pub element_is : element_kind element ≡ Some h.element
  pub bank_is : bank_kind bank ≡ Some h.bank

slots_few : (s : ℕ) → slots_right s ≡ true → (1 ≤ s) × (s ≤ 64)
slots_few s e = grind (arith, nat_tests)

false_where : (b : Bool) → (b ≡ true → ⊥) → b ≡ false
false_where true h = absurd (h refl)
false_where false h = refl

pub err_case : {A E : Type 0} (r : Result A E) (P : A → Type 0) (Q : E → Type 0) → MatchResult r P Q → false ≡ is_ok r → (e : E) × Q e
err_case (Ok a) P Q m v = absurd (let z : false ≡ true = v in cc)
err_case (Err e) P Q m v = (e, m)

-- a shape is refused by its slots where its threads are few
pub slots_wrong : (s n : ℕ) → Few n → (Few s × Few n → ⊥) → slots_right s ≡ false
slots_wrong s n few h = false_where (slots_right s) (λ e. h (slots_few s e, few))

pub headed_slots : (count place : ℕ) (b : List ℕ) → length b ≡ 4 → slots_right (get_or b 0 0) ≡ false → headed count b place ≡ Err (body place)
headed_slots count place [] l e = absurd (omega arith)
headed_slots count place (s ∷ []) l e = absurd (omega arith)
headed_slots count place (s ∷ t ∷ []) l e = absurd (omega arith)
headed_slots count place (s ∷ t ∷ k ∷ []) l e = absurd (omega arith)
headed_slots count place (s ∷ t ∷ k ∷ m ∷ []) l e = rw e
headed_slots count place (s ∷ t ∷ k ∷ m ∷ x ∷ more) l e = absurd (omega arith)

pub headed_ok : (count : ℕ) (b : List ℕ) (place : ℕ) (h : Header) → headed count b place ≡ Ok h → Headed count b h
headed_ok count [] place h e = absurd (never h (body place) (sym e))
headed_ok count (s ∷ []) place h e = absurd (never h (body place) (sym e))
headed_ok count (s ∷ t ∷ []) place h e = absurd (never h (body place) (sym e))
headed_ok count (s ∷ t ∷ k ∷ []) place h e = absurd (never h (body place) (sym e))
headed_ok count (s ∷ t ∷ k ∷ m ∷ []) place h e =
    let a = cond_ok (slots_right s) _ (body place) h e in
    let b = cond_ok (eqb t (count - 3)) _ (body (place + 1)) h a.1 in
    let c = chain_ok (ok_or (element_kind k) (body (place + 2))) _ h b.1 in
    let d = chain_ok (ok_or (bank_kind m) (body (place + 3))) _ h c.2 in
    let z = ok_same _ h d.2 in
    rw (sym z) (record {
      element = k;
      bank = m;
      bytes = refl;
      slots = slots_few s a.0;
      threads = eqb-true t (count - 3) b.0;
      element_is = ok_or_ok (element_kind k) (body (place + 2)) c.0 c.1;
      bank_is = ok_or_ok (bank_kind m) (body (place + 3)) d.0 d.1;
    })
headed_ok count (s ∷ t ∷ k ∷ m ∷ x ∷ more) place h e = absurd (never h (body place) (sym e))

pub programmed_end : {T : Type 0} (form : Format T) (ps : List (List ℕ)) (place end : ℕ) → programmed form ps place ≡ Ok end → end ≡ place + length (flat_map (λ p. p) ps)
programmed_end form [] place end e = sym (ok_same place end e) ∙ sym (add-zero place)
programmed_end form (p ∷ ps) place end e =
    let k = chain_ok (operations form 0 p place) (λ _. programmed form ps (place + length p)) end e in
    let m = programmed_end form ps (place + length p) end k.2 in
    let l = length-append p (flat_map (λ p. p) ps) in
    omega arith

pub programs_end : (kind : ElementKind) (ps : List (List ℕ)) (place end : ℕ) → programs_checked kind ps place ≡ Ok end → end ≡ place + length (flat_map (λ p. p) ps)
programs_end Number ps place end e = programmed_end number_format ps place end e
programs_end Letter ps place end e = programmed_end letter_format ps place end e
