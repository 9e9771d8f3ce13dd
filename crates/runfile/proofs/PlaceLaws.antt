-- The place of each refusal lies within the file.
use Rattle.std.proofs.Common.{◌≡◌, ℕ, zero, suc, ◌+◌, ◌-◌, ◌*◌, ◌≤◌, Bool, true, false, cond, eqb, ltb, List, [], ◌∷◌, length, get_or, take, drop, Some, None, Ok, Err, Option, Result, sym, refl, ap, ◌∙◌, arith, length-append, length-drop}
use Rattle.std.proofs.lemmas.Bool.{ltb-true}
use Rattle.std.specs.List.{flat_map}
use Rattle.std.specs.Option.{ok_or}
use Rattle.runfile.specs.declared.table.Entry.{Entry}
use Rattle.runfile.specs.Chains.{chain}
use Rattle.runfile.specs.declared.kinds.ElementKind.{ElementKind}
use Rattle.runfile.specs.declared.kinds.ElementKind.TheVariants.{Number, Letter}
use Rattle.runfile.specs.Elements.{Format, element, number_format, letter_format}
use Rattle.runfile.specs.Files.{counted, table, divided, programs_checked, run_checked, bodies_checked, programs_in, lead_in_in, main_in, parsed}
use Rattle.runfile.specs.declared.header.Header.{Header}
use Rattle.runfile.specs.Headers.{headed, slots_right}
use Rattle.runfile.specs.Kinds.{element_kind, bank_kind}
use Rattle.runfile.proofs.CutLaws.{joined_parts}
use Rattle.runfile.proofs.FileLaws.{divided_joined}
use Rattle.runfile.proofs.OutcomeLaws.{counted_ok, length_table, divided_count, headed_ok, programs_end}
use Rattle.runfile.proofs.TableLaws.{entries_length}
use Rattle.runfile.specs.Faults.{FileFault, cut, contents, body, tail}
use Rattle.runfile.specs.Programs.{operation, operations, programmed, wide}
use Rattle.runfile.specs.Schedules.{scheduled}
use Rattle.runfile.specs.Tables.{entries, tabled, bodied, right}

-- a bound on the place of whatever fault there is
abbrev pub Until : {A : Type 0} → ℕ → Result A FileFault → Type 0
Until n (Ok a) = Unit {0}
Until n (Err f) = f.place ≤ n

pub until_chain : {A B : Type 0} (n : ℕ) (r : Result A FileFault) (next : A → Result B FileFault) → Until n r → ((a : A) → r ≡ Ok a → Until n (next a)) → Until n (chain r next)
until_chain n (Ok a) next u k = k a refl
until_chain n (Err f) next u k = u

pub until_cond : {A : Type 0} (n : ℕ) (t : Bool) (r s : Result A FileFault) → (t ≡ true → Until n r) → (t ≡ false → Until n s) → Until n (cond t r s)
until_cond n true r s p q = p refl
until_cond n false r s p q = q refl

pub scheduled_until : (threads : ℕ) (ts : List ℕ) (place n : ℕ) → place + length ts ≤ n → Until n (scheduled threads ts place)
scheduled_until threads [] place n h = tt
scheduled_until threads (t ∷ ts) place n h = until_cond n (ltb t threads) (scheduled threads ts (place + 1)) (Err (body place)) (λ _. scheduled_until threads ts (place + 1) n (omega arith)) (λ _. omega arith)

pub tabled_until : (count i : ℕ) (es : List Entry) (n : ℕ) → 1 + 5 * (i + length es) ≤ n → Until n (tabled count i es)
tabled_until count i [] n h = tt
tabled_until count i (e ∷ es) n h = until_cond n (right count i e) (tabled count (i + 1) es) (Err (contents (1 + 5 * i))) (λ _. tabled_until count (i + 1) es n (omega arith)) (λ _. omega arith)

pub bodied_until : (es : List Entry) (bytes : List ℕ) (end : ℕ) → Until end (bodied es bytes end)
bodied_until [] bytes end = until_cond end (eqb (length bytes) 0) (Ok []) (Err (tail (end - length bytes))) (λ _. tt) (λ _. omega arith)
bodied_until (e ∷ es) bytes end = until_cond end (ltb (length bytes) e.size) (Err (cut end)) (chain (bodied es (drop e.size bytes) end) (λ bs. Ok (take e.size bytes ∷ bs))) (λ _. omega arith) (λ _. until_chain end (bodied es (drop e.size bytes) end) (λ bs. Ok (take e.size bytes ∷ bs)) (bodied_until es (drop e.size bytes) end) (λ bs o. tt))

module _ {T : Type 0} (form : Format T) where
  operation_until : (bytes : List ℕ) (place n : ℕ) → place ≤ n → Until n (operation form bytes place)
  operation_until [] place n h = h
  operation_until (code ∷ bytes) place n h =
      until_cond n (eqb code 0x50) (chain (element form bytes place) _) (cond (eqb code 0x44) _ (Err (body place)))
      (λ _. until_chain n (element form bytes place) _ (until_cond n (ltb (length bytes) form.width) (Err (body place)) _ (λ _. h) (λ _. until_cond n (form.lawful (take form.width bytes)) _ (Err (body place)) (λ _. tt) (λ _. h))) (λ e o. tt))
      (λ _. until_cond n (eqb code 0x44) _ (Err (body place)) (λ _. tt) (λ _. h))

  operations_until : (skip : ℕ) (bytes : List ℕ) (place n : ℕ) → place + length bytes ≤ n → Until n (operations form skip bytes place)
  operations_until skip [] place n h = tt
  operations_until (suc skip) (b ∷ bytes) place n h = operations_until skip bytes (place + 1) n (omega arith)
  operations_until zero (b ∷ bytes) place n h =
      until_chain n (operation form (b ∷ bytes) place) _ (operation_until (b ∷ bytes) place n (omega arith))
      (λ o _. until_chain n (operations form (wide form.width o - 1) bytes (place + 1)) _ (operations_until (wide form.width o - 1) bytes (place + 1) n (omega arith)) (λ os _. tt))

  pub programmed_until : (ps : List (List ℕ)) (place n : ℕ) → place + length (flat_map (λ p. p) ps) ≤ n → Until n (programmed form ps place)
  programmed_until [] place n h = tt
  programmed_until (p ∷ ps) place n h =
      let l = length-append p (flat_map (λ p. p) ps) in
      until_chain n (operations form 0 p place) _ (operations_until 0 p place n (omega arith))
      (λ os _. programmed_until ps (place + length p) n (omega arith))

ok_or_until : {A : Type 0} (n : ℕ) (o : Option A) (f : FileFault) → f.place ≤ n → Until n (ok_or o f)
ok_or_until n (Some a) f h = tt
ok_or_until n None f h = h

headed_until : (count : ℕ) (b : List ℕ) (place n : ℕ) → place + length b ≤ n → Until n (headed count b place)
headed_until count [] place n h = omega arith
headed_until count (s ∷ []) place n h = omega arith
headed_until count (s ∷ t ∷ []) place n h = omega arith
headed_until count (s ∷ t ∷ e ∷ []) place n h = omega arith
headed_until count (s ∷ t ∷ e ∷ b ∷ []) place n h =
    until_cond n (slots_right s) _ (Err (body place))
    (λ _. until_cond n (eqb t (count - 3)) _ (Err (body (place + 1)))
    (λ _. until_chain n (ok_or (element_kind e) (body (place + 2))) _ (ok_or_until n (element_kind e) (body (place + 2)) (omega arith))
    (λ k _. until_chain n (ok_or (bank_kind b) (body (place + 3))) _ (ok_or_until n (bank_kind b) (body (place + 3)) (omega arith)) (λ m _. tt)))
    (λ _. omega arith))
    (λ _. omega arith)
headed_until count (s ∷ t ∷ e ∷ b ∷ x ∷ more) place n h = omega arith

programs_until : (kind : ElementKind) (ps : List (List ℕ)) (place n : ℕ) → place + length (flat_map (λ p. p) ps) ≤ n → Until n (programs_checked kind ps place)
programs_until Number ps place n h = programmed_until number_format ps place n h
programs_until Letter ps place n h = programmed_until letter_format ps place n h

run_until : (h : Header) (programs : List (List ℕ)) (lead_in main : List ℕ) (place n : ℕ) → place + length (flat_map (λ p. p) programs) + length lead_in + length main ≤ n → Until n (run_checked h programs lead_in main place)
run_until h programs lead_in main place n room =
    until_chain n (programs_checked h.element programs place) _ (programs_until h.element programs place n (omega arith))
    (λ end e. let d = programs_end h.element programs place end e in
    until_chain n (scheduled h.threads lead_in end) _ (scheduled_until h.threads lead_in end n (omega arith))
    (λ u _. scheduled_until h.threads main (end + length lead_in) n (omega arith)))

bodies_until : (count start n : ℕ) (bs : List (List ℕ)) → 4 ≤ count → length bs ≡ count → start + length (flat_map (λ b. b) bs) ≤ n → Until n (bodies_checked count bs start)
bodies_until count start n bs some long room =
    let k : count - 3 + 3 ≡ count = omega arith in
    let j = joined_parts (count - 3) bs (long ∙ sym k) in
    until_chain n (headed count (get_or bs 0 []) start) _ (headed_until count (get_or bs 0 []) start n (omega arith))
    (λ h e. let t = (headed_ok count (get_or bs 0 []) start h e).threads in
    let i = joined_parts h.threads bs (omega arith) in
    until_chain n (run_checked h (programs_in h.threads bs) (lead_in_in h.threads bs) (main_in h.threads bs) (start + length (get_or bs 0 []))) _
    (run_until h (programs_in h.threads bs) (lead_in_in h.threads bs) (main_in h.threads bs) (start + length (get_or bs 0 [])) n (omega arith)) (λ u _. tt))

counted_until : (file : List ℕ) → Until (length file) (counted file)
counted_until file =
    until_cond (length file) (ltb 49152 (length file)) (Err (tail 49152)) _ (λ e. let h = ltb-true 49152 (length file) e in omega arith)
    (λ _. until_cond (length file) (eqb (length file) 0) (Err (cut 0)) _ (λ _. omega arith)
    (λ _. until_cond (length file) (ltb (get_or file 0 0) 4) (Err (contents 0)) _ (λ _. omega arith)
    (λ _. until_cond (length file) (ltb 67 (get_or file 0 0)) (Err (contents 0)) _ (λ _. omega arith)
    (λ _. until_cond (length file) (ltb (length file) (1 + 5 * get_or file 0 0)) (Err (cut (length file))) _ (λ _. omega arith) (λ _. tt)))))

pub parsed_until : (file : List ℕ) → Until (length file) (parsed file)
parsed_until file =
    until_chain (length file) (counted file) _ (counted_until file) (λ count e.
    let k = counted_ok file count e in
    let l = entries_length count (table count file) (length_table count file k.complete) in
    until_chain (length file) (divided count file) _
    (until_chain (length file) (tabled count 0 (entries (table count file))) _ (tabled_until count 0 (entries (table count file)) (length file) (omega arith))
    (λ u _. bodied_until (entries (table count file)) (drop (1 + 5 * count) file) (length file)))
    (λ bs d.
    let j = ap length (divided_joined count file bs d) in
    let r = length-drop (1 + 5 * count) file in
    until_chain (length file) (bodies_checked count bs (1 + 5 * count)) _
    (bodies_until count (1 + 5 * count) (length file) bs k.some (divided_count count file bs k.complete d) (omega arith))
    (λ h _. tt)))
