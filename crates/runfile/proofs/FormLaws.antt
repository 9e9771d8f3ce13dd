-- What is accepted has the described form.
use Rattle.std.proofs.Common.{◌≡◌, ℕ, zero, suc, ◌+◌, ◌-◌, ◌*◌, ◌<◌, ◌≤◌, Bool, true, false, cond, eqb, ltb, List, [], ◌∷◌, ◌++◌, length, get_or, take, drop, Some, None, Ok, Err, Option, Result, sym, refl, ap, ◌∙◌, subst, inl, inr, arith}
use Rattle.std.proofs.lemmas.List.{drop-drop, take-append-drop, length-take-le}
use Rattle.std.proofs.lemmas.Bool.{ltb-false, ltb-true, eqb-true, eq-eqb, ne_eqb, cases_eq}
use Rattle.std.proofs.lemmas.Bool.Decides.{nat_tests}
use Rattle.std.specs.List.{flat_map, AllByRecursion}
use Rattle.runfile.specs.declared.kinds.ElementKind.{ElementKind}
use Rattle.runfile.specs.declared.kinds.ElementKind.TheVariants.{Number, Letter}
use Rattle.runfile.specs.declared.kinds.BankKind.{BankKind}
use Rattle.runfile.specs.declared.kinds.BankKind.TheVariants.{Word, Nibble}
use Rattle.runfile.specs.declared.kinds.BodyKind.{BodyKind}
use Rattle.runfile.specs.declared.kinds.BodyKind.TheVariants.{Shape, Program as ProgramBody, LeadIn, Main}
use Rattle.runfile.specs.declared.operation.Operation.{Operation}
use Rattle.runfile.specs.declared.operation.Operation.TheVariants.{Push, Pop}
use Rattle.runfile.specs.declared.table.Entry.{Entry}
use Rattle.runfile.specs.Chains.{chain}
use Rattle.runfile.specs.Elements.{Format, element, number_format, letter_format}
use Rattle.runfile.specs.Faults.{FileFault, cut, contents, body, tail}
use Rattle.runfile.specs.Files.{Contents, counted, table, divided, programs_checked, run_checked, bodies_checked, programs_in, lead_in_in, main_in, parsed}
use Rattle.runfile.specs.Forms.{entries_for, element_code, bank_code, Program, done, pop, push, Programs, Read, Described, Formed}
use Rattle.runfile.specs.Headers.{headed}
use Rattle.runfile.specs.Kinds.{element_kind, bank_kind, body_kind, body_code, is_kind}
use Rattle.runfile.specs.Programs.{operation, operations, operations_of, programmed, wide}
use Rattle.runfile.specs.Schedules.{scheduled}
use Rattle.runfile.specs.Tables.{entries, expected, right, tabled, bodied}
use Rattle.runfile.proofs.ChainLaws.{chain_ok, cond_ok, cond_not_ok, ok_same}
use Rattle.runfile.proofs.FileLaws.{divided_joined}
use Rattle.runfile.proofs.OutcomeLaws.{counted_ok, divided_count, headed_ok}
use Rattle.runfile.proofs.PlaceLaws.{Until, parsed_until}
use Rattle.runfile.proofs.ProgramLaws.{operations_all}

pub scheduled_all : (threads : ℕ) (ts : List ℕ) (place : ℕ) (u : Unit {0}) → scheduled threads ts place ≡ Ok u → AllByRecursion (λ t. t < threads) ts
scheduled_all threads [] place u e = tt
scheduled_all threads (t ∷ ts) place u e =
    let o = cond_ok (ltb t threads) (scheduled threads ts (place + 1)) (body place) u e in
    (ltb-true t threads o.0, scheduled_all threads ts (place + 1) u o.1)

element_code_is : (b : ℕ) (k : ElementKind) → element_kind b ≡ Some k → b ≡ element_code k
element_code_is b Number e = grind (arith, nat_tests)
element_code_is b Letter e = grind (arith, nat_tests)

bank_code_is : (b : ℕ) (k : BankKind) → bank_kind b ≡ Some k → b ≡ bank_code k
bank_code_is b Word e = grind (arith, nat_tests)
bank_code_is b Nibble e = grind (arith, nat_tests)

test_first : (t s : Bool) → cond t s false ≡ true → t ≡ true
test_first true s h = refl
test_first false s h = h

coded : (kind : BodyKind) → body_kind (body_code kind) ≡ Some kind
coded Shape = refl
coded ProgramBody = refl
coded LeadIn = refl
coded Main = refl

same_kind : (o : Option BodyKind) (kind : BodyKind) → is_kind o kind ≡ true → o ≡ Some kind
same_kind (Some k) kind h = sym (coded k) ∙ ap body_kind (eqb-true (body_code k) (body_code kind) h) ∙ coded kind
same_kind None kind h = cc

right_kind : (count i : ℕ) (e : Entry) → right count i e ≡ true → e.kind ≡ Some (expected count i)
right_kind count i e h = same_kind e.kind (expected count i) (test_first (is_kind e.kind (expected count i)) _ h)

-- each entry has the kind of its place and its body's length
listed_for : (count i : ℕ) (es : List Entry) (bytes : List ℕ) (end : ℕ) (bs : List (List ℕ)) (u : Unit {0}) → tabled count i es ≡ Ok u → bodied es bytes end ≡ Ok bs → es ≡ entries_for count i bs
listed_for count i [] bytes end bs u t e =
    let o = cond_ok (eqb (length bytes) 0) (Ok []) (tail (end - length bytes)) bs e in
    ap (entries_for count i) (ok_same [] bs o.1)
listed_for count i (x ∷ es) bytes end bs u t e =
    let r = cond_ok (right count i x) (tabled count (i + 1) es) (contents (1 + 5 * i)) u t in
    let o = cond_not_ok (ltb (length bytes) x.size) (chain (bodied es (drop x.size bytes) end) (λ more. Ok (take x.size bytes ∷ more))) (cut end) bs e in
    let k = chain_ok (bodied es (drop x.size bytes) end) (λ more. Ok (take x.size bytes ∷ more)) bs o.1 in
    let rest = listed_for count (i + 1) es (drop x.size bytes) end k.0 u r.1 k.1 in
    let size : length (take x.size bytes) ≡ x.size = length-take-le x.size bytes (ltb-false (length bytes) x.size o.0) in
    let kind = right_kind count i x r.0 in
    let head : x ≡ record { kind = Some (expected count i); size = length (take x.size bytes) } = rw (size, sym kind) in
    ap (λ l. x ∷ l) rest
    ∙ ap (λ h. h ∷ entries_for count (i + 1) k.0) head
    ∙ ap (entries_for count i) (ok_same (take x.size bytes ∷ k.0) bs k.2)

module _ {T : Type 0} (form : Format T) where
  -- a push: its element is whole and lawful
  element_ok : (bytes : List ℕ) (place : ℕ) (e : T) → element form bytes place ≡ Ok e → (form.width ≤ length bytes) × (form.lawful (take form.width bytes) ≡ true)
  element_ok bytes place e h =
      let a = cond_not_ok (ltb (length bytes) form.width) _ (body place) e h in
      let b = cond_ok (form.lawful (take form.width bytes)) _ (body place) e a.1 in
      (ltb-false (length bytes) form.width a.0, b.0)

  -- the first operation of a program, before a program
  lawful_first : (code : ℕ) (bytes : List ℕ) (place : ℕ) (o : Operation T) → operation form (code ∷ bytes) place ≡ Ok o → (wide form.width o - 1 ≤ length bytes) × (Program form (drop (wide form.width o - 1) bytes) → Program form (code ∷ bytes))
  lawful_first code bytes place o h = elim (cases_eq code 0x50) [
    | inl is ↦ (
        let c : chain (element form bytes place) (λ e. Ok (Push e)) ≡ Ok o = (rw (eq-eqb code 0x50 is) at h) in
        let k = chain_ok (element form bytes place) (λ e. Ok (Push e)) o c in
        let l = element_ok bytes place k.0 k.1 in
        let w : wide form.width o - 1 ≡ form.width = (ap (λ p. wide form.width p - 1) (sym (ok_same (Push k.0) o k.2)) ∙ omega arith) in
        (omega (arith, l.0), λ p. rw is (subst (λ l. Program form (0x50 ∷ l)) (take-append-drop form.width bytes) (push (length-take-le form.width bytes l.0) l.1 (rw w at p)))))
    | inr not ↦ (
        let c : cond (eqb code 0x44) (Ok Pop) (Err (body place)) ≡ Ok o = (rw (ne_eqb code 0x50 not) at h) in
        let k = cond_ok (eqb code 0x44) (Ok Pop) (body place) o c in
        let w : wide form.width o - 1 ≡ 0 = ap (λ p. wide form.width p - 1) (sym (ok_same Pop o k.1)) in
        let is = eqb-true code 0x44 k.0 in
        (omega arith, λ p. rw is (pop (rw w at p))))
  ]

  lawful_from : (skip : ℕ) (bytes : List ℕ) (place : ℕ) (os : List (Operation T)) → skip ≤ length bytes → operations form skip bytes place ≡ Ok os → Program form (drop skip bytes)
  lawful_from zero [] place os h e = done
  lawful_from (suc skip) [] place os h e = absurd (omega arith)
  lawful_from (suc skip) (b ∷ bytes) place os h e = lawful_from skip bytes (place + 1) os (omega arith) e
  lawful_from zero (b ∷ bytes) place os h e =
      let k = chain_ok (operation form (b ∷ bytes) place) _ os e in
      let m = chain_ok (operations form (wide form.width k.0 - 1) bytes (place + 1)) _ os k.2 in
      let f = lawful_first b bytes place k.0 k.1 in
      f.1 (lawful_from (wide form.width k.0 - 1) bytes (place + 1) m.0 f.0 m.1)

  lawful_all : (ps : List (List ℕ)) (place end : ℕ) → programmed form ps place ≡ Ok end → AllByRecursion (Program form) ps
  lawful_all [] place end e = tt
  lawful_all (p ∷ ps) place end e =
      let k = chain_ok (operations form 0 p place) (λ _. programmed form ps (place + length p)) end e in
      (lawful_from 0 p place k.0 (omega arith) k.1, lawful_all ps (place + length p) end k.2)

  read_all : (ps : List (List ℕ)) (place end : ℕ) → programmed form ps place ≡ Ok end → AllByRecursion (λ p. (q : ℕ) → operations form 0 p q ≡ Ok (operations_of form 0 p)) ps
  read_all [] place end e = tt
  read_all (p ∷ ps) place end e =
      let k = chain_ok (operations form 0 p place) (λ _. programmed form ps (place + length p)) end e in
      (λ q. operations_all form 0 p place q k.0 k.1, read_all ps (place + length p) end k.2)

read_programs : (kind : ElementKind) (ps : List (List ℕ)) (place end : ℕ) → programs_checked kind ps place ≡ Ok end → Read kind ps
read_programs Number ps place end e = read_all number_format ps place end e
read_programs Letter ps place end e = read_all letter_format ps place end e

lawful_programs : (kind : ElementKind) (ps : List (List ℕ)) (place end : ℕ) → programs_checked kind ps place ≡ Ok end → Programs kind ps
lawful_programs Number ps place end e = lawful_all number_format ps place end e
lawful_programs Letter ps place end e = lawful_all letter_format ps place end e

-- the count, the table and the bodies are the whole file
whole_file : (count : ℕ) (file : List ℕ) (bs : List (List ℕ)) → get_or file 0 0 ≡ count → 1 + 5 * count ≤ length file → flat_map (λ b. b) bs ≡ drop (1 + 5 * count) file → file ≡ count ∷ (table count file ++ flat_map (λ b. b) bs)
whole_file count [] bs first long e = absurd (omega arith)
whole_file count (x ∷ rest) bs first long e =
    let d : flat_map (λ b. b) bs ≡ drop (5 * count) rest = e ∙ sym (drop-drop (5 * count) 1 (x ∷ rest)) in
    rw (first, d) (ap (λ l. count ∷ l) (sym (take-append-drop (5 * count) rest)))

pub described : (file : List ℕ) (c : Contents) → parsed file ≡ Ok c → Described file c
described file c e =
    let a = chain_ok (counted file) _ c e in
    let count = a.0 in
    let b = chain_ok (divided count file) _ c a.2 in
    let bs = b.0 in
    let d = chain_ok (bodies_checked count bs (1 + 5 * count)) _ c b.2 in
    let h = d.0 in
    let k = counted_ok file count a.1 in
    let t = chain_ok (tabled count 0 (entries (table count file))) _ bs b.1 in
    let s = chain_ok (headed count (get_or bs 0 []) (1 + 5 * count)) _ h d.1 in
    let r = chain_ok (run_checked s.0 (programs_in s.0.threads bs) (lead_in_in s.0.threads bs) (main_in s.0.threads bs) (1 + 5 * count + length (get_or bs 0 []))) _ h s.2 in
    let p = chain_ok (programs_checked s.0.element (programs_in s.0.threads bs) (1 + 5 * count + length (get_or bs 0 []))) _ r.0 r.1 in
    let l = chain_ok (scheduled s.0.threads (lead_in_in s.0.threads bs) p.0) _ r.0 p.2 in
    let g = headed_ok count (get_or bs 0 []) (1 + 5 * count) s.0 s.1 in
    let same : s.0 ≡ h = ok_same s.0 h r.2 in
    let n : count ≡ s.0.threads + 3 = omega arith in
    let of : Described file (record { header = s.0; bodies = bs }) = record {
      short = k.short;
      slots = g.slots;
      threads = omega arith;
      table = table count file;
      whole = whole_file count file bs k.first k.complete (divided_joined count file bs b.1) ∙ ap (λ x. x ∷ (table count file ++ flat_map (λ b. b) bs)) n;
      listed = listed_for count 0 (entries (table count file)) (drop (1 + 5 * count) file) (length file) bs t.0 t.1 t.2 ∙ ap (λ x. entries_for x 0 bs) n;
      count = divided_count count file bs k.complete b.1 ∙ n;
      shape = g.bytes ∙ rw (element_code_is g.element s.0.element g.element_is, bank_code_is g.bank s.0.bank g.bank_is);
      programs = lawful_programs s.0.element (programs_in s.0.threads bs) (1 + 5 * count + length (get_or bs 0 [])) p.0 p.1;
      operations = read_programs s.0.element (programs_in s.0.threads bs) (1 + 5 * count + length (get_or bs 0 [])) p.0 p.1;
      lead_in = scheduled_all s.0.threads (lead_in_in s.0.threads bs) p.0 l.0 l.1;
      main = scheduled_all s.0.threads (main_in s.0.threads bs) (p.0 + length (lead_in_in s.0.threads bs)) r.0 l.2;
    } in
    subst (Described file) (ap (λ x. record { header = x; bodies = bs }) same ∙ ok_same (record { header = h; bodies = bs }) c d.2) of

formed_by : (file : List ℕ) (r : Result Contents FileFault) → ((c : Contents) → r ≡ Ok c → Described file c) → Until (length file) r → Formed file r
formed_by file (Ok c) d u = d c refl
formed_by file (Err f) d u = u

pub formed : (file : List ℕ) (r : Result Contents FileFault) → r ≡ parsed file → Formed file r
formed file r e = subst (Formed file) (sym e) (formed_by file (parsed file) (described file) (parsed_until file))
