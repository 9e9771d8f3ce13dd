-- The shape of a file that was accepted, and buffers cut to it.
use Rattle.std.proofs.Common.{◌≡◌, ℕ, ◌≤◌, List, length, take, IfOk, MatchResult, Ok, Result, sym, ap, ◌∙◌, subst, arith}
use native.Mathlib.Bridge.{le_prop}
use Rattle.turns.specs.declared.refusal.ShapeRefusal.{ShapeRefusal}
use Rattle.turns.specs.declared.shape.Shape.{Shape}
use Rattle.turns.specs.Shapes.{Few}
use Rattle.history.specs.declared.entry.Entry.{Entry}
use Rattle.runfile.specs.Elements.{Format}
use Rattle.runfile.specs.Files.{Contents}
use Rattle.world.specs.declared.cell.Cell.{Cell}
use Rattle.turns.specs.Rows.{cleared}
use Rattle.world.specs.Calls.{new_table}
use Rattle.world.specs.Worlds.{world}
use Rattle.play.specs.Runs.{ran}
use Rattle.host.specs.declared.fault.Fault.{Fault}
use Rattle.host.specs.Tells.{Faithful, Writes, bounded, cycle_of, shape_of, told_in, told_run}

bounded_is : (n : ℕ) → Few n → bounded n ≡ n
bounded_is n few = omega arith

-- a number lies in bounds in one way only
few_prop : (n : ℕ) (f g : Few n) → f ≡ g
few_prop n f g = ap (λ (x : 1 ≤ n). (x, f.1)) (le_prop f.0 g.0) ∙ ap (λ (y : n ≤ 64). (g.0, y)) (le_prop f.1 g.1)

-- so a shape is its two numbers
with_slots : (s : Shape) (q : ℕ) → s.slots ≡ q → (f : Few q × Few s.threads) → s ≡ record { slots = q; threads = s.threads; few = f }
with_slots s q e =
    subst (λ (x : ℕ). (f : Few x × Few s.threads) → s ≡ record { slots = x; threads = s.threads; few = f }) e (λ f.
    ap (λ (x : Few s.slots). record { slots = s.slots; threads = s.threads; few = (x, s.few.1) }) (few_prop s.slots s.few.0 f.0)
    ∙ ap (λ (y : Few s.threads). record { slots = s.slots; threads = s.threads; few = (f.0, y) }) (few_prop s.threads s.few.1 f.1))

with_both : (s : Shape) (q n : ℕ) → s.slots ≡ q → s.threads ≡ n → (f : Few q × Few n) → s ≡ record { slots = q; threads = n; few = f }
with_both s q n e h = subst (λ (x : ℕ). (f : Few q × Few x) → s ≡ record { slots = q; threads = x; few = f }) h (with_slots s q e)

shape_is : (c : Contents) (s : Shape) → s.slots ≡ c.header.slots → s.threads ≡ c.header.threads → s ≡ shape_of c
shape_is c s e h =
    let fq : Few c.header.slots = subst Few e s.few.0 in
    let fn : Few c.header.threads = subst Few h s.few.1 in
    with_both s (bounded c.header.slots) (bounded c.header.threads) (e ∙ sym (bounded_is c.header.slots fq)) (h ∙ sym (bounded_is c.header.threads fn)) (shape_of c).few

-- the shape that its header answers
pub shape_read : (c : Contents) (r : Result Shape ShapeRefusal) (s : Shape) (Q : ShapeRefusal → Type 0) → r ≡ Ok s → MatchResult r (λ t. (t.slots ≡ c.header.slots) × (t.threads ≡ c.header.threads)) Q → s ≡ shape_of c
shape_read c r s Q e m =
    let both : (s.slots ≡ c.header.slots) × (s.threads ≡ c.header.threads) = subst (λ (x : Result Shape ShapeRefusal). MatchResult x (λ t. (t.slots ≡ c.header.slots) × (t.threads ≡ c.header.threads)) Q) e m in
    shape_is c s both.0 both.1

-- a run in buffers that are cut to its shape
pub told_cut : {T : Type 0} (form : Format T) (printed : T → List ℕ) (room cycle : ℕ) (c : Contents) (s : Shape) (cells cells' : List (Cell T)) (hands hands' : List T) (entries : List (Entry T)) →
    s ≡ shape_of c → cycle ≡ cycle_of c.header.bank → cells' ≡ take s.slots cells → hands' ≡ take s.threads hands →
    told_run printed s room (ran form cycle c s (world cleared (new_table s) cells' hands' entries)) ≡ told_in form printed room c cells hands entries
told_cut form printed room cycle c s cells cells' hands hands' entries e k g h =
    ap (λ xs. told_run printed s room (ran form cycle c s (world cleared (new_table s) xs hands' entries))) g
    ∙ ap (λ xs. told_run printed s room (ran form cycle c s (world cleared (new_table s) (take s.slots cells) xs entries))) h
    ∙ ap (λ m. told_run printed s room (ran form m c s (world cleared (new_table s) (take s.slots cells) (take s.threads hands) entries))) k
    ∙ ap (λ t. told_run printed t room (ran form (cycle_of c.header.bank) c t (world cleared (new_table t) (take t.slots cells) (take t.threads hands) entries))) e

-- what is written of such a run is what is told of the file
pub at_file : {T : Type 0} (form : Format T) (printed : T → List ℕ) (cycle : ℕ) (c : Contents) (s : Shape) (cells cells' : List (Cell T)) (hands hands' : List T) (entries : List (Entry T)) (r : Result ℕ Fault) (before after : List ℕ) →
    s ≡ shape_of c → cycle ≡ cycle_of c.header.bank → cells' ≡ take s.slots cells → hands' ≡ take s.threads hands →
    Writes r before after (told_run printed s (length before) (ran form cycle c s (world cleared (new_table s) cells' hands' entries))) → IfOk r (λ size. Faithful printed cycle s (take size after)) →
    Writes r before after (told_in form printed (length before) c cells hands entries) × IfOk r (λ size. Faithful printed (cycle_of c.header.bank) (shape_of c) (take size after))
at_file form printed cycle c s cells cells' hands hands' entries r before after e k g h writes faithful = (
  subst (Writes r before after) (told_cut form printed (length before) cycle c s cells cells' hands hands' entries e k g h) writes,
  subst (λ (t : Shape). IfOk r (λ size. Faithful printed (cycle_of c.header.bank) t (take size after))) e (subst (λ (m : ℕ). IfOk r (λ size. Faithful printed m s (take size after))) k faithful),
)
