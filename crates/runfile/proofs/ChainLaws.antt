-- A chain of readings, where it is known how its first one ends.
use Rattle.std.proofs.Common.{◌≡◌, ℕ, Bool, true, false, cond, Ok, Err, Result, sym, refl, arith}
use Rattle.runfile.specs.Faults.{FileFault}
use Rattle.runfile.specs.Chains.{chain, sound}

pub never : {A : Type 0} (a : A) (f : FileFault) → Ok a ≡ Err f → ⊥
never a f e = let z : ◌≡◌ {A = ℕ} 0 1 = cc in omega arith

pub chain_sound : {A B : Type 0} (r : Result A FileFault) (u : Unit {0}) (next : Result B FileFault) → Ok u ≡ sound r → chain r (λ _. next) ≡ next
chain_sound (Ok a) u next e = refl
chain_sound (Err f) u next e = absurd (never u f e)

pub chain_fault : {A B : Type 0} (r : Result A FileFault) (f : FileFault) (next : A → Result B FileFault) → Err f ≡ sound r → chain r next ≡ Err f
chain_fault (Ok a) f next e = absurd (never tt f (sym e))
chain_fault (Err g) f next e = let same : f ≡ g = cc in rw same

-- how a chain came to its end
pub chain_ok : {A B : Type 0} (r : Result A FileFault) (next : A → Result B FileFault) (b : B) → chain r next ≡ Ok b → (a : A) × (r ≡ Ok a) × (next a ≡ Ok b)
chain_ok (Ok a) next b e = (a, refl, e)
chain_ok (Err f) next b e = absurd (never b f (sym e))

-- a test on the way
pub cond_ok : {B : Type 0} (t : Bool) (r : Result B FileFault) (f : FileFault) (b : B) → cond t r (Err f) ≡ Ok b → (t ≡ true) × (r ≡ Ok b)
cond_ok true r f b e = (refl, e)
cond_ok false r f b e = absurd (never b f (sym e))

pub cond_not_ok : {B : Type 0} (t : Bool) (r : Result B FileFault) (f : FileFault) (b : B) → cond t (Err f) r ≡ Ok b → (t ≡ false) × (r ≡ Ok b)
cond_not_ok true r f b e = absurd (never b f (sym e))
cond_not_ok false r f b e = (refl, e)

pub ok_same : {A : Type 0} (a b : A) → ◌≡◌ {A = Result A FileFault} (Ok a) (Ok b) → a ≡ b
ok_same a b e = cc
