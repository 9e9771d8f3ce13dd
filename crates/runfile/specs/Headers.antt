-- The shape body: slots, threads, element kind and bank kind, a byte each; the first wrong byte is the fault.
use Rattle.std.specs.Prelude.{ℕ, ◌+◌, ◌-◌, Bool, false, cond, List, [], ◌∷◌, Ok, Err, Result, ◌==◌, nat_le}
use Rattle.std.specs.Option.{ok_or}
use Rattle.runfile.specs.declared.header.Header.{Header}
use Rattle.runfile.specs.Chains.{chain}
use Rattle.runfile.specs.Faults.{FileFault, body}
use Rattle.runfile.specs.Kinds.{element_kind, bank_kind}

-- there are 1 to 64 slots
abbrev pub slots_right : ℕ → Bool
slots_right slots = cond (nat_le 1 slots) (nat_le slots 64) false

-- the table has an entry for each thread, and three more
abbrev pub headed : ℕ → List ℕ → ℕ → Result Header FileFault
headed count [] place = Err (body place)
headed count (s ∷ []) place = Err (body place)
headed count (s ∷ t ∷ []) place = Err (body place)
headed count (s ∷ t ∷ e ∷ []) place = Err (body place)
headed count (s ∷ t ∷ e ∷ b ∷ []) place =
    cond (slots_right s)
    (cond (t == count - 3)
    (chain (ok_or (element_kind e) (body (place + 2))) (λ element.
    chain (ok_or (bank_kind b) (body (place + 3))) (λ bank.
    Ok (record { slots = s; threads = t; element = element; bank = bank }))))
    (Err (body (place + 1))))
    (Err (body place))
headed count (s ∷ t ∷ e ∷ b ∷ x ∷ more) place = Err (body place)
