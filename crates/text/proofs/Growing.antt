-- A short text after a piece that fits.
use Rattle.std.proofs.Common.{◌≡◌, ℕ, ◌+◌, ◌≤◌, false, List, ◌++◌, length, Ok, arith}
use Rattle.std.proofs.lemmas.Bool.{le-ltb}
use Rattle.text.specs.Texts.{overlong, grew, grown}

pub grew_fits : (text piece : List ℕ) → length text + length piece ≤ 32 → (grew text piece ≡ Ok tt) × (grown text piece ≡ text ++ piece)
grew_fits text piece h =
    let f : overlong text piece ≡ false = le-ltb 32 (length text + length piece) h in
    (rw f, rw f)
