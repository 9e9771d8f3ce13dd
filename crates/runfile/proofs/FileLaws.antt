-- A file's parts, as the code cuts them.
use Rattle.std.proofs.Common.{◌≡◌, ℕ, ◌+◌, ◌*◌, List, length, drop, Ok}
use Rattle.std.specs.List.{flat_map}
use Rattle.runfile.specs.Files.{table, divided}
use Rattle.runfile.specs.Tables.{entries, tabled, bodied}
use Rattle.runfile.proofs.ChainLaws.{chain_ok}
use Rattle.runfile.proofs.TableLaws.{bodied_joined}

pub divided_joined : (count : ℕ) (file : List ℕ) (bs : List (List ℕ)) → divided count file ≡ Ok bs → flat_map (λ b. b) bs ≡ drop (1 + 5 * count) file
divided_joined count file bs e =
    let k = chain_ok (tabled count 0 (entries (table count file))) (λ _. bodied (entries (table count file)) (drop (1 + 5 * count) file) (length file)) bs e in
    bodied_joined (entries (table count file)) (drop (1 + 5 * count) file) (length file) bs k.2
