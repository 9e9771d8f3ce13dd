-- What the lines of a report tell of its entries.
use Rattle.std.specs.Prelude.{◌≡◌, ℕ, ◌^◌, ◌<◌, List, map, ◌≢◌}
use Rattle.std.specs.List.{flat_map, AllByRecursion}
use Rattle.history.specs.declared.entry.Entry.{Entry}
use Rattle.runfile.specs.Elements.{number_text}
use Rattle.runfile.specs.declared.number.Number.{Number}
use Rattle.report.specs.Lines.{line_for}

-- the numbers of the entry fit into 64 bits, and its element's text stays within the line
abbrev pub Legible : {T : Type 0} → (T → List ℕ) → Entry T → Type 0
Legible text x = (x.thread < 2 ^ 64) × (x.ticket < 2 ^ 64) × AllByRecursion (λ byte. byte ≢ 10) (text x.element)

-- what can be seen of an entry: its element's text in place of the element
abbrev pub seen : {T : Type 0} → (T → List ℕ) → Entry T → Entry (List ℕ)
seen text x = record { kind = x.kind; thread = x.thread; ticket = x.ticket; element = text x.element }

-- from the lines alone the kind, thread, ticket and element's text of every entry can be told: no two lists of entries that
-- differ in one of these have the same lines
pub record Told {T : Type 0} (text : T → List ℕ) : Type 0 where
  pub tells : (xs ys : List (Entry T)) → AllByRecursion (Legible text) xs → AllByRecursion (Legible text) ys → flat_map (line_for text) xs ≡ flat_map (line_for text) ys → map (seen text) xs ≡ map (seen text) ys

-- the numbers of an entry, its element among them, fit into 64 bits
abbrev pub Fitting : Entry Number → Type 0
Fitting x = (x.thread < 2 ^ 64) × (x.ticket < 2 ^ 64) × (x.element.value < 2 ^ 64)

-- where the elements are numbers, no two lists of entries have the same lines
pub record NumbersTold : Type 0 where
  pub tells : (xs ys : List (Entry Number)) → AllByRecursion Fitting xs → AllByRecursion Fitting ys → flat_map (line_for number_text) xs ≡ flat_map (line_for number_text) ys → xs ≡ ys
