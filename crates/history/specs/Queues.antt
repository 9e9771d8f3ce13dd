-- The single-file queue, and the records that are runs of it.
use Rattle.std.specs.Prelude.{◌≡◌, List, [], ◌∷◌, ◌++◌}
use Rattle.history.specs.declared.entry.Entry.{Entry}
use Rattle.history.specs.declared.entry.Kind.{Kind}
use Rattle.history.specs.declared.entry.Kind.TheVariants.{Push, Pop}

-- what an entry makes of the queue: a push appends its element; a pop is possible only when its element is the first,
-- which it removes
abbrev pub Plays : {T : Type 0} → Kind → T → List T → List T → Type 0
Plays Push element before after = after ≡ before ++ element ∷ []
Plays Pop element before after = before ≡ element ∷ after

-- the entries are possible one after another, from a queue of `before` to one of `after`
abbrev pub Replays : {T : Type 0} → List (Entry T) → List T → List T → Type 0
Replays [] before after = before ≡ after
Replays {T} (x ∷ xs) before after = (next : List T) × Plays x.kind x.element before next × Replays xs next after

-- a run of the single-file queue, which is empty at first
abbrev pub Run : {T : Type 0} → List (Entry T) → Type 0
Run {T} entries = (queue : List T) × Replays entries [] queue
