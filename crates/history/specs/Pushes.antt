-- Which element was pushed with a ticket.
use Rattle.std.specs.Prelude.{ℕ, Bool, true, false, cond, ◌&&◌, List, [], ◌∷◌, Some, None, Option, ◌==◌}
use Rattle.history.specs.declared.entry.Entry.{Entry}
use Rattle.history.specs.declared.entry.Kind.{Kind}
use Rattle.history.specs.declared.entry.Kind.TheVariants.{Push, Pop}

abbrev pub is_push : Kind → Bool
is_push Push = true
is_push Pop = false

-- the element of the first push entry of the ticket, or none where no push has it
abbrev pub first_push : {T : Type 0} → List (Entry T) → ℕ → Option T
first_push [] ticket = None
first_push (x ∷ xs) ticket = cond (is_push x.kind && x.ticket == ticket) (Some x.element) (first_push xs ticket)
