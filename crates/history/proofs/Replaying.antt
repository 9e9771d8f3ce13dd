-- Replays of the single-file queue, one after another.
use Rattle.std.proofs.Common.{ℕ, List, [], ◌∷◌, ◌++◌, sym, refl, subst}
use Rattle.history.specs.declared.entry.Entry.{Entry}
use Rattle.history.specs.declared.entry.Kind.TheVariants.{Push, Pop}
use Rattle.history.specs.Queues.{Replays, Run}

module _ {T : Type 0} where
  -- what follows goes on from where the first part ended
  pub replays_append : (xs ys : List (Entry T)) (a b c : List T) → Replays xs a b → Replays ys b c → Replays (xs ++ ys) a c
  replays_append [] ys a b c h g = subst (λ (d : List T). Replays ys d c) (sym h) g
  replays_append (x ∷ xs) ys a b c h g = (h.0, h.1, replays_append xs ys h.0 b c h.2 g)

  -- and a replay of both parts is one of each
  pub replays_parts : (xs ys : List (Entry T)) (a c : List T) → Replays (xs ++ ys) a c → (b : List T) × Replays xs a b × Replays ys b c
  replays_parts [] ys a c h = (a, refl, h)
  replays_parts (x ∷ xs) ys a c h =
      let r = replays_parts xs ys h.0 c h.2 in
      (r.0, (h.0, h.1, r.1), r.2)

  -- a push more
  pub replays_push : (xs : List (Entry T)) (thread ticket : ℕ) (e : T) (a b : List T) → Replays xs a b → Replays (xs ++ record { kind = Push; thread = thread; ticket = ticket; element = e } ∷ []) a (b ++ e ∷ [])
  replays_push xs thread ticket e a b h =
      replays_append xs (record { kind = Push; thread = thread; ticket = ticket; element = e } ∷ []) a b (b ++ e ∷ []) h (b ++ e ∷ [], refl, refl)

  -- a pop more, of the first element
  pub replays_pop : (xs : List (Entry T)) (thread ticket : ℕ) (e : T) (a b : List T) → Replays xs a (e ∷ b) → Replays (xs ++ record { kind = Pop; thread = thread; ticket = ticket; element = e } ∷ []) a b
  replays_pop xs thread ticket e a b h =
      replays_append xs (record { kind = Pop; thread = thread; ticket = ticket; element = e } ∷ []) a (e ∷ b) b h (b, refl, refl)

  -- the beginning of a run is a run
  pub run_prefix : (xs ys : List (Entry T)) → Run (xs ++ ys) → Run xs
  run_prefix xs ys h =
      let r = replays_parts xs ys [] h.0 h.1 in
      (r.0, r.1)
