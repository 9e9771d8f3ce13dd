-- Which slot and round a ticket belongs to, and which turns of its slot it waits for.
use Rattle.std.specs.Prelude.{ℕ, ◌+◌, ◌*◌, ◌/◌, ◌%◌}

-- the slot of ticket t among q slots
abbrev pub slot_of : ℕ → ℕ → ℕ
slot_of q t = t % q

-- the round of ticket t among q slots: how often the tickets went round all slots before it
abbrev pub round_of : ℕ → ℕ → ℕ
round_of q t = t / q

-- both together
abbrev pub split_of : ℕ → ℕ → ℕ × ℕ
split_of q t = (slot_of q t, round_of q t)

-- the turn of its slot that the push of round r waits for
abbrev pub push_turn : ℕ → ℕ
push_turn r = 2 * r

-- the turn of its slot that the pop of round r waits for
abbrev pub pop_turn : ℕ → ℕ
pop_turn r = 2 * r + 1
