-- The order in which schedule entries are taken: the lead-in's first, then the main schedule's.
use Rattle.std.specs.Prelude.{ℕ, ◌-◌, cond, List, length, drop, nat_lt}

-- what is still to run after so many entries: a part of the lead-in, after its end a part of the main schedule, and
-- nothing past both
abbrev pub still_to_run : List ℕ → List ℕ → ℕ → List ℕ
still_to_run lead_in main taken = cond (nat_lt taken (length lead_in)) (drop taken lead_in) (drop (taken - length lead_in) main)
