-- How many slots and threads a bench may have.
use Rattle.std.specs.Prelude.{ℕ, ◌≤◌}

-- a number from 1 to 64
abbrev pub Few : ℕ → Type 0
Few n = (1 ≤ n) × (n ≤ 64)
