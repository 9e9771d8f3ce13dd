-- A player: a machine with the run that it plays, and the caller's buffers.
use Rattle.std.specs.Prelude.{◌≡◌, ℕ, List}
use Rattle.world.specs.Worlds.{World, world}
use Rattle.play.specs.declared.player.Player.{Player}

-- the world that a player is in
abbrev pub world_of : {B T : Type 0} → (B → List ℕ) → Player B T → World T
world_of row p = world (row p.machine.now.bank) p.machine.now.table p.cells.now p.hands.now p.entries.now

-- a player keeps its run, and what was lent to it
pub record Keeps {B T : Type 0} (p q : Player B T) : Type 0 where
  pub run : q.run ≡ p.run
  pub machine : q.machine.ghost_name ≡ p.machine.ghost_name
  pub cells : q.cells.ghost_name ≡ p.cells.ghost_name
  pub hands : q.hands.ghost_name ≡ p.hands.ghost_name
  pub entries : q.entries.ghost_name ≡ p.entries.ghost_name
