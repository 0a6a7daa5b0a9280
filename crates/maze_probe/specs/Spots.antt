-- Places of the lowest metal, by their numbers row by row, and nets whose terminals stand there.
use Rattle.std.specs.Prelude.{◌≡◌, ℕ, ◌+◌, ◌*◌, ◌/◌, ◌%◌, ◌<◌, ◌≤◌, List, map, length, slice_index, None}
use Rattle.std.specs.List.{All, flat_map}
use Rattle.vlsi_base.specs.Member.{AllDifferent}
use Rattle.grid_core.specs.declared.grid.Node.{Node}
use Rattle.maze_nets.specs.declared.points.NetPoints.{NetPoints}

-- so many places, each in its own share
pub record AreSpread (share count : ℕ) (places : List ℕ) : Type 0 where
  pub many : length places ≡ count
  pub from : (k : ℕ) → k < count → k * share ≤ slice_index places k
  pub to : (k : ℕ) → k < count → slice_index places k < k * share + share

-- so many places below a limit, of which no two are one
pub record AreApart (limit count : ℕ) (places : List ℕ) : Type 0 where
  pub many : length places ≡ count
  pub below : All (λ place. place < limit) places
  pub different : AllDifferent places

abbrev pub terminal_at : ℕ → ℕ → Node
terminal_at columns place = record { metal = 2; column = place % columns; row = place / columns }

-- nets without ports, each of so many terminals, which one behind another stand at these places
pub record AreNetsOn (columns pins : ℕ) (places : List ℕ) (nets : List NetPoints) : Type 0 where
  pub portless : All (λ net. net.port ≡ None) nets
  pub sized : All (λ net. length net.terminals.items ≡ pins) nets
  pub terminals : flat_map (λ net. net.terminals.items) nets ≡ map (terminal_at columns) places
