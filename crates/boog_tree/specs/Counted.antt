-- Uses that are counted.
use Rattle.std.specs.Prelude.{◌≡◌, ℕ, ◌+◌, Bool, List, length, min, slice_index}
use Rattle.bool_expr.specs.Expression.{bit}
use Rattle.graph_theory.specs.Graph.{Graph}
use Rattle.cell_match.specs.Places.{times}
use Rattle.boog_tree.specs.Trees.{is_inner}

-- each count is higher by how often its number stands in the list, up to 255
pub record IsRaised (old numbers new : List ℕ) : Type 0 where
  pub long : length new ≡ length old
  pub each : (x : ℕ) → slice_index new x ≡ min (slice_index old x + times x numbers) 255

-- the marks are those of the gates that belong to their users' trees
pub record AreInner (held : ℕ) (g : Graph) (marks : List Bool) : Type 0 where
  pub many : length marks ≡ held + length g.nodes
  pub each : (x : ℕ) → bit marks x ≡ is_inner held g x
