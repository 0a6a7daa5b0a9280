-- The nodes of a graph that its roots need.
use Rattle.std.specs.Prelude.{ℕ, ◌+◌, IsTrue}
use Rattle.vlsi_base.specs.Member.{In}
use Rattle.net_theory.specs.Sources.{IsNumber}
use Rattle.graph_theory.specs.Graph.{Node, Graph}
use Rattle.boog_cuts.specs.Reads.{reads}

-- A number is reached from a root: an output shows it or a register loads it, or a node that is reached reads it. The first
-- node of the list has number `held`.
pub data IsReached (held : ℕ) (g : Graph) : ℕ → Type 0 where
  shown : {a : ℕ} → In a g.outputs → IsReached held g a
  loaded : {a : ℕ} → In a g.loads → IsReached held g a
  read : {a : ℕ} (j : ℕ) (kind : Node) → IsReached held g (held + j) → IsNumber g.nodes j kind → IsTrue (reads kind a)
      → IsReached held g a
