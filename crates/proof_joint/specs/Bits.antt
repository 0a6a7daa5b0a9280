-- Bits on which two functions differ.
use Rattle.std.specs.Prelude.{◌≡◌, ℕ, Bool, List}
use Rattle.vlsi_base.specs.Member.{In}
use Rattle.bool_expr.specs.Expression.{bit}
use Rattle.bdd_core.specs.declared.node.NodeId.{NodeId}
use Rattle.bdd_core.specs.Truths.{truths}
use Rattle.bdd_core.specs.Diagram.{Diagram, IsNode, function_of}
use Rattle.machine_walk.specs.Expansion.{place_among}

-- the node of a function that is known by its values
pub record Computes (d : Diagram) (a : NodeId) (g : List Bool → Bool) : Type 0 where
  pub node : IsNode d a
  pub is : function_of d a ≡ truths d.table.vars g

-- each of these names has the bit with its place in the order
abbrev pub AreSpread : List ℕ → List Bool → List Bool → Type 0
AreSpread order bits spread = (k : ℕ) → In k order → bit spread k ≡ bit bits (place_among order k)
