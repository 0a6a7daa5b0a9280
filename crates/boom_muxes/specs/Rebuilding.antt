-- The nodes of a diagram as literals.
use Rattle.std.specs.Prelude.{◌≡◌, ◌⊎◌, ℕ, ◌+◌, ◌<◌, ◌≤◌, Bool, false, List, [], ◌∷◌, ◌++◌, map, length, Result, Ok, Err}
use Rattle.std.specs.List.{All, Contains}
use Rattle.bool_expr.specs.Expression.{bit}
use Rattle.bdd_core.specs.declared.node.NodeId.{NodeId}
use Rattle.bdd_core.specs.Truths.{Truths, constant, IsPart, IsUneven}
use Rattle.bdd_core.specs.Branching.{truth_at}
use Rattle.bdd_core.specs.Nodes.{raised, place, IsWhole}
use Rattle.bdd_core.specs.Diagram.{IsNode, function_of, levels_of}
use Rattle.machine_roots.specs.declared.diagram.RootDiagram.{RootDiagram}
use Rattle.boom_literal.specs.declared.literal.Literal.{Literal}
use Rattle.boom_muxes.specs.declared.muxes.Muxes.{Muxes}
use Rattle.boom_muxes.specs.declared.muxes.Stop.{Stop}
use Rattle.boom_muxes.specs.declared.muxes.Stop.TheVariants.{Memory, Large}
use Rattle.boom_muxes.specs.declared.mux.Mux.{Mux}
use Rattle.boom_muxes.specs.Muxes.{IsLiteralBelow, literal_value, mux_values, IsTable, HasGrownBy, SaysMux}

-- a root's diagram, whose variables are inputs and registers of the table
pub record IsUsable (t : Muxes) (d : RootDiagram) : Type 0 where
  pub whole : IsWhole d.diagrams.table
  pub vars : d.diagrams.table.vars ≡ length d.order.items
  pub held : All (λ k. k < t.held) d.order.items
  pub zero_node : IsNode d.diagrams d.zero
  pub zero_is : function_of d.diagrams d.zero ≡ raised d.diagrams.table.vars (constant false)

-- the bits of the diagram's variables
abbrev pub bits_of : RootDiagram → List Bool → List Bool
bits_of d w = map (bit w) d.order.items

-- the literal has the value of the node's function, whatever the inputs and registers are
pub record SaysNode (t : Muxes) (d : RootDiagram) (a : NodeId) (l : Literal) : Type 0 where
  pub below : IsLiteralBelow (t.held + length t.nodes.keys) l
  pub value : (w : List Bool) → length w ≡ t.held
      → literal_value l (mux_values w t.nodes.keys) ≡ truth_at (function_of d.diagrams a) (bits_of d w)

-- what a node means at its own level
abbrev pub list_at : RootDiagram → NodeId → Truths
list_at d a = place d.diagrams.table.lists a.place

-- no node stands twice
abbrev pub IsOnce : List (NodeId × Literal) → Type 0
IsOnce [] = Unit {0}
IsOnce (p ∷ rest) = ((l : Literal) → Contains rest (p.0, l) → ⊥) × IsOnce rest

-- each node is one of the diagram and no constant, stands once, and has its literal
pub record AreSaid (t : Muxes) (d : RootDiagram) (known : List (NodeId × Literal)) : Type 0 where
  pub node : (a : NodeId) (l : Literal) → Contains known (a, l) → IsNode d.diagrams a
  pub uneven : (a : NodeId) (l : Literal) → Contains known (a, l) → IsUneven (list_at d a)
  pub says : (a : NodeId) (l : Literal) → Contains known (a, l) → SaysNode t d a l
  pub once : IsOnce known

-- all parts of the node's list are parts of the function
abbrev pub IsWithin : RootDiagram → Truths → NodeId → Type 0
IsWithin d top a = (x : Truths) → IsPart x (list_at d a) → IsPart x top

abbrev pub AreWithin : RootDiagram → Truths → List (NodeId × Literal) → Type 0
AreWithin d top known = (a : NodeId) (l : Literal) → Contains known (a, l) → IsWithin d top a

-- there is a further node of the function beside those known, and with it the table could weigh as much as was given
pub record IsBeyond (t : Muxes) (d : RootDiagram) (top : Truths) (known : List (NodeId × Literal)) : Type 0 where
  pub at : NodeId
  pub node : IsNode d.diagrams at
  pub uneven : IsUneven (list_at d at)
  pub within : IsWithin d top at
  pub absent : (l : Literal) → Contains known (at, l) → ⊥
  pub heavy : t.given ≤ t.weight + 4

-- all that was known still is, and what is new depends on no variable before the first one of this node's function
pub record AreKnownBelow (d : RootDiagram) (at : NodeId) (old new : List (NodeId × Literal)) : Type 0 where
  pub kept : (a : NodeId) (l : Literal) → Contains old (a, l) → Contains new (a, l)
  pub more : (a : NodeId) (l : Literal) → Contains new (a, l)
      → Contains old (a, l) ⊎ (levels_of d.diagrams a ≤ levels_of d.diagrams at)

-- From one table and what was known to the next: there are at most as many new choices as nodes of which something is known now, each
-- of which is this one or below it.
pub record HasFound (d : RootDiagram) (at : NodeId) (t u : Muxes) (old new : List (NodeId × Literal)) : Type 0 where
  pub table : IsTable u
  pub said : AreSaid u d new
  pub count : ℕ
  pub grown : HasGrownBy count t u
  pub room : length old + count ≤ length new
  pub below : AreKnownBelow d at old new
  -- of a function of which all that was known and this node are parts, all that is known now are parts
  pub parts : (top : Truths) → AreWithin d top old → IsWithin d top at → AreWithin d top new

-- the node has its literal, or with a further node of its function the table could weigh as much as was given; without memory nothing is said
abbrev pub IsFound : RootDiagram → NodeId → Muxes → Muxes → List (NodeId × Literal) → List (NodeId × Literal) → Result Literal Stop → Type 0
IsFound d at t u old new (Ok l) = HasFound d at t u old new × SaysNode u d at l
IsFound d at t u old new (Err Large) = HasFound d at t u old new × ((top : Truths) → IsWithin d top at → IsBeyond u d top new)
IsFound d at t u old new (Err Memory) = Unit {0}

-- The choice has its literal, which is known of the node now; or nothing was changed, and with it the table could weigh as much as was
-- given.
abbrev pub IsChosen : NodeId → Mux → Muxes → Muxes → List (NodeId × Literal) → List (NodeId × Literal) → Result Literal Stop → Type 0
IsChosen at x t u old new (Ok l) = IsTable u × HasGrownBy 1 t u × SaysMux t u x l × (new ≡ old ++ (at, l) ∷ [])
IsChosen at x t u old new (Err Large) = (u ≡ t) × (new ≡ old) × (t.given ≤ t.weight + 4)
IsChosen at x t u old new (Err Memory) = Unit {0}
