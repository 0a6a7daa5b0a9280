-- The nodes of a function's diagram, as they are gone through.
use Rattle.std.specs.Prelude.{◌≡◌, ◌⊎◌, List, [], ◌∷◌, ◌++◌}
use Rattle.vlsi_base.specs.Member.{In, AllDifferent}
use Rattle.bdd_core.specs.declared.node.NodeId.{NodeId}
use Rattle.bdd_core.specs.Truths.{Truths, IsPart, IsUneven}
use Rattle.bdd_core.specs.Diagram.{Diagram, IsNode, list_of}

-- the truth list is that of one of these nodes
abbrev pub Stands : Diagram → List NodeId → Truths → Type 0
Stands d nodes x = (a : NodeId) × In a nodes × (list_of d a ≡ x)

-- each node is one of the diagram and no constant, and stands once; and so do all nodes of its function's diagram
pub record AreSeen (d : Diagram) (seen : List NodeId) : Type 0 where
  pub node : (a : NodeId) → In a seen → IsNode d a
  pub uneven : (a : NodeId) → In a seen → IsUneven (list_of d a)
  pub once : AllDifferent seen
  pub closed : (a : NodeId) → In a seen → (x : Truths) → IsUneven x → IsPart x (list_of d a) → Stands d seen x

-- now all nodes of this one's function are seen, and no others but those that were
pub record HasSeen (d : Diagram) (at : NodeId) (old new : List NodeId) : Type 0 where
  pub seen : AreSeen d new
  pub kept : (a : NodeId) → In a old → In a new
  pub all : (x : Truths) → IsUneven x → IsPart x (list_of d at) → Stands d new x
  pub parts : (a : NodeId) → In a new → In a old ⊎ IsPart (list_of d a) (list_of d at)

-- the node stands behind the others, unless it was among them
abbrev pub Notes : NodeId → List NodeId → List NodeId → Type 0
Notes at old new = (In at old × (new ≡ old)) ⊎ ((In at old → ⊥) × (new ≡ old ++ at ∷ []))
