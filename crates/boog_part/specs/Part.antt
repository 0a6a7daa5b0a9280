-- The part of a graph that its outputs and registers need.
use Rattle.std.specs.Prelude.{◌≡◌, ◌⊎◌, ◌↔◌, ℕ, ◌+◌, ◌<◌, Bool, true, false, IsTrue, List, ◌++◌, length, if◌then◌else◌}
use Rattle.bool_expr.specs.Expression.{bit}
use Rattle.net_theory.specs.Sources.{IsNumber}
use Rattle.graph_theory.specs.Graph.{Node, fixed, Graph}
use Rattle.cell_match.specs.Places.{times}
use Rattle.boog_cuts.specs.Reads.{reads}

-- what outputs show and registers load
abbrev pub roots_of : Graph → List ℕ
roots_of g = g.outputs ++ g.loads

-- A root, or what a needed node reads. The first node has number `held`.
pub data IsNeeded (held : ℕ) (nodes : List Node) (roots : List ℕ) : ℕ → Type 0 where
  root : {x : ℕ} → 0 < times x roots → IsNeeded held nodes roots x
  read : {x : ℕ} (j : ℕ) (kind : Node) → IsNeeded held nodes roots (held + j) → IsNumber nodes j kind → IsTrue (reads kind x)
      → IsNeeded held nodes roots x

abbrev pub IsNeededIn : ℕ → Graph → ℕ → Type 0
IsNeededIn held g x = IsNeeded held g.nodes (roots_of g) x

-- Each node that is needed is as it was, and in place of each other stands a constant, so that the numbers stay; outputs and registers
-- read what they did.
pub record IsNeededPart (held : ℕ) (g part : Graph) : Type 0 where
  pub outputs : part.outputs ≡ g.outputs
  pub loads : part.loads ≡ g.loads
  pub many : length part.nodes ≡ length g.nodes
  pub kept : (j : ℕ) (kind : Node) → IsNumber g.nodes j kind → IsNeededIn held g (held + j) → IsNumber part.nodes j kind
  pub left_out : (j : ℕ) (kind : Node) → IsNumber g.nodes j kind → (IsNeededIn held g (held + j) → ⊥) → IsNumber part.nodes j (fixed false)

-- ---- marks

abbrev pub IsMarked : List Bool → ℕ → Type 0
IsMarked marks x = bit marks x ≡ true

-- the marks of a node and of what it reads
abbrev pub MarksReads : Node → List Bool → List Bool → Type 0
MarksReads kind old new = (x : ℕ) → IsMarked new x ↔ (IsMarked old x ⊎ IsTrue (reads kind x))

-- from marks of roots to marks of all that these need
abbrev pub MarksNeeded : ℕ → List Node → List Bool → List Bool → Type 0
MarksNeeded held nodes old new =
    (roots : List ℕ) → ((x : ℕ) → IsMarked old x ↔ (0 < times x roots)) → (x : ℕ) → IsMarked new x ↔ IsNeeded held nodes roots x

-- the numbers of a graph that are needed are marked
pub record AreNeeded (held : ℕ) (g : Graph) (marks : List Bool) : Type 0 where
  pub many : length marks ≡ held + length g.nodes
  pub each : (x : ℕ) → IsMarked marks x ↔ IsNeededIn held g x

-- what stands for a node
abbrev pub kept_kind : Bool → Node → Node
kept_kind needed kind = if needed then kind else fixed false

-- the marked nodes are as they were, and the others constants
pub record AreKept (held : ℕ) (marks : List Bool) (nodes kept : List Node) : Type 0 where
  pub many : length kept ≡ length nodes
  pub each : (j : ℕ) (kind : Node) → IsNumber nodes j kind → IsNumber kept j (kept_kind (bit marks (held + j)) kind)
