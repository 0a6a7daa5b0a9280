-- The trees of a graph without their fan-out, and the cuts of their gates.
use Rattle.std.specs.Prelude.{◌≡◌, ◌==◌, ℕ, ◌+◌, ◌-◌, nat_le, Bool, true, not, ◌&&◌, IsTrue, List, [], ◌∷◌, length, filter}
use Rattle.std.specs.List.{slice_index_or, range_with_len}
use Rattle.net_theory.specs.Sources.{IsNumber}
use Rattle.graph_theory.specs.Graph.{Node, fixed, inv, nand, Graph, is_logic}
use Rattle.cell_match.specs.Places.{times}
use Rattle.boog_cuts.specs.Cuts.{IsUnion}

-- the numbers that a node reads, pin by pin
abbrev pub pins : Node → List ℕ
pins (fixed b) = []
pins (inv a) = a ∷ []
pins (nand a b) = a ∷ b ∷ []

-- how many pins of these nodes read x, and how many outputs and registers of the graph do
abbrev pub pin_uses : ℕ → List Node → ℕ
pin_uses x [] = 0
pin_uses x (one ∷ rest) = times x (pins one) + pin_uses x rest

abbrev pub root_uses : ℕ → Graph → ℕ
root_uses x g = times x g.outputs + times x g.loads

-- The number is that of a gate: an inverter or a gate of two inputs. The first node has number `held`.
abbrev pub is_gate : ℕ → List Node → ℕ → Bool
is_gate held nodes x = nat_le held x && is_logic (slice_index_or nodes (x - held) (fixed true))

-- A gate that is used exactly once, and that by another gate, belongs to its user's tree. Every other gate is the root of a tree.
abbrev pub is_inner : ℕ → Graph → ℕ → Bool
is_inner held g x = is_gate held g.nodes x && (pin_uses x g.nodes == 1 && root_uses x g == 0)

abbrev pub is_root : ℕ → Graph → ℕ → Bool
is_root held g x = is_gate held g.nodes x && not (is_inner held g x)

-- the roots of all trees, in the order of their numbers
abbrev pub tree_roots : ℕ → Graph → List ℕ
tree_roots held g = filter (is_root held g) (range_with_len 0 (held + length g.nodes))

-- number x is a node of this kind
pub record IsNode (held : ℕ) (g : Graph) (x : ℕ) (kind : Node) : Type 0 where
  pub place : ℕ
  pub is : x ≡ held + place
  pub at : IsNumber g.nodes place kind

-- The cuts of a gate within its tree, each with the gate's function over its members: a pin is read there as a member itself, or, where the
-- gate at it belongs to the tree, through a cut of that gate. The members are a set, in whatever order.
mutual
  pub data IsTreeCut (held : ℕ) (g : Graph) : ℕ → List ℕ → ((ℕ → Bool) → Bool) → Type 0 where
    of_inv : (x a : ℕ) (members : List ℕ) (read value : (ℕ → Bool) → Bool)
        → IsNode held g x (inv a) → IsPart held g a members read → ((f : ℕ → Bool) → value f ≡ not (read f)) → IsTreeCut held g x members value
    of_nand : (x a b : ℕ) (first second members : List ℕ) (read read_too value : (ℕ → Bool) → Bool)
        → IsNode held g x (nand a b) → IsPart held g a first read → IsPart held g b second read_too → IsUnion first second members
        → ((f : ℕ → Bool) → value f ≡ not (read f && read_too f)) → IsTreeCut held g x members value

  pub data IsPart (held : ℕ) (g : Graph) : ℕ → List ℕ → ((ℕ → Bool) → Bool) → Type 0 where
    itself : (a : ℕ) (members : List ℕ) (value : (ℕ → Bool) → Bool)
        → members ≡ a ∷ [] → ((f : ℕ → Bool) → value f ≡ f a) → IsPart held g a members value
    opened : (a : ℕ) (members : List ℕ) (value : (ℕ → Bool) → Bool)
        → IsTrue (is_inner held g a) → IsTreeCut held g a members value → IsPart held g a members value
