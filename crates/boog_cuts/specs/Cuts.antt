-- What cuts say.
use Rattle.std.specs.Prelude.{◌≡◌, ◌⊎◌, ◌↔◌, ℕ, ◌+◌, ◌<◌, ◌≤◌, Bool, not, ◌&&◌, List, [], ◌∷◌, length, IsTrue}
use Prim.Native.Nat.{zero, suc}
use Rattle.net_theory.specs.Sources.{IsNumber}
use Rattle.graph_theory.specs.Graph.{Node, fixed, inv, nand}
use Rattle.cell_match.specs.Places.{times}
use Rattle.cell_match.specs.declared.cut.Cut.{Cut}
use Rattle.cell_match.specs.Computes.{cut_value}
use Rattle.boog_cuts.specs.Reads.{reads, Reaches}

-- the bit of a node from those of the nodes that it reads
abbrev pub node_value : Node → (ℕ → Bool) → Bool
node_value (fixed b) f = b
node_value (inv a) f = not (f a)
node_value (nand a b) f = not (f a && f b)

-- each node of the graph has its bit; the first node has number `held`
abbrev pub AreValues : ℕ → List Node → (ℕ → Bool) → Type 0
AreValues held nodes f = (j : ℕ) (kind : Node) → IsNumber nodes j kind → f (held + j) ≡ node_value kind f

-- the nodes of both lists
pub record IsUnion (first second nodes : List ℕ) : Type 0 where
  pub once : (x : ℕ) → times x nodes ≤ 1
  pub members : (x : ℕ) → (0 < times x nodes) ↔ ((0 < times x first) ⊎ (0 < times x second))

-- the leaves are what a node reads
abbrev pub AreInputs : Node → List ℕ → Type 0
AreInputs (fixed b) leaves = leaves ≡ []
AreInputs (inv a) leaves = leaves ≡ a ∷ []
AreInputs (nand a b) leaves = IsUnion (a ∷ []) (b ∷ []) leaves

module _ {K : ℕ} where
  -- each cut gives this bit
  abbrev pub AllGive : (ℕ → Bool) → Bool → List (Cut K) → Type 0
  AllGive f b cuts = (i : ℕ) (c : Cut K) → IsNumber cuts i c → cut_value c f ≡ b

  -- P is true of each leaf of each cut
  abbrev pub AllLeaves : (ℕ → Type 0) → List (Cut K) → Type 0
  AllLeaves P cuts = (i : ℕ) (c : Cut K) (x : ℕ) → IsNumber cuts i c → 0 < times x c.leaves.items → P x

  -- The cuts of a node by their leaves: the first is the node itself, and the leaves of the others are earlier nodes. No leaf
  -- stands twice.
  pub record AreCuts (number : ℕ) (cuts : List (Cut K)) : Type 0 where
    pub there : 0 < length cuts
    pub first : (c : Cut K) → IsNumber cuts zero c → c.leaves.items ≡ number ∷ []
    pub first_value : (c : Cut K) → IsNumber cuts zero c → (f : ℕ → Bool) → cut_value c f ≡ f number
    pub once : (i : ℕ) (c : Cut K) → IsNumber cuts i c → (x : ℕ) → times x c.leaves.items ≤ 1
    pub earlier : (i : ℕ) (c : Cut K) → IsNumber cuts (suc i) c → (x : ℕ) → 0 < times x c.leaves.items → x < number

  -- the second cut is that of the node's direct inputs: its word is the node's own function
  pub record HasDirect (kind : Node) (cuts : List (Cut K)) : Type 0 where
    pub cut : Cut K
    pub second : IsNumber cuts 1 cut
    pub inputs : AreInputs kind cut.leaves.items
    pub value : (f : ℕ → Bool) → cut_value cut f ≡ node_value kind f

-- The cuts of each number, those below `held` too. Each leaf is reached from the node, and the word is the node's function over the
-- leaves: wherever the nodes of the graph have their bits, it gives the bit of the node.
pub record IsCutTable {K : ℕ} (held : ℕ) (nodes : List Node) (lists : List (List (Cut K))) : Type 0 where
  pub many : length lists ≡ held + length nodes
  pub cuts : (a : ℕ) (list : List (Cut K)) → IsNumber lists a list → AreCuts a list
  pub value : (f : ℕ → Bool) → AreValues held nodes f → (a : ℕ) (list : List (Cut K)) → IsNumber lists a list → AllGive f (f a) list
  pub reached : (a : ℕ) (list : List (Cut K)) → IsNumber lists a list → AllLeaves (Reaches held nodes a) list
  pub direct : (j : ℕ) (kind : Node) (list : List (Cut K)) → IsNumber nodes j kind → IsNumber lists (held + j) list → HasDirect kind list

-- x is a leaf of a cut of a number that the node reads
pub record IsLeafBelow {K : ℕ} (kind : Node) (lists : List (List (Cut K))) (x : ℕ) : Type 0 where
  pub son : ℕ
  pub is_read : IsTrue (reads kind son)
  pub list : List (Cut K)
  pub listed : IsNumber lists son list
  pub place : ℕ
  pub cut : Cut K
  pub at : IsNumber list place cut
  pub leaf : 0 < times x cut.leaves.items

-- cuts of a node from those of the numbers before it
pub record AreNodeCuts {K : ℕ} (kind : Node) (number : ℕ) (lists : List (List (Cut K))) (own : List (Cut K)) : Type 0 where
  pub cuts : AreCuts number own
  pub leaves : AllLeaves (λ x. (x ≡ number) ⊎ IsLeafBelow kind lists x) own
  pub direct : HasDirect kind own
  pub value : (f : ℕ → Bool) → ((a : ℕ) (list : List (Cut K)) → IsNumber lists a list → AllGive f (f a) list) → f number ≡ node_value kind f
      → AllGive f (f number) own
