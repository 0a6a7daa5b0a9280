-- Graphs of inverters and gates of two inputs, and when one is that of a machine.
use Rattle.std.specs.Prelude.{◌≡◌, ℕ, ◌+◌, ◌<◌, ◌≤◌, Bool, true, false, not, ◌&&◌, List, [], ◌∷◌, ◌++◌, map, length, count_by}
use Rattle.std.specs.List.{slice_index_or}
use Rattle.bool_expr.specs.Expression.{bit}
use Rattle.machine_core.specs.Machine.{Machine, inputs, outputs}
use Rattle.machine_core.specs.Cycles.{Settles, outs, next}
use Rattle.machine_core.specs.Size.{machine_size}
use Rattle.net_theory.specs.Sources.{IsNumber, Values, Roots}

-- a constant, an inverter, or a gate that is 0 where both of its inputs are 1; each reads nodes by their numbers
pub data Node : Type 0 where
  fixed : Bool → Node
  inv : ℕ → Node
  nand : ℕ → ℕ → Node

-- The inputs are numbers 0, 1 and so on, behind them come the registers, and behind these the nodes of the list.
pub record Graph : Type 0 where
  pub nodes : List Node
  -- what each output shows, and what each register loads
  pub outputs : List ℕ
  pub loads : List ℕ

-- the bit of a node, from those of the nodes before it
abbrev pub node_bit : Node → List Bool → Bool
node_bit (fixed b) w = b
node_bit (inv a) w = not (bit w a)
node_bit (nand a b) w = not (bit w a && bit w b)

-- each node in turn adds its bit
abbrev pub grown : List Bool → List Node → List Bool
grown w [] = w
grown w (one ∷ rest) = grown (w ++ node_bit one w ∷ []) rest

-- the bit of each node, from an input vector and the contents of the registers
abbrev pub graph_values : Graph → Values
graph_values g i s = bit (grown (i ++ s) g.nodes)

-- a node reads numbers below n alone, and so does each of a list, the first of which has number n
abbrev pub ReadsBelow : ℕ → Node → Type 0
ReadsBelow n (fixed b) = Unit {0}
ReadsBelow n (inv a) = a < n
ReadsBelow n (nand a b) = (a < n) × (b < n)

abbrev pub EachReadsEarlier : ℕ → List Node → Type 0
EachReadsEarlier n [] = Unit {0}
EachReadsEarlier n (one ∷ rest) = ReadsBelow n one × EachReadsEarlier (n + 1) rest

-- how many inputs and registers a machine has
abbrev pub held_count : Machine → ℕ
held_count m = length (inputs m) + length m.registers

-- Wherever the machine settles, the roots have the bits of its outputs and those that its registers load.
pub record IsGraphOf (m : Machine) (g : Graph) : Type 0 where
  pub earlier : EachReadsEarlier (held_count m) g.nodes
  pub shown : (i s w : List Bool) → Settles m s i w → map (graph_values g i s) g.outputs ≡ outs m w
  pub loaded : (i s w : List Bool) → Settles m s i w → map (graph_values g i s) g.loads ≡ next m w

-- no output shows an input, and no two show one node
pub record IsApart (m : Machine) (g : Graph) : Type 0 where
  pub count : length g.outputs ≡ length (outputs m)
  pub no_input : (k a : ℕ) → IsNumber g.outputs k a → length (inputs m) ≤ a
  pub once : (j k a : ℕ) → IsNumber g.outputs j a → IsNumber g.outputs k a → j ≡ k

-- a gate, and a constant of this bit
abbrev pub is_logic : Node → Bool
is_logic (fixed b) = false
is_logic (inv a) = true
is_logic (nand a b) = true

abbrev pub is_fixed : Bool → Node → Bool
is_fixed false (fixed false) = true
is_fixed true (fixed true) = true
is_fixed _ _ = false

-- at most as many nodes of logic as the machine's size, and each constant at most once
pub record IsSmall (m : Machine) (g : Graph) : Type 0 where
  pub logic : count_by is_logic g.nodes ≤ machine_size m
  pub zero : count_by (is_fixed false) g.nodes ≤ 1
  pub one : count_by (is_fixed true) g.nodes ≤ 1

-- the nodes that outputs show and registers load
abbrev pub graph_roots : Graph → Roots
graph_roots g = record { output = λ k. slice_index_or g.outputs k 0; load = λ k. slice_index_or g.loads k 0 }
