-- How a table of nodes grows.
use Rattle.std.specs.Prelude.{◌≡◌, ℕ, ◌+◌, ◌^◌, ◌<◌, ◌≤◌, Bool, not, ◌&&◌, List, [], ◌∷◌, ◌++◌, map, length, count_by}
use Rattle.bool_expr.specs.Expression.{bit, size_of}
use Rattle.machine_core.specs.Machine.{Equation}
use Rattle.machine_core.specs.Built.{built}
use Rattle.vlsi_base.specs.Member.{In}
use Rattle.net_theory.specs.Sources.{IsNumber}
use Rattle.graph_theory.specs.Graph.{Node, fixed, inv, nand, grown, is_logic, EachReadsEarlier}
use Rattle.subject_table.specs.declared.table.Table.{Table}
use Rattle.subject_table.specs.View.{kinds, end_of}

-- a gate's sons stand in the order of their numbers, and so do those of each node of a list
abbrev pub HasSortedSons : Node → Type 0
HasSortedSons (fixed b) = Unit {0}
HasSortedSons (inv a) = Unit {0}
HasSortedSons (nand a b) = a < b

abbrev pub AreSorted : List Node → Type 0
AreSorted [] = Unit {0}
AreSorted (one ∷ rest) = HasSortedSons one × AreSorted rest

-- each node reads inputs, registers and earlier nodes, and its sons are sorted
pub record IsSound (t : Table) : Type 0 where
  pub earlier : EachReadsEarlier t.held (kinds t)
  pub sorted : AreSorted (kinds t)

-- number r is a node of this kind
pub record IsNode (t : Table) (r : ℕ) (kind : Node) : Type 0 where
  pub place : ℕ
  pub is_place : r ≡ t.held + place
  pub is_node : IsNumber (kinds t) place kind

-- the bit of number r
abbrev pub value : Table → List Bool → ℕ → Bool
value t w r = bit (grown w (kinds t)) r

-- the numbers of n more nodes of logic, and of the two constants, are below 2^32
abbrev pub HasRoom : Table → ℕ → Type 0
HasRoom t n = t.held + count_by is_logic (kinds t) + n + 2 < 2 ^ 32

-- a number of a known bit
abbrev pub IsKnown : Table → ℕ → Bool → Type 0
IsKnown t a b = (w : List Bool) → length w ≡ t.held → value t w a ≡ b

-- the bit of a node, from those of its sons
abbrev pub node_value : Node → (ℕ → Bool) → Bool
node_value (fixed b) v = b
node_value (inv a) v = not (v a)
node_value (nand a b) v = not (v a && v b)

-- how much of logic a node is: constants are free
abbrev pub logic_cost : Node → ℕ
logic_cost (fixed b) = 0
logic_cost (inv a) = 1
logic_cost (nand a b) = 1

-- The nodes that were there stay. At most n of logic are added, and number r has this value of what was there.
pub record Adds (t u : Table) (n : ℕ) (f : (ℕ → Bool) → Bool) (r : ℕ) : Type 0 where
  pub held : u.held ≡ t.held
  pub more : List Node
  pub nodes : kinds u ≡ kinds t ++ more
  pub sound : IsSound u
  pub cost : count_by is_logic (kinds u) ≤ count_by is_logic (kinds t) + n
  pub within : r < end_of u
  pub gives : (w : List Bool) → length w ≡ t.held → value u w r ≡ f (value t w)

-- each of these is a number of the table
abbrev pub AreBelow : ℕ → List ℕ → Type 0
AreBelow n numbers = (a : ℕ) → In a numbers → a < n

-- what the expressions of equations weigh together
abbrev pub weight : List Equation → ℕ
weight [] = 0
weight (e ∷ rest) = size_of e.expr + weight rest

-- Each equation in turn has a number with its value. The numbers that were there are those of the names before.
pub record Solves (t u : Table) (start numbers : List ℕ) (equations : List Equation) : Type 0 where
  pub held : u.held ≡ t.held
  pub more : List Node
  pub nodes : kinds u ≡ kinds t ++ more
  pub sound : IsSound u
  pub cost : count_by is_logic (kinds u) ≤ count_by is_logic (kinds t) + weight equations
  pub known : AreBelow (end_of u) numbers
  pub same : (w : List Bool) → length w ≡ t.held → map (value u w) numbers ≡ built (map (value t w) start) equations
