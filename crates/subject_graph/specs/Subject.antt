-- The subject graph of a machine: its nodes are those of the table and shared, and its outputs show different nodes.
use Rattle.std.specs.Prelude.{◌≡◌, ℕ, ◌+◌, ◌^◌, ◌<◌, Bool, ◌||◌, nat_lt, List, [], ◌∷◌, ◌++◌, length, if◌then◌else◌}
use Rattle.bool_expr.specs.Support.{among}
use Rattle.machine_core.specs.Machine.{Machine, inputs}
use Rattle.machine_core.specs.Size.{machine_size}
use Rattle.graph_theory.specs.Graph.{Node, inv, Graph, held_count, IsGraphOf, IsApart, IsSmall}
use Rattle.subject_table.specs.Grows.{AreBelow}
use Rattle.subject_table.specs.Shared.{AreShared}
use Rattle.subject_graph.specs.Drawn.{IsDrawn}

-- inputs, registers and nodes of logic, with the two constants, are fewer than 2^32
abbrev pub IsNumberable : Machine → Type 0
IsNumberable m = held_count m + machine_size m + 2 < 2 ^ 32

-- an output's node that an output can't show: an input, or the node of an output before
abbrev pub is_taken : ℕ → List ℕ → ℕ → Bool
is_taken first before a = nat_lt a first || among a before

-- What outputs show, from the nodes that they have, in their order: that node, or where it is taken, the second of two
-- further inverters. The first node that is no input has number `first`, and the next further one number n.
abbrev pub roots_apart : ℕ → ℕ → List ℕ → List ℕ → List ℕ
roots_apart first n before [] = []
roots_apart first n before (a ∷ plain) =
    if is_taken first before a then (n + 1) ∷ roots_apart first (n + 2) (a ∷ before) plain else a ∷ roots_apart first n (a ∷ before) plain

-- these further inverters: of two, the first reads the output's node, and the second reads the first
abbrev pub inverters_apart : ℕ → ℕ → List ℕ → List ℕ → List Node
inverters_apart first n before [] = []
inverters_apart first n before (a ∷ plain) =
    if is_taken first before a then inv a ∷ inv n ∷ inverters_apart first (n + 2) (a ∷ before) plain
    else inverters_apart first n (a ∷ before) plain

-- The nodes are those that the machine's equations and registers become by the table, and no two are the same, but for the two
-- further inverters of an output whose node is taken.
pub record IsSharedBehind (m : Machine) (g : Graph) : Type 0 where
  -- the nodes that outputs have, among the shared ones
  pub plain : List ℕ
  pub shared : List Node
  pub once : AreShared shared
  pub drawn : IsDrawn m shared plain g.loads
  pub nodes : g.nodes ≡ shared ++ inverters_apart (length (inputs m)) (held_count m + length shared) [] plain
  pub roots : g.outputs ≡ roots_apart (length (inputs m)) (held_count m + length shared) [] plain

-- each root is the number of an input, a register or a node, and each register has one
pub record HasRoots (m : Machine) (g : Graph) : Type 0 where
  pub shown : AreBelow (held_count m + length g.nodes) g.outputs
  pub loaded : AreBelow (held_count m + length g.nodes) g.loads
  pub each : length g.loads ≡ length m.registers

-- the graph has the machine's functions, its outputs show different nodes, it is small, and its nodes are those of the table
pub record IsSubjectGraph (m : Machine) (g : Graph) : Type 0 where
  pub graph : IsGraphOf m g
  pub apart : IsApart m g
  pub small : IsSmall m g
  pub shared : IsSharedBehind m g
  pub roots : HasRoots m g
