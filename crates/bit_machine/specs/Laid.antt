-- The bits in the order of a machine's names.
use Rattle.std.specs.Prelude.{◌≡◌, ℕ, List, ◌++◌, map, length}
use Rattle.machine_core.specs.declared.equation.Equation.{Equation as EquationParts}
use Rattle.machine_core.specs.declared.equation.Register.{Register as RegisterParts}
use Rattle.machine_core.specs.View.{equation_view, register_view}
use Rattle.vlsi_model.specs.Numbered.{driven_at, equation_from, register_from}
use Rattle.vlsi_model.specs.Nodes.{HasNodes, nodes_read}
use Rattle.bit_order.specs.Order as order
use Rattle.bit_machine.specs.System.{System, held_bits, driven_bits}

-- the places of the driven bits, each behind those that it reads
pub record IsLaid (s : System) (places : List ℕ) : Type 0 where
  -- the place of each driven bit
  pub nodes : List ℕ
  pub has : HasNodes (driven_bits s) nodes (length s.names)
  pub sorted : order.IsSortedOrder (map (λ d. nodes_read (length (driven_bits s)) nodes d.expr) s.driven) places

-- inputs, stored bits, and then the driven bits in that order
abbrev pub var_bits : System → List ℕ → List ℕ
var_bits s places = held_bits s ++ map (λ k. (driven_at s.driven k).bit) places

-- these are the equations and registers over the names in that order
pub record ArePartsOf (s : System) (places : List ℕ) (equations : List EquationParts) (registers : List RegisterParts) : Type 0 where
  pub table : List ℕ
  pub has : HasNodes (var_bits s places) table (length s.names)
  pub equations_are : map equation_view equations ≡ map (λ k. equation_from s.names table (driven_at s.driven k)) places
  pub registers_are : map register_view registers ≡ map (λ r. register_from s.names table r) s.stored
