-- The order of a netlist's instances, and how many gates it may have.
use Rattle.std.specs.Prelude.{◌≡◌, ℕ, ◌+◌, ◌<◌, ◌≤◌, Bool, false, List, [], ◌∷◌, ◌++◌, map, length, count_by, nat_eq}
use Rattle.vlsi_base.specs.declared.name.Name.{Name}
use Rattle.machine_core.specs.Machine.{Machine}
use Rattle.machine_core.specs.Size.{machine_size}
use Rattle.vlsi_base.specs.Member.{In}
use Rattle.cell_model.specs.Cell.{Cell, cell_inputs, cell_outputs}
use Rattle.cell_model.specs.Library.{Library}
use Rattle.net_meaning.specs.Netlist.{Member, AbstractNetlist, pin_of}
use Rattle.net_meaning.specs.Agreement.{register_instance}
use Rattle.net_meaning.specs.Well.{gate_instance, buffer_instance, Has}
use Rattle.net_meaning.specs.Buffers.{AreOne}
use Rattle.cell_model.specs.Access.{count_to}

-- gate number k has an input pin in the class of an output pin of gate number j, or would have once the buffers are taken out
pub record Reads (n : AbstractNetlist) (l : Library) (k j : ℕ) : Type 0 where
  pub reader : Member
  pub read : Member
  pub reader_cell : Cell
  pub read_cell : Cell
  pub has_reader : Has n l reader reader_cell
  pub has_read : Has n l read read_cell
  pub reader_name : reader.name ≡ gate_instance k
  pub read_name : read.name ≡ gate_instance j
  pub input : Name
  pub output : Name
  pub is_input : In input (cell_inputs reader_cell)
  pub is_output : In output (cell_outputs read_cell)
  pub joined : AreOne n l (n.class (pin_of reader.name input)) (n.class (pin_of read.name output))

-- The instances of a netlist for a machine stand in order: the registers in the order of their names, as q0, q1 and so on; then the
-- gates, as g0, g1 and so on, each after those that it reads; then so many buffers, as b0, b1 and so on.
pub record IsInNetlistOrder (n : AbstractNetlist) (l : Library) (m : Machine) (buffers : ℕ) : Type 0 where
  pub gates : ℕ
  pub names : map (λ i. i.name) n.instances
      ≡ map register_instance (count_to (length m.registers)) ++ (map gate_instance (count_to gates) ++ map buffer_instance (count_to buffers))
  pub after : (k j : ℕ) → Reads n l k j → j < k

-- the first letter of an instance of a gate is g
abbrev pub begins_with_g : List ℕ → Bool
begins_with_g [] = false
begins_with_g (c ∷ rest) = nat_eq c 103

-- the instances named g are at most the size of the machine and 2
pub record IsLean (n : AbstractNetlist) (m : Machine) : Type 0 where
  pub gates : count_by (λ i. begins_with_g i.name) n.instances ≤ machine_size m + 2
