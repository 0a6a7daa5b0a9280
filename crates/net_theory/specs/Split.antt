-- A class of which some sinks are put behind a buffer.
use Rattle.std.specs.Prelude.{Some, ◌≡◌, ◌≢◌, ℕ, ◌+◌, ◌<◌, ◌≤◌, Bool, true, false, [], ◌∷◌, ◌++◌, length, nat_eq, if◌then◌else◌}
use Prim.Native.Nat.{suc}
use Rattle.vlsi_base.specs.declared.name.Name.{Name}
use Rattle.vlsi_base.specs.declared.name.Terminal.{Terminal}
use Rattle.bool_expr.specs.Expression.{Expression, val}
use Rattle.machine_core.specs.Machine.{Machine, inputs}
use Rattle.machine_core.specs.Checked.{IsChecked}
use Rattle.vlsi_base.specs.Member.{In}
use Rattle.cell_model.specs.Cell.{gate, flip_flop, Cell, cell_inputs, cell_outputs}
use Rattle.cell_model.specs.Library.{Library, cell_of, IsUsable}
use Rattle.net_meaning.specs.Netlist.{Member, AbstractNetlist, port, pin_of, IsTerminal}
use Rattle.vlsi_base.specs.Names.{vdd, vss}
use Rattle.net_meaning.specs.Agreement.{register_instance}
use Rattle.net_meaning.specs.Well.{Has, IsGateName}
use Rattle.net_theory.specs.Sources.{node, Values, Roots, Seat, Sourced, source_of, Shows}
use Rattle.net_theory.specs.Exchanges.{standing_for}

-- a buffer: its cell, whose output is its one input
pub record IsBuffer (l : Library) (b : Member) (c : Cell) : Type 0 where
  pub found : cell_of l b.model ≡ Some c
  pub usable : IsUsable c
  pub expr : Expression
  pub is_gate : c.function ≡ gate expr
  pub input : Name
  pub output : Name
  pub one_input : cell_inputs c ≡ input ∷ []
  pub one_output : cell_outputs c ≡ output ∷ []
  pub same : (v : Bool) → val expr (v ∷ []) ≡ v
  pub named : IsGateName b c

-- The second netlist has one buffer more, which reads the class of node a. The sinks that are moved leave that class for
-- a new one, which the buffer drives; it shows a new node.
pub record IsSplit (n : Sourced) (k : AbstractNetlist) (l : Library) (m : Machine) (moved : Terminal → Bool) (a fresh : ℕ) (r q : Roots)
    : Type 0 where
  pub buffer : Member
  pub cell : Cell
  pub is_buffer : IsBuffer l buffer cell
  pub new_name : (i : Member) → In i n.netlist.instances → i.name ≢ buffer.name
  pub ports : k.ports ≡ n.netlist.ports
  pub instances : k.instances ≡ n.netlist.instances ++ buffer ∷ []
  pub classes : k.classes ≡ suc n.netlist.classes
  pub class : (t : Terminal) → IsTerminal n.netlist l t → k.class t ≡ (if moved t then n.netlist.classes else n.netlist.class t)
  pub moves : (t : Terminal) → moved t ≡ true → source_of n t ≡ node a
  pub no_port : (name : Name) → moved (port name) ≡ false
  pub no_output : (i : Member) (c : Cell) (name : Name) → Has n.netlist l i c → In name (cell_outputs c)
      → moved (pin_of i.name name) ≡ false
  pub reads_low : k.class (pin_of buffer.name is_buffer.input) < n.netlist.classes
  pub reads : n.source (k.class (pin_of buffer.name is_buffer.input)) ≡ node a
  pub drives : k.class (pin_of buffer.name is_buffer.output) ≡ n.netlist.classes
  pub on_vdd : k.class (pin_of buffer.name vdd) ≡ n.netlist.class (port vdd)
  pub on_vss : k.class (pin_of buffer.name vss) ≡ n.netlist.class (port vss)
  pub outputs : q.output ≡ r.output
  pub loads : (i : Member) (c : Cell) (data_pin clock_pin : Name) (j : ℕ) → Has n.netlist l i c
      → c.function ≡ flip_flop data_pin clock_pin → i.name ≡ register_instance j
      → q.load j ≡ (if moved (pin_of i.name data_pin) then fresh else r.load j)

-- what stands for what, and the sources and the order after the split
abbrev pub split_origin : ℕ → ℕ → ℕ → ℕ
split_origin a fresh x = if nat_eq x fresh then a else x

abbrev pub split_netlist : Sourced → AbstractNetlist → ℕ → ℕ → Sourced
split_netlist n k a fresh = record {
  netlist = k;
  source = λ c. if nat_eq c n.netlist.classes then node fresh else n.source c;
  rank = λ x. if nat_eq x fresh then suc (n.rank a + n.rank a) else n.rank x + n.rank x;
}

-- a number that no seat shows
abbrev pub IsFresh : (n : Sourced) (l : Library) (m : Machine) (f : Values) (r : Roots) → Shows n l m f r → ℕ → Type 0
IsFresh n l m f r h fresh = (length (inputs m) + length m.registers ≤ fresh) × ((p : Seat) → In p h.seats → p.node < fresh)

-- a netlist with one buffer more shows the nodes, and one more, which stands for that of the class
abbrev pub ShownSplit : Type 0
ShownSplit = (n : Sourced) (k : AbstractNetlist) (l : Library) (m : Machine) (f : Values) (r q : Roots)
    (moved : Terminal → Bool) (a fresh : ℕ) (h : Shows n l m f r)
    → IsChecked m → IsFresh n l m f r h fresh → IsSplit n k l m moved a fresh r q
    → Shows (split_netlist n k a fresh) l m (standing_for (split_origin a fresh) f) q
