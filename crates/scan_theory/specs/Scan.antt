-- A netlist with a scan path through its registers.
use Rattle.std.specs.Prelude.{◌≡◌, ◌↔◌, ℕ, ◌+◌, ◌*◌, List, [], ◌∷◌, ◌++◌, map, filter, length, codes, Option, None, Some, if◌then◌else◌}
use Prim.Native.Nat.{suc}
use Rattle.std.specs.List.{list_any}
use Rattle.vlsi_base.specs.declared.kind.Kind.{Kind}
use Rattle.vlsi_base.specs.declared.kind.Kind.TheVariants as kind
use Rattle.vlsi_base.specs.declared.name.Name.{Name}
use Rattle.vlsi_base.specs.declared.name.Port.{Port}
use Rattle.vlsi_base.specs.declared.name.Dir.TheVariants as dir
use Rattle.vlsi_base.specs.declared.name.Terminal.{Terminal}
use Rattle.vlsi_base.specs.Member.{In}
use Rattle.vlsi_base.specs.Names.{scalar, vdd, vss, comes_before}
use Rattle.machine_core.specs.Named.{is_same_name}
use Rattle.cell_model.specs.Cell.{Cell, flip_flop, cell_outputs}
use Rattle.cell_model.specs.Library.{Library, cell_of, IsUsable}
use Rattle.cell_model.specs.Covering.{HasKind}
use Rattle.cell_pins.specs.Pins.{with_supply}
use Rattle.net_core.specs.Netlist.{Instance, Netlist, port, pin_of, HasClass}
use Rattle.loon_fanout.specs.Sinks.{is_same_terminal, wired_of}
use Rattle.text_names.specs.Free.{numbered}
use Rattle.scan_theory.specs.Gates.{Gate, gate_instance, class_with}

-- ---- ports

abbrev pub scin : Name
scin = scalar (codes "scin")

abbrev pub test : Name
test = scalar (codes "test")

abbrev pub scout : Name
scout = scalar (codes "scout")

-- ports in the order of names, with one more put in where its name belongs
abbrev pub with_port : Port → List Port → List Port
with_port p ports = filter (λ q. comes_before q.name p.name) ports ++ p ∷ filter (λ q. comes_before p.name q.name) ports

abbrev pub in_port : Name → Port
in_port name = record { name = name; dir = dir.In }

abbrev pub out_port : Name → Port
out_port name = record { name = name; dir = dir.Out }

-- the given ports with vdd and vss, the inputs scin and test, and the output scout
abbrev pub scan_ports : List Port → List Port
scan_ports ports = with_port (out_port scout) (with_port (in_port test) (with_port (in_port scin) (with_supply vss (with_supply vdd ports))))

-- ---- classes

-- the class of a terminal of the given netlist
abbrev pub class_in : Netlist → Terminal → ℕ
class_in n t = (wired_of n).class t

-- the classes of scin and test, and of the output of the gate with a number, which stand behind those of the given netlist
abbrev pub on_scin : Netlist → ℕ
on_scin n = n.count

abbrev pub on_test : Netlist → ℕ
on_test n = n.count + 1

abbrev pub shown : Netlist → ℕ → ℕ
shown n m = n.count + 4 + m

-- the class of a supply: that of its port, or a new one where this is missing
abbrev pub on_supply : Netlist → Name → ℕ → ℕ
on_supply n name new = if list_any (λ p. is_same_name p.name name) n.ports then class_in n (port name) else n.count + new

abbrev pub on_vdd : Netlist → ℕ
on_vdd n = on_supply n vdd 2

abbrev pub on_vss : Netlist → ℕ
on_vss n = on_supply n vss 3

-- ---- gates

-- a register of the path: its name, its data pin and its output pin
pub record Stage : Type 0 where
  pub name : List ℕ
  pub load : Name
  pub output : Name

-- the classes that they are in
abbrev pub loads : Netlist → Stage → ℕ
loads n s = class_in n (pin_of s.name s.load)

abbrev pub gives : Netlist → Stage → ℕ
gives n s = class_in n (pin_of s.name s.output)

-- the cells of the gates: an inverter, and a nand of two inputs
pub record Cells : Type 0 where
  pub inverter : Cell
  pub nand : Cell

-- gate number m is called s with this number
abbrev pub gate_name : ℕ → List ℕ
gate_name m = numbered (codes "s") m

abbrev pub inverts : Netlist → Cells → ℕ → ℕ → Gate
inverts n cells m a = record { name = gate_name m; cell = cells.inverter; reads = a ∷ []; shows = shown n m }

abbrev pub nands : Netlist → Cells → ℕ → ℕ → ℕ → Gate
nands n cells m a b = record { name = gate_name m; cell = cells.nand; reads = a ∷ b ∷ []; shows = shown n m }

-- The gates of register j of the path, where the register before it is in this class: a multiplexer of three nands, whose last
-- feeds the data pin.
abbrev pub multiplexer : Netlist → Cells → ℕ → ℕ → Stage → List Gate
multiplexer n cells j before s =
    nands n cells (3 * j + 1) (on_test n) before
    ∷ nands n cells (3 * j + 2) (shown n 0) (loads n s)
    ∷ nands n cells (3 * j + 3) (shown n (3 * j + 1)) (shown n (3 * j + 2))
    ∷ []

-- those of all registers from number j on, and behind the last two inverters to scout
abbrev pub chain : Netlist → Cells → ℕ → ℕ → List Stage → List Gate
chain n cells j before [] = inverts n cells (3 * j + 1) before ∷ inverts n cells (3 * j + 2) (shown n (3 * j + 1)) ∷ []
chain n cells j before (s ∷ stages) = multiplexer n cells j before s ++ chain n cells (suc j) (gives n s) stages

-- s0 is the inverse of test; without registers there is none
abbrev pub first_gate : Netlist → Cells → List Stage → List Gate
first_gate n cells [] = []
first_gate n cells (s ∷ stages) = inverts n cells 0 (on_test n) ∷ []

abbrev pub gates : Netlist → Cells → List Stage → List Gate
gates n cells stages = first_gate n cells stages ++ chain n cells 0 (on_scin n) stages

-- ---- the class of each terminal

-- the pin that register j of the path loads is in the class of its multiplexer; others stay in theirs
abbrev pub fed : Netlist → ℕ → List Stage → Terminal → ℕ
fed n j [] t = class_in n t
fed n j (s ∷ stages) t = if is_same_terminal (pin_of s.name s.load) t then shown n (3 * j + 3) else fed n (suc j) stages t

-- the class of a port
abbrev pub port_class : Netlist → List Stage → Name → ℕ
port_class n stages name =
    if is_same_name name scin then on_scin n
    else if is_same_name name test then on_test n
    else if is_same_name name scout then shown n (3 * length stages + 2)
    else if is_same_name name vdd then on_vdd n
    else if is_same_name name vss then on_vss n
    else class_in n (port name)

-- of a port, or of a pin that is no gate's
abbrev pub owned_class : Netlist → List Stage → Option (List ℕ) → Name → ℕ
owned_class n stages None name = port_class n stages name
owned_class n stages (Some owner) pin = fed n 0 stages (pin_of owner pin)

abbrev pub old_class : Netlist → List Stage → Terminal → ℕ
old_class n stages t = owned_class n stages t.instance t.pin

abbrev pub scan_class : Netlist → Cells → List Stage → Terminal → ℕ
scan_class n cells stages t = class_with (on_vdd n) (on_vss n) (old_class n stages) (gates n cells stages) t

-- ---- the netlist

-- a register instance of this name, with its pins
pub record IsStage (n : Netlist) (l : Library) (name : List ℕ) (s : Stage) : Type 0 where
  pub instance : Instance
  pub listed : In instance n.instances
  pub named : instance.name ≡ name
  pub same : s.name ≡ name
  pub cell : Cell
  pub found : cell_of l instance.model ≡ Some cell
  pub clock : Name
  pub is : cell.function ≡ flip_flop s.load clock
  pub out : cell_outputs cell ≡ s.output ∷ []

-- those of a path, in its order
pub data AreStages (n : Netlist) (l : Library) : List (List ℕ) → List Stage → Type 0 where
  ended : AreStages n l [] []
  next : {name : List ℕ} {s : Stage} {path : List (List ℕ)} {stages : List Stage}
      → IsStage n l name s → AreStages n l path stages → AreStages n l (name ∷ path) (s ∷ stages)

-- a usable cell of the library of a kind
pub record IsCellOf (l : Library) (k : Kind) (c : Cell) : Type 0 where
  pub listed : In c l.cells
  pub usable : IsUsable c
  pub kind : HasKind c k

-- The netlist with a scan path: its ports are those of the given one with vdd and vss, scin, test and scout; behind its instances
-- stand the gates; and two terminals have one class exactly where they have one number here.
pub record IsScanned (n : Netlist) (l : Library) (path : List (List ℕ)) (r : Netlist) : Type 0 where
  pub cells : Cells
  pub inverter_is : IsCellOf l kind.Inv cells.inverter
  pub nand_is : IsCellOf l kind.Nand2 cells.nand
  pub stages : List Stage
  pub are : AreStages n l path stages
  pub name : r.name ≡ n.name
  pub ports : r.ports ≡ scan_ports n.ports
  pub instances : r.instances ≡ n.instances ++ map gate_instance (gates n cells stages)
  pub classes : (a b : Terminal) (j k : ℕ) → HasClass r a j → HasClass r b k
      → (j ≡ k) ↔ (scan_class n cells stages a ≡ scan_class n cells stages b)
