-- What is the same of all machines, and of all cells, of one text. A text leaves open in which order a machine's equations
-- stand, and with it how the machine's names are numbered.
use Rattle.std.specs.Prelude.{◌≡◌, ℕ, Bool, List, map, Option, None, Some}
use Rattle.vlsi_base.specs.declared.name.Name.{Name}
use Rattle.vlsi_base.specs.Member.{In}
use Rattle.bool_expr.specs.Expression.{Expression, val}
use Rattle.machine_core.specs.Named.{value_at}
use Rattle.machine_core.specs.Machine.{Machine, Equation, Register, register_names}
use Rattle.machine_core.specs.Cycles.{Settles, outs, next, RunOf}
use Rattle.machine_core.specs.Size.{machine_size}
use Rattle.vbe_io.specs.Text.{IsVbe}
use Rattle.vbe_io.specs.Cell.{IsCellText}
use Rattle.vbe_io.specs.declared.cell_text.CellText.{CellText}

-- Two machines of one text have one size.
abbrev pub MachinesWeighTheSame : Type 0
MachinesWeighTheSame = (bytes : List ℕ) (m k : Machine) → IsVbe bytes m → IsVbe bytes k → machine_size m ≡ machine_size k

-- the same name, port bits and clock, and registers of the same names in the same order
pub record HaveSameParts (m k : Machine) : Type 0 where
  pub name : m.name ≡ k.name
  pub ports : m.ports ≡ k.ports
  pub clock : m.clock ≡ k.clock
  pub registers : register_names m ≡ register_names k

-- Two machines of one text have the same parts.
abbrev pub MachinesHaveTheSameParts : Type 0
MachinesHaveTheSameParts = (bytes : List ℕ) (m k : Machine) → IsVbe bytes m → IsVbe bytes k → HaveSameParts m k

-- ---- cells

-- neither cell has a machine; or both have one, and the two are of one size and have the same parts
abbrev pub HaveSameMachines : Option Machine → Option Machine → Type 0
HaveSameMachines None None = Unit {0}
HaveSameMachines (Some m) (Some k) = (machine_size m ≡ machine_size k) × HaveSameParts m k
HaveSameMachines None (Some k) = ⊥
HaveSameMachines (Some m) None = ⊥

-- two cells with the same name, port bits and generics, and with the same machines, or both without one
pub record SayTheSame (a b : CellText) : Type 0 where
  pub name : a.name ≡ b.name
  pub ports : a.ports ≡ b.ports
  pub generics : a.generics ≡ b.generics
  pub machine : HaveSameMachines a.machine b.machine

-- Two readings of a cell's text say the same.
abbrev pub CellsSayTheSame : Type 0
CellsSayTheSame = (bytes : List ℕ) (a b : CellText) → IsCellText bytes a → IsCellText bytes b → SayTheSame a b

-- ---- by name

-- two expressions, each over the numbers of its own names, have one value whatever bits the names have
abbrev pub MeanTheSame : List Name → Expression → List Name → Expression → Type 0
MeanTheSame names e others f = (bit_of : Name → Bool) → val e (map bit_of names) ≡ val f (map bit_of others)

-- the machine has an equation for this one's name, and the two have one meaning
pub record HasEquation (m : Machine) (names : List Name) (e : Equation) : Type 0 where
  pub own : Equation
  pub stands : In own m.equations
  pub name : own.name ≡ e.name
  pub expr : MeanTheSame m.vars own.expr names e.expr

-- the machine has a register of this one's name, which loads the same under the same condition
pub record HasRegister (m : Machine) (names : List Name) (r : Register) : Type 0 where
  pub own : Register
  pub stands : In own m.registers
  pub name : own.name ≡ r.name
  pub next : MeanTheSame m.vars own.next names r.next
  pub enable : MeanTheSame m.vars own.enable names r.enable

-- each equation and each register of one machine is, by name, one of the other
pub record HasAllOf (m k : Machine) : Type 0 where
  pub equations : (e : Equation) → In e k.equations → HasEquation m k.vars e
  pub registers : (r : Register) → In r k.registers → HasRegister m k.vars r

-- Of two machines of one text each has, by name, the equations and registers of the other.
abbrev pub MachinesHaveTheSameEquations : Type 0
MachinesHaveTheSameEquations = (bytes : List ℕ) (m k : Machine) → IsVbe bytes m → IsVbe bytes k → HasAllOf m k

-- ---- cycles and runs

-- valuations of two machines that give each name one bit, the same outputs, and the same contents after the clock's rise
pub record AreOneByName (m k : Machine) (w v : List Bool) : Type 0 where
  pub names : (name : Name) → value_at m.vars w name ≡ value_at k.vars v name
  pub outputs : outs m w ≡ outs k v
  pub next : next m w ≡ next k v

-- From the same contents and under the same input vector, two machines of one text settle in valuations that are one by name.
abbrev pub MachinesSettleTheSame : Type 0
MachinesSettleTheSame =
    (bytes : List ℕ) (m k : Machine) → IsVbe bytes m → IsVbe bytes k
    → (s i w v : List Bool) → Settles m s i w → Settles k s i v → AreOneByName m k w v

-- What is a run of one machine of a text is a run of each other one, from the same contents.
abbrev pub MachinesRunTheSame : Type 0
MachinesRunTheSame =
    (bytes : List ℕ) (m k : Machine) → IsVbe bytes m → IsVbe bytes k
    → (s : List Bool) (v y : List (List Bool)) → RunOf m s v y → RunOf k s v y
