-- Machines, texts, functions and cells that are the same, but for the order of equations and for how expressions are written.
use Rattle.std.specs.Prelude.{◌≡◌, ◌↔◌, ℕ, Bool, List, [], ◌∷◌, map, length, Option, None, Some}
use Rattle.bool_expr.specs.Expression.{val}
use Rattle.machine_core.specs.Machine.{Machine, register_names}
use Rattle.machine_core.specs.Cycles.{Settles, outs}
use Rattle.vbe_io.specs.declared.cell_text.CellText.{CellText}
use Rattle.vbe_io.specs.Cell.{IsCellText}
use Rattle.vlsi_base.specs.declared.kind.Kind.{Kind}
use Rattle.cell_model.specs.Function.{Function, gate, flip_flop, other, opaque}
use Rattle.cell_model.specs.Cell.{Cell, cell_inputs}
use Rattle.cell_model.specs.Library.{IsUsable}
use Rattle.cell_model.specs.Usable.{IsMappable}
use Rattle.cell_model.specs.Covering.{HasKind}

-- what each register loads, and whether it does
abbrev pub loads : Machine → List Bool → List (Bool × Bool)
loads m w = map (λ r. (val r.next w, val r.enable w)) m.registers

-- wherever the one machine settles the other does, with the same outputs, and its registers load the same
abbrev pub StepsAs : Machine → Machine → Type 0
StepsAs m k = (s i w : List Bool) → Settles m s i w → (x : List Bool) × Settles k s i x × (outs m w ≡ outs k x) × (loads m w ≡ loads k x)

-- two machines with the same ports, clock and registers that do the same in each cycle: so they are where only the order of their
-- equations differs, by which variables are numbered
pub record IsSameMachine (m k : Machine) : Type 0 where
  pub ports : m.ports ≡ k.ports
  pub clock : m.clock ≡ k.clock
  pub registers : register_names m ≡ register_names k
  pub there : StepsAs m k
  pub back : StepsAs k m

-- the same machine, or none
abbrev pub AreSameMachines : Option Machine → Option Machine → Type 0
AreSameMachines None None = Unit {0}
AreSameMachines (Some m) (Some k) = IsSameMachine m k
AreSameMachines None (Some k) = ⊥
AreSameMachines (Some m) None = ⊥

-- two readings of a cell's text: its pins, its generics and its machine are the same
pub record IsSameText (a b : CellText) : Type 0 where
  pub ports : a.ports ≡ b.ports
  pub generics : a.generics ≡ b.generics
  pub machine : AreSameMachines a.machine b.machine

-- bytes are the text of at most one cell
abbrev pub TextsAreSame : Type 0
TextsAreSame = (bytes : List ℕ) (a b : CellText) → IsCellText bytes a → IsCellText bytes b → IsSameText a b

-- two functions of n inputs that are the same: gates have the same value under each vector, flip-flops the same pins
abbrev pub AreSameFunctions : ℕ → Function → Function → Type 0
AreSameFunctions n (gate e) (gate f) = (i : List Bool) → length i ≡ n → val e i ≡ val f i
AreSameFunctions n (flip_flop a b) (flip_flop c d) = (a ≡ c) × (b ≡ d)
AreSameFunctions n (other m) (other k) = IsSameMachine m k
AreSameFunctions n opaque opaque = Unit {0}
AreSameFunctions n _ _ = ⊥

-- two cells with the same name, pins, layout and times, and the same function: so one is mappable, is usable and has a kind where the
-- other has it
pub record IsSameCell (c d : Cell) : Type 0 where
  pub name : c.name ≡ d.name
  pub pins : c.pins ≡ d.pins
  pub bounds : c.bounds ≡ d.bounds
  pub items : c.items ≡ d.items
  pub arcs : c.arcs ≡ d.arcs
  pub function : AreSameFunctions (length (cell_inputs c)) c.function d.function
  pub mappable : IsMappable c ↔ IsMappable d
  pub usable : IsUsable c ↔ IsUsable d
  pub kind : (k : Kind) → HasKind c k ↔ HasKind d k

-- cell by cell
abbrev pub AreSameCells : List Cell → List Cell → Type 0
AreSameCells [] [] = Unit {0}
AreSameCells (c ∷ cs) (d ∷ ds) = IsSameCell c d × AreSameCells cs ds
AreSameCells [] (d ∷ ds) = ⊥
AreSameCells (c ∷ cs) [] = ⊥
