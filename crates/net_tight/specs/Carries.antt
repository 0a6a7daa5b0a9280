-- When a netlist has the gates of a cover.
use Rattle.std.specs.Prelude.{◌≡◌, ℕ, ◌<◌, ◌≤◌, Bool, List, [], ◌∷◌, map, length, Option, Some}
use Rattle.vlsi_base.specs.Member.{In}
use Rattle.vlsi_base.specs.declared.name.Name.{Name}
use Rattle.bool_expr.specs.Expression.{Expression, val}
use Rattle.cell_model.specs.Cell.{gate, Cell, cell_inputs, cell_outputs}
use Rattle.cell_model.specs.Library.{Library, IsUsable}
use Rattle.net_meaning.specs.Netlist.{Member, AbstractNetlist, port, pin_of}
use Rattle.net_meaning.specs.Well.{Has}
use Rattle.cell_match.specs.declared.gate.CellWord.{CellWord}
use Rattle.cell_match.specs.declared.gate.Gate.{Gate}
use Rattle.cell_match.specs.Places.{times}
use Rattle.boog_tight.specs.Cover.{gate_at}
use Rattle.cell_match.specs.Cells.{inputs_of, cell_value}
use Rattle.boog_tight.specs.Tight.{IsTight as IsTightCover}
use Rattle.net_tight.specs.Tight.{IsGateHere, pin_classes, read_classes, IsTight}

-- the gate of node j is this instance, where node x is in class `class_of x`
pub record IsInstance (n : AbstractNetlist) (cells : List CellWord) (class_of : ℕ → ℕ) (i : Member) (c : Cell) (e : Expression) (j : ℕ) (g : Gate) : Type 0 where
  pub shows : pin_classes n i (cell_outputs c) ≡ class_of j ∷ []
  pub reads : read_classes n i c ≡ map class_of g.leaves.items
  pub value : (w : List Bool) → length w ≡ length g.leaves.items → val e w ≡ cell_value cells g.cell w

-- number k of the cells is this one
pub record IsCell (cells : List CellWord) (k : ℕ) (c : Cell) (e : Expression) : Type 0 where
  pub there : k < length cells
  pub inputs : inputs_of cells k ≡ length (cell_inputs c)
  pub value : (w : List Bool) → length w ≡ inputs_of cells k → cell_value cells k w ≡ val e w

-- the class has a port, or an input pin of an instance that is no gate
pub data IsRoot (n : AbstractNetlist) (l : Library) (a : ℕ) : Type 0 where
  of_port : (name : Name) → In name n.ports → n.class (port name) ≡ a → IsRoot n l a
  of_register : (i : Member) (c : Cell) (name : Name)
      → Has n l i c
      → In name (cell_inputs c)
      → ((e : Expression) → c.function ≡ gate e → ⊥)
      → n.class (pin_of i.name name) ≡ a
      → IsRoot n l a

-- The gates of the netlist are those of the cover. Node x is in class `class_of x`, and `node_of` leads back. All usable gates of
-- the library are among the cells.
pub record Carries (n : AbstractNetlist) (l : Library) (cells : List CellWord) (gates : List (Option Gate)) (roots : List ℕ) (class_of node_of : ℕ → ℕ) : Type 0 where
  pub back : (j : ℕ) (g : Gate) → gate_at gates j ≡ Some g → (node_of (class_of j) ≡ j) × ((x : ℕ) → 0 < times x g.leaves.items → node_of (class_of x) ≡ x)
  pub gates_are : (i : Member) (c : Cell) (e : Expression) → IsGateHere n l i c e
      → (j : ℕ) × (g : Gate) × (gate_at gates j ≡ Some g) × IsInstance n cells class_of i c e j g
  pub cells_are : (c : Cell) (e : Expression) → In c l.cells → IsUsable c → c.function ≡ gate e → (k : ℕ) × IsCell cells k c e
  -- each gate of the cover has an instance, and reads no node twice
  pub instance_of : (j : ℕ) (g : Gate)
      → gate_at gates j ≡ Some g
      → (i : Member) × (c : Cell) × (e : Expression) × IsGateHere n l i c e × IsInstance n cells class_of i c e j g
  pub once : (j : ℕ) (g : Gate) → gate_at gates j ≡ Some g → (x : ℕ) → times x g.leaves.items ≤ 1
  -- instances have different names
  pub names : (i k : Member) → In i n.instances → In k n.instances → i.name ≡ k.name → i ≡ k
  -- each root is in the class of a port, or of an input pin of an instance that is no gate
  pub roots_are : (x : ℕ) → 0 < times x roots → IsRoot n l (class_of x)

-- so a netlist that carries a tight cover is tight
abbrev pub CarriesTight : Type 0
CarriesTight = (n : AbstractNetlist) (l : Library) (cells : List CellWord) (gates : List (Option Gate)) (roots : List ℕ) (class_of node_of : ℕ → ℕ)
    → Carries n l cells gates roots class_of node_of → IsTightCover cells gates roots → IsTight n l
