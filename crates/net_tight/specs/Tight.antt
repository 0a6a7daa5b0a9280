-- When no cell could stand for two instances of a netlist.
use Rattle.std.specs.Prelude.{◌≡◌, ◌≢◌, ◌⊎◌, ◌↔◌, ℕ, Bool, List, [], ◌∷◌, map, length, AllPairs, nat_eq, if◌then◌else◌}
use Rattle.vlsi_base.specs.Member.{In}
use Rattle.vlsi_base.specs.declared.name.Name.{Name}
use Rattle.vlsi_base.specs.declared.name.Terminal.{Terminal}
use Rattle.bool_expr.specs.Expression.{Expression, val}
use Rattle.cell_model.specs.Cell.{gate, Cell, cell_inputs, cell_outputs}
use Rattle.cell_model.specs.Library.{Library, IsUsable}
use Rattle.net_meaning.specs.Netlist.{Member, AbstractNetlist, port, pin_of}
use Rattle.net_meaning.specs.Well.{Has}

-- an input pin of an instance
pub data IsInputPin (n : AbstractNetlist) (l : Library) : Terminal → Type 0 where
  an_input_pin : {name : Name} (i : Member) (c : Cell) → Has n l i c → In name (cell_inputs c) → IsInputPin n l (pin_of i.name name)

-- the classes of an instance's pins
abbrev pub pin_classes : AbstractNetlist → Member → List Name → List ℕ
pin_classes n i pins = map (λ p. n.class (pin_of i.name p)) pins

abbrev pub read_classes : AbstractNetlist → Member → Cell → List ℕ
read_classes n i c = pin_classes n i (cell_inputs c)

-- an instance of a gate
pub record IsGateHere (n : AbstractNetlist) (l : Library) (i : Member) (c : Cell) (e : Expression) : Type 0 where
  pub has : Has n l i c
  pub is_gate : c.function ≡ gate e

-- Class a is that of the first instance's output. It has no port, and exactly one input pin, which is one of the second instance.
pub record IsPair (n : AbstractNetlist) (l : Library) (a : ℕ) (h g : Member) (c d : Cell) (e x : Expression) : Type 0 where
  pub first : IsGateHere n l h c e
  pub second : IsGateHere n l g d x
  pub different : h ≢ g
  pub shows : pin_classes n h (cell_outputs c) ≡ a ∷ []
  pub no_port : (name : Name) → In name n.ports → n.class (port name) ≢ a
  pub pin : Name
  pub listed : In pin (cell_inputs d)
  pub reads : n.class (pin_of g.name pin) ≡ a
  pub alone : (t : Terminal) → IsInputPin n l t → n.class t ≡ a → t ≡ pin_of g.name pin

-- another bit for class a
abbrev pub put : ℕ → Bool → (ℕ → Bool) → ℕ → Bool
put a v f k = if nat_eq k a then v else f k

-- The cell computes the function of the second instance with that of the first put in for class a, where its inputs are put one
-- to one on the distinct classes that the two read besides a.
pub record StandsFor (n : AbstractNetlist) (l : Library) (a : ℕ) (h g : Member) (c d : Cell) (e x : Expression) (cell : Cell) (y : Expression)
    (order : List ℕ) : Type 0 where
  pub listed : In cell l.cells
  pub usable : IsUsable cell
  pub is_gate : cell.function ≡ gate y
  pub many : length order ≡ length (cell_inputs cell)
  pub once : AllPairs (λ j k. j ≢ k) order
  pub members : (k : ℕ) → In k order ↔ (In k (read_classes n h c) ⊎ (In k (read_classes n g d) × (k ≢ a)))
  pub value : (f : ℕ → Bool) → val y (map f order)
      ≡ val x (map (put a (val e (map f (read_classes n h c))) f) (read_classes n g d))

-- no usable cell stands for any pair
abbrev pub IsTight : AbstractNetlist → Library → Type 0
IsTight n l =
    (a : ℕ) (h g : Member) (c d : Cell) (e x : Expression) (cell : Cell) (y : Expression) (order : List ℕ)
    → IsPair n l a h g c d e x → StandsFor n l a h g c d e x cell y order → ⊥
