-- What the checks ask of single shapes.
use Rattle.std.specs.Prelude.{◌≡◌, ◌⊎◌, ℕ, ◌<◌, ℤ, pos, ◌+ℤ◌, ◌*ℤ◌, ◌≤ℤ◌, List, ◌∷◌, length, Some, None, slice_index_or, All, Any}
use Rattle.vlsi_base.specs.declared.name.Name.{Name}
use Rattle.vlsi_base.specs.Names.{vdd, vss}
use Rattle.machine_core.specs.Machine.{names_of}
use Rattle.cell_model.specs.Cell.{Cell, pin_ports}
use Rattle.sym_geom.specs.declared.grid.TheConstants.{PITCH, LEAST_GAP}
use Rattle.sym_geom.specs.declared.rect.Rect.{Rect}
use Rattle.sym_geom.specs.Rect.{Within, Apart}
use Rattle.sym_shapes.specs.Shape.{Shape}
use Rattle.sym_shapes.specs.Joined.{Joined}
use Rattle.sym_shapes.specs.Joints.{NumbersJoined}
use Rattle.cell_checks.specs.Checks.{IsInside}

-- the shape is a connector of this name on metal 1 that holds the rectangle
pub record IsRail (name : Name) (r : Rect) (s : Shape) : Type 0 where
  pub named : s.name ≡ Some name
  pub metal : s.metal ≡ 1
  pub holds : Within r s.rect

-- a line of the grid, a multiple of the pitch, about which a pad, 100 to either side, doesn't stand out below the coordinate
pub record IsLineAbove (low line : ℤ) : Type 0 where
  pub number : ℤ
  pub grid : line ≡ pos PITCH *ℤ number
  pub from : (low +ℤ pos 100) ≤ℤ line

-- the least such line
pub record IsFirstLine (low line : ℤ) : Type 0 where
  pub above : IsLineAbove low line
  pub least : (other : ℤ) → IsLineAbove low other → line ≤ℤ other

-- a pad about some line of the grid fits between two coordinates
pub record FitsPad (low high : ℤ) : Type 0 where
  pub line : ℤ
  pub above : IsLineAbove low line
  pub to : (line +ℤ pos 100) ≤ℤ high

-- the shape is a connector of this name on metal 1 that holds a pad about a point of the grid
pub record IsReachedBy (name : Name) (s : Shape) : Type 0 where
  pub named : s.name ≡ Some name
  pub metal : s.metal ≡ 1
  pub across : FitsPad s.rect.x1 s.rect.x2
  pub along : FitsPad s.rect.y1 s.rect.y2

-- some shape reaches a pin of this name
pub record HasReach (shapes : List Shape) (name : Name) : Type 0 where
  pub any : Any (IsReachedBy name) shapes

-- on metal 1 it lies within the box, or within one of the two strips
abbrev pub KeepsIn : ℤ → Rect → Rect → Shape → Type 0
KeepsIn width low high s = s.metal ≡ 1 → IsInside width s.rect ⊎ Within s.rect low ⊎ Within s.rect high

-- the shapes are drawn, and their numbers tell which are joined
pub record AreNumbered (shapes : List Shape) (numbers : List ℕ) : Type 0 where
  pub many : length numbers ≡ length shapes
  pub joined : NumbersJoined shapes numbers
  pub drawn : All (λ s. s.owner ≡ None) shapes

-- a connector of this name has the number
pub record HasNumber (shapes : List Shape) (numbers : List ℕ) (name : Name) (n : ℕ) : Type 0 where
  pub place : ℕ
  pub within : place < length shapes
  pub named : (d : Shape) → (slice_index_or shapes place d).name ≡ Some name
  pub number : slice_index_or numbers place 0 ≡ n

-- the shape is no connector of this name
abbrev pub IsNoConnector : Name → Shape → Type 0
IsNoConnector name s = s.name ≡ Some name → ⊥

-- no connector of the one name is joined to one of the other
abbrev pub AreApart : List Shape → Name → Name → Type 0
AreApart shapes m n = (a b : Shape) → a.name ≡ Some m → b.name ≡ Some n → Joined shapes a b → ⊥

-- on metal 1 it is joined to a connector of the name, or far enough from the rectangle
abbrev pub KeepsOff : List Shape → Name → Rect → Shape → Type 0
KeepsOff shapes name r s = s.metal ≡ 1 → ((pin : Shape) × (pin.name ≡ Some name) × Joined shapes pin s) ⊎ Apart LEAST_GAP s.rect r

-- the names of vdd, of vss and of the pins
abbrev pub wanted : Cell → List Name
wanted c = vdd ∷ vss ∷ names_of (pin_ports c)
