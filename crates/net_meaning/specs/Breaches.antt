-- The symbolic rules: which drawn shapes are too narrow, and which pairs of shapes are too near.
use Rattle.std.specs.Prelude.{◌≡◌, ◌⊎◌, ℕ, pos, ◌+ℤ◌, ◌<ℤ◌, List, ◌++◌, map, None, Some}
use Rattle.sym_geom.specs.declared.grid.TheConstants.{LEAST_WIDTH, LEAST_GAP}
use Rattle.vlsi_base.specs.declared.name.Name.{Name}
use Rattle.sym_geom.specs.Rect.{Meet, Within, Near}
use Rattle.sym_geom.specs.declared.rect.Rect.{Rect}
use Rattle.sym_geom.specs.declared.item.Item.{Item}
use Rattle.vlsi_base.specs.Member.{In, Picks, pairs}
use Rattle.sym_shapes.specs.Shape.{Shape}
use Rattle.sym_shapes.specs.Joined.{Joined}
use Rattle.cell_model.specs.Library.{Library}
use Rattle.cell_model.specs.Layout.{shapes}

-- a breach, with the metal: a rectangle that is too narrow, or two that are too near
pub data Breach : Type 0 where
  width : ℕ → Rect → Breach
  gap : ℕ → Rect → Rect → Breach

-- a drawn rectangle narrower than the least width in x or y
pub record IsNarrow (s : Shape) : Type 0 where
  pub drawn : s.owner ≡ None
  pub narrow : (s.rect.x2 <ℤ (s.rect.x1 +ℤ pos LEAST_WIDTH)) ⊎ (s.rect.y2 <ℤ (s.rect.y1 +ℤ pos LEAST_WIDTH))

-- the first is drawn and lies within a connector, of its metal, of the second's instance
pub record IsOverPin (all : List Shape) (a b : Shape) : Type 0 where
  pub drawn : a.owner ≡ None
  pub owner : List ℕ
  pub owned : b.owner ≡ Some owner
  pub pin : Shape
  pub name : Name
  pub listed : In pin all
  pub of_owner : pin.owner ≡ Some owner
  pub named : pin.name ≡ Some name
  pub metal : pin.metal ≡ a.metal
  pub within : Within a.rect pin.rect

-- the first lies within a third rectangle of its metal that touches the second
pub record IsBridged (all : List Shape) (a b : Shape) : Type 0 where
  pub third : Shape
  pub listed : In third all
  pub metal : third.metal ≡ a.metal
  pub within : Within a.rect third.rect
  pub touches : Meet third.rect b.rect

-- Why two shapes may be near: they are of one instance; one is drawn over a pin of the other's instance; one of them is of
-- an instance and they are joined; or one lies within a third that touches the other.
pub data IsExcused (all : List Shape) (a b : Shape) : Type 0 where
  one_instance : (owner : List ℕ) → a.owner ≡ Some owner → b.owner ≡ Some owner → IsExcused all a b
  first_over_pin : IsOverPin all a b → IsExcused all a b
  second_over_pin : IsOverPin all b a → IsExcused all a b
  joined_first : (owner : List ℕ) → a.owner ≡ Some owner → Joined all a b → IsExcused all a b
  joined_second : (owner : List ℕ) → b.owner ≡ Some owner → Joined all a b → IsExcused all a b
  first_bridged : IsBridged all a b → IsExcused all a b
  second_bridged : IsBridged all b a → IsExcused all a b

-- two shapes of one metal that don't touch, whose gap is less than the least, and which nothing excuses
pub record AreTooNear (all : List Shape) (a b : Shape) : Type 0 where
  pub metal : a.metal ≡ b.metal
  pub apart : Meet a.rect b.rect → ⊥
  pub near : Near LEAST_GAP a.rect b.rect
  pub unexcused : IsExcused all a b → ⊥

-- The list of a layout's breaches: widths in the order of shapes, then gaps in the order of the first and then of the
-- second shape.
pub record Breaches (items : List Item) (l : Library) (found : List Breach) : Type 0 where
  pub narrow : List Shape
  pub near : List (Shape × Shape)
  pub widths : Picks IsNarrow (shapes items l) narrow
  pub gaps : Picks (λ p. AreTooNear (shapes items l) p.0 p.1) (pairs (shapes items l)) near
  pub listed : found ≡ map (λ s. width s.metal s.rect) narrow ++ map (λ p. gap p.0.metal p.0.rect p.1.rect) near
