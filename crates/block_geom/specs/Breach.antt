-- Rectangles that are too near.
use Rattle.std.specs.Prelude.{◌≡◌, ℕ, pos, ◌+ℤ◌, ◌≤ℤ◌, List, Some, None, ◌⊎◌}
use Rattle.sym_geom.specs.declared.grid.TheConstants.{LEAST_WIDTH, LEAST_GAP}
use Rattle.block_geom.specs.Rect.{Meet, Within, Apart}
use Rattle.block_geom.specs.Figure.{Shape, Name, In}
use Rattle.block_geom.specs.Joined.{Joined}

-- what excuses two shapes from the least gap
pub data IsExcused (xs : List Shape) (a b : Shape) : Type 0 where
  one_instance : (i : ℕ) → a.owner ≡ Some i → b.owner ≡ Some i → IsExcused xs a b
  in_connector : (i : ℕ) (n : Name) (c : Shape) → a.owner ≡ None → b.owner ≡ Some i → In c xs → c.owner ≡ Some i
      → c.name ≡ Some n → c.metal ≡ a.metal → Within a.rect c.rect → IsExcused xs a b
  connector_of : (i : ℕ) (n : Name) (c : Shape) → b.owner ≡ None → a.owner ≡ Some i → In c xs → c.owner ≡ Some i
      → c.name ≡ Some n → c.metal ≡ b.metal → Within b.rect c.rect → IsExcused xs a b
  joined_first : (i : ℕ) → a.owner ≡ Some i → Joined xs a b → IsExcused xs a b
  joined_second : (i : ℕ) → b.owner ≡ Some i → Joined xs a b → IsExcused xs a b
  first_within : (c : Shape) → In c xs → c.metal ≡ a.metal → Within a.rect c.rect → Meet c.rect b.rect → IsExcused xs a b
  second_within : (c : Shape) → In c xs → c.metal ≡ b.metal → Within b.rect c.rect → Meet c.rect a.rect → IsExcused xs a b

-- of one metal, apart, too near and not excused
pub record IsGapBreach (xs : List Shape) (a b : Shape) : Type 0 where
  pub metal : a.metal ≡ b.metal
  pub not_touching : Meet a.rect b.rect → ⊥
  pub too_near : Apart LEAST_GAP a.rect b.rect → ⊥
  pub not_excused : IsExcused xs a b → ⊥

-- no two shapes are too near
abbrev pub HasNoGapBreach : List Shape → Type 0
HasNoGapBreach xs = (a b : Shape) → In a xs → In b xs → IsGapBreach xs a b → ⊥

-- a drawn rectangle narrower than the least width
pub record IsWidthBreach (s : Shape) : Type 0 where
  pub drawn : s.owner ≡ None
  pub narrow : ((s.rect.x2 +ℤ pos 1) ≤ℤ (s.rect.x1 +ℤ pos LEAST_WIDTH))
      ⊎ ((s.rect.y2 +ℤ pos 1) ≤ℤ (s.rect.y1 +ℤ pos LEAST_WIDTH))

-- and no drawn one is too narrow
pub record HasNoBreach (xs : List Shape) : Type 0 where
  pub width : (s : Shape) → In s xs → IsWidthBreach s → ⊥
  pub gap : HasNoGapBreach xs
