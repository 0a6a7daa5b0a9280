-- Shapes that lie within others of their metal.
use Rattle.std.specs.Prelude.{◌≡◌, ℕ, ◌<◌, List, length, slice_index_or, Contains}
use Rattle.sym_geom.specs.Rect.{Within}
use Rattle.sym_shapes.specs.Shape.{Shape}
use Rattle.sym_groups.specs.Ties.{Tied}
use Rattle.sym_shapes.specs.declared.holders.Spot.{Spot}

-- the first lies within the second, on one metal
abbrev pub LiesIn : Shape → Shape → Type 0
LiesIn a b = (a.metal ≡ b.metal) × Within a.rect b.rect

-- a spot is there for each of the places below n, and for no other
pub record AreSpots (n : ℕ) (spots : List Spot) : Type 0 where
  pub within : (s : Spot) → Contains spots s → s.place < n
  pub each : (k : ℕ) → k < n → (s : Spot) × Contains spots s × (s.place ≡ k)

-- one of the kept shapes holds the one at k, and is in its group
pub record HasHolder (shapes : List Shape) (kept ps : List ℕ) (k : ℕ) : Type 0 where
  pub holder : ℕ
  pub is_kept : Contains kept holder
  pub holds : (d : Shape) → LiesIn (slice_index_or shapes k d) (slice_index_or shapes holder d)
  pub tied : Tied ps k holder

-- each shape has such a holder, maybe itself
abbrev pub HaveHolders : List Shape → List ℕ → List ℕ → Type 0
HaveHolders shapes kept ps = (k : ℕ) → k < length shapes → HasHolder shapes kept ps k
