-- Pairs of shapes that a sweep along the bands looks at.
use Rattle.std.specs.Prelude.{◌≡◌, ℕ, ◌<◌, ◌≤◌, ◌≤ℤ◌, List, length, slice_index_or}
use Rattle.sym_geom.specs.Rect.{Meet}
use Rattle.sym_shapes.specs.Shape.{Shape}
use Rattle.sym_groups.specs.Ties.{Tied}
use Rattle.sym_shapes.specs.declared.sweep.Entry.{Entry}

-- in the band of the first, and not right of it
pub record InBand (first entry : Entry) : Type 0 where
  pub metal : entry.metal ≡ first.metal
  pub band : entry.band ≡ first.band
  pub left : entry.left ≤ℤ first.right

-- each entry is of a shape
abbrev pub PlacesWithin : List Shape → List Entry → Type 0
PlacesWithin shapes entries = (p : ℕ) (d : Entry) → p < length entries → (slice_index_or entries p d).place < length shapes

-- the entries behind p up to q are in its run
abbrev pub InRun : List Entry → ℕ → ℕ → Entry → Type 0
InRun entries p q e = (k : ℕ) → p < k → k ≤ q → InBand (slice_index_or entries p e) (slice_index_or entries k e)

-- they meet on one metal
abbrev pub Touch : Shape → Shape → Type 0
Touch a b = (a.metal ≡ b.metal) × Meet a.rect b.rect

-- the shapes of two entries are in one group, if they touch
abbrev pub TiesTouching : List Shape → List ℕ → Shape → Entry → Entry → Type 0
TiesTouching shapes ps d a b =
    Touch (slice_index_or shapes a.place d) (slice_index_or shapes b.place d) → Tied ps a.place b.place

-- so are those of the entry p and of the entries behind it that are below n
abbrev pub CoversRun : List Shape → List Entry → List ℕ → ℕ → ℕ → Type 0
CoversRun shapes entries ps p n = (q : ℕ) (e : Entry) (d : Shape) → p < q → q < n
    → TiesTouching shapes ps d (slice_index_or entries p e) (slice_index_or entries q e)

-- and those of the entry p and of its whole run
abbrev pub CoversFrom : List Shape → List Entry → List ℕ → ℕ → Type 0
CoversFrom shapes entries ps p = (q : ℕ) (e : Entry) (d : Shape) → p < q → q < length entries → InRun entries p q e
    → TiesTouching shapes ps d (slice_index_or entries p e) (slice_index_or entries q e)

-- so from each entry below m
abbrev pub CoversRuns : List Shape → List Entry → List ℕ → ℕ → Type 0
CoversRuns shapes entries ps m = (p : ℕ) → p < m → CoversFrom shapes entries ps p

-- an entry is not behind another: by metal, then by band, then by left edge
pub data Precedes (a b : Entry) : Type 0 where
  by_metal : a.metal < b.metal → Precedes a b
  by_band : a.metal ≡ b.metal → a.band < b.band → Precedes a b
  by_left : a.metal ≡ b.metal → a.band ≡ b.band → a.left ≤ℤ b.left → Precedes a b

-- each is behind those before it
abbrev pub Ordered : List Entry → Type 0
Ordered entries = (p q : ℕ) (e : Entry) → p < q → q < length entries
    → Precedes (slice_index_or entries p e) (slice_index_or entries q e)

-- touching shapes are in one group
abbrev pub CoversTouching : List Shape → List ℕ → Type 0
CoversTouching shapes ps = (i j : ℕ) (d : Shape) → i < length shapes → j < length shapes
    → Touch (slice_index_or shapes i d) (slice_index_or shapes j d) → Tied ps i j
