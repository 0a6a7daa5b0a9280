-- Chains of linked shapes, by their places.
use Rattle.std.specs.Prelude.{◌≡◌, ◌≢◌, ℕ, ◌+◌, ◌-◌, ◌<◌, List, length, slice_index_or}
use Rattle.sym_shapes.specs.Shape.{Shape}
use Rattle.sym_shapes.specs.Joined.{Linked, Joined}

-- the shapes at two places are linked
abbrev pub LinkedAt : List Shape → ℕ → ℕ → Type 0
LinkedAt shapes i j = (d : Shape) → Linked (slice_index_or shapes i d) (slice_index_or shapes j d)

-- Places of shapes, the first `from` and the last `to`: each shape is linked with the next, and none stands twice.
pub record IsChain (shapes : List Shape) (places : List ℕ) (from to : ℕ) : Type 0 where
  pub some : 0 < length places
  pub first : slice_index_or places 0 0 ≡ from
  pub last : slice_index_or places (length places - 1) 0 ≡ to
  pub within : (k : ℕ) → k < length places → slice_index_or places k 0 < length shapes
  pub linked : (k : ℕ) → k + 1 < length places → LinkedAt shapes (slice_index_or places k 0) (slice_index_or places (k + 1) 0)
  pub different : (j k : ℕ) → j < k → k < length places → slice_index_or places j 0 ≢ slice_index_or places k 0

-- no chain of links joins the shapes at two places
abbrev pub Apart : List Shape → ℕ → ℕ → Type 0
Apart shapes from to = (d : Shape) → Joined shapes (slice_index_or shapes from d) (slice_index_or shapes to d) → ⊥
