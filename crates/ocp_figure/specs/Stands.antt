-- Where the instances of a figure stand, and the rows of their numbers.
use Rattle.std.specs.Prelude.{◌≡◌, ℕ, ◌-◌, ◌/◌, ◌<◌, ℤ, min, nat_eq, List, [], ◌∷◌, map, filter, length, slice_index_or, IsPermutation}
use Prim.Native.Nat.{suc}
use Rattle.std.specs.Global.{Vec}
use Rattle.std.specs.List.Sorted.{IsNonDecreasingBy}
use Rattle.sym_geom.specs.declared.grid.TheConstants.{ROW_HEIGHT}
use Rattle.sym_geom.specs.declared.item.Instance.{Instance}
use Rattle.ocp_rows.specs.Placement.{natural}
use Rattle.row_meaning.specs.Rows.{row_at}
use Rattle.ocp_figure.specs.declared.stands.Stand.{Stand}

-- the one of so many rows in which this y lies; the first or the last of them, where it lies below or above all
abbrev pub row_near : ℕ → ℤ → ℕ
row_near rows y = min (natural y / ROW_HEIGHT) (rows - 1)

-- where instances stand in so many rows, the first of which has number k
abbrev pub stands_from : ℕ → ℕ → List Instance → List Stand
stands_from rows k [] = []
stands_from rows k (i ∷ rest) = record { x = natural i.x; row = row_near rows i.y; number = k } ∷ stands_from rows (suc k) rest

-- the numbers of those that stand in row r, in their order
abbrev pub numbers_in : ℕ → List Stand → List ℕ
numbers_in r stands = map (λ s. s.number) (filter (λ s. nat_eq s.row r) stands)

-- each row has the numbers of those that stand in it
pub record AreFilled (stands : List Stand) (rows : List (Vec ℕ)) : Type 0 where
  pub each : (r : ℕ) (d : Vec ℕ) → r < length rows → (slice_index_or rows r d).items ≡ numbers_in r stands

-- so many rows, each with the numbers of those that stand in it, from the left to the right
pub record AreReadRows (count : ℕ) (stands : List Stand) (rows : List (List ℕ)) : Type 0 where
  pub sorted : List Stand
  pub same : IsPermutation stands sorted
  pub rising : IsNonDecreasingBy (λ s. s.x) sorted
  pub many : length rows ≡ count
  pub each : (r : ℕ) → r < count → row_at rows r ≡ numbers_in r sorted
