-- Rows of cells that are numbers: where each cell begins, and what exchanges of neighbours do.
use Rattle.std.specs.Prelude.{◌≡◌, ℕ, ◌+◌, ◌==◌, Bool, false, ◌||◌, List, [], ◌∷◌, length, max, sum_by, count_by, IsPermutation, if◌then◌else◌, slice_index, slice_index_or}
use Prim.Native.Nat.{zero, suc}

-- where cell c begins, in a row that begins at x, of cells with these widths; `before` where the row hasn't got it
abbrev pub x_in : List ℕ → ℕ → List ℕ → ℕ → ℕ → ℕ
x_in widths x [] c before = before
x_in widths x (d ∷ row) c before = x_in widths (x + slice_index widths d) row c (if d == c then x else before)

-- in rows that all begin at `left`
abbrev pub x_of : List ℕ → ℕ → List (List ℕ) → ℕ → ℕ → ℕ
x_of widths left [] c before = before
x_of widths left (row ∷ rows) c before = x_of widths left rows c (x_in widths left row c before)

abbrev pub stands_in : List ℕ → ℕ → Bool
stands_in [] c = false
stands_in (d ∷ row) c = d == c || stands_in row c

-- in which row a cell stands, the first of which has number r; `before` where it stands in none
abbrev pub row_of : ℕ → List (List ℕ) → ℕ → ℕ → ℕ
row_of r [] c before = before
row_of r (row ∷ rows) c before = row_of (suc r) rows c (if stands_in row c then r else before)

abbrev pub row_width : List ℕ → List ℕ → ℕ
row_width widths row = sum_by (slice_index widths) row

-- the width of the widest row
abbrev pub rows_width : List ℕ → List (List ℕ) → ℕ
rows_width widths [] = 0
rows_width widths (row ∷ rows) = max (row_width widths row) (rows_width widths rows)

-- how often a cell stands in rows
abbrev pub times_in : List ℕ → ℕ → ℕ
times_in row c = count_by (λ d. d == c) row

abbrev pub times : List (List ℕ) → ℕ → ℕ
times rows c = sum_by (λ row. times_in row c) rows

abbrev pub row_at : {X : Type 0} → List (List X) → ℕ → List X
row_at rows r = slice_index_or rows r []

-- the cell at place k of row r
abbrev pub cell_at : List (List ℕ) → ℕ → ℕ → ℕ
cell_at rows r k = slice_index (row_at rows r) k

-- a row whose cells at place k and one further are exchanged, where there are both
abbrev pub exchanged_row : {X : Type 0} → List X → ℕ → List X
exchanged_row [] k = []
exchanged_row (a ∷ []) k = a ∷ []
exchanged_row (a ∷ b ∷ row) zero = b ∷ a ∷ row
exchanged_row (a ∷ b ∷ row) (suc k) = a ∷ exchanged_row (b ∷ row) k

-- those cells of row r
abbrev pub exchanged : {X : Type 0} → List (List X) → ℕ → ℕ → List (List X)
exchanged [] r k = []
exchanged (row ∷ rows) zero k = exchanged_row row k ∷ rows
exchanged (row ∷ rows) (suc r) k = row ∷ exchanged rows r k

-- as many rows, each with the same cells
pub record HaveSameCells {X : Type 0} (old new : List (List X)) : Type 0 where
  pub many : length new ≡ length old
  pub each : (r : ℕ) → IsPermutation (row_at old r) (row_at new r)
