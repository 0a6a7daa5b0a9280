-- Rows that hold each of the numbers from 0 on once, in whatever order.
use Rattle.std.proofs.Common.{◌∙◌, ◌+◌, All, ◌≡◌, ◌⊎◌, inl, inr, ℕ, zero, suc, ◌*◌, ◌≤◌, ◌<◌, ◌==◌, cond, List, [], ◌∷◌, length, map, flat_map, slice_index, get_or, refl, sym, ap, arith, IsPermutation}
use Rattle.std.proofs.lemmas.Bool.{cases_lt}
use Rattle.std.proofs.lemmas.List.{get_or_default}
use Rattle.std.proofs.lemmas.List.Elements.{All-head, All-tail}
use Rattle.std.proofs.lemmas.List.Sorted.{sum_by-IsPermutation}
use Rattle.std.proofs.lemmas.List.Sums.{sum_by-le}
use Rattle.std.specs.Global.{Vec}
use Rattle.row_meaning.specs.Rows.{x_of, row_at, cell_at, row_width, rows_width, times_in, times}
use Rattle.row_meaning.specs.First.{numbers}
use Rattle.row_meaning.proofs.Counting.{stands_in_rows, lead, x_of_at}
use Rattle.row_meaning.proofs.Numbering.{times_flat, row_fits, lead_fits, found}
use Rattle.row_fill.specs.Law.{HoldsEachOnce}
use Rattle.row_fill.proofs.Filling.{items, at_map, numbers_beyond, numbers_within}

pub how_many : (k n : ℕ) → length (numbers k n) ≡ n
how_many k zero = refl
how_many k (suc n) = ap suc (how_many (suc k) n)

module _ (rows : List (List ℕ)) (n : ℕ) (h : IsPermutation (flat_map (λ row. row) rows) (numbers 0 n)) where
  times_are : (c : ℕ) → times rows c ≡ times_in (numbers 0 n) c
  times_are c =
      let a = times_flat rows c in
      let b = sum_by-IsPermutation (λ (d : ℕ). cond (d == c) 1 0) (flat_map (λ row. row) rows) (numbers 0 n) h in
      omega arith

  pub holds_once : HoldsEachOnce n (length rows) rows
  holds_once = record {
    count = refl;
    once = λ c l. let a = times_are c in let b = numbers_within 0 n c (omega arith) (omega arith) in omega arith;
    others = λ c l. let a = times_are c in let b = numbers_beyond 0 n c (omega arith) in omega arith;
  }

  pub at_most_once : (c : ℕ) → times rows c ≤ 1
  at_most_once c = by (cases_lt c n) where
    by : (c < n) ⊎ (n ≤ c) → times rows c ≤ 1
    by (inl l) = let a = holds_once.once c l in omega arith
    by (inr l) = let a = holds_once.others c l in omega arith

  pub inside : (r k : ℕ) → k < length (row_at rows r) → cell_at rows r k < n
  inside r k l = by (cases_lt (cell_at rows r k) n) where
    by : (cell_at rows r k < n) ⊎ (n ≤ cell_at rows r k) → cell_at rows r k < n
    by (inl a) = a
    by (inr a) = let e = holds_once.others (cell_at rows r k) a in let f = stands_in_rows rows r k l in absurd (omega arith)

  -- no row is wide, where no cell is
  pub narrow : (w : List ℕ) (most r : ℕ) → ((c : ℕ) → slice_index w c ≤ most) → row_width w (row_at rows r) ≤ n * most
  narrow w most r each =
      let a = row_fits w rows r in
      let b = sum_by-IsPermutation (slice_index w) (flat_map (λ row. row) rows) (numbers 0 n) h in
      let l = sum_by-le (slice_index w) most (numbers 0 n) (λ k d m. each (get_or (numbers 0 n) k d)) in
      let m = how_many 0 n in
      let e = ap (λ (k : ℕ). k * most) m in
      omega arith

  -- a cell begins no further than the cells before it are wide
  pub begins : (w : List ℕ) (left most c : ℕ) → ((d : ℕ) → slice_index w d ≤ most) → c < n → x_of w left rows c 0 ≤ left + n * most
  begins w left most c each low =
      let a = holds_once.once c low in
      let at = found rows c (omega arith) in
      let one = at_most_once (cell_at rows at.row at.place) in
      let x : x_of w left rows c 0 ≡ left + lead w (row_at rows at.row) at.place =
      ap (λ (d : ℕ). x_of w left rows d 0) (sym at.is) ∙ x_of_at w left rows at.row at.place 0 at.inside one in
      let b = lead_fits w (row_at rows at.row) at.place in
      let f = narrow w most at.row each in
      omega arith

pub widest_fits : (w : List ℕ) (rows : List (List ℕ)) (most : ℕ) → ((r : ℕ) → row_width w (row_at rows r) ≤ most) → rows_width w rows ≤ most
widest_fits w [] most each = omega arith
widest_fits w (row ∷ rows) most each = let a = each 0 in let b = widest_fits w rows most (λ r. each (suc r)) in omega arith

-- ---- rows in memory

pub each_small : (w : List ℕ) (most : ℕ) → All (λ x. x ≤ most) w → (c : ℕ) → slice_index w c ≤ most
each_small [] most h c = omega arith
each_small (x ∷ w) most h zero = All-head (λ y. y ≤ most) x w h
each_small (x ∷ w) most h (suc c) = each_small w most (All-tail (λ y. y ≤ most) x w h) c

module _ (rows : List (Vec ℕ)) (n : ℕ) (h : IsPermutation (flat_map (λ row. row) (map items rows)) (numbers 0 n)) where
  pub all_inside : All (λ row. All (λ c. c < n) row.items) rows
  all_inside r d l k e m =
      let same : row_at (map items rows) r ≡ (get_or rows r d).items = at_map rows r d l in
      let many = ap length same in
      let a = inside (map items rows) n h r k (omega arith) in
      let b : slice_index (row_at (map items rows) r) k ≡ slice_index (get_or rows r d).items k = ap (λ (row : List ℕ). slice_index row k) same in
      let f : get_or (get_or rows r d).items k e ≡ get_or (get_or rows r d).items k 0 = get_or_default (get_or rows r d).items k e 0 m in
      omega arith

  pub all_narrow : (w : List ℕ) (most : ℕ) → ((c : ℕ) → slice_index w c ≤ most) → All (λ row. row_width w row.items ≤ n * most) rows
  all_narrow w most each r d l =
      let same : row_at (map items rows) r ≡ (get_or rows r d).items = at_map rows r d l in
      let a = narrow (map items rows) n h w most r each in
      let b = ap (row_width w) same in
      omega arith
