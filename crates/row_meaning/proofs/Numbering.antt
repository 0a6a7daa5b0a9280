-- In which rows cells stand.
use Rattle.std.proofs.Common.{◌≡◌, ◌⊎◌, inl, inr, ℕ, zero, suc, ◌+◌, ◌≤◌, ◌<◌, ◌==◌, Bool, true, false, cond, ◌||◌, List, [], ◌∷◌, length, slice_index, flat_map, refl, ap, ◌∙◌, eq-eqb, eqb-true, arith}
use Rattle.std.proofs.lemmas.Bool.{cases_lt}
use Rattle.std.proofs.lemmas.List.Sums.{sum_by-cons, sum_by-append}
use Rattle.row_meaning.specs.Rows.{stands_in, row_of, row_width, times_in, times, row_at, cell_at}
use Rattle.row_meaning.proofs.Counting.{times_yes, times_no, times_rows, stands_once, lead}

stands_not : (row : List ℕ) (c : ℕ) → times_in row c ≡ 0 → stands_in row c ≡ false
stands_not [] c h = refl
stands_not (d ∷ row) c h = by (d == c) refl (stands_not row c) where
  by : (t : Bool) → (d == c) ≡ t → (times_in row c ≡ 0 → stands_in row c ≡ false) → (t || stands_in row c) ≡ false
  by true e next = let a = times_yes d row c e in absurd (omega arith)
  by false e next = next (let a = times_no d row c e in omega arith)

stands_yes : (row : List ℕ) (k : ℕ) → k < length row → stands_in row (slice_index row k) ≡ true
stands_yes [] k l = absurd (omega arith)
stands_yes (d ∷ row) zero l = ap (λ (t : Bool). t || stands_in row d) (eq-eqb d d refl)
stands_yes (d ∷ row) (suc k) l = by (d == slice_index row k) (stands_yes row k (omega arith)) where
  by : (t : Bool) → stands_in row (slice_index row k) ≡ true → (t || stands_in row (slice_index row k)) ≡ true
  by true e = refl
  by false e = e

pub row_absent : (n : ℕ) (rows : List (List ℕ)) (c before : ℕ) → times rows c ≡ 0 → row_of n rows c before ≡ before
row_absent n [] c before h = refl
row_absent n (row ∷ rows) c before h =
    let a = times_rows row rows c in
    ap (λ (t : Bool). row_of (suc n) rows c (cond t n before)) (stands_not row c (omega arith)) ∙ row_absent (suc n) rows c before (omega arith)

-- a cell that stands once stands in this row
pub row_is : (n : ℕ) (rows : List (List ℕ)) (r k before : ℕ) → k < length (row_at rows r) → times rows (cell_at rows r k) ≤ 1 → row_of n rows (cell_at rows r k) before ≡ n + r
row_is n [] r k before l m = absurd (omega arith)
row_is n (row ∷ rows) zero k before l m =
    let c = slice_index row k in
    let a = times_rows row rows c in
    let b = stands_once row k l in
    ap (λ (t : Bool). row_of (suc n) rows c (cond t n before)) (stands_yes row k l) ∙ row_absent (suc n) rows c n (omega arith) ∙ omega arith
row_is n (row ∷ rows) (suc r) k before l m =
    let c = cell_at rows r k in
    let a = times_rows row rows c in
    row_is (suc n) rows r k (cond (stands_in row c) n before) l (omega arith) ∙ omega arith

-- all rows one behind another
pub times_flat : (rows : List (List ℕ)) (c : ℕ) → times_in (flat_map (λ row. row) rows) c ≡ times rows c
times_flat [] c = refl
times_flat (row ∷ rows) c =
    let f : ℕ → ℕ = λ d. cond (d == c) 1 0 in
    let a = sum_by-append f row (flat_map (λ one. one) rows) in
    let b = times_rows row rows c in
    let e = times_flat rows c in
    omega arith

-- no row is wider than all of them together
pub row_fits : (w : List ℕ) (rows : List (List ℕ)) (r : ℕ) → row_width w (row_at rows r) ≤ row_width w (flat_map (λ row. row) rows)
row_fits w [] r = omega arith
row_fits w (row ∷ rows) zero = let a = sum_by-append (slice_index w) row (flat_map (λ one. one) rows) in omega arith
row_fits w (row ∷ rows) (suc r) =
    let a = sum_by-append (slice_index w) row (flat_map (λ one. one) rows) in
    let b = row_fits w rows r in
    omega arith

-- what stands before a place of a row is no wider than the row
pub lead_fits : (w : List ℕ) (row : List ℕ) (k : ℕ) → lead w row k ≤ row_width w row
lead_fits w row zero = omega arith
lead_fits w [] (suc k) = omega arith
lead_fits w (d ∷ row) (suc k) =
    let a = sum_by-cons (slice_index w) d row in
    let b = lead_fits w row k in
    omega arith

-- where a number stands
pub record IsAt (rows : List (List ℕ)) (c : ℕ) : Type 0 where
  pub row : ℕ
  pub place : ℕ
  pub inside : place < length (row_at rows row)
  pub is : cell_at rows row place ≡ c

in_row : (row : List ℕ) (c : ℕ) → 0 < times_in row c → (k : ℕ) × (k < length row) × (slice_index row k ≡ c)
in_row [] c h = absurd (omega arith)
in_row (d ∷ row) c h = by (d == c) refl (in_row row c) where
  by : (t : Bool) → (d == c) ≡ t → (0 < times_in row c → (k : ℕ) × (k < length row) × (slice_index row k ≡ c)) → (k : ℕ) × (k < length (d ∷ row)) × (slice_index (d ∷ row) k ≡ c)
  by true e next = (0, omega arith, eqb-true d c e)
  by false e next = let r = next (let a = times_no d row c e in omega arith) in let l = r.1 in (suc r.0, omega arith, r.2)

pub found : (rows : List (List ℕ)) (c : ℕ) → 0 < times rows c → IsAt rows c
found [] c h = absurd (omega arith)
found (row ∷ rows) c h = by (cases_lt 0 (times_in row c)) (found rows c) where
  by : (0 < times_in row c) ⊎ (times_in row c ≤ 0) → (0 < times rows c → IsAt rows c) → IsAt (row ∷ rows) c
  by (inl l) next = let r = in_row row c l in record { row = 0; place = r.0; inside = r.1; is = r.2 }
  by (inr l) next =
      let a = times_rows row rows c in
      let r = next (omega arith) in
      record { row = suc r.row; place = r.place; inside = r.inside; is = r.is }
