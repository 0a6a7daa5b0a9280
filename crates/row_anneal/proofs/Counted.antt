-- Rows that are proposed are a placement, or show why they are none.
use Rattle.std.proofs.Common.{◌≡◌, ◌≢◌, ◌⊎◌, inl, inr, ◌↔◌, ◌+◌, ◌-◌, ◌<◌, ◌≤◌, ◌==◌, ◌^◌, ◌/◌, ℕ, zero, suc, Bool, true, false, cond, All, IsTrue, List, [], ◌∷◌, map, length, drop, get_or, max, sum, slice_index, IfOk, Ok, Err, Result, refl, sym, ap, subst, ◌∙◌, eq-eqb, arith, replicate}
use Rattle.std.specs.Global.{Vec}
use Rattle.std.proofs.Math.Nat.{div-le_self}
use Rattle.std.proofs.lemmas.Bool.{cases_lt}
use Rattle.std.proofs.lemmas.List.{length-map}
use Rattle.std.proofs.lemmas.List.Sums.{sum_by-cons, sum_by-drop_more}
use Rattle.row_meaning.specs.Rows.{row_at, row_width, times_in, times}
use Rattle.row_meaning.specs.First.{share_of, widest, AreEven}
use Rattle.row_meaning.proofs.Counting.{times_rows}
use Rattle.row_fill.specs.Law.{HoldsEachOnce}
use Rattle.row_fill.proofs.Filling.{items, at_map}
use Rattle.row_anneal.specs.Amiss.{IsAmiss, unknown, repeated}

-- ---- counts

abbrev one_if : Bool → ℕ
one_if t = cond t 1 0

pub amiss_here : (row counts start : List ℕ) (n k d : ℕ) → k < length row → d ≡ get_or row k d
    → ((c : ℕ) → slice_index counts c + times_in (drop k row) c ≡ slice_index start c + times_in row c) → (n ≤ d) ⊎ (0 < slice_index counts d)
    → IsAmiss n (λ c. slice_index start c + times_in row c)
amiss_here row counts start n k d low is before how = by how where
  once : 1 ≤ times_in (drop k row) d
  once =
      let a : times_in (drop k row) d ≡ one_if (get_or row k d == d) + times_in (drop (k + 1) row) d = sum_by-drop_more (λ (x : ℕ). one_if (x == d)) row k d low in
      let b : one_if (get_or row k d == d) ≡ one_if true = ap (λ (x : ℕ). one_if (x == d)) (sym is) ∙ ap one_if (eq-eqb d d refl) in
      omega (arith, a, b)

  by : (n ≤ d) ⊎ (0 < slice_index counts d) → IsAmiss n (λ c. slice_index start c + times_in row c)
  by (inl beyond) = unknown d beyond (let a = before d in let b = once in omega arith)
  by (inr more) = repeated d (let a = before d in let b = once in omega arith)

-- one that stands there as often or more often
pub still_amiss : (n : ℕ) (f g : ℕ → ℕ) → ((c : ℕ) → f c ≤ g c) → IsAmiss n f → IsAmiss n g
still_amiss n f g more (unknown c beyond one) = unknown c beyond (let a = more c in omega arith)
still_amiss n f g more (repeated c two) = repeated c (let a = more c in omega arith)

pub times_at : (rows : List (Vec ℕ)) (k : ℕ) (row : Vec ℕ) (c : ℕ) → k < length rows → row ≡ get_or rows k row → times_in row.items c ≤ times (map items (drop k rows)) c
times_at [] k row c low is = absurd (omega arith)
times_at (one ∷ rows) zero row c low is =
    let a = times_rows one.items (map items rows) c in
    let b = ap (λ (v : Vec ℕ). times_in v.items c) is in
    omega arith
times_at (one ∷ rows) (suc k) row c low is = times_at rows k row c (omega arith) is

-- as many counts of 0
pub none_yet : (n c : ℕ) → slice_index (replicate n 0) c ≡ 0
none_yet zero c = refl
none_yet (suc n) zero = refl
none_yet (suc n) (suc c) = none_yet n c

pub beyond_is_none : (xs : List ℕ) (c : ℕ) → length xs ≤ c → slice_index xs c ≡ 0
beyond_is_none [] c l = refl
beyond_is_none (x ∷ xs) zero l = absurd (omega arith)
beyond_is_none (x ∷ xs) (suc c) l = beyond_is_none xs c (omega arith)

pub at_any : (xs : List ℕ) (k d : ℕ) → k < length xs → get_or xs k d ≡ slice_index xs k
at_any [] k d l = absurd (omega arith)
at_any (x ∷ xs) zero d l = refl
at_any (x ∷ xs) (suc k) d l = at_any xs k d (omega arith)

module _ (rows : List (Vec ℕ)) (old new : List ℕ) (empty : (c : ℕ) → slice_index old c ≡ 0) (long : length new ≡ length old) where
  pub counted_once : ((c : ℕ) → slice_index new c ≡ slice_index old c + times (map items rows) c)
      → All (λ count. count ≡ 1) new → HoldsEachOnce (length old) (length rows) (map items rows)
  counted_once counts ones = record {
    count = length-map rows items;
    once = λ c low.
        (let a = ones c 0 (omega (arith, low, long)) in
        let b = at_any new c 0 (omega (arith, low, long)) in
        let e = counts c in
        let f = empty c in
        omega (arith, a, b, e, f));
    others = λ c high. (let a = beyond_is_none new c (omega (arith, high, long)) in let e = counts c in omega (arith, a, e));
  }

  pub all_counted : ((c : ℕ) → slice_index new c ≡ slice_index old c + times (map items rows) c)
      → HoldsEachOnce (length old) (length rows) (map items rows) → All (λ count. count ≡ 1) new
  all_counted counts h = λ k d low.
      (let a = h.once k (omega (arith, low, long)) in
      let b = at_any new k d low in
      let e = counts k in
      let f = empty k in
      omega (arith, a, b, e, f))

pub not_counted : (rows : List (Vec ℕ)) (old : List ℕ) → ((c : ℕ) → slice_index old c ≡ 0)
    → IsAmiss (length old) (λ c. slice_index old c + times (map items rows) c) → HoldsEachOnce (length old) (length rows) (map items rows) → ⊥
not_counted rows old empty (unknown c beyond one) h = let a = h.others c beyond in let f = empty c in omega (arith, a, f, one)
not_counted rows old empty (repeated c two) h = by (cases_lt c (length old)) where
  by : (c < length old) ⊎ (length old ≤ c) → ⊥
  by (inl low) = let a = h.once c low in let f = empty c in omega (arith, a, f, two)
  by (inr high) = let a = h.others c high in let f = empty c in omega (arith, a, f, two)

-- ---- widths

pub widest_within : (widths : List ℕ) → widest widths ≤ sum widths
widest_within [] = omega arith
widest_within (w ∷ widths) =
    let a = widest_within widths in
    let b = sum_by-cons (λ (x : ℕ). x) w widths in
    omega arith

pub share_within : (total many : ℕ) → 0 < many → (total + (many - 1)) / many ≤ total + many
share_within total many some = let a = div-le_self (total + (many - 1)) many in omega (arith, a, some)

-- no row is wider than this
pub each_within : (columns : List ℕ) (rows : List (Vec ℕ)) (most : ℕ) → AreEven columns (map items rows) → most ≡ share_of columns (length rows) + widest columns
    → All (λ row. row_width columns row.items ≤ most) rows
each_within columns rows most even is = λ k d low.
    (let a = even.each k in
    let b = ap (row_width columns) (at_map rows k d low) in
    let e = ap (λ (m : ℕ). share_of columns m) (length-map rows items) in
    omega (arith, a, b, e, is))

pub even_within : (columns : List ℕ) (rows : List (Vec ℕ)) (most : ℕ) → All (λ row. row_width columns row.items ≤ most) rows
    → most ≡ share_of columns (length rows) + widest columns → AreEven columns (map items rows)
even_within columns rows most each is = record { each = λ r. by r (cases_lt r (length rows)) } where
  bound : share_of columns (length (map items rows)) ≡ share_of columns (length rows)
  bound = ap (λ (m : ℕ). share_of columns m) (length-map rows items)

  beyond : (rows : List (Vec ℕ)) (r : ℕ) → length rows ≤ r → row_at (map items rows) r ≡ []
  beyond [] r l = refl
  beyond (row ∷ rows) zero l = absurd (omega arith)
  beyond (row ∷ rows) (suc r) l = beyond rows r (omega arith)

  by : (r : ℕ) → (r < length rows) ⊎ (length rows ≤ r) → row_width columns (row_at (map items rows) r) ≤ share_of columns (length (map items rows)) + widest columns
  by r (inl low) =
      let (d, e) = some rows r low in
      let a = each r d low in
      let b = ap (row_width columns) e in
      let f = bound in
      omega (arith, a, b, f, is)
    where
      some : (rows : List (Vec ℕ)) (r : ℕ) → r < length rows → (d : Vec ℕ) × (row_at (map items rows) r ≡ (get_or rows r d).items)
      some [] r l = absurd (omega arith)
      some (row ∷ rows) r l = (row, at_map (row ∷ rows) r row l)
  by r (inr high) = let b = ap (row_width columns) (beyond rows r high) in omega arith
