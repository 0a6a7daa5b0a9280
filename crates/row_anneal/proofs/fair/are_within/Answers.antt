use Rattle.std.proofs.Common.{refl, ◌≡◌, ◌⊎◌, inl, inr, ◌+◌, ◌<◌, ◌≤◌, ℕ, List, length, map, get_or, ap, arith, rules}
use Rattle.std.specs.Global.{Vec}
use Rattle.std.proofs.lemmas.Bool.{cases_lt}
use Rattle.row_meaning.specs.Rows.{row_at, row_width}
use Rattle.row_fill.proofs.Filling.{items, at_map}
use Rattle.row_anneal.proofs.fair.are_within.Goals as goal

-- one more row is narrow
one_more : (w : List ℕ) (rows : List (Vec ℕ)) (most k : ℕ) (row : Vec ℕ) → row ≡ get_or rows k row → k < length rows → row_width w row.items ≤ most
    → ((r : ℕ) → r < k → row_width w (row_at (map items rows) r) ≤ most) → (r : ℕ) → r < k + 1 → row_width w (row_at (map items rows) r) ≤ most
one_more w rows most k row is low here before r l = by (cases_lt r k) where
  by : (r < k) ⊎ (k ≤ r) → row_width w (row_at (map items rows) r) ≤ most
  by (inl m) = before r m
  by (inr m) =
      let e : r ≡ k = omega arith in
      let a = ap (λ (q : ℕ). row_width w (row_at (map items rows) q)) e in
      let b = ap (row_width w) (at_map rows k row low) in
      let d = ap (λ (v : Vec ℕ). row_width w v.items) is in
      omega arith

pub loop-row-preserved : goal.loop-row-preserved
loop-row-preserved c =
    one_more c.args.columns.now c.args.rows.now c.args.most c.loop-row.row-index c.row-item.result c.row-item.is c.loop-row-test.true
    (search (rules, c.deref.ensures.value, c.if-not-is_within.ensures)) c.loop-row.invariant

pub returns : goal.returns
returns c = (
  λ t k d low. (let a = c.loop-row.invariant k (omega (arith, low, c.loop-row-test.false)) in let b = ap (row_width c.args.columns.now) (at_map c.args.rows.now k d low) in omega (arith, a, b)),
  λ all. refl,
)
