-- Rows that are proposed for a placement are fair, and what is no longer than an improved placement is improved too.
use Rattle.std.proofs.Common.{◌≡◌, ◌⊎◌, inl, inr, ℕ, ◌/◌, ◌≤◌, ◌<◌, ◌^◌, ◌==◌, Bool, true, false, cond, List, [], ◌∷◌, ◌++◌, map, length, flat_map, sum, refl, sym, ap, subst, ◌∙◌, eq-eqb, eqb-true, arith, IsPermutation}
use Rattle.std.proofs.lemmas.Bool.{cases_lt}
use Rattle.std.proofs.lemmas.List.{length-map}
use Rattle.std.proofs.lemmas.List.Sorted.{IsPermutation-cons, IsPermutation-middle, IsPermutation-sym, IsPermutation-trans, IsPermutation-refl}
use Rattle.std.proofs.lemmas.List.Sums.{sum_by-cons, sum_by-append}
use Rattle.std.specs.Global.{Vec}
use Rattle.cell_model.specs.Library.{Library}
use Rattle.cell_checks.specs.Checked.{IsChecked as HasPassed}
use Rattle.net_core.specs.Netlist.{Netlist as InMemory}
use Rattle.net_meaning.specs.Netlist.{AbstractNetlist}
use Rattle.net_right.specs.View.{IsSeenAs, member_of}
use Rattle.net_right.proofs.Terminals.{seen_instances}
use Rattle.row_meaning.specs.First.{numbers, AreEven}
use Rattle.row_meaning.specs.Rows.{times_in}
use Rattle.row_meaning.proofs.Counting.{times_yes, times_no}
use Rattle.row_meaning.proofs.Numbering.{times_flat}
use Rattle.row_fill.specs.Law.{HoldsEachOnce}
use Rattle.row_fill.proofs.Filling.{items, numbers_beyond, numbers_within}
use Rattle.ocp_rows.specs.Length.{half_perimeter}
use Rattle.ocp_place.specs.Drawable.{IsDrawableIn}
use Rattle.ocp_place.specs.Placed.{InRow, rows_of, IsRowPlacementOf}
use Rattle.ocp_place.specs.Stood.{instance_widths, instance_columns}
use Rattle.ocp_place.proofs.Classes.{known, known_seen}
use Rattle.ocp_place.proofs.Seen.{orderly}
use Rattle.ocp_place.proofs.Widths.{columns_of, columns_sum}
use Rattle.row_bridge.specs.Improved.{IsStablePlacement}
use Rattle.row_bridge.specs.Law.{HoldEachOnce}
use Rattle.ocp_anneal.specs.Improved.{IsImprovedPlacement}

-- ---- lists that hold each number as often

-- what stands around a number
record Around (x : ℕ) (ys : List ℕ) : Type 0 where
  front : List ℕ
  back : List ℕ
  is : ys ≡ front ++ x ∷ back

around : (x : ℕ) (ys : List ℕ) → 0 < times_in ys x → Around x ys
around x [] h = absurd (omega arith)
around x (y ∷ ys) h = by (y == x) refl (around x ys) where
  by : (t : Bool) → (y == x) ≡ t → (0 < times_in ys x → Around x ys) → Around x (y ∷ ys)
  by true e next = record { front = []; back = ys; is = ap (λ (z : ℕ). z ∷ ys) (eqb-true y x e) }
  by false e next =
      let r = next (let a = times_no y ys x e in omega arith) in
      record { front = y ∷ r.front; back = r.back; is = ap (λ (zs : List ℕ). y ∷ zs) r.is }

permutes : (xs ys : List ℕ) → ((c : ℕ) → times_in xs c ≡ times_in ys c) → IsPermutation xs ys
permutes [] [] h = IsPermutation-refl []
permutes [] (y ∷ ys) h = let a = h y in let b = times_yes y ys y (eq-eqb y y refl) in absurd (omega arith)
permutes (x ∷ xs) ys h =
    let r = around x ys (let a = h x in let b = times_yes x xs x (eq-eqb x x refl) in omega arith) in
    let f : ℕ → ℕ → ℕ = λ c d. cond (d == c) 1 0 in
    let rest = permutes xs (r.front ++ r.back)
    (λ c.
    let a = h c in
    let b = ap (λ (zs : List ℕ). times_in zs c) r.is in
    let d = sum_by-append (f c) r.front (x ∷ r.back) in
    let e = sum_by-append (f c) r.front r.back in
    let g = sum_by-cons (f c) x xs in
    let i = sum_by-cons (f c) x r.back in
    omega (arith, a, b, d, e, g, i)) in
    subst (λ (zs : List ℕ). IsPermutation (x ∷ xs) zs) (sym r.is)
    (IsPermutation-trans (x ∷ xs) (x ∷ (r.front ++ r.back)) (r.front ++ x ∷ r.back) (IsPermutation-cons x xs (r.front ++ r.back) rest)
    (IsPermutation-sym (r.front ++ x ∷ r.back) (x ∷ (r.front ++ r.back)) (IsPermutation-middle r.front x r.back)))

each_is_held : (n many : ℕ) (rows : List (List ℕ)) → HoldsEachOnce n many rows → HoldEachOnce n rows
each_is_held n many rows h = permutes (flat_map (λ row. row) rows) (numbers 0 n) (λ c. by c (cases_lt c n)) where
  by : (c : ℕ) → (c < n) ⊎ (n ≤ c) → times_in (flat_map (λ row. row) rows) c ≡ times_in (numbers 0 n) c
  by c (inl l) = let a = times_flat rows c in let b = h.once c l in let d = numbers_within 0 n c (omega arith) (omega arith) in omega arith
  by c (inr l) = let a = times_flat rows c in let b = h.others c l in let d = numbers_beyond 0 n c (omega arith) in omega arith

-- ---- columns

module _ (l : Library) (n : InMemory) (passed : HasPassed false l) (given : IsDrawableIn l n) where
  pub narrow_sum : (widths columns : List ℕ) → ((k : AbstractNetlist) → IsSeenAs n k → widths ≡ instance_widths l k.instances) → length widths < 2 ^ 32
      → columns ≡ map (λ w. w / 500) widths → sum columns ≤ 2 ^ 60
  narrow_sum widths columns are few whole =
      let k = known n in
      let seen = known_seen n given.sound in
      let total = columns_sum k l passed (orderly l n passed given k seen) in
      let is : columns ≡ instance_columns l k.instances = whole ∙ columns_of l k.instances widths (are k seen) in
      let a = ap length whole in
      let b = length-map widths (λ (w : ℕ). w / 500) in
      let d = ap length is in
      let e = ap sum is in
      omega (arith, total, few, a, b, d, e)

-- ---- rows that are fair

-- in memory
pub fair_here : (columns shown : List ℕ) (rows same : List (Vec ℕ)) (many : ℕ) → shown ≡ columns → same ≡ rows
    → HoldsEachOnce (length shown) many (map items same) × AreEven shown (map items same) → HoldsEachOnce (length columns) many (map items rows) × AreEven columns (map items rows)
fair_here columns shown rows same many e f h =
    subst (λ (cs : List ℕ). HoldsEachOnce (length cs) many (map items rows) × AreEven cs (map items rows)) e
    (subst (λ (rs : List (Vec ℕ)). HoldsEachOnce (length shown) many (map items rs) × AreEven shown (map items rs)) f h)

module _ (l : Library) (n : InMemory) (p : InRow) (placed : IsRowPlacementOf l n p) (columns : List ℕ) (rows : List (List ℕ))
    (are : (k : AbstractNetlist) → IsSeenAs n k → columns ≡ instance_columns l k.instances) (many : ℕ) (as_many : many ≡ length p.rows)
    (each : HoldsEachOnce (length columns) many rows) where
  pub fair_once : HoldEachOnce (length n.instances) rows
  fair_once =
      let k = known n in
      let seen = known_seen n placed.drawable.sound in
      let count : length columns ≡ length n.instances = ap length (are k seen) ∙ length-map k.instances _ ∙ ap length (seen_instances n k seen) ∙ length-map n.instances member_of in
      subst (λ (m : ℕ). HoldEachOnce m rows) count (each_is_held (length columns) many rows each)

  fair_count : length rows ≡ length p.rows
  fair_count = each.count ∙ as_many

  pub fair_many : (1 ≤ length rows) × (length rows ≤ 256)
  fair_many =
      let are_rows = placed.rows (known n) (known_seen n placed.drawable.sound) in
      let some = are_rows.some in
      let few = are_rows.few in
      let same = fair_count in
      (omega (arith, some, same), omega (arith, few, same))

-- ---- improved placements

-- a placement that is as stable, and no longer
pub still_improved : (l : Library) (n : InMemory) (seed moves : ℕ) (first old new : InRow) → IsImprovedPlacement l n seed moves first old
    → ((k : AbstractNetlist) → IsSeenAs n k → IsStablePlacement k l (rows_of k old) → IsStablePlacement k l (rows_of k new))
    → ((k : AbstractNetlist) → IsSeenAs n k → half_perimeter k l (rows_of k new) ≤ half_perimeter k l (rows_of k old)) → IsImprovedPlacement l n seed moves first new
still_improved l n seed moves first old new better stable lower = λ k seen. record {
  stable = stable k seen (better k seen).stable;
  lower = (let a = lower k seen in let b = (better k seen).lower in omega (arith, a, b));
}
