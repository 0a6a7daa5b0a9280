-- How far points reach, point by point, and sums class by class.
use Rattle.std.proofs.Common.{◌≡◌, ℕ, ◌+◌, ◌-◌, ◌≤◌, true, false, min, max, List, [], ◌∷◌, ◌++◌, map, Option, Some, None, ℤ, pos, refl, sym, ap, ◌∙◌, arith}
use Rattle.std.specs.Prelude.{◌≤ℤ◌, ◌-ℤ◌}
use Rattle.std.specs.Int.{int_min, int_max}
use Rattle.std.proofs.lemmas.Int.{ints, int_min_is, int_max_is}
use Rattle.std.proofs.lemmas.Option.{same_Some}
use Rattle.std.proofs.lemmas.Simd.{map-map}
use Rattle.cell_model.specs.Access.{Point}
use Rattle.ocp_rows.specs.Placement.{natural}
use Rattle.ocp_rows.specs.Length.{least, greatest, extent, half_box}
use Rattle.ocp_place.specs.declared.row.Site.{Site as Placed}
use Rattle.ocp_place.specs.Reaches.{site_of}
use Rattle.ocp_place.specs.Spans.{along_axis, span}
use Rattle.ocp_place.proofs.Boxes.{least_first, greatest_first}

least_push : (x : ℤ) (xs : List ℤ) (z : ℤ) → least x (xs ++ z ∷ []) ≡ int_min (least x xs) z
least_push x [] z = refl
least_push x (y ∷ ys) z = least_push (int_min x y) ys z

greatest_push : (x : ℤ) (xs : List ℤ) (z : ℤ) → greatest x (xs ++ z ∷ []) ≡ int_max (greatest x xs) z
greatest_push x [] z = refl
greatest_push x (y ∷ ys) z = greatest_push (int_max x y) ys z

min_pos : (a b c : ℕ) → c ≡ min b a → int_min (pos a) (pos b) ≡ pos c
min_pos a b c e = let h = int_min_is (pos a) (pos b) in omega (arith, ints)

max_pos : (a b c : ℕ) → c ≡ max b a → int_max (pos a) (pos b) ≡ pos c
max_pos a b c e = let h = int_max_is (pos a) (pos b) in omega (arith, ints)

-- the first number
pub span_first : (z : ℕ) (xs : List ℤ) → None ≡ span xs → Some (pos z, pos z) ≡ span (xs ++ pos z ∷ [])
span_first z [] e = refl
span_first z (x ∷ xs) e = absurd (cc e)

some_parts : (a b x y : ℤ) → ◌≡◌ {A = Option (ℤ × ℤ)} (Some (a, b)) (Some (x, y)) → (a ≡ x) × (b ≡ y)
some_parts a b x y e =
    let same : ◌≡◌ {A = ℤ × ℤ} (a, b) (x, y) = same_Some (a, b) (x, y) e in
    (ap (λ (r : ℤ × ℤ). r.0) same, ap (λ (r : ℤ × ℤ). r.1) same)

-- one more
pub span_next : (low high z less more : ℕ) (xs : List ℤ) → less ≡ min z low → more ≡ max z high → Some (pos low, pos high) ≡ span xs → Some (pos less, pos more) ≡ span (xs ++ pos z ∷ [])
span_next low high z less more [] a b e = absurd (cc e)
span_next low high z less more (x ∷ xs) a b e =
    let parts = some_parts (pos low) (pos high) (least x xs) (greatest x xs) e in
    let first : least x (xs ++ pos z ∷ []) ≡ pos less = least_push x xs (pos z) ∙ ap (λ (v : ℤ). int_min v (pos z)) (sym parts.0) ∙ min_pos low z less a in
    let last : greatest x (xs ++ pos z ∷ []) ≡ pos more = greatest_push x xs (pos z) ∙ ap (λ (v : ℤ). int_max v (pos z)) (sym parts.1) ∙ max_pos high z more b in
    ap (λ (v : ℤ). Some (v, pos more)) (sym first) ∙ ap (λ (v : ℤ). Some (least x (xs ++ pos z ∷ []), v)) (sym last)

pub extent_none : (xs : List ℤ) → None ≡ span xs → 0 ≡ extent xs
extent_none [] e = refl
extent_none (x ∷ xs) e = absurd (cc e)

pub extent_some : (low high : ℕ) (xs : List ℤ) → Some (pos low, pos high) ≡ span xs → (low ≤ high) × (high - low ≡ extent xs)
extent_some low high [] e = absurd (cc e)
extent_some low high (x ∷ xs) e =
    let parts = some_parts (pos low) (pos high) (least x xs) (greatest x xs) e in
    let a = least_first x xs in let b = greatest_first x xs in
    let order : low ≤ high = ordered low high x (least x xs) (greatest x xs) parts.0 parts.1 a b in
    (order, far low high order ∙ ap (λ (v : ℤ). natural (v -ℤ pos low)) parts.1 ∙ ap (λ (v : ℤ). natural (greatest x xs -ℤ v)) parts.0)
  where
    ordered : (low high : ℕ) (x l g : ℤ) → pos low ≡ l → pos high ≡ g → l ≤ℤ x → x ≤ℤ g → low ≤ high
    ordered low high x l g a b c d = omega (arith, ints)

    far : (low high : ℕ) → low ≤ high → high - low ≡ natural (pos high -ℤ pos low)
    far low high h =
        let e : pos high -ℤ pos low ≡ pos (high - low) = omega (arith, ints) in
        sym (ap natural e)

-- the box of points is that of their coordinates
pub box_of : (sites : List Placed) → extent (map (λ s. pos (along_axis false s)) sites) + extent (map (λ s. pos (along_axis true s)) sites) ≡ half_box (map (λ s. (site_of s).1) sites)
box_of sites =
    ap (λ (xs : List ℤ). extent xs + extent (map (λ (s : Placed). pos (along_axis true s)) sites)) (sym (map-map (λ (q : Point). q.0) (λ (s : Placed). (site_of s).1) sites))
    ∙ ap (λ (xs : List ℤ). extent (map (λ (q : Point). q.0) (map (λ (s : Placed). (site_of s).1) sites)) + extent xs) (sym (map-map (λ (q : Point). q.1) (λ (s : Placed). (site_of s).1) sites))
