-- Boxes of points of natural numbers.
use Rattle.std.proofs.Common.{◌≡◌, ℕ, ◌+◌, ◌-◌, ◌≤◌, min, max, List, [], ◌∷◌, map, refl, ap, ap₂, ◌∙◌, arith}
use Rattle.std.specs.Prelude.{ℤ, pos, ◌-ℤ◌}
use Rattle.std.specs.Int.{int_min, int_max}
use Rattle.std.proofs.lemmas.Int.{ints, int_min_is, int_max_is}
use Rattle.cell_model.specs.Access.{Point}
use Rattle.ocp_rows.specs.Placement.{natural}
use Rattle.ocp_rows.specs.Length as named
use Rattle.row_meaning.specs.Length.{least, greatest, extent}

min_is : (x y : ℕ) → int_min (pos x) (pos y) ≡ pos (min x y)
min_is x y = let a = int_min_is (pos x) (pos y) in omega (arith, ints)

max_is : (x y : ℕ) → int_max (pos x) (pos y) ≡ pos (max x y)
max_is x y = let a = int_max_is (pos x) (pos y) in omega (arith, ints)

least_is : (x : ℕ) (xs : List ℕ) → named.least (pos x) (map pos xs) ≡ pos (least x xs)
least_is x [] = refl
least_is x (y ∷ ys) = ap (λ (z : ℤ). named.least z (map pos ys)) (min_is x y) ∙ least_is (min x y) ys

greatest_is : (x : ℕ) (xs : List ℕ) → named.greatest (pos x) (map pos xs) ≡ pos (greatest x xs)
greatest_is x [] = refl
greatest_is x (y ∷ ys) = ap (λ (z : ℤ). named.greatest z (map pos ys)) (max_is x y) ∙ greatest_is (max x y) ys

least_low : (x : ℕ) (xs : List ℕ) → least x xs ≤ x
least_low x [] = omega arith
least_low x (y ∷ ys) = let a = least_low (min x y) ys in omega arith

greatest_high : (x : ℕ) (xs : List ℕ) → x ≤ greatest x xs
greatest_high x [] = omega arith
greatest_high x (y ∷ ys) = let a = greatest_high (max x y) ys in omega arith

pub extent_is : (xs : List ℕ) → named.extent (map pos xs) ≡ extent xs
extent_is [] = refl
extent_is (x ∷ xs) =
    let low = least_low x xs in
    let high = greatest_high x xs in
    let e : pos (greatest x xs) -ℤ pos (least x xs) ≡ pos (greatest x xs - least x xs) = omega (arith, ints) in
    ap₂ (λ (a b : ℤ). natural (a -ℤ b)) (greatest_is x xs) (least_is x xs) ∙ ap natural e

map_map : {X : Type 0} (f : X → Point) (g : Point → ℤ) (h : X → ℕ) (xs : List X) → ((x : X) → g (f x) ≡ pos (h x)) → map g (map f xs) ≡ map pos (map h xs)
map_map f g h [] e = refl
map_map f g h (x ∷ xs) e = ap₂ (λ (z : ℤ) (zs : List ℤ). z ∷ zs) (e x) (map_map f g h xs e)

-- the box of points that are shown by two functions
pub box_is : {X : Type 0} (f g : X → ℕ) (xs : List X) → named.half_box (map (λ x. (pos (f x), pos (g x))) xs) ≡ extent (map f xs) + extent (map g xs)
box_is f g xs =
    ap₂ (λ (a b : ℕ). a + b)
    (ap named.extent (map_map (λ x. (pos (f x), pos (g x))) (λ q. q.0) f xs (λ x. refl)) ∙ extent_is (map f xs))
    (ap named.extent (map_map (λ x. (pos (f x), pos (g x))) (λ q. q.1) g xs (λ x. refl)) ∙ extent_is (map g xs))
