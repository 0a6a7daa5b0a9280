-- The half perimeter of the box of points hangs on which points there are, not on their order.
use Rattle.std.proofs.Common.{◌≡◌, ◌⊎◌, inl, inr, ℕ, ◌+◌, List, [], ◌∷◌, map, refl, sym, ap, subst, ◌∙◌, arith}
use Rattle.std.specs.Prelude.{ℤ, ◌-ℤ◌, ◌≤ℤ◌}
use Rattle.std.specs.Int.{int_min, int_max}
use Rattle.std.proofs.lemmas.Int.{ints, by_lt_z, int_min_is, int_max_is}
use Rattle.vlsi_base.specs.Member.{In, here, there}
use Rattle.cell_model.specs.Access.{Point}
use Rattle.cell_model.proofs.Members.{In-map, In-map_back}
use Rattle.ocp_rows.specs.Placement.{natural}
use Rattle.ocp_rows.specs.Length.{least, greatest, extent, half_box}

min_is : (x y : ℤ) → (int_min x y ≡ x) ⊎ (int_min x y ≡ y)
min_is x y = by_lt_z x y (λ a. inl (let b = int_min_is x y in omega (arith, ints))) (λ a. inr (let b = int_min_is x y in omega (arith, ints)))

max_is : (x y : ℤ) → (int_max x y ≡ x) ⊎ (int_max x y ≡ y)
max_is x y = by_lt_z x y (λ a. inr (let b = int_max_is x y in omega (arith, ints))) (λ a. inl (let b = int_max_is x y in omega (arith, ints)))

-- the least is one of them, and is not above any
least_in : (x : ℤ) (xs : List ℤ) → In (least x xs) (x ∷ xs)
least_in x [] = here
least_in x (y ∷ ys) = by (least (int_min x y) ys) (least_in (int_min x y) ys) where
  by : (v : ℤ) → In v (int_min x y ∷ ys) → In v (x ∷ y ∷ ys)
  by v here = elim (min_is x y) [ inl e ↦ subst (λ (z : ℤ). In z (x ∷ y ∷ ys)) (sym e) here | inr e ↦ subst (λ (z : ℤ). In z (x ∷ y ∷ ys)) (sym e) (there here) ]
  by v (there i) = there (there i)

pub least_first : (x : ℤ) (xs : List ℤ) → least x xs ≤ℤ x
least_first x [] = omega (arith, ints)
least_first x (y ∷ ys) = let a = least_first (int_min x y) ys in let b = int_min_is x y in omega (arith, ints)

head_or : (z x : ℤ) (xs : List ℤ) → In z (x ∷ xs) → (z ≡ x) ⊎ In z xs
head_or z x xs here = inl refl
head_or z x xs (there i) = inr i

least_low : (xs : List ℤ) (x z : ℤ) → In z (x ∷ xs) → least x xs ≤ℤ z
least_low [] x z i = elim (head_or z x [] i) [ inl e ↦ omega (arith, ints) | inr j ↦ elim j [ ] ]
least_low (y ∷ ys) x z i = elim (head_or z x (y ∷ ys) i) [
  | inl e ↦ let a = least_first (int_min x y) ys in let b = int_min_is x y in omega (arith, ints)
  | inr j ↦ elim (head_or z y ys j) [
    | inl e ↦ let a = least_first (int_min x y) ys in let b = int_min_is x y in omega (arith, ints)
    | inr k ↦ least_low ys (int_min x y) z (there k)
  ]
]

greatest_in : (x : ℤ) (xs : List ℤ) → In (greatest x xs) (x ∷ xs)
greatest_in x [] = here
greatest_in x (y ∷ ys) = by (greatest (int_max x y) ys) (greatest_in (int_max x y) ys) where
  by : (v : ℤ) → In v (int_max x y ∷ ys) → In v (x ∷ y ∷ ys)
  by v here = elim (max_is x y) [ inl e ↦ subst (λ (z : ℤ). In z (x ∷ y ∷ ys)) (sym e) here | inr e ↦ subst (λ (z : ℤ). In z (x ∷ y ∷ ys)) (sym e) (there here) ]
  by v (there i) = there (there i)

pub greatest_first : (x : ℤ) (xs : List ℤ) → x ≤ℤ greatest x xs
greatest_first x [] = omega (arith, ints)
greatest_first x (y ∷ ys) = let a = greatest_first (int_max x y) ys in let b = int_max_is x y in omega (arith, ints)

greatest_high : (xs : List ℤ) (x z : ℤ) → In z (x ∷ xs) → z ≤ℤ greatest x xs
greatest_high [] x z i = elim (head_or z x [] i) [ inl e ↦ omega (arith, ints) | inr j ↦ elim j [ ] ]
greatest_high (y ∷ ys) x z i = elim (head_or z x (y ∷ ys) i) [
  | inl e ↦ let a = greatest_first (int_max x y) ys in let b = int_max_is x y in omega (arith, ints)
  | inr j ↦ elim (head_or z y ys j) [
    | inl e ↦ let a = greatest_first (int_max x y) ys in let b = int_max_is x y in omega (arith, ints)
    | inr k ↦ greatest_high ys (int_max x y) z (there k)
  ]
]

same_order : (a b : ℤ) → a ≤ℤ b → b ≤ℤ a → a ≡ b
same_order a b p q = omega (arith, ints)

-- the same numbers reach as far
same_extent : (xs ys : List ℤ) → ((z : ℤ) → In z xs → In z ys) → ((z : ℤ) → In z ys → In z xs) → extent xs ≡ extent ys
same_extent [] [] f g = refl
same_extent [] (y ∷ ys) f g = elim (g y here) [ ]
same_extent (x ∷ xs) [] f g = elim (f x here) [ ]
same_extent (x ∷ xs) (y ∷ ys) f g =
    let low : least x xs ≡ least y ys =
    same_order (least x xs) (least y ys) (least_low xs x (least y ys) (g (least y ys) (least_in y ys))) (least_low ys y (least x xs) (f (least x xs) (least_in x xs))) in
    let high : greatest x xs ≡ greatest y ys =
    same_order (greatest x xs) (greatest y ys) (greatest_high ys y (greatest x xs) (f (greatest x xs) (greatest_in x xs)))
    (greatest_high xs x (greatest y ys) (g (greatest y ys) (greatest_in y ys))) in
    ap (λ (a : ℤ). natural (greatest x xs -ℤ a)) low ∙ ap (λ (a : ℤ). natural (a -ℤ least y ys)) high

mapped_in : (f : Point → ℤ) (ps qs : List Point) → ((q : Point) → In q ps → In q qs) → (z : ℤ) → In z (map f ps) → In z (map f qs)
mapped_in f ps qs each z i = let r = In-map_back f z ps i in subst (λ (x : ℤ). In x (map f qs)) r.2 (In-map f r.0 qs (each r.0 r.1))

pub same_box : (ps qs : List Point) → ((q : Point) → In q ps → In q qs) → ((q : Point) → In q qs → In q ps) → half_box ps ≡ half_box qs
same_box ps qs f g =
    let across = same_extent (map (λ q. q.0) ps) (map (λ q. q.0) qs) (mapped_in (λ q. q.0) ps qs f) (mapped_in (λ q. q.0) qs ps g) in
    let along = same_extent (map (λ q. q.1) ps) (map (λ q. q.1) qs) (mapped_in (λ q. q.1) ps qs f) (mapped_in (λ q. q.1) qs ps g) in
    ap (λ (k : ℕ). k + extent (map (λ q. q.1) ps)) across ∙ ap (λ (k : ℕ). extent (map (λ q. q.0) qs) + k) along
