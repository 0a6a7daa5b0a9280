-- Sums over the roots of trees.
use Rattle.std.proofs.Common.{◌≡◌, inl, inr, ℕ, ◌+◌, ◌<◌, ◌≤◌, Bool, true, false, List, [], ◌∷◌, length, take, get_or, filter, refl, subst, arith, if◌then◌else◌}
use Prim.Native.Nat.{zero, suc}
use Rattle.std.specs.Prelude.{IsTrue}
use Rattle.std.specs.List.{range_with_len}
use Rattle.graph_theory.specs.Graph.{Graph}
use Rattle.cell_match.specs.Places.{times}
use Rattle.cell_match.proofs.Numbers.{one_tells}
use Rattle.boog_tree.specs.Trees.{is_root, tree_roots}
use Rattle.boog_tree.specs.Sums.{total}

pub total_next : (t : ℕ → ℕ) (xs : List ℕ) (i : ℕ) → i < length xs → total t (take (i + 1) xs) ≡ total t (take i xs) + t (get_or xs i 0)
total_next t xs i low = subst (λ (k : ℕ). total t (take k xs) ≡ total t (take i xs) + t (get_or xs i 0)) (let e : suc i ≡ i + 1 = omega arith in e) (go xs i low) where
  go : (xs : List ℕ) (i : ℕ) → i < length xs → total t (take (suc i) xs) ≡ total t (take i xs) + t (get_or xs i 0)
  go [] i h = absurd (omega (arith, h))
  go (x ∷ xs) zero h = omega arith
  go (x ∷ xs) (suc i) h = let e = go xs i (omega (arith, h)) in omega (arith, e)

-- what a filter lets through
pub passed : (f : ℕ → Bool) (x : ℕ) (xs : List ℕ) → 0 < times x (filter f xs) → IsTrue (f x) × (0 < times x xs)
passed f x [] some = absurd (omega (arith, some))
passed f x (y ∷ ys) some = go (λ h. passed f x ys h) (f y) refl some where
  more : 0 < times x ys → 0 < times x (y ∷ ys)
  more h = omega (arith, h)

  go : (0 < times x (filter f ys) → IsTrue (f x) × (0 < times x ys)) → (b : Bool) → f y ≡ b → 0 < times x (if b then y ∷ filter f ys else filter f ys)
      → IsTrue (f x) × (0 < times x (y ∷ ys))
  go rest false e h = let r = rest h in (r.0, more r.1)
  go rest true e h = elim (one_tells y x) [
    | inl is ↦ let o = is.1 in (subst (λ (n : ℕ). IsTrue (f n)) is.0 e, omega (arith, o))
    | inr isnt ↦ let o = isnt.1 in let r = rest (omega (arith, h, o)) in (r.0, more r.1)
  ]

in_range : (x a n : ℕ) → 0 < times x (range_with_len a n) → x < a + n
in_range x a zero some = absurd (omega (arith, some))
in_range x a (suc n) some = elim (one_tells a x) [
  | inl is ↦ let e = is.0 in omega (arith, e)
  | inr isnt ↦ let o = isnt.1 in let r = in_range x (a + 1) n (omega (arith, some, o)) in omega (arith, r)
]

-- a root is a number of the graph
pub root_is : (held : ℕ) (g : Graph) (x : ℕ) → 0 < times x (tree_roots held g) → IsTrue (is_root held g x) × (x < held + length g.nodes)
root_is held g x some =
    let r = passed (is_root held g) x (range_with_len 0 (held + length g.nodes)) some in
    let low = in_range x 0 (held + length g.nodes) r.1 in
    (r.0, omega (arith, low))

filter_few : (f : ℕ → Bool) (xs : List ℕ) → length (filter f xs) ≤ length xs
filter_few f [] = omega arith
filter_few f (x ∷ xs) = go (filter_few f xs) (f x) where
  go : length (filter f xs) ≤ length xs → (b : Bool) → length (if b then x ∷ filter f xs else filter f xs) ≤ length (x ∷ xs)
  go few true = omega (arith, few)
  go few false = omega (arith, few)

range_long : (a n : ℕ) → length (range_with_len a n) ≡ n
range_long a zero = refl
range_long a (suc n) = let e = range_long (a + 1) n in omega (arith, e)

pub roots_few : (held : ℕ) (g : Graph) → length (tree_roots held g) ≤ held + length g.nodes
roots_few held g =
    let a = filter_few (is_root held g) (range_with_len 0 (held + length g.nodes)) in
    let b = range_long 0 (held + length g.nodes) in
    omega (arith, a, b)
