-- Cuts that are alike: each stands for the other, but for what their members cost.
use Rattle.std.proofs.Common.{◌≡◌, ◌≢◌, ◌⊎◌, inl, inr, ℕ, ◌<◌, ◌≤◌, Bool, true, false, List, [], ◌∷◌, map, slice_index, nat_eq, if◌then◌else◌, ap, ap₂, refl, sym, subst, ◌∙◌, arith}
use Prim.Native.Nat.{suc}
use Rattle.std.proofs.lemmas.Bool.{eqb-true, eqb-false}
use Rattle.truth_tab.specs.Table.{value_of}
use Rattle.cell_match.specs.Places.{times}
use Rattle.cell_match.proofs.Numbers.{one_tells, one_same}
use Rattle.cell_match.specs.declared.cut.Cut.{Cut}
use Rattle.cell_match.specs.Computes.{cut_value}
use Rattle.boog_tree.specs.Sums.{inner_sum}
use Rattle.boog_tree.specs.Alike.{MayStand, HaveAlike, AreAlike}
use Rattle.boog_tree.specs.Enough.{StandsFor}

-- the member of the second list where y stands in the first
abbrev pub carried : List ℕ → List ℕ → ℕ → ℕ
carried [] zs y = y
carried (x ∷ xs) [] y = y
carried (x ∷ xs) (z ∷ zs) y = if nat_eq x y then z else carried xs zs y

carried_cons : (x : ℕ) (xs : List ℕ) (z : ℕ) (zs : List ℕ) (y : ℕ)
    → ((x ≡ y) × (carried (x ∷ xs) (z ∷ zs) y ≡ z)) ⊎ ((x ≢ y) × (carried (x ∷ xs) (z ∷ zs) y ≡ carried xs zs y))
carried_cons x xs z zs y = go (nat_eq x y) refl where
  go : (t : Bool) → nat_eq x y ≡ t → ((x ≡ y) × ((if t then z else carried xs zs y) ≡ z)) ⊎ ((x ≢ y) × ((if t then z else carried xs zs y) ≡ carried xs zs y))
  go true e = inl (eqb-true x y e, refl)
  go false e = inr (eqb-false x y e, refl)

-- of the rest of a list
rest_some : (x y : ℕ) (xs : List ℕ) → x ≢ y → 0 < times y (x ∷ xs) → 0 < times y xs
rest_some x y xs differ some = elim (one_tells x y) [
  | inl is ↦ absurd (differ is.0)
  | inr isnt ↦ let o = isnt.1 in omega (arith, some, o)
]

rest_once : (x : ℕ) (xs : List ℕ) → ((y : ℕ) → times y (x ∷ xs) ≤ 1) → (y : ℕ) → times y xs ≤ 1
rest_once x xs once y = let o = once y in omega (arith, o)

-- what stands first doesn't stand behind it
first_once : (x y : ℕ) (xs : List ℕ) → times x (x ∷ xs) ≤ 1 → 0 < times y xs → x ≢ y
first_once x y xs once some same = let o = one_same x in let e = ap (λ (k : ℕ). times k xs) same in omega (arith, once, some, o, e)

map_same : (f g : ℕ → ℕ) (xs : List ℕ) → ((x : ℕ) → 0 < times x xs → f x ≡ g x) → map f xs ≡ map g xs
map_same f g [] same = refl
map_same f g (x ∷ xs) same =
    let o = one_same x in
    ap₂ (λ (y : ℕ) (ys : List ℕ). y ∷ ys) (same x (omega (arith, o))) (map_same f g xs (λ y some. same y (omega (arith, some))))

values_same : (f g : ℕ → Bool) (xs : List ℕ) → ((x : ℕ) → 0 < times x xs → f x ≡ g x) → map f xs ≡ map g xs
values_same f g [] same = refl
values_same f g (x ∷ xs) same =
    let o = one_same x in
    ap₂ (λ (y : Bool) (ys : List Bool). y ∷ ys) (same x (omega (arith, o))) (values_same f g xs (λ y some. same y (omega (arith, some))))

values_twice : (f : ℕ → Bool) (to : ℕ → ℕ) (xs : List ℕ) → map f (map to xs) ≡ map (λ y. f (to y)) xs
values_twice f to [] = refl
values_twice f to (x ∷ xs) = ap (λ (l : List Bool). f (to x) ∷ l) (values_twice f to xs)

module _ (inner : ℕ → Bool) where
  tail_alike : (z : ℕ) (zs : List ℕ) (x : ℕ) (xs : List ℕ) → HaveAlike inner (z ∷ zs) (x ∷ xs) → HaveAlike inner zs xs
  tail_alike z zs x xs are = record {
    many = let e = are.many in omega (arith, e);
    each = λ i low. are.each (suc i) (omega (arith, low));
  }

  head_alike : (z : ℕ) (zs : List ℕ) (x : ℕ) (xs : List ℕ) → HaveAlike inner (z ∷ zs) (x ∷ xs) → MayStand inner z x
  head_alike z zs x xs are = are.each 0 (omega arith)

  carried_may : (zs xs : List ℕ) → HaveAlike inner zs xs → (y : ℕ) → 0 < times y xs → MayStand inner (carried xs zs y) y
  carried_may zs [] are y some = absurd (omega (arith, some))
  carried_may [] (x ∷ xs) are y some = let e = are.many in absurd (omega (arith, e))
  carried_may (z ∷ zs) (x ∷ xs) are y some = elim (carried_cons x xs z zs y) [
    | inl is ↦
        subst (λ (k : ℕ). MayStand inner k y) (sym is.1) (subst (λ (k : ℕ). MayStand inner z k) is.0 (head_alike z zs x xs are))
    | inr isnt ↦
        subst (λ (k : ℕ). MayStand inner k y) (sym isnt.1) (carried_may zs xs (tail_alike z zs x xs are) y (rest_some x y xs isnt.0 some))
  ]

  carried_into : (zs xs : List ℕ) → HaveAlike inner zs xs → (y : ℕ) → 0 < times y xs → 0 < times (carried xs zs y) zs
  carried_into zs [] are y some = absurd (omega (arith, some))
  carried_into [] (x ∷ xs) are y some = let e = are.many in absurd (omega (arith, e))
  carried_into (z ∷ zs) (x ∷ xs) are y some = elim (carried_cons x xs z zs y) [
    | inl is ↦ let o = one_same z in subst (λ (k : ℕ). 0 < times k (z ∷ zs)) (sym is.1) (let h : 0 < times z (z ∷ zs) = omega (arith, o) in h)
    | inr isnt ↦
        let h = carried_into zs xs (tail_alike z zs x xs are) y (rest_some x y xs isnt.0 some) in
        subst (λ (k : ℕ). 0 < times k (z ∷ zs)) (sym isnt.1) (let h_too : 0 < times (carried xs zs y) (z ∷ zs) = omega (arith, h) in h_too)
  ]

  carried_onto : (zs xs : List ℕ) → HaveAlike inner zs xs → ((x : ℕ) → times x xs ≤ 1) → (w : ℕ) → 0 < times w zs
      → (y : ℕ) × (0 < times y xs) × (carried xs zs y ≡ w)
  carried_onto [] xs are once w some = absurd (omega (arith, some))
  carried_onto (z ∷ zs) [] are once w some = let e = are.many in absurd (omega (arith, e))
  carried_onto (z ∷ zs) (x ∷ xs) are once w some = elim (one_tells z w) [
    | inl is ↦ elim (carried_cons x xs z zs x) [
      | inl here ↦ let o = one_same x in (x, omega (arith, o), here.1 ∙ is.0)
      | inr isnt ↦ absurd (isnt.0 refl)
    ]
    | inr isnt ↦
        let o = isnt.1 in
        let m = carried_onto zs xs (tail_alike z zs x xs are) (rest_once x xs once) w (omega (arith, some, o)) in
        let there = m.1 in
        let differ = first_once x m.0 xs (once x) there in
        elim (carried_cons x xs z zs m.0) [
          | inl is ↦ absurd (differ is.0)
          | inr other ↦ (m.0, omega (arith, there), other.1 ∙ m.2)
        ]
  ]

  carried_apart : (zs xs : List ℕ) → HaveAlike inner zs xs → ((z : ℕ) → times z zs ≤ 1) → (v w : ℕ) → 0 < times v xs → 0 < times w xs
      → carried xs zs v ≡ carried xs zs w → v ≡ w
  carried_apart zs [] are once v w some some_too e = absurd (omega (arith, some))
  carried_apart [] (x ∷ xs) are once v w some some_too e = let m = are.many in absurd (omega (arith, m))
  carried_apart (z ∷ zs) (x ∷ xs) are once v w some some_too e = elim (carried_cons x xs z zs v) [
    | inl is ↦ elim (carried_cons x xs z zs w) [
      | inl too ↦ sym is.0 ∙ too.0
      | inr isnt ↦
          absurd (first_once z (carried xs zs w) zs (once z) (carried_into zs xs (tail_alike z zs x xs are) w (rest_some x w xs isnt.0 some_too))
          (sym is.1 ∙ e ∙ isnt.1))
    ]
    | inr isnt ↦ elim (carried_cons x xs z zs w) [
      | inl too ↦
          absurd (first_once z (carried xs zs v) zs (once z) (carried_into zs xs (tail_alike z zs x xs are) v (rest_some x v xs isnt.0 some))
          (sym too.1 ∙ sym e ∙ isnt.1))
      | inr other ↦
          carried_apart zs xs (tail_alike z zs x xs are) (rest_once z zs once) v w (rest_some x v xs isnt.0 some) (rest_some x w xs other.0 some_too)
          (sym isnt.1 ∙ e ∙ other.1)
    ]
  ]

  carried_all : (zs xs : List ℕ) → HaveAlike inner zs xs → ((x : ℕ) → times x xs ≤ 1) → map (carried xs zs) xs ≡ zs
  carried_all [] [] are once = refl
  carried_all (z ∷ zs) [] are once = let e = are.many in absurd (omega (arith, e))
  carried_all [] (x ∷ xs) are once = let e = are.many in absurd (omega (arith, e))
  carried_all (z ∷ zs) (x ∷ xs) are once =
      ap₂ (λ (y : ℕ) (ys : List ℕ). y ∷ ys) first
      (map_same (carried (x ∷ xs) (z ∷ zs)) (carried xs zs) xs rest ∙ carried_all zs xs (tail_alike z zs x xs are) (rest_once x xs once)) where
        first : carried (x ∷ xs) (z ∷ zs) x ≡ z
        first = elim (carried_cons x xs z zs x) [
          | inl is ↦ is.1
          | inr isnt ↦ absurd (isnt.0 refl)
        ]

        rest : (y : ℕ) → 0 < times y xs → carried (x ∷ xs) (z ∷ zs) y ≡ carried xs zs y
        rest y some = elim (carried_cons x xs z zs y) [
          | inl is ↦ absurd (first_once x y xs (once x) some is.0)
          | inr isnt ↦ isnt.1
        ]

  same_kind : (x y : ℕ) → MayStand inner x y → inner x ≡ inner y
  same_kind x y may = elim may [
    | inl same ↦ ap inner same
    | inr both ↦ both.0 ∙ sym both.1
  ]

  same_outside : (x y : ℕ) → MayStand inner x y → inner y ≡ false → x ≡ y
  same_outside x y may out = elim may [
    | inl same ↦ same
    | inr both ↦ let e : true ≡ false = sym both.1 ∙ out in cc
  ]

  pub alike_stands : (b : ℕ → ℕ) (c d : Cut 6) → AreAlike inner c d → inner_sum inner b c.leaves.items ≤ inner_sum inner b d.leaves.items
      → ((y : ℕ) → times y c.leaves.items ≤ 1) → ((y : ℕ) → times y d.leaves.items ≤ 1) → StandsFor inner b c d.leaves.items (λ f. cut_value d f)
  alike_stands b c d are less once once_too = record {
    to = carried xs zs;
    outside = λ y some out. same_outside (carried xs zs y) y (carried_may zs xs are.members y some) out;
    inside = λ y some. same_kind (carried xs zs y) y (carried_may zs xs are.members y some);
    apart = carried_apart zs xs are.members once;
    into = carried_into zs xs are.members;
    onto = carried_onto zs xs are.members once_too;
    gives = λ f h same.
        let all = carried_all zs xs are.members once_too in
        let bits : map f zs ≡ map h xs =
        ap (λ (l : List ℕ). map f l) (sym all) ∙ values_twice f (carried xs zs) xs ∙ values_same (λ y. f (carried xs zs y)) h xs (λ y some. sym (same y some)) in
        ap₂ (λ (w : ℕ) (l : List Bool). value_of w l) are.word bits;
    least = less;
  } where
    zs : List ℕ
    zs = c.leaves.items

    xs : List ℕ
    xs = d.leaves.items

  pub alike_self : (c : Cut 6) → AreAlike inner c c
  alike_self c = record { word = refl; members = record { many = refl; each = λ i low. inl refl } }

  may_back : (x y : ℕ) → MayStand inner x y → MayStand inner y x
  may_back x y may = elim may [
    | inl same ↦ inl (sym same)
    | inr both ↦ inr (both.1, both.0)
  ]

  pub alike_back : (c d : Cut 6) → AreAlike inner c d → AreAlike inner d c
  alike_back c d are = record {
    word = sym are.word;
    members = record {
      many = sym are.members.many;
      each = λ i low.
          let m = are.members.many in
          may_back (slice_index c.leaves.items i) (slice_index d.leaves.items i) (are.members.each i (omega (arith, low, m)));
    };
  }

  may_on : (x y z : ℕ) → MayStand inner x y → MayStand inner y z → MayStand inner x z
  may_on x y z first second = elim first [
    | inl same ↦ subst (λ (k : ℕ). MayStand inner k z) (sym same) second
    | inr both ↦ elim second [
      | inl same ↦ inr (both.0, subst (λ (k : ℕ). inner k ≡ true) same both.1)
      | inr both_too ↦ inr (both.0, both_too.1)
    ]
  ]

  pub alike_on : (c d e : Cut 6) → AreAlike inner c d → AreAlike inner d e → AreAlike inner c e
  alike_on c d e first second = record {
    word = first.word ∙ second.word;
    members = record {
      many = first.members.many ∙ second.members.many;
      each = λ i low.
          let m = first.members.many in
          may_on (slice_index c.leaves.items i) (slice_index d.leaves.items i) (slice_index e.leaves.items i) (first.members.each i low)
          (second.members.each i (omega (arith, low, m)));
    };
  }
