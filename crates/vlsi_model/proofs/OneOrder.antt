-- Lists in the order of names: two with the same members are one list.
use Rattle.std.proofs.Common.{◌≡◌, suc, List, [], ◌∷◌, map, get_or, refl, sym, ap, ◌∙◌, subst, inl, inr, arith}
use Rattle.std.specs.List.Sorted.{IsPermutation}
use Rattle.std.specs.Ordering.{ordering_reverse}
use Rattle.std.specs.declared.cmp.Ordering.TheVariants.{Less, Greater}
use Rattle.std.proofs.lemmas.List.Sorted.{IsPermutation-sym}
use Rattle.vlsi_base.specs.declared.name.Name.{Name}
use Rattle.vlsi_base.specs.Name.{name_cmp}
use Rattle.vlsi_base.specs.Member.{In, here, there}
use Rattle.vlsi_base.proofs.NameOrder.{name_total}
use Rattle.machine_core.specs.Checked.{AreInOrder}
use Rattle.machine_core.proofs.Values.{In-map}
use Rattle.vlsi_model.proofs.Members.{In-cases}
use Rattle.vlsi_model.proofs.Sorting.{place_of_In}
use Rattle.vlsi_model.proofs.Assembly.{In-permutation}

not_both : (a b : Name) → name_cmp a b ≡ Less → name_cmp b a ≡ Less → ⊥
not_both a b l g = let both : Less ≡ Greater = sym l ∙ name_total.antisymm a b ∙ ap ordering_reverse g in absurd cc

head_before : {A : Type 0} (key : A → Name) (x : A) (xs : List A) → AreInOrder (map key (x ∷ xs)) → (y : A) → In y xs → name_cmp (key x) (key y) ≡ Less
head_before key x xs order y h =
    let r = place_of_In (map key xs) (key y) (In-map key y xs h) in
    let l = r.1 in
    let o : name_cmp (key x) (get_or (map key xs) r.0 (key x)) ≡ Less = order 0 (suc r.0) (key x) (omega arith) (omega (arith, l)) in
    subst (λ (n : Name). name_cmp (key x) n ≡ Less) (r.2 (key x)) o

tail_order : {A : Type 0} (key : A → Name) (x : A) (xs : List A) → AreInOrder (map key (x ∷ xs)) → AreInOrder (map key xs)
tail_order key x xs order i j d l m = order (suc i) (suc j) d (omega (arith, l)) (omega (arith, m))

-- what is behind the first on one side is behind it on the other
behind : {A : Type 0} (key : A → Name) (x y : A) (xs ys : List A) → AreInOrder (map key (x ∷ xs)) → x ≡ y → (z : A) → In z xs → In z (y ∷ ys) → In z ys
behind key x y xs ys order same z h i = elim (In-cases z y ys i) [
  | inl e ↦
      let l : name_cmp (key x) (key x) ≡ Less = subst (λ w. name_cmp (key x) (key w) ≡ Less) (sym (same ∙ e)) (head_before key x xs order z h) in
      absurd (not_both (key x) (key x) l l)
  | inr j ↦ j
]

same_first : {A : Type 0} (key : A → Name) (x y : A) (xs ys : List A) → AreInOrder (map key (x ∷ xs)) → AreInOrder (map key (y ∷ ys)) → In x (y ∷ ys) → In y (x ∷ xs) → x ≡ y
same_first key x y xs ys a b h g = elim (In-cases x y ys h) [
  | inl e ↦ sym e
  | inr i ↦ elim (In-cases y x xs g) [
    | inl e ↦ e
    | inr j ↦ absurd (not_both (key x) (key y) (head_before key x xs a y j) (head_before key y ys b x i))
  ]
]

same_in_order : {A : Type 0} (key : A → Name) (xs ys : List A) → AreInOrder (map key xs) → AreInOrder (map key ys)
    → ((z : A) → In z xs → In z ys) → ((z : A) → In z ys → In z xs) → xs ≡ ys
same_in_order key [] [] a b f g = refl
same_in_order key [] (y ∷ ys) a b f g = absurd (elim (g y here) [ ])
same_in_order key (x ∷ xs) [] a b f g = absurd (elim (f x here) [ ])
same_in_order key (x ∷ xs) (y ∷ ys) a b f g =
    let same : x ≡ y = same_first key x y xs ys a b (f x here) (g y here) in
    let rest : xs ≡ ys =
    same_in_order key xs ys (tail_order key x xs a) (tail_order key y ys b)
    (λ z h. behind key x y xs ys a same z h (f z (there h))) (λ z h. behind key y x ys xs b (sym same) z h (g z (there h))) in
    ap (λ z. z ∷ xs) same ∙ ap (λ zs. y ∷ zs) rest

-- two orders of one list, both by names, are one
pub one_order : {A : Type 0} (key : A → Name) (all xs ys : List A) → IsPermutation xs all → IsPermutation ys all
    → AreInOrder (map key xs) → AreInOrder (map key ys) → xs ≡ ys
one_order key all xs ys p q a b =
    same_in_order key xs ys a b
    (λ z h. In-permutation all ys z (IsPermutation-sym ys all q) (In-permutation xs all z p h))
    (λ z h. In-permutation all xs z (IsPermutation-sym xs all p) (In-permutation ys all z q h))
