-- Lists of names in other orders, and in the order of names.
use Rattle.std.proofs.Common.{◌≡◌, ◌≢◌, inl, inr, ℕ, zero, suc, ◌<◌, Bool, true, false, List, [], ◌∷◌, ◌++◌, map, length, get_or, Option, None, Some, refl, sym, ap, ◌∙◌, subst, arith}
use Rattle.std.specs.List.{slice_index_or, AllPairs}
use Rattle.std.specs.List.Sorted.{IsPermutation, IsSortedBy}
use Rattle.std.specs.Bool.{Decides}
use Rattle.std.specs.Ordering.{nat_cmp, is_lt, is_eq, ordering_then, ordering_reverse}
use Rattle.std.specs.Cmp.Lexicographic.{slice_cmp}
use Rattle.std.specs.declared.cmp.Ordering.{Ordering}
use Rattle.std.specs.declared.cmp.Ordering.TheVariants.{Less, Equal, Greater}
use Rattle.std.proofs.lemmas.List.{length-map}
use Rattle.std.proofs.lemmas.List.Sorted.{ranks_by, sorted_far, IsPermutation-cons, IsPermutation-middle, IsPermutation-sym, IsPermutation-trans, IsPermutation-refl}
use Rattle.std.proofs.lemmas.Map.Keys.{IsDistinct-IsPermutation}
use Rattle.std.proofs.lemmas.Map.Made.{AllPairs-from_IsDistinct, IsDistinct-from_AllPairs}
use Rattle.std.proofs.lemmas.Bool.Decides.{nat_tests}
use Rattle.std.proofs.lemmas.Map.Text.{is_eq-slice_cmp}
use Rattle.vlsi_base.specs.declared.name.Name.{Name}
use Rattle.vlsi_base.specs.Name.{name_cmp, bit_cmp}
use Rattle.vlsi_base.proofs.NameOrder.{name_total}
use Rattle.machine_core.specs.Named.{is_same_name}
use Rattle.machine_core.specs.Order.{In, here, there, AllDifferent}
use Rattle.machine_core.specs.Checked.{AreInOrder}
use Rattle.machine_core.proofs.Names.{same_name-true, same_name-itself}
use Rattle.machine_core.proofs.Values.{In-split, In-left, In-right}
use Rattle.source_checks.proofs.Lookups.{same_of}
use Rattle.vlsi_model.proofs.Members.{In-cases}

-- members by places

pub In-at : {A : Type 0} (xs : List A) (k : ℕ) (d : A) → k < length xs → In (get_or xs k d) xs
In-at [] k d h = absurd (omega arith)
In-at (x ∷ xs) zero d h = here
In-at (x ∷ xs) (suc k) d h = there (In-at xs k d (omega arith))

pub place_of_In : {A : Type 0} (xs : List A) (x : A) → In x xs → (k : ℕ) × (k < length xs) × ((d : A) → get_or xs k d ≡ x)
place_of_In (y ∷ xs) x here = (0, omega arith, λ d. refl)
place_of_In (y ∷ xs) x (there i) = let r = place_of_In xs x i in (suc r.0, omega (arith, r.1), r.2)
place_of_In [] x i = elim i [ ]

pub pairs_from_different : {A : Type 0} (xs : List A) → AllDifferent xs → AllPairs (λ x y. x ≢ y) xs
pairs_from_different [] h i j d p q = absurd (omega arith)
pairs_from_different (x ∷ xs) h zero zero d p q = absurd (omega arith)
pairs_from_different (x ∷ xs) h zero (suc j) d p q = λ e. h.0 (subst (λ y. In y xs) (sym e) (In-at xs j d (omega arith)))
pairs_from_different (x ∷ xs) h (suc i) zero d p q = absurd (omega arith)
pairs_from_different (x ∷ xs) h (suc i) (suc j) d p q = pairs_from_different xs h.1 i j d (omega arith) (omega arith)

pub different_from_pairs : {A : Type 0} (xs : List A) → AllPairs (λ x y. x ≢ y) xs → AllDifferent xs
different_from_pairs [] h = tt
different_from_pairs (x ∷ xs) h = (
  λ i. let r = place_of_In xs x i in h 0 (suc r.0) x (omega arith) (omega (arith, r.1)) (sym (r.2 x)),
  different_from_pairs xs (λ i j d p q. h (suc i) (suc j) d (omega arith) (omega arith)),
)

pub same_name_decides : (a b : Name) → Decides (is_same_name a b) (a ≡ b)
same_name_decides a b = (same_name-true a b, λ e. subst (λ (x : Name). is_same_name a x ≡ true) e (same_name-itself a))

same_either : (p q : Bool) → (p ≡ true → q ≡ true) → (q ≡ true → p ≡ true) → p ≡ q
same_either true q f g = sym (f refl)
same_either false true f g = g refl
same_either false false f g = refl

flips : (a b : Name) → is_same_name a b ≡ is_same_name b a
flips a b =
    same_either (is_same_name a b) (is_same_name b a)
    (λ e. (same_name_decides b a).1 (sym (same_name-true a b e)))
    (λ e. (same_name_decides a b).1 (sym (same_name-true b a e)))

-- names that differ stay so in another order
pub different_names : (xs ys : List Name) → IsPermutation xs ys → AllDifferent xs → AllDifferent ys
different_names xs ys p h =
    different_from_pairs ys (AllPairs-from_IsDistinct same_name_decides ys (IsDistinct-IsPermutation is_same_name flips xs ys p (IsDistinct-from_AllPairs same_name_decides xs (pairs_from_different xs h))))

-- the order of names

bit_equal : (a b : Option ℕ) → bit_cmp a b ≡ Equal → a ≡ b
bit_equal None None e = refl
bit_equal None (Some b) e = absurd cc
bit_equal (Some a) None e = absurd cc
bit_equal (Some a) (Some b) e = let same : a ≡ b = grind (arith, nat_tests) in ap Some same

pub name_equal : (a b : Name) → name_cmp a b ≡ Equal → a ≡ b
name_equal a b e = by (slice_cmp nat_cmp a.text b.text) refl e where
  made : List ℕ → Option ℕ → Name
  made text bit = record { text = text; bit = bit }

  by : (o : Ordering) → slice_cmp nat_cmp a.text b.text ≡ o → ordering_then o (bit_cmp a.bit b.bit) ≡ Equal → a ≡ b
  by Less is e = absurd cc
  by Greater is e = absurd cc
  by Equal is e =
      let texts : a.text ≡ b.text = same_of a.text b.text (sym (is_eq-slice_cmp a.text b.text) ∙ ap is_eq is) in
      ap (λ (t : List ℕ). made t a.bit) texts ∙ ap (made b.text) (bit_equal a.bit b.bit e)

less_of : (a b : Name) → is_lt (name_cmp b a) ≡ false → a ≢ b → name_cmp a b ≡ Less
less_of a b e apart = by (name_cmp b a) refl e where
  by : (o : Ordering) → name_cmp b a ≡ o → is_lt o ≡ false → name_cmp a b ≡ Less
  by Less is e = absurd cc
  by Equal is e = absurd (apart (sym (name_equal b a is)))
  by Greater is e = name_total.antisymm a b ∙ ap ordering_reverse is

get-map : {A B : Type 0} (f : A → B) (xs : List A) (k : ℕ) (x : A) (d : B) → k < length xs → get_or (map f xs) k d ≡ f (get_or xs k x)
get-map f [] k x d h = absurd (omega arith)
get-map f (y ∷ xs) zero x d h = refl
get-map f (y ∷ xs) (suc k) x d h = get-map f xs k x d (omega arith)

-- what a sort by names gives, where the names are different
pub in_order : {A : Type 0} (key : A → Name) (xs : List A) → IsSortedBy (λ a b. is_lt (name_cmp (key a) (key b))) xs → AllDifferent (map key xs) → AreInOrder (map key xs)
in_order {A} key xs sorted different i j d p q =
    let count : length (map key xs) ≡ length xs = length-map xs key in
    let apart = pairs_from_different (map key xs) different i j d p q in
    by xs sorted apart p q count where
      by : (ys : List A) → IsSortedBy (λ a b. is_lt (name_cmp (key a) (key b))) ys → slice_index_or (map key ys) i d ≢ slice_index_or (map key ys) j d → i < j → j < length (map key ys) → length (map key ys) ≡ length ys
          → name_cmp (slice_index_or (map key ys) i d) (slice_index_or (map key ys) j d) ≡ Less
      by [] sorted apart p q count = absurd (omega arith)
      by (y ∷ ys) sorted apart p q count =
          let all = y ∷ ys in
          let far = sorted_far (λ a b. is_lt (name_cmp (key a) (key b))) (ranks_by name_total key) all sorted i j y (omega arith) (omega arith) in
          let first : get_or (map key all) i d ≡ key (get_or all i y) = get-map key all i y d (omega arith) in
          let second : get_or (map key all) j d ≡ key (get_or all j y) = get-map key all j y d (omega arith) in
          less_of (slice_index_or (map key all) i d) (slice_index_or (map key all) j d)
          (ap (λ (n : Name). is_lt (name_cmp n (get_or (map key all) i d))) second ∙ ap (λ (n : Name). is_lt (name_cmp (key (get_or all j y)) n)) first ∙ far) apart

-- lists of different things with the same members are one another in another order

record Around {A : Type 0} (x : A) (ys : List A) : Type 0 where
  front : List A
  back : List A
  is : ys ≡ front ++ x ∷ back

around : {A : Type 0} (x : A) (ys : List A) → In x ys → Around x ys
around x (y ∷ ys) here = record { front = []; back = ys; is = refl }
around x (y ∷ ys) (there i) = let r = around x ys i in record { front = y ∷ r.front; back = r.back; is = ap (λ zs. y ∷ zs) r.is }
around x [] i = elim i [ ]

not_middle : {A : Type 0} (x y : A) (us vs : List A) → (x ≡ y → ⊥) → In y (us ++ x ∷ vs) → In y (us ++ vs)
not_middle x y us vs apart i = elim (In-split y us (x ∷ vs) i) [
  | inl a ↦ In-left y us vs a
  | inr b ↦ elim (In-cases y x vs b) [ inl same ↦ absurd (apart same) | inr c ↦ In-right y us vs c ]
]

in_middle : {A : Type 0} (x y : A) (us vs : List A) → In y (us ++ vs) → In y (us ++ x ∷ vs)
in_middle x y us vs i = elim (In-split y us vs i) [ inl a ↦ In-left y us (x ∷ vs) a | inr b ↦ In-right y us (x ∷ vs) (there b) ]

different_middle : {A : Type 0} (x : A) (us vs : List A) → AllDifferent (us ++ x ∷ vs) → AllDifferent (us ++ vs) × (In x (us ++ vs) → ⊥)
different_middle x [] vs h = (h.1, h.0)
different_middle x (u ∷ us) vs h =
    let r = different_middle x us vs h.1 in (
      (λ i. h.0 (in_middle x u us vs i), r.0),
      λ i. elim (In-cases x u (us ++ vs) i) [ inl same ↦ h.0 (subst (λ y. In y (us ++ x ∷ vs)) (sym same) (In-right x us (x ∷ vs) here)) | inr j ↦ r.1 j ],
    )

pub permutation_same : {A : Type 0} (xs ys : List A) → AllDifferent xs → AllDifferent ys → ((x : A) → In x xs → In x ys) → ((x : A) → In x ys → In x xs) → IsPermutation xs ys
permutation_same [] [] a b f g = IsPermutation-refl []
permutation_same [] (y ∷ ys) a b f g = absurd (elim (g y here) [ ])
permutation_same (x ∷ xs) ys a b f g =
    let r = around x ys (f x here) in
    let b' = subst (λ zs. AllDifferent zs) r.is b in
    let m = different_middle x r.front r.back b' in
    let p = permutation_same xs (r.front ++ r.back) a.1 m.0
    (λ y i. not_middle x y r.front r.back (λ e. a.0 (subst (λ z. In z xs) (sym e) i)) (subst (λ zs. In y zs) r.is (f y (there i))))
    (λ y i. elim (In-cases y x xs (g y (subst (λ zs. In y zs) (sym r.is) (in_middle x y r.front r.back i)))) [ inl same ↦ absurd (m.1 (subst (λ z. In z (r.front ++ r.back)) (sym same) i)) | inr j ↦ j ]) in
    subst (IsPermutation (x ∷ xs)) (sym r.is)
    (IsPermutation-trans (x ∷ xs) (x ∷ (r.front ++ r.back)) (r.front ++ x ∷ r.back) (IsPermutation-cons x xs (r.front ++ r.back) p) (IsPermutation-sym (r.front ++ x ∷ r.back) (x ∷ (r.front ++ r.back)) (IsPermutation-middle r.front x r.back)))
