-- Things whose names are different stand in the order of names in some arrangement.
use Rattle.std.proofs.Common.{◌≡◌, ◌≢◌, inl, inr, zero, suc, List, [], ◌∷◌, map, get_or, refl, sym, ap, ◌∙◌, subst, arith}
use Rattle.std.specs.List.Sorted.{IsPermutation}
use Rattle.std.specs.Ordering.{ordering_reverse}
use Rattle.std.specs.declared.cmp.Ordering.{Ordering}
use Rattle.std.specs.declared.cmp.Ordering.TheVariants.{Less, Equal, Greater}
use Rattle.std.proofs.lemmas.List.Sorted.{IsPermutation-refl, IsPermutation-sym, IsPermutation-cons, IsPermutation-trans, IsPermutation-middle}
use Rattle.vlsi_base.specs.declared.name.Name.{Name}
use Rattle.vlsi_base.specs.Name.{name_cmp}
use Rattle.vlsi_base.specs.Member.{In, here, there, AllDifferent}
use Rattle.vlsi_base.proofs.NameOrder.{name_total}
use Rattle.machine_core.specs.Checked.{AreInOrder}
use Rattle.machine_core.proofs.Values.{In-map}
use Rattle.vlsi_model.proofs.Members.{In-cases, In-map_back}
use Rattle.vlsi_model.proofs.Sorting.{In-at, name_equal}
use Rattle.vlsi_model.proofs.Assembly.{In-permutation}

-- each is before all that follow
abbrev Rising : {A : Type 0} → (A → Name) → List A → Type 0
Rising key [] = Unit {0}
Rising {A} key (x ∷ xs) = ((y : A) → In y xs → name_cmp (key x) (key y) ≡ Less) × Rising key xs

record Arranged {A : Type 0} (key : A → Name) (xs : List A) : Type 0 where
  list : List A
  moved : IsPermutation xs list
  rising : Rising key list

put : {A : Type 0} (key : A → Name) (x : A) (xs : List A) → Rising key xs → ((y : A) → In y xs → key x ≢ key y) → Arranged key (x ∷ xs)
put key x [] h apart = record { list = x ∷ []; moved = IsPermutation-refl (x ∷ []); rising = (λ y i. elim i [ ], tt) }
put {A} key x (y ∷ ys) h apart = by (name_cmp (key x) (key y)) refl (put key x ys h.1 (λ z i. apart z (there i))) where
  by : (o : Ordering) → name_cmp (key x) (key y) ≡ o → Arranged key (x ∷ ys) → Arranged key (x ∷ y ∷ ys)
  by Less e r = record {
    list = x ∷ y ∷ ys;
    moved = IsPermutation-refl (x ∷ y ∷ ys);
    rising = (
      λ z i. elim (In-cases z y ys i) [
        | inl same ↦ subst (λ w. name_cmp (key x) (key w) ≡ Less) same e
        | inr j ↦ name_total.trans (key x) (key y) (key z) e (h.0 z j)
      ],
      h,
    );
  }
  by Equal e r = absurd (apart y here (name_equal (key x) (key y) e))
  by Greater e r =
      let before : name_cmp (key y) (key x) ≡ Less = name_total.antisymm (key y) (key x) ∙ ap ordering_reverse e in record {
        list = y ∷ r.list;
        moved = IsPermutation-trans (x ∷ y ∷ ys) (y ∷ x ∷ ys) (y ∷ r.list)
            (IsPermutation-middle (x ∷ []) y ys) (IsPermutation-cons y (x ∷ ys) r.list r.moved);
        rising = (
          λ z i. elim (In-cases z x ys (In-permutation r.list (x ∷ ys) z (IsPermutation-sym (x ∷ ys) r.list r.moved) i)) [
            | inl same ↦ subst (λ w. name_cmp (key y) (key w) ≡ Less) same before
            | inr j ↦ h.0 z j
          ],
          r.rising,
        );
      }

arrange : {A : Type 0} (key : A → Name) (xs : List A) → AllDifferent (map key xs) → Arranged key xs
arrange key [] d = record { list = []; moved = IsPermutation-refl []; rising = tt }
arrange key (x ∷ xs) d =
    let r = arrange key xs d.1 in
    let p = put key x r.list r.rising
    (λ y i e. d.0 (subst (λ (n : Name). In n (map key xs)) (sym e) (In-map key y xs (In-permutation r.list xs y (IsPermutation-sym xs r.list r.moved) i)))) in
    record { list = p.list; moved = IsPermutation-trans (x ∷ xs) (x ∷ r.list) p.list (IsPermutation-cons x xs r.list r.moved) p.moved; rising = p.rising }

in_order : {A : Type 0} (key : A → Name) (xs : List A) → Rising key xs → AreInOrder (map key xs)
in_order key [] h i j d p q = absurd (omega arith)
in_order key (x ∷ xs) h zero zero d p q = absurd (omega arith)
in_order key (x ∷ xs) h zero (suc j) d p q =
    let m = In-map_back key (get_or (map key xs) j d) xs (In-at (map key xs) j d (omega arith)) in
    subst (λ (n : Name). name_cmp (key x) n ≡ Less) m.2 (h.0 m.0 m.1)
in_order key (x ∷ xs) h (suc i) zero d p q = absurd (omega arith)
in_order key (x ∷ xs) h (suc i) (suc j) d p q = in_order key xs h.1 i j d (omega arith) (omega arith)

-- an arrangement in the order of names
pub record InNameOrder {A : Type 0} (key : A → Name) (xs : List A) : Type 0 where
  pub list : List A
  pub moved : IsPermutation xs list
  pub order : AreInOrder (map key list)

pub in_name_order : {A : Type 0} (key : A → Name) (xs : List A) → AllDifferent (map key xs) → InNameOrder key xs
in_name_order key xs d = let r = arrange key xs d in record { list = r.list; moved = r.moved; order = in_order key r.list r.rising }
