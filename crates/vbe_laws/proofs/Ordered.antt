-- Lists in the order of names: two with the same members are one list.
use Rattle.std.proofs.Common.{◌≡◌, ℕ, suc, ◌<◌, List, [], ◌∷◌, map, length, get_or, set, refl, sym, ap, ◌∙◌, subst, inl, inr, arith}
use Rattle.std.specs.List.{swap}
use Rattle.std.specs.List.Sorted.{IsPermutation}
use Rattle.std.specs.Ordering.{ordering_reverse}
use Rattle.std.specs.declared.cmp.Ordering.TheVariants.{Less, Greater}
use Rattle.std.proofs.lemmas.List.Sorted.{IsPermutation-sym, IsPermutation-refl, IsPermutation-trans, IsPermutation-swap, IsPermutation-keeps}
use Rattle.std.proofs.lemmas.List.{length-map, map-set}
use Rattle.std.proofs.Math.ListN.{get_or-map}
use Rattle.vlsi_base.specs.declared.name.Name.{Name}
use Rattle.vlsi_base.specs.Name.{name_cmp}
use Rattle.vlsi_base.specs.Member.{In, here, there}
use Rattle.vlsi_base.proofs.NameOrder.{name_total}
use Rattle.machine_core.specs.Checked.{AreInOrder}
use Rattle.machine_core.proofs.Values.{In-map}
use Rattle.vlsi_model.proofs.Members.{In-cases}
use Rattle.vlsi_model.proofs.Sorting.{place_of_In}
use Rattle.vlsi_model.proofs.Assembly.{In-permutation}

-- ---- another order of what is made element by element

-- zs is made, element by element, of another order of xs
pub record Moved {A B : Type 0} (f : A → B) (xs : List A) (zs : List B) : Type 0 where
  pub items : List A
  pub order : IsPermutation xs items
  pub is : zs ≡ map f items

map-swap : {A B : Type 0} (f : A → B) (xs : List A) (i j : ℕ) → map f (swap xs i j) ≡ swap (map f xs) i j
map-swap f [] i j = refl
map-swap f (d ∷ ys) i j =
    let xs = d ∷ ys in
    map-set f (set xs i (get_or xs j d)) j (get_or xs i d)
    ∙ ap (λ zs. set zs j (f (get_or xs i d))) (map-set f xs i (get_or xs j d))
    ∙ ap (λ z. set (set (map f xs) i z) j (f (get_or xs i d))) (sym (get_or-map f xs j d))
    ∙ ap (λ z. set (set (map f xs) i (get_or (map f xs) j (f d))) j z) (sym (get_or-map f xs i d))

moved_step : {A B : Type 0} (f : A → B) (xs : List A) (l : List B) (i j : ℕ) → i < length l → j < length l → Moved f xs l → Moved f xs (swap l i j)
moved_step f xs l i j p q m =
    let count : length l ≡ length m.items = ap (λ zs. length zs) m.is ∙ length-map m.items f in
    record {
      items = swap m.items i j;
      order = IsPermutation-trans xs m.items (swap m.items i j) m.order (IsPermutation-swap m.items (swap m.items i j) i j (omega arith) (omega arith) refl);
      is = ap (λ zs. swap zs i j) m.is ∙ sym (map-swap f m.items i j);
    }

pub moved_map : {A B : Type 0} (f : A → B) (xs : List A) (zs : List B) → IsPermutation zs (map f xs) → Moved f xs zs
moved_map f xs zs p =
    IsPermutation-keeps (map f xs) (Moved f xs) (record { items = xs; order = IsPermutation-refl xs; is = refl }) (moved_step f xs) zs
    (IsPermutation-sym zs (map f xs) p)
