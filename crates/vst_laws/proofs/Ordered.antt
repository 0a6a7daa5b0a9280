-- Names in order are different.
use Rattle.std.proofs.Common.{◌≡◌, suc, List, [], ◌∷◌, map, get_or, refl, sym, ap, subst, ◌∙◌, arith}
use Rattle.std.specs.Prelude.{IsTrue, false, true}
use Rattle.std.specs.Cmp.{eq_by_cmp_equiv}
use Rattle.std.specs.Ordering.{is_lt, is_eq}
use Rattle.std.specs.declared.cmp.Ordering.{Ordering}
use Rattle.std.specs.declared.cmp.Ordering.TheVariants.{Less, Equal, Greater}
use Rattle.vlsi_base.specs.declared.name.Name.{Name}
use Rattle.vlsi_base.specs.Member.{In, AllDifferent}
use Rattle.vlsi_base.specs.Name.{name_cmp}
use Rattle.vlsi_base.specs.Names.{comes_before}
use Rattle.vlsi_base.proofs.NameOrder.{name_total}
use Rattle.machine_core.proofs.Values.{In-map}
use Rattle.vlsi_model.proofs.Members.{In-map_back}
use Rattle.vlsi_model.proofs.Sorting.{place_of_In}
use Rattle.net_core.specs.Netlist.{AreInOrder}

less_of : (o : Ordering) → IsTrue (is_lt o) → o ≡ Less
less_of Less h = refl
less_of Equal h = absurd cc
less_of Greater h = absurd cc

-- no name comes before itself
not_itself : (a : Name) → name_cmp a a ≡ Less → ⊥
not_itself a e =
    let yes : is_eq (name_cmp a a) ≡ true = (eq_by_cmp_equiv name_total).refl a in
    let no : false ≡ true = sym (ap is_eq e) ∙ yes in absurd cc

head_before : {X : Type 0} (key : X → Name) (x : X) (xs : List X) → AreInOrder (map key (x ∷ xs)) → (y : X) → In y xs → name_cmp (key x) (key y) ≡ Less
head_before key x xs order y h =
    let r = place_of_In (map key xs) (key y) (In-map key y xs h) in
    let l = r.1 in
    let o : IsTrue (comes_before (key x) (get_or (map key xs) r.0 (key x))) = order 0 (suc r.0) (key x) (omega arith) (omega (arith, l)) in
    less_of (name_cmp (key x) (key y)) (subst (λ (n : Name). IsTrue (comes_before (key x) n)) (r.2 (key x)) o)

tail_order : {X : Type 0} (key : X → Name) (x : X) (xs : List X) → AreInOrder (map key (x ∷ xs)) → AreInOrder (map key xs)
tail_order key x xs order i j d l m = order (suc i) (suc j) d (omega (arith, l)) (omega (arith, m))

-- names in order are different
pub different_ordered : {X : Type 0} (key : X → Name) (xs : List X) → AreInOrder (map key xs) → AllDifferent (map key xs)
different_ordered key [] o = tt
different_ordered key (x ∷ xs) o = (
  λ h. let y = In-map_back key (key x) xs h in not_itself (key x) (subst (λ (n : Name). name_cmp (key x) n ≡ Less) y.2 (head_before key x xs o y.0 y.1)),
  different_ordered key xs (tail_order key x xs o),
)
