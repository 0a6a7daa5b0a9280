-- Names in their order, searched by halves.
use Rattle.std.proofs.Common.{◌≡◌, ℕ, ◌+◌, ◌<◌, ◌≤◌, ◌⊎◌, inl, inr, List, length, get_or, Option, Some, None, refl, sym, ap, subst, ◌∙◌, arith}
use Rattle.std.specs.Prelude.{IsTrue, slice_get}
use Rattle.std.specs.Ordering.{nat_cmp, is_lt, is_eq, ordering_then, ordering_reverse}
use Rattle.std.specs.Cmp.Lexicographic.{slice_cmp}
use Rattle.std.proofs.lemmas.Bool.{cases_lt}
use Rattle.std.proofs.lemmas.Bool.Decides.{nat_tests}
use Rattle.std.proofs.lemmas.Map.Text.{is_eq-slice_cmp}
use Rattle.std.specs.declared.cmp.Ordering.{Ordering}
use Rattle.std.specs.declared.cmp.Ordering.TheVariants.{Less, Equal, Greater}
use Rattle.std.proofs.lemmas.Option.{slice_get_within, get_or_from_slice_get}
use Rattle.vlsi_base.specs.declared.name.Name.{Name}
use Rattle.vlsi_base.specs.Name.{name_cmp, bit_cmp}
use Rattle.vlsi_base.specs.Names.{comes_before}
use Rattle.vlsi_base.proofs.NameOrder.{name_total}
use Rattle.net_core.specs.Places.{Stands, IsThere, NoneTwice}
use Rattle.net_core.specs.Netlist.{AreInOrder}
use Rattle.net_core.proofs.Lookups.{same_of}

before_is : (o : Ordering) → IsTrue (is_lt o) → o ≡ Less
before_is Less t = refl
before_is Equal t = absurd cc
before_is Greater t = absurd cc

bit_equal : (a b : Option ℕ) → bit_cmp a b ≡ Equal → a ≡ b
bit_equal None None e = refl
bit_equal None (Some b) e = absurd cc
bit_equal (Some a) None e = absurd cc
bit_equal (Some a) (Some b) e = let same : a ≡ b = grind (arith, nat_tests) in ap Some same

pub name_equal : (a b : Name) → name_cmp a b ≡ Equal → a ≡ b
name_equal a b e = by (slice_cmp nat_cmp a.text b.text) refl e where
  made : List ℕ → Option ℕ → Name
  made text bit = record { text = text; bit = bit }

  by : (o : Ordering) → slice_cmp nat_cmp a.text b.text ≡ o → ordering_then o (bit_cmp a.bit b.bit) ≡ Equal → a ≡ b
  by Less is e = absurd cc
  by Greater is e = absurd cc
  by Equal is e =
      let texts : a.text ≡ b.text = same_of a.text b.text (sym (is_eq-slice_cmp a.text b.text) ∙ ap is_eq is) in
      ap (λ (t : List ℕ). made t a.bit) texts ∙ ap (made b.text) (bit_equal a.bit b.bit e)

pub not_itself : (a : Name) → name_cmp a a ≡ Less → ⊥
not_itself a e = let r : name_cmp a a ≡ ordering_reverse (name_cmp a a) = name_total.antisymm a a in let s : Less ≡ Greater = sym e ∙ r ∙ ap ordering_reverse e in absurd cc

-- of two places in order, the earlier has the lesser name
pub rises : (names : List Name) (i j : ℕ) (a b : Name) → AreInOrder names → i < j → Stands names i a → Stands names j b → name_cmp a b ≡ Less
rises names i j a b sorted less p q =
    let in_i : get_or names i a ≡ a = get_or_from_slice_get names i a a p in
    let in_j : get_or names j a ≡ b = get_or_from_slice_get names j b a q in
    before_is (name_cmp a b) (subst (λ (x : Name). IsTrue (comes_before x b)) in_i (subst (λ (x : Name). IsTrue (comes_before (get_or names i a) x)) in_j (sorted i j a less (slice_get_within names j b q))))

pub order_none_twice : (names : List Name) → AreInOrder names → NoneTwice names
order_none_twice names sorted i j x p q = omega (arith, below, above) where
  below : i < j → ⊥
  below l = not_itself x (rises names i j x x sorted l p q)

  above : j < i → ⊥
  above l = not_itself x (rises names j i x x sorted l q p)

-- the name can only stand at a place from low on, and before high
pub record Narrowed (names : List Name) (name : Name) (low high : ℕ) : Type 0 where
  pub inside : high ≤ length names
  pub least : (k : ℕ) → k < low → Stands names k name → ⊥
  pub most : (k : ℕ) → high ≤ k → Stands names k name → ⊥

pub narrowed_start : (names : List Name) (name : Name) (high : ℕ) → high ≡ length names → Narrowed names name 0 high
narrowed_start names name high e = record {
  inside = omega (arith, e);
  least = λ k l _. omega (arith, l);
  most = λ k l s. let w : k < length names = slice_get_within names k name s in omega arith;
}

pub narrowed_up : (names : List Name) (name at : Name) (low high middle : ℕ) → AreInOrder names → Narrowed names name low high → Stands names middle at → name_cmp at name ≡ Less → Narrowed names name (middle + 1) high
narrowed_up names name at low high middle sorted n s less = record {
  inside = n.inside;
  least = λ k l there. by k there (omega (arith, l));
  most = n.most;
} where
  by : (k : ℕ) → Stands names k name → k ≤ middle → ⊥
  by k there l = apart (cases_lt k middle) where
    apart : (k < middle) ⊎ (middle ≤ k) → ⊥
    apart (inl less_place) = let r : name_cmp name at ≡ Less = rises names k middle name at sorted less_place there s in not_itself at (name_total.trans at name at less r)
    apart (inr more) = let e : k ≡ middle = omega arith in let same : Some at ≡ Some name = sym s ∙ ap (slice_get names) (sym e) ∙ there in let it : at ≡ name = cc in not_itself name (subst (λ (x : Name). name_cmp x name ≡ Less) it less)

pub narrowed_down : (names : List Name) (name at : Name) (low high middle : ℕ) → AreInOrder names → Narrowed names name low high → Stands names middle at → name_cmp at name ≡ Greater → Narrowed names name low middle
narrowed_down names name at low high middle sorted n s greater = record {
  inside = let w : middle < length names = slice_get_within names middle at s in omega arith;
  least = n.least;
  most = λ k l there. by k there l;
} where
  turned : name_cmp name at ≡ Less
  turned = name_total.antisymm name at ∙ ap ordering_reverse greater

  by : (k : ℕ) → Stands names k name → middle ≤ k → ⊥
  by k there l = apart (cases_lt middle k) where
    apart : (middle < k) ⊎ (k ≤ middle) → ⊥
    apart (inl less_place) = let r : name_cmp at name ≡ Less = rises names middle k at name sorted less_place s there in let no : Greater ≡ Less = sym greater ∙ r in absurd cc
    apart (inr more) = let e : k ≡ middle = omega arith in let same : Some at ≡ Some name = sym s ∙ ap (slice_get names) (sym e) ∙ there in let it : at ≡ name = cc in not_itself name (subst (λ (x : Name). name_cmp name x ≡ Less) it turned)

pub narrowed_none : (names : List Name) (name : Name) (low high : ℕ) → Narrowed names name low high → high ≤ low → IsThere names name → ⊥
narrowed_none names name low high n l f = by (cases_lt f.0 low) where
  by : (f.0 < low) ⊎ (low ≤ f.0) → ⊥
  by (inl less) = n.least f.0 less f.1
  by (inr more) = n.most f.0 (omega (arith, more)) f.1
