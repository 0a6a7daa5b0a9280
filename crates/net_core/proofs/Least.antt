-- The least of the first names.
use Rattle.std.proofs.Common.{◌≡◌, ◌⊎◌, inl, inr, ℕ, zero, suc, ◌+◌, ◌<◌, true, false, List, [], length, get_or, sym, ap, ◌∙◌, subst, arith}
use Rattle.std.specs.Ordering.{is_lt, ordering_reverse}
use Rattle.std.specs.declared.cmp.Ordering.{Ordering}
use Rattle.std.specs.declared.cmp.Ordering.TheVariants.{Less, Equal, Greater}
use Rattle.std.proofs.lemmas.Option.{slice_get-get_or, get_or_from_slice_get}
use Rattle.vlsi_base.specs.declared.name.Name.{Name}
use Rattle.vlsi_base.specs.Name.{name_cmp}
use Rattle.vlsi_base.specs.Names.{comes_before, scalar}
use Rattle.vlsi_base.proofs.NameOrder.{name_total}
use Rattle.net_core.specs.Links.{name_at, IsLeastName}

-- none of the first names comes before the one at a place
pub record LeastSoFar (names : List Name) (least k : ℕ) : Type 0 where
  pub within : least < length names
  pub none : (j : ℕ) → j < k → j < length names → comes_before (name_at names j) (name_at names least) ≡ false

is_less : (o : Ordering) → is_lt o ≡ true → o ≡ Less
is_less Less e = cc
is_less Equal e = absurd cc
is_less Greater e = absurd cc

above : (a b : Name) → name_cmp a b ≡ Less → name_cmp b a ≡ Greater
above a b e = name_total.antisymm b a ∙ ap ordering_reverse e

not_below : (o : Ordering) → (is_lt o ≡ true → ⊥) → is_lt o ≡ false
not_below Less f = absurd (f cc)
not_below Equal f = cc
not_below Greater f = cc

never_itself : (a : Name) → comes_before a a ≡ false
never_itself a = not_below (name_cmp a a) (λ t. let e = is_less (name_cmp a a) t in let f : Less ≡ Greater = sym e ∙ above a a e in absurd cc)

before_or_last : (j k : ℕ) → j < k + 1 → (j < k) ⊎ (j ≡ k)
before_or_last j zero h = inr (omega arith)
before_or_last zero (suc k) h = inl (omega arith)
before_or_last (suc j) (suc k) h = elim (before_or_last j k (omega arith)) [ inl a ↦ inl (omega (arith, a)) | inr e ↦ inr (ap suc e) ]

pub least_first : (names : List Name) → 0 < length names → LeastSoFar names 0 1
least_first names h = record {
  within = h;
  none = λ j low inside. elim (before_or_last j 0 low) [ inl a ↦ absurd (omega (arith, a)) | inr same ↦ subst (λ i. comes_before (name_at names i) (name_at names 0) ≡ false) (sym same) (never_itself (name_at names 0)) ];
}

same_default : (names : List Name) (k : ℕ) (a : Name) → k < length names → a ≡ get_or names k a → a ≡ name_at names k
same_default names k a l e = e ∙ sym (get_or_from_slice_get names k (get_or names k a) (scalar []) (slice_get-get_or names k a l))

pub compared : (names : List Name) (k least : ℕ) (a b : Name) (o : Ordering) → k < length names → least < length names → a ≡ get_or names k a → b ≡ get_or names least b → o ≡ name_cmp a b
    → is_lt o ≡ comes_before (name_at names k) (name_at names least)
compared names k least a b o low within a_is b_is e =
    ap is_lt e ∙ ap (λ (x : Name). is_lt (name_cmp x b)) (same_default names k a low a_is) ∙ ap (λ (x : Name). is_lt (name_cmp (name_at names k) x)) (same_default names least b within b_is)

pub least_of_all : (names : List Name) (least k : ℕ) → LeastSoFar names least k → length names < k + 1 → IsLeastName names (name_at names least)
least_of_all names least k h all i d within =
    let e : get_or names i d ≡ name_at names i = sym (get_or_from_slice_get names i (get_or names i d) (scalar []) (slice_get-get_or names i d within)) in
    subst (λ (n : Name). comes_before n (name_at names least) ≡ false) (sym e) (h.none i (omega (arith, within, all)) within)

pub least_then : (names : List Name) (least k : ℕ) → LeastSoFar names least k → k < length names → comes_before (name_at names k) (name_at names least) ≡ true → LeastSoFar names k (k + 1)
least_then names least k h within t = record {
  within = within;
  none = λ j low inside. elim (before_or_last j k low) [
    | inl a ↦ not_below (name_cmp (name_at names j) (name_at names k)) (λ u.
        let down = name_total.trans (name_at names j) (name_at names k) (name_at names least) (is_less (name_cmp (name_at names j) (name_at names k)) u) (is_less (name_cmp (name_at names k) (name_at names least)) t) in
        let f : true ≡ false = sym (ap is_lt down) ∙ h.none j a inside in absurd cc)
    | inr same ↦ subst (λ i. comes_before (name_at names i) (name_at names k) ≡ false) (sym same) (never_itself (name_at names k))
  ];
}

pub least_else : (names : List Name) (least k : ℕ) → LeastSoFar names least k → comes_before (name_at names k) (name_at names least) ≡ false → LeastSoFar names least (k + 1)
least_else names least k h t = record {
  within = h.within;
  none = λ j low inside. elim (before_or_last j k low) [
    | inl a ↦ h.none j a inside
    | inr same ↦ subst (λ i. comes_before (name_at names i) (name_at names least) ≡ false) (sym same) t
  ];
}
