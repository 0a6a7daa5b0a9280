-- Sorted entries stand in their order.
use Rattle.std.proofs.Common.{◌≡◌, ℕ, zero, suc, ◌+◌, ◌<◌, true, false, List, inl, inr, length, sym, ◌∙◌, subst, rules, arith}
use Rattle.std.proofs.lemmas.Bool.{cases_lt}
use Rattle.std.specs.Ordering.{is_lt, MatchOrdering, ordering_then}
use Rattle.std.specs.declared.cmp.Ordering.{Ordering}
use Rattle.std.specs.declared.cmp.Ordering.TheVariants.{Less, Equal, Greater}
use Rattle.sym_near.specs.declared.sweep.Entry.{Entry}
use Rattle.sym_near.specs.Sweep.{entry_from, Precedes, by_metal, by_band, by_left, Ordered}

yes_no : {A : Type 0} → true ≡ false → A
yes_no h = absurd (search (rules, h))

pub precedes_so : (a b : Entry) (o1 o2 o3 rest : Ordering) → MatchOrdering o1 (b.metal < a.metal) (b.metal ≡ a.metal) (a.metal < b.metal)
    → MatchOrdering o2 (b.band < a.band) (b.band ≡ a.band) (a.band < b.band) → MatchOrdering o3 (b.left < a.left) (b.left ≡ a.left) (a.left < b.left)
    → is_lt (ordering_then o1 (ordering_then o2 (ordering_then o3 rest))) ≡ false → Precedes a b
precedes_so a b Less o2 o3 rest m1 m2 m3 h = yes_no h
precedes_so a b Greater o2 o3 rest m1 m2 m3 h = by_metal m1
precedes_so a b Equal Less o3 rest m1 m2 m3 h = yes_no h
precedes_so a b Equal Greater o3 rest m1 m2 m3 h = by_band (sym m1) m2
precedes_so a b Equal Equal Less rest m1 m2 m3 h = yes_no h
precedes_so a b Equal Equal Equal rest m1 m2 m3 h = by_left (sym m1) (sym m2) (omega (arith, m3))
precedes_so a b Equal Equal Greater rest m1 m2 m3 h = by_left (sym m1) (sym m2) (omega (arith, m3))

precedes_then : (a b c : Entry) → Precedes a b → Precedes b c → Precedes a c
precedes_then a b c (by_metal h) (by_metal g) = by_metal (omega arith)
precedes_then a b c (by_metal h) (by_band f g) = by_metal (omega (arith, h, f))
precedes_then a b c (by_metal h) (by_left f g l) = by_metal (omega (arith, h, f))
precedes_then a b c (by_band f h) (by_metal g) = by_metal (omega (arith, f, g))
precedes_then a b c (by_band f h) (by_band f2 g) = by_band (f ∙ f2) (omega (arith, h, g))
precedes_then a b c (by_band f h) (by_left f2 g l) = by_band (f ∙ f2) (omega (arith, h, g))
precedes_then a b c (by_left f h l) (by_metal g) = by_metal (omega (arith, f, g))
precedes_then a b c (by_left f h l) (by_band f2 g) = by_band (f ∙ f2) (omega (arith, h, g))
precedes_then a b c (by_left f h l) (by_left f2 g l2) = by_left (f ∙ f2) (h ∙ g) (omega (arith, l, l2))

pub ordered_so : (xs : List Entry) → ((k : ℕ) → k + 1 < length xs → Precedes (entry_from xs k) (entry_from xs (k + 1))) → Ordered xs
ordered_so xs each p zero before within = absurd (omega arith)
ordered_so xs each p (suc m) before within =
    let last : Precedes (entry_from xs m) (entry_from xs (suc m)) = let s : m + 1 ≡ suc m = omega arith in
    subst (λ (k : ℕ). Precedes (entry_from xs m) (entry_from xs k)) s (each m (omega arith)) in
    elim (cases_lt p m) [
      | inl lt ↦ precedes_then (entry_from xs p) (entry_from xs m) (entry_from xs (suc m)) (ordered_so xs each p m lt (omega arith)) last
      | inr ge ↦ let s : m ≡ p = omega arith in subst (λ (k : ℕ). Precedes (entry_from xs k) (entry_from xs (suc m))) s last
    ]
