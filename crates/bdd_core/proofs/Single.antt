-- The function of one variable.
use Rattle.std.proofs.Common.{◌≡◌, ℕ, zero, suc, ◌+◌, ◌-◌, ◌<◌, Bool, false, true, List, ◌∷◌, length, refl, sym, ap, subst, ◌∙◌, arith}
use Rattle.bool_expr.specs.Expression.{bit}
use Rattle.bdd_core.specs.Truths.{Truths, constant, halves, truths, IsPart, IsOver}
use Rattle.bdd_core.specs.Nodes.{raised, raised_to, height, place, joined, Lists, IsMade, IsFull, IsWhole}
use Rattle.bdd_core.specs.Combined.{Grown}
use Rattle.bdd_core.specs.Counting.{function, Holds}
use Rattle.bdd_core.proofs.Standing.{KeepsPlaces, Stands}
use Rattle.bdd_core.proofs.Raised.{part-itself, part-in_raised}
use Rattle.bdd_core.proofs.Combining.{from_earlier, grown-made, grown-part, grown-none}
use Rattle.bdd_core.proofs.Counts.{holds_asked, over_is, keeps_grown}

-- a function that doesn't read its bits
pub even : (n : ℕ) (b : Bool) → truths n (λ w. b) ≡ raised n (constant b)
even zero b = refl
even (suc n) b = λ j. halves (even n b j) (even n b j)

single : (k r : ℕ) → truths (k + suc r) (λ w. bit w k) ≡ raised k (halves (raised r (constant false)) (raised r (constant true)))
single zero r =
    let e : 0 + suc r ≡ suc r = omega arith in
    ap (λ (n : ℕ). truths n (λ w. bit w 0)) e ∙ (λ j. halves (even r false j) (even r true j))
single (suc k) r =
    let e : suc k + suc r ≡ suc (k + suc r) = omega arith in
    ap (λ (n : ℕ). truths n (λ w. bit w (suc k))) e ∙ (λ j. halves (single k r j) (single k r j))

-- a constant over all variables
pub constant_to : (h : ℕ) (t : Truths) (b : Bool) → t ≡ constant b → raised_to h t ≡ raised h (constant b)
unfolding raised_to
constant_to h t b e = let z : h - 0 ≡ h = omega arith in ap (λ (t : Truths). raised (h - height t) t) e ∙ ap (λ (n : ℕ). raised n (constant b)) z

pub variable_joined : (d : Lists) (k low high : ℕ) → k < d.vars → place d.lists low ≡ constant false → place d.lists high ≡ constant true
    → truths d.vars (λ w. bit w k) ≡ raised k (joined d.vars d.lists k low high)
variable_joined d k low high within zero_is one_is =
    let e : d.vars ≡ k + suc (d.vars - (k + 1)) = omega arith in
    ap (λ (n : ℕ). truths n (λ w. bit w k)) e ∙ single k (d.vars - (k + 1))
    ∙ (λ j. raised k (halves (sym (constant_to (d.vars - (k + 1)) (place d.lists low) false zero_is) j) (sym (constant_to (d.vars - (k + 1)) (place d.lists high) true one_is) j)))

into : (d : Lists) (k low high : ℕ) → k < d.vars → place d.lists low ≡ constant false → place d.lists high ≡ constant true
    → (t : Truths) → IsPart t (joined d.vars d.lists k low high) → IsPart t (truths d.vars (λ w. bit w k))
into d k low high within z o t part = subst (λ (f : Truths). IsPart t f) (sym (variable_joined d k low high within z o)) (part-in_raised k _ t part)

grown_variable : (d0 d1 : Lists) (k low high at : ℕ) → k < d0.vars → place d0.lists low ≡ constant false → place d0.lists high ≡ constant true → IsMade d0 d1 k low high at
    → Grown d0.lists d1.lists (truths d0.vars (λ w. bit w k))
grown_variable d0 d1 k low high at within z o m = grown-part d0.lists d1.lists _ _ (into d0 k low high within z o) (grown-made d0 d1 k low high at m)

pub variable_keeps : (d0 d1 : Lists) (k low high at : ℕ) → k < d0.vars → place d0.lists low ≡ constant false → place d0.lists high ≡ constant true → IsMade d0 d1 k low high at → d1.vars ≡ d0.vars → KeepsPlaces d0 d1
variable_keeps d0 d1 k low high at within z o m vars = keeps_grown d0 d1 _ vars (grown_variable d0 d1 k low high at within z o m)

pub keeps_same : (d0 d1 : Lists) → d1.vars ≡ d0.vars → d1.lists ≡ d0.lists → KeepsPlaces d0 d1
keeps_same d0 d1 vars lists = keeps_grown d0 d1 (constant false) vars (subst (λ (l : List Truths). Grown d0.lists l (constant false)) (sym lists) (grown-none d0.lists (constant false)))

pub variable_asked : (d0 d1 : Lists) (k low high at : ℕ) → k < d0.vars → place d0.lists low ≡ constant false → place d0.lists high ≡ constant true → IsMade d0 d1 k low high at
    → d1.vars ≡ d0.vars → IsWhole d1 → Stands d0 d1 (truths d0.vars (λ w. bit w k)) at
variable_asked d0 d1 k low high at within z o m vars w =
    let e : d0.vars - 0 ≡ d0.vars = omega arith in
    let k0 : k - 0 ≡ k = omega arith in
    let is : function d1 at ≡ truths d0.vars (λ w. bit w k) =
    ap (λ (n : ℕ). raised_to n (place d1.lists at)) (vars ∙ sym e) ∙ from_earlier d0.vars 0 k (place d1.lists at) (omega arith) m.below
    ∙ ap (λ (j : ℕ). raised j (raised_to (d0.vars - k) (place d1.lists at))) k0 ∙ ap (λ (t : Truths). raised k t) m.is
    ∙ sym (variable_joined d0 k low high within z o) in
    record {
      within = m.within;
      is = is;
      holds = λ fs h. holds_asked d0 d1 _ fs at w (grown_variable d0 d1 k low high at within z o m) m.within is h;
    }

pub variable_over : (d0 d1 : Lists) (k low high : ℕ) (fs : List Truths) → k < d0.vars → place d0.lists low ≡ constant false → place d0.lists high ≡ constant true → IsFull d0 k low high
    → IsWhole d0 → Holds fs d0 → IsOver (truths d0.vars (λ w. bit w k) ∷ fs) d0.budget
variable_over d0 d1 k low high fs within z o f w h =
    over_is d0 d0 d0.budget _ fs w (grown-none d0.lists _) (record {
      full = f.full;
      part = joined d0.vars d0.lists k low high;
      uneven = f.uneven;
      is_part = into d0 k low high within z o _ (part-itself (joined d0.vars d0.lists k low high));
      absent = f.absent;
    }) h

pub stands_again : (d : Lists) (at : ℕ) → IsWhole d → at < length d.lists → Stands d d (function d at) at
stands_again d at w within = record {
  within = within;
  is = refl;
  holds = λ fs h. holds_asked d d (function d at) fs at w (grown-none d.lists (function d at)) within refl h;
}
