-- Truth lists with variables in front on which the function doesn't depend.
use Rattle.std.proofs.Common.{◌≡◌, ℕ, zero, suc, ◌+◌, ◌-◌, ◌≤◌, inl, inr, refl, sym, ap, subst, ◌∙◌, arith}
use Rattle.bdd_core.specs.Truths.{Truths, constant, halves, IsPart, IsUneven}
use Rattle.bdd_core.specs.Nodes.{raised, raised_to, height}

pub height-raised : (j : ℕ) (t : Truths) → height (raised j t) ≡ j + height t
height-raised zero t = omega arith
height-raised (suc j) t = omega (arith, height-raised j t)

pub height-raised_to : (h : ℕ) (t : Truths) → height t ≤ h → height (raised_to h t) ≡ h
unfolding raised_to
height-raised_to h t small = omega (arith, height-raised (h - height t) t)

-- the lists that stand for nodes
abbrev pub IsReduced : Truths → Type 0
IsReduced (constant b) = Unit {0}
IsReduced (halves a b) = a ≡ b → ⊥

-- one more variable in front makes the halves equal
pub unlike-raised : (j : ℕ) (t x : Truths) → IsReduced t → t ≡ raised (suc j) x → ⊥
unlike-raised j (constant b) x reduced e = (cc)
unlike-raised j (halves a b) x reduced e =
    let left : a ≡ raised j x = cc in
    let right : b ≡ raised j x = cc in
    reduced (left ∙ sym right)

pub raised-injective : (i j : ℕ) (s t : Truths) → IsReduced s → IsReduced t → raised i s ≡ raised j t → s ≡ t
raised-injective zero zero s t p q e = e
raised-injective zero (suc j) s t p q e = absurd (unlike-raised j s t p e)
raised-injective (suc i) zero s t p q e = absurd (unlike-raised i t s q (sym e))
raised-injective (suc i) (suc j) s t p q e = raised-injective i j s t p q (cc)

pub raised_to-injective : (h k : ℕ) (s t : Truths) → IsReduced s → IsReduced t → raised_to h s ≡ raised_to k t → s ≡ t
unfolding raised_to
raised_to-injective h k s t p q e = raised-injective (h - height s) (k - height t) s t p q e

pub part-itself : (t : Truths) → IsPart t t
part-itself (constant b) = refl
part-itself (halves a b) = inl refl

-- those with unequal halves are parts of what stands behind
pub part-raised : (j : ℕ) (t x : Truths) → IsUneven x → IsPart x (raised j t) → IsPart x t
part-raised zero t x uneven part = part
part-raised (suc j) t x uneven (inl e) = absurd (subst IsUneven e uneven refl)
part-raised (suc j) t x uneven (inr (inl p)) = part-raised j t x uneven p
part-raised (suc j) t x uneven (inr (inr p)) = part-raised j t x uneven p

pub part-raised_to : (h : ℕ) (t x : Truths) → IsUneven x → IsPart x (raised_to h t) → IsPart x t
unfolding raised_to
part-raised_to h t x uneven part = part-raised (h - height t) t x uneven part

pub part-in_raised : (j : ℕ) (t x : Truths) → IsPart x t → IsPart x (raised j t)
part-in_raised zero t x part = part
part-in_raised (suc j) t x part = inr (inl (part-in_raised j t x part))

-- a list over fewer variables has equal halves
pub raised_to-suc : (h : ℕ) (t : Truths) → height t ≤ h → raised_to (suc h) t ≡ halves (raised_to h t) (raised_to h t)
unfolding raised_to
raised_to-suc h t small =
    let e : suc h - height t ≡ suc (h - height t) = omega arith in
    ap (λ (j : ℕ). raised j t) e

pub raised_to-itself : (h : ℕ) (t : Truths) → height t ≡ h → raised_to h t ≡ t
unfolding raised_to
raised_to-itself h t e =
    let none : h - height t ≡ 0 = omega arith in
    ap (λ (j : ℕ). raised j t) none
