-- What stands below a node.
use Rattle.std.proofs.Common.{◌≡◌, ◌⊎◌, inl, inr, ℕ, zero, suc, ◌-◌, ◌<◌, Bool, true, false, refl, sym, ap, subst, ◌∙◌, arith}
use Rattle.bdd_core.specs.Truths.{Truths, constant, halves, IsPart, IsUneven}
use Rattle.bdd_core.specs.Branching.{held, IsBranch}
use Rattle.bdd_core.specs.Nodes.{raised, raised_to, height}
use Rattle.bdd_core.proofs.Raised.{part-raised_to, part-in_raised}

pub held_raised : (k j : ℕ) (x : Bool) (t : Truths) → k < j → held k x (raised j t) ≡ raised j t
held_raised k zero x t h = absurd (omega arith)
held_raised zero (suc j) true t h = refl
held_raised zero (suc j) false t h = refl
held_raised (suc k) (suc j) x t h = let i = held_raised k j x t (omega arith) in λ m. halves (i m) (i m)

held_low : (v : ℕ) (a b : Truths) → held v false (raised v (halves a b)) ≡ raised (suc v) a
held_low zero a b = refl
held_low (suc v) a b = let i = held_low v a b in λ j. halves (i j) (i j)

held_high : (v : ℕ) (a b : Truths) → held v true (raised v (halves a b)) ≡ raised (suc v) b
held_high zero a b = refl
held_high (suc v) a b = let i = held_high v a b in λ j. halves (i j) (i j)

pub same_raised : (j : ℕ) (a b : Truths) → raised j a ≡ raised j b → a ≡ b
same_raised zero a b e = e
same_raised (suc j) a b e = same_raised j a b (cc)

compared : (a b : ℕ) → (a < b) ⊎ ((a ≡ b) ⊎ (b < a))
compared zero zero = inr (inl refl)
compared zero (suc b) = inl (omega arith)
compared (suc a) zero = inr (inr (omega arith))
compared (suc a) (suc b) = by (compared a b) where
  by : (a < b) ⊎ ((a ≡ b) ⊎ (b < a)) → (suc a < suc b) ⊎ ((suc a ≡ suc b) ⊎ (suc b < suc a))
  by (inl h) = inl (omega (arith, h))
  by (inr (inl h)) = inr (inl (ap suc h))
  by (inr (inr h)) = inr (inr (omega (arith, h)))

-- the first variable on which a function depends is that of its node
own_variable : (vars j v : ℕ) (a b low high : Truths) → (a ≡ b → ⊥) → IsBranch vars (raised j (halves a b)) v low high → v ≡ j
own_variable vars j v a b low high uneven branch = by (compared v j) where
  by : (v < j) ⊎ ((v ≡ j) ⊎ (j < v)) → v ≡ j
  by (inl h) = absurd (branch.depends (held_raised v j false (halves a b) h ∙ sym (held_raised v j true (halves a b) h)))
  by (inr (inl h)) = h
  by (inr (inr h)) = absurd (uneven (same_raised (suc j) a b (sym (held_low j a b) ∙ branch.first j h ∙ held_high j a b)))

-- a part with unequal halves is the list itself, or a part of what stands below
pub below : (vars v : ℕ) (t low high : Truths) → IsUneven t → IsBranch vars (raised_to vars t) v (raised_to vars low) (raised_to vars high)
    → (x : Truths) → IsUneven x → IsPart x t → (x ≡ t) ⊎ (IsPart x low ⊎ IsPart x high)
unfolding raised_to
below vars v (constant b) low high uneven branch x odd part = absurd uneven
below vars v (halves a b) low high uneven branch x odd (inl e) = inl e
below vars v (halves a b) low high uneven branch x odd (inr (inl p)) =
    let j = vars - height (halves a b) in
    let same : v ≡ j = own_variable vars j v a b (raised_to vars low) (raised_to vars high) uneven branch in
    let is : raised_to vars low ≡ raised (suc j) a = branch.low_is ∙ ap (λ (k : ℕ). held k false (raised j (halves a b))) same ∙ held_low j a b in
    inr (inl (part-raised_to vars low x odd (subst (IsPart x) (sym is) (part-in_raised (suc j) a x p))))
below vars v (halves a b) low high uneven branch x odd (inr (inr p)) =
    let j = vars - height (halves a b) in
    let same : v ≡ j = own_variable vars j v a b (raised_to vars low) (raised_to vars high) uneven branch in
    let is : raised_to vars high ≡ raised (suc j) b = branch.high_is ∙ ap (λ (k : ℕ). held k true (raised j (halves a b))) same ∙ held_high j a b in
    inr (inr (part-raised_to vars high x odd (subst (IsPart x) (sym is) (part-in_raised (suc j) b x p))))

-- a part of a constant function has no unequal halves
pub even_part : (j : ℕ) (b : Bool) (x : Truths) → IsUneven x → IsPart x (raised j (constant b)) → ⊥
even_part zero b x odd e = subst IsUneven e odd
even_part (suc j) b x odd (inl e) = subst IsUneven e odd refl
even_part (suc j) b x odd (inr (inl p)) = even_part j b x odd p
even_part (suc j) b x odd (inr (inr p)) = even_part j b x odd p

pub part-in_raised_to : (h : ℕ) (t x : Truths) → IsPart x t → IsPart x (raised_to h t)
unfolding raised_to
part-in_raised_to h t x part = part-in_raised (h - height t) t x part
