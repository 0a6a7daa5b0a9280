-- The operators, over variables on which no function depends.
use Rattle.std.proofs.Common.{◌≡◌, ℕ, zero, suc, ◌+◌, ◌-◌, ◌<◌, ◌≤◌, ◌⊎◌, inl, inr, List, [], ◌∷◌, ◌++◌, length, refl, sym, ap, subst, ◌∙◌, arith, length-append, append_assoc, append-nil}
use Rattle.std.specs.List.{Contains}
use Rattle.std.proofs.lemmas.List.Elements.{Contains-append_cases, Contains-push_cases}
use Rattle.bdd_core.specs.declared.operators.Operator.{Operator}
use Rattle.bdd_core.specs.declared.operators.Triple.{Triple}
use Rattle.bdd_core.specs.Truths.{Truths, halves, IsPart, IsUneven}
use Rattle.bdd_core.specs.Nodes.{raised, raised_to, height, place, joined, Lists, IsMade}
use Rattle.bdd_core.specs.Combined.{combined, combined_at, IsFrom, AreFrom, Grown, IsPlaceOf, IsOverBy, IsKnown}
use Rattle.bdd_core.proofs.Raised.{raised_to-suc, part-itself}
use Rattle.bdd_core.proofs.Pushing.{place-kept}

pub combined-raised : (o : Operator) (j : ℕ) (a b c : Truths) → combined o (raised j a) (raised j b) (raised j c) ≡ raised j (combined o a b c)
combined-raised o zero a b c = refl
combined-raised o (suc j) a b c = ap (λ (t : Truths). halves t t) (combined-raised o j a b c)

pub further : (j h : ℕ) (t : Truths) → height t ≤ h → raised_to (j + h) t ≡ raised j (raised_to h t)
further zero h t small = let e : 0 + h ≡ h = omega arith in ap (λ (k : ℕ). raised_to k t) e
further (suc j) h t small =
    let e : suc j + h ≡ suc (j + h) = omega arith in
    ap (λ (k : ℕ). raised_to k t) e ∙ raised_to-suc (j + h) t (omega arith) ∙ ap (λ (t : Truths). halves t t) (further j h t small)

-- from an earlier variable on
pub from_earlier : (vars from v : ℕ) (t : Truths) → from ≤ v → height t + v ≤ vars → raised_to (vars - from) t ≡ raised (v - from) (raised_to (vars - v) t)
from_earlier vars from v t early below =
    let e : vars - from ≡ (v - from) + (vars - v) = omega arith in
    ap (λ (k : ℕ). raised_to k t) e ∙ further (v - from) (vars - v) t (omega arith)

pub combined_earlier : (o : Operator) (vars from v : ℕ) (lists : List Truths) (k : Triple) → from ≤ v → AreFrom vars lists v k
    → combined_at o vars lists from k ≡ raised (v - from) (combined_at o vars lists v k)
unfolding combined_at
combined_earlier o vars from v lists k early are =
    ap (λ (t : Truths). combined o t (raised_to (vars - from) (place lists k.y)) (raised_to (vars - from) (place lists k.z))) (from_earlier vars from v (place lists k.x) early are.x.below)
    ∙ ap (λ (t : Truths). combined o (raised (v - from) (raised_to (vars - v) (place lists k.x))) t (raised_to (vars - from) (place lists k.z))) (from_earlier vars from v (place lists k.y) early are.y.below)
    ∙ ap (λ (t : Truths). combined o (raised (v - from) (raised_to (vars - v) (place lists k.x))) (raised (v - from) (raised_to (vars - v) (place lists k.y))) t) (from_earlier vars from v (place lists k.z) early are.z.below)
    ∙ combined-raised o (v - from) (raised_to (vars - v) (place lists k.x)) (raised_to (vars - v) (place lists k.y)) (raised_to (vars - v) (place lists k.z))

pub combined_kept : (o : Operator) (vars from : ℕ) (lists more : List Truths) (k : Triple) → k.x < length lists → k.y < length lists → k.z < length lists
    → combined_at o vars (lists ++ more) from k ≡ combined_at o vars lists from k
unfolding combined_at
combined_kept o vars from lists more k x y z =
    let h = vars - from in
    ap (λ (t : Truths). combined o (raised_to h t) (raised_to h (place (lists ++ more) k.y)) (raised_to h (place (lists ++ more) k.z))) (place-kept lists more k.x x)
    ∙ ap (λ (t : Truths). combined o (raised_to h (place lists k.x)) (raised_to h t) (raised_to h (place (lists ++ more) k.z))) (place-kept lists more k.y y)
    ∙ ap (λ (t : Truths). combined o (raised_to h (place lists k.x)) (raised_to h (place lists k.y)) (raised_to h t)) (place-kept lists more k.z z)

pub from-kept : (vars : ℕ) (lists more : List Truths) (from at : ℕ) → IsFrom vars lists from at → IsFrom vars (lists ++ more) from at
from-kept vars lists more from at f = record {
  within = omega (arith, f.within, length-append lists more);
  below = omega (arith, f.below, ap height (place-kept lists more at f.within));
}

pub from-back : (vars : ℕ) (lists more : List Truths) (from at : ℕ) → at < length lists → IsFrom vars (lists ++ more) from at → IsFrom vars lists from at
from-back vars lists more from at w f = record {
  within = w;
  below = omega (arith, f.below, ap height (place-kept lists more at w));
}

pub are-kept : (vars : ℕ) (lists more : List Truths) (from : ℕ) (k : Triple) → AreFrom vars lists from k → AreFrom vars (lists ++ more) from k
are-kept vars lists more from k a = record { x = from-kept vars lists more from k.x a.x; y = from-kept vars lists more from k.y a.y; z = from-kept vars lists more from k.z a.z }

pub place_of-kept : (vars : ℕ) (lists more : List Truths) (from : ℕ) (f : Truths) (at : ℕ) → IsPlaceOf vars lists from f at → IsPlaceOf vars (lists ++ more) from f at
place_of-kept vars lists more from f at p = record {
  from_on = from-kept vars lists more from at p.from_on;
  is = ap (λ (t : Truths). raised_to (vars - from) t) (place-kept lists more at p.from_on.within) ∙ p.is;
}

pub known-kept : (o : Operator) (vars : ℕ) (lists more : List Truths) (k : Triple) (at : ℕ) → IsKnown o vars lists k at → IsKnown o vars (lists ++ more) k at
known-kept o vars lists more k at n = record {
  x = omega (arith, n.x, length-append lists more);
  y = omega (arith, n.y, length-append lists more);
  z = omega (arith, n.z, length-append lists more);
  answer = λ from are. subst (λ (f : Truths). IsPlaceOf vars (lists ++ more) from f at) (sym (combined_kept o vars from lists more k n.x n.y n.z))
      (place_of-kept vars lists more from _ at (n.answer from (back from are)));
}
  where
    back : (from : ℕ) → AreFrom vars (lists ++ more) from k → AreFrom vars lists from k
    back from are = record { x = from-back vars lists more from k.x n.x are.x; y = from-back vars lists more from k.y n.y are.y; z = from-back vars lists more from k.z n.z are.z }

-- lists that grow
pub known-grown : (o : Operator) (vars : ℕ) (old new : List Truths) (f : Truths) (k : Triple) (at : ℕ) → Grown old new f → IsKnown o vars old k at → IsKnown o vars new k at
known-grown o vars old new f k at g n = subst (λ (ls : List Truths). IsKnown o vars ls k at) (sym g.grown) (known-kept o vars old g.more k at n)

pub are-grown : (vars : ℕ) (old new : List Truths) (f : Truths) (from : ℕ) (k : Triple) → Grown old new f → AreFrom vars old from k → AreFrom vars new from k
are-grown vars old new f from k g a = subst (λ (ls : List Truths). AreFrom vars ls from k) (sym g.grown) (are-kept vars old g.more from k a)

pub place_of-grown : (vars : ℕ) (old new : List Truths) (f g : Truths) (from at : ℕ) → Grown old new f → IsPlaceOf vars old from g at → IsPlaceOf vars new from g at
place_of-grown vars old new f g from at more p = subst (λ (ls : List Truths). IsPlaceOf vars ls from g at) (sym more.grown) (place_of-kept vars old more.more from g at p)

pub combined-grown : (o : Operator) (vars from : ℕ) (old new : List Truths) (f : Truths) (k : Triple) → Grown old new f → AreFrom vars old from k → combined_at o vars new from k ≡ combined_at o vars old from k
combined-grown o vars from old new f k g a =
    ap (λ (ls : List Truths). combined_at o vars ls from k) g.grown ∙ combined_kept o vars from old g.more k a.x.within a.y.within a.z.within

pub grown-none : (lists : List Truths) (f : Truths) → Grown lists lists f
grown-none lists f = record { more = []; grown = sym (append-nil lists); parts = λ t c. absurd (nothing t c) }
  where
    nothing : (t : Truths) → Contains [] t → ⊥
    nothing t c = let w : c.0 < 0 = c.1 in omega arith

pub grown-part : (old new : List Truths) (f g : Truths) → ((t : Truths) → IsPart t f → IsPart t g) → Grown old new f → Grown old new g
grown-part old new f g into h = record { more = h.more; grown = h.grown; parts = λ t c. ((h.parts t c).0, into t (h.parts t c).1) }

pub grown-then : (a b c : List Truths) (f : Truths) → Grown a b f → Grown b c f → Grown a c f
grown-then a b c f g h = record {
  more = g.more ++ h.more;
  grown = h.grown ∙ ap (λ (ls : List Truths). ls ++ h.more) g.grown ∙ append_assoc a g.more h.more;
  parts = λ t c. by t (Contains-append_cases g.more h.more t c);
}
  where
    by : (t : Truths) → (Contains g.more t ⊎ Contains h.more t) → IsUneven t × IsPart t f
    by t (inl m) = g.parts t m
    by t (inr m) = h.parts t m

pub over-part : (budget : ℕ) (lists : List Truths) (f g : Truths) → ((t : Truths) → IsPart t f → IsPart t g) → IsOverBy budget lists f → IsOverBy budget lists g
over-part budget lists f g into h = record { full = h.full; part = h.part; uneven = h.uneven; is_part = into h.part h.is_part; absent = h.absent }

pub grown-made : (old new : Lists) (v low high at : ℕ) → IsMade old new v low high at → Grown old.lists new.lists (joined old.vars old.lists v low high)
grown-made old new v low high at m = by m.lists
  where
    t : Truths
    t = joined old.vars old.lists v low high

    one : (x : Truths) → Contains (t ∷ []) x → IsUneven t → IsUneven x × IsPart x t
    one x c u = at_zero (Contains-push_cases [] t x c)
      where
        at_zero : (Contains [] x ⊎ (t ≡ x)) → IsUneven x × IsPart x t
        at_zero (inl n) = absurd (let w : n.0 < 0 = n.1 in omega arith)
        at_zero (inr e) = (subst IsUneven e u, subst (λ (y : Truths). IsPart y t) e (part-itself t))

    by : ((new.lists ≡ old.lists) ⊎ ((new.lists ≡ old.lists ++ t ∷ []) × IsUneven t)) → Grown old.lists new.lists t
    by (inl e) = subst (λ (ls : List Truths). Grown old.lists ls t) (sym e) (grown-none old.lists t)
    by (inr p) = record { more = t ∷ []; grown = p.0; parts = λ x c. one x c p.1 }
