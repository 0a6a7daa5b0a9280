-- The order of equations, by the names that are known.
use Rattle.std.proofs.Common.{◌⊎◌, inl, inr, ◌≡◌, ◌<◌, ℕ, zero, suc, ◌+◌, List, [], ◌∷◌, ◌++◌, map, length, sym, ◌∙◌, arith, append_assoc, length-append, subst}
use Rattle.std.specs.List.{slice_index_or, All}
use Rattle.vlsi_base.specs.declared.name.Name.{Name}
use Rattle.bool_expr.specs.Expression.{Expression, constant, variable, inverse, pair, choice, variables, IsOver}
use Rattle.machine_core.specs.Machine.{Machine, Equation}
use Rattle.machine_core.proofs.Values.{In-split}
use Rattle.machine_core.specs.Order.{In, here, there, AllDifferent, held_names, equation_names, EachReadsBelow, IsOrdered}

-- each variable of the equation is the number of a name that is known
abbrev pub ReadsKnown : List Name → List Name → Equation → Type 0
ReadsKnown vars known e = (k : ℕ) → In k (variables e.expr) → (k < length vars) × ((d : Name) → In (slice_index_or vars k d) known)

-- what is known grows from equation to equation
abbrev pub EachReadsKnown : List Name → List Name → List Equation → Type 0
EachReadsKnown vars known [] = Unit {0}
EachReadsKnown vars known (e ∷ rest) = ReadsKnown vars known e × EachReadsKnown vars (e.name ∷ known) rest

pub record IsKnown (m : Machine) : Type 0 where
  pub different : AllDifferent m.vars
  pub once : AllDifferent (held_names m ++ equation_names m)
  pub covered : (name : Name) → In name m.vars → In name (held_names m ++ equation_names m)
  pub inside : (name : Name) → In name (held_names m ++ equation_names m) → In name m.vars
  pub ordered : EachReadsKnown m.vars (held_names m) m.equations

-- the variables of an expression over n are below n
pub IsOver-In : (e : Expression) (n : ℕ) → IsOver e n → (k : ℕ) → In k (variables e) → k < n
IsOver-In (constant b) n h k g = elim g [ ]
IsOver-In (variable j) n h k here = h
IsOver-In (variable j) n h k (there g) = elim g [ ]
IsOver-In (inverse e) n h k g = IsOver-In e n h k g
IsOver-In (pair o a b) n h k g = elim (In-split k (variables a) (variables b) g) [ inl x ↦ IsOver-In a n h.0 k x | inr y ↦ IsOver-In b n h.1 k y ]
IsOver-In (choice c a b) n h k g = elim (In-split k (variables c) (variables a ++ variables b) g) [
  | inl x ↦ IsOver-In c n h.0 k x
  | inr y ↦ elim (In-split k (variables a) (variables b) y) [ inl x ↦ IsOver-In a n h.1.0 k x | inr z ↦ IsOver-In b n h.1.1 k z ]
]

In-front : (front back : List Name) (k : ℕ) (d : Name) → k < length front → In (slice_index_or (front ++ back) k d) front
In-front [] back k d h = absurd (omega arith)
In-front (x ∷ front) back zero d h = here
In-front (x ∷ front) back (suc k) d h = there (In-front front back k d (omega arith))

known_from_below : (vars front known : List Name) (equations : List Equation) → vars ≡ front ++ map (λ e. e.name) equations
    → ((name : Name) → In name front → In name known) → EachReadsBelow (length front) equations → EachReadsKnown vars known equations
known_from_below vars front known [] vars_are covers below = tt
known_from_below vars front known (e ∷ rest) vars_are covers below = (
  λ k h.
      let low : k < length front = IsOver-In e.expr (length front) below.0 k h in (
        rw vars_are (omega (arith, length-append front (e.name ∷ map (λ x. x.name) rest))),
        λ d. rw vars_are (covers (slice_index_or (front ++ (e.name ∷ map (λ x. x.name) rest)) k d) (In-front front (e.name ∷ map (λ x. x.name) rest) k d low)),
      ),
  known_from_below vars (front ++ e.name ∷ []) (e.name ∷ known) rest
      (vars_are ∙ sym (append_assoc front (e.name ∷ []) (map (λ x. x.name) rest)))
      (grown e.name front known covers)
      (let n : length (front ++ e.name ∷ []) ≡ length front + 1 = length-append front (e.name ∷ []) in
      let P : ℕ → Type 0 = λ n. EachReadsBelow n rest in subst P (sym n) below.1),
) where
  grown : (n : Name) (front known : List Name) → ((name : Name) → In name front → In name known) → (name : Name) → In name (front ++ n ∷ []) → In name (n ∷ known)
  grown n [] known covers name here = here
  grown n [] known covers name (there h) = elim h [ ]
  grown n (x ∷ front) known covers name here = there (covers x here)
  grown n (x ∷ front) known covers name (there h) = grown n front known (λ m g. covers m (there g)) name h

pub known : (m : Machine) → IsOrdered m → IsKnown m
known m o = record {
  different = o.different;
  once = rw o.vars at o.different;
  covered = λ name h. rw o.vars at h;
  inside = λ name h. rw o.vars h;
  ordered = known_from_below m.vars (held_names m) (held_names m) m.equations o.vars (λ name h. h) o.below;
}
