-- The numbers of names: where equations stand, and what is put in for the numbers of a formula's names.
use Rattle.std.proofs.Common.{◌≡◌, ◌⊎◌, inl, inr, ℕ, zero, suc, ◌+◌, ◌<◌, Bool, true, false, cond, List, [], ◌∷◌, ◌++◌, map, length, slice_get, Some, refl, sym, ap, ◌∙◌, subst, arith}
use Rattle.vlsi_base.specs.declared.name.Name.{Name}
use Rattle.vlsi_base.specs.Member.{In, here, there, AllDifferent}
use Rattle.bool_expr.specs.Expression.{Expression, inverse, pair, choice, IsOver}
use Rattle.machine_core.specs.Named.{is_same_name}
use Rattle.machine_core.specs.Machine.{Machine, Equation}
use Rattle.machine_core.specs.Order.{held_names, equation_names, IsOrdered}
use Rattle.machine_core.proofs.Names.{same_name-itself, same_name-false}
use Rattle.machine_core.proofs.Values.{In-right, In-map}
use Rattle.source_checks.specs.Formula.{Formula, fixed, named, opposite, joined, chosen, place, numbered}
use Rattle.vlsi_model.proofs.Members.{In-cases, In-map_back}
use Rattle.machine_walk.specs.Expansion.{with_variables, held_count}
use Rattle.machine_roots.specs.Roots.{expression_of}

-- ---- the place of an equation

pub in_at : (es : List Equation) (j : ℕ) (x : Equation) → slice_get es j ≡ Some x → In x es
in_at [] j x at = absurd (cc at)
in_at (e ∷ es) zero x at = let same : e ≡ x = cc at in subst (λ (y : Equation). In y (e ∷ es)) same here
in_at (e ∷ es) (suc j) x at = there (in_at es j x at)

pub stands_at : (es : List Equation) (x : Equation) → In x es → (j : ℕ) × (slice_get es j ≡ Some x)
stands_at (e ∷ es) x here = (0, refl)
stands_at (e ∷ es) x (there h) = let r = stands_at es x h in (suc r.0, r.1)
stands_at [] x h = elim h [ ]

-- the equation of a name, with its number
pub record HasPlace (es : List Equation) (n : Name) : Type 0 where
  pub equation : Equation
  pub number : ℕ
  pub at : slice_get es number ≡ Some equation
  pub name_is : equation.name ≡ n

pub has_place : (es : List Equation) (n : Name) → In n (map (λ (e : Equation). e.name) es) → HasPlace es n
has_place es n h =
    let found = In-map_back (λ (e : Equation). e.name) n es h in
    let at = stands_at es found.0 found.1 in
    record { equation = found.0; number = at.0; at = at.1; name_is = found.2 }

abbrev names : List Equation → List Name
names es = map (λ e. e.name) es

name_in : (es : List Equation) (j : ℕ) (x : Equation) → slice_get es j ≡ Some x → In x.name (names es)
name_in es j x at = In-map (λ (e : Equation). e.name) x es (in_at es j x at)

-- another name in front moves a place by one
place_later : (m n : Name) (back : List Name) → (m ≡ n → ⊥) → place (m ∷ back) n ≡ place back n + 1
place_later m n back apart = ap (λ (b : Bool). cond b 0 (place back n + 1)) (same_name-false m n apart)

-- among different names that of an equation stands behind those in front by the equation's number
place_behind : (front : List Name) (es : List Equation) (j : ℕ) (x : Equation) → AllDifferent (front ++ names es) → slice_get es j ≡ Some x
    → place (front ++ names es) x.name ≡ length front + j
place_behind [] [] j x different at = absurd (cc at)
place_behind [] (e ∷ es) zero x different at =
    let same : e ≡ x = cc at in
    let first : place (e.name ∷ names es) e.name ≡ 0 = ap (λ (b : Bool). cond b 0 (place (names es) e.name + 1)) (same_name-itself e.name) in
    ap (λ (y : Equation). place (e.name ∷ names es) y.name) (sym same) ∙ first ∙ omega arith
place_behind [] (e ∷ es) (suc j) x different at =
    let rest : place (names es) x.name ≡ 0 + j = place_behind [] es j x different.1 at in
    place_later e.name x.name (names es) (λ p. different.0 (subst (λ (n : Name). In n (names es)) (sym p) (name_in es j x at))) ∙ omega (arith, rest)
place_behind (f ∷ front) es j x different at =
    let rest : place (front ++ names es) x.name ≡ length front + j = place_behind front es j x different.1 at in
    place_later f x.name (front ++ names es)
    (λ p. different.0 (subst (λ (n : Name). In n (front ++ names es)) (sym p) (In-right x.name front (names es) (name_in es j x at))))
    ∙ omega (arith, rest)

-- an equation's name has its place behind the inputs and registers
pub place_of_equation : (m : Machine) → IsOrdered m → (j : ℕ) (x : Equation) → slice_get m.equations j ≡ Some x
    → place m.vars x.name ≡ held_count m + j
place_of_equation m ordered j x at =
    ap (λ (ns : List Name). place ns x.name) ordered.vars
    ∙ place_behind (held_names m) m.equations j x (subst AllDifferent ordered.vars ordered.different) at

-- a name among the first ones has one place, whatever stands behind them
pub place_in_front : (front back other : List Name) (n : Name) → In n front → place (front ++ back) n ≡ place (front ++ other) n
place_in_front [] back other n i = elim i [ ]
place_in_front (m ∷ front) back other n i = by (is_same_name m n) refl (In-cases n m front i) (λ j. place_in_front front back other n j) where
  by : (b : Bool) → is_same_name m n ≡ b → (m ≡ n) ⊎ In n front → (In n front → place (front ++ back) n ≡ place (front ++ other) n)
      → cond b 0 (place (front ++ back) n + 1) ≡ cond b 0 (place (front ++ other) n + 1)
  by true is i rest = refl
  by false is (inl same) rest = let h : true ≡ false = sym (same_name-itself m) ∙ ap (is_same_name m) same ∙ is in absurd cc
  by false is (inr j) rest = ap (λ (p : ℕ). p + 1) (rest j)

-- ---- what an equation says

different_behind : (front back : List Name) → AllDifferent (front ++ back) → AllDifferent back
different_behind [] back d = d
different_behind (f ∷ front) back d = different_behind front back d.1

says_at : (es : List Equation) (j : ℕ) (x : Equation) → AllDifferent (names es) → slice_get es j ≡ Some x → expression_of es x.name ≡ x.expr
says_at [] j x different at = absurd (cc at)
says_at (e ∷ es) zero x different at =
    let same : e ≡ x = cc at in
    let test : is_same_name e.name x.name ≡ true = ap (λ (y : Equation). is_same_name e.name y.name) (sym same) ∙ same_name-itself e.name in
    ap (λ (b : Bool). cond b e.expr (expression_of es x.name)) test ∙ ap (λ (y : Equation). y.expr) same
says_at (e ∷ es) (suc j) x different at =
    let test : is_same_name e.name x.name ≡ false =
    same_name-false e.name x.name (λ p. different.0 (subst (λ (n : Name). In n (names es)) (sym p) (name_in es j x at))) in
    ap (λ (b : Bool). cond b e.expr (expression_of es x.name)) test ∙ says_at es j x different.1 at

pub expression_is : (m : Machine) → IsOrdered m → (n : Name) (p : HasPlace m.equations n) → expression_of m.equations n ≡ p.equation.expr
expression_is m ordered n p =
    let apart : AllDifferent (equation_names m) = different_behind (held_names m) (equation_names m) (subst AllDifferent ordered.vars ordered.different) in
    ap (expression_of m.equations) (sym p.name_is) ∙ says_at m.equations p.number p.equation apart p.at

-- ---- formulas over two lists of names

-- what is put in for the numbers of its names is all that matters of them
pub same_put : (vars others : List Name) (f g : ℕ → Expression) (b : ℕ) (e : Formula) → IsOver (numbered vars e) b
    → ((n : Name) → place vars n < b → f (place vars n) ≡ g (place others n)) → with_variables f (numbered vars e) ≡ with_variables g (numbered others e)
same_put vars others f g b (fixed c) over same = refl
same_put vars others f g b (named n) over same = same n over
same_put vars others f g b (opposite e) over same = ap inverse (same_put vars others f g b e over same)
same_put vars others f g b (joined o x y) over same =
    let p = same_put vars others f g b x over.0 same in
    let q = same_put vars others f g b y over.1 same in
    λ j. pair o (p j) (q j)
same_put vars others f g b (chosen c x y) over same =
    let o = same_put vars others f g b c over.0 same in
    let p = same_put vars others f g b x over.1.0 same in
    let q = same_put vars others f g b y over.1.1 same in
    λ j. choice (o j) (p j) (q j)
