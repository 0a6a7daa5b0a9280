-- What stands in place of each name in expansions.
use Rattle.std.proofs.Common.{◌≡◌, ◌⊎◌, inl, inr, ℕ, zero, suc, ◌+◌, ◌<◌, false, List, [], ◌∷◌, ◌++◌, length, map, slice_get, Some, refl, sym, ap, ◌∙◌, arith, length-append}
use Rattle.std.specs.List.{slice_index_or}
use Rattle.std.proofs.lemmas.List.{length-map, get_or_append_left}
use Rattle.std.proofs.Math.Seq.{get_or-append_seam}
use Rattle.vlsi_base.specs.Range.{rising}
use Rattle.vlsi_base.specs.Member.{In, here, there}
use Rattle.bool_expr.specs.Expression.{Expression, constant, variable, inverse, pair, choice, variables, IsOver}
use Rattle.machine_core.specs.Machine.{Machine, Equation}
use Rattle.machine_core.specs.Order.{EachReadsBelow, held_names, equation_names, IsOrdered}
use Rattle.machine_core.proofs.Values.{In-left, In-right, In-split}
use Rattle.machine_walk.specs.Expansion.{with_variables, put_in, expanded, expansions, held_count}

-- what an expression reads is below a number
pub over_in : (e : Expression) (n k : ℕ) → IsOver e n → In k (variables e) → k < n
over_in (constant b) n k o h = elim h [ ]
over_in (variable j) n k o here = o
over_in (variable j) n k o (there h) = elim h [ ]
over_in (inverse e) n k o h = over_in e n k o h
over_in (pair g a b) n k o h = elim (In-split k (variables a) (variables b) h) [ inl p ↦ over_in a n k o.0 p | inr p ↦ over_in b n k o.1 p ]
over_in (choice c a b) n k o h = by (λ p. over_in c n k o.0 p) (λ p. over_in a n k o.1.0 p) (λ p. over_in b n k o.1.1 p) (In-split k (variables c) (variables a ++ variables b) h) where
  rest : (In k (variables a) → k < n) → (In k (variables b) → k < n) → In k (variables a) ⊎ In k (variables b) → k < n
  rest ofa ofb (inl p) = ofa p
  rest ofa ofb (inr p) = ofb p

  by : (In k (variables c) → k < n) → (In k (variables a) → k < n) → (In k (variables b) → k < n) → In k (variables c) ⊎ In k (variables a ++ variables b) → k < n
  by ofc ofa ofb (inl p) = ofc p
  by ofc ofa ofb (inr p) = rest ofa ofb (In-split k (variables a) (variables b) p)

-- what stands in place of the variables that an expression reads is all that matters
pub with_variables_agree : (f g : ℕ → Expression) (e : Expression) → ((k : ℕ) → In k (variables e) → f k ≡ g k) → with_variables f e ≡ with_variables g e
with_variables_agree f g (constant b) h = refl
with_variables_agree f g (variable k) h = h k here
with_variables_agree f g (inverse e) h = ap inverse (with_variables_agree f g e h)
with_variables_agree f g (pair o a b) h =
    let p = with_variables_agree f g a (λ k i. h k (In-left k (variables a) (variables b) i)) in
    let q = with_variables_agree f g b (λ k i. h k (In-right k (variables a) (variables b) i)) in
    λ j. pair o (p j) (q j)
with_variables_agree f g (choice c a b) h =
    let o = with_variables_agree f g c (λ k i. h k (In-left k (variables c) (variables a ++ variables b) i)) in
    let p = with_variables_agree f g a (λ k i. h k (In-right k (variables c) (variables a ++ variables b) (In-left k (variables a) (variables b) i))) in
    let q = with_variables_agree f g b (λ k i. h k (In-right k (variables c) (variables a ++ variables b) (In-right k (variables a) (variables b) i))) in
    λ j. choice (o j) (p j) (q j)

-- number k of some expressions
abbrev pub name_of : List Expression → ℕ → Expression
name_of known k = slice_index_or known k (constant false)

pub name_kept : (known more : List Expression) (k : ℕ) → k < length known → name_of (known ++ more) k ≡ name_of known k
name_kept known more k within = get_or_append_left known more (constant false) k within

pub length-expanded : (es : List Equation) (known : List Expression) → length (expanded known es) ≡ length known + length es
length-expanded [] known = omega arith
length-expanded (e ∷ es) known =
    length-expanded es (known ++ put_in known e.expr ∷ []) ∙ omega (arith, length-append known (put_in known e.expr ∷ []))

pub expanded_kept : (es : List Equation) (known : List Expression) (k : ℕ) → k < length known → name_of (expanded known es) k ≡ name_of known k
expanded_kept [] known k within = refl
expanded_kept (e ∷ es) known k within =
    expanded_kept es (known ++ put_in known e.expr ∷ []) k (omega (arith, length-append known (put_in known e.expr ∷ [])))
    ∙ name_kept known (put_in known e.expr ∷ []) k within

-- in place of an equation's name stands what it says, with expansions put in
pub expanded_at : (es : List Equation) (known : List Expression) (b n : ℕ) (x : Equation) → length known ≡ b → EachReadsBelow b es → slice_get es n ≡ Some x
    → name_of (expanded known es) (b + n) ≡ put_in (expanded known es) x.expr
expanded_at [] known b n x long below at = absurd (cc at)
expanded_at (e ∷ es) known b zero x long below at =
    let same : e ≡ x = cc at in
    let more : List Expression = known ++ put_in known e.expr ∷ [] in
    let place : b + 0 ≡ length known = omega (arith, long) in
    let last : name_of more (length known) ≡ put_in known e.expr = get_or-append_seam known (put_in known e.expr) [] (constant false) in
    let kept : name_of (expanded more es) (length known) ≡ name_of more (length known) =
    expanded_kept es more (length known) (omega (arith, length-append known (put_in known e.expr ∷ []))) in
    let agree : put_in known e.expr ≡ put_in (expanded more es) e.expr =
    with_variables_agree (name_of known) (name_of (expanded more es)) e.expr (λ k h. reads k (omega (arith, long, over_in e.expr b k below.0 h))) in
    ap (name_of (expanded more es)) place ∙ kept ∙ last ∙ agree ∙ ap (λ (y : Equation). put_in (expanded more es) y.expr) same
  where
    reads : (k : ℕ) → k < length known → name_of known k ≡ name_of (expanded (known ++ put_in known e.expr ∷ []) es) k
    reads k within =
        sym (expanded_kept es (known ++ put_in known e.expr ∷ []) k (omega (arith, within, length-append known (put_in known e.expr ∷ []))) ∙ name_kept known (put_in known e.expr ∷ []) k within)
expanded_at (e ∷ es) known b (suc n) x long below at =
    let more : List Expression = known ++ put_in known e.expr ∷ [] in
    let place : b + suc n ≡ (b + 1) + n = omega arith in
    ap (name_of (expanded more es)) place
    ∙ expanded_at es more (b + 1) n x (omega (arith, long, length-append known (put_in known e.expr ∷ []))) below.1 at

variable_at : (a n k : ℕ) → k < n → name_of (map variable (rising a n)) k ≡ variable (a + k)
variable_at a zero k h = absurd (omega arith)
variable_at a (suc n) zero h = let e : a ≡ a + 0 = omega arith in ap variable e
variable_at a (suc n) (suc k) h = let e : (a + 1) + k ≡ a + suc k = omega arith in variable_at (a + 1) n k (omega arith) ∙ ap variable e

pub length-rising : (a n : ℕ) → length (rising a n) ≡ n
length-rising a zero = refl
length-rising a (suc n) = omega (arith, length-rising (a + 1) n)

held_long : (n : ℕ) → length (map variable (rising 0 n)) ≡ n
held_long n = length-map (rising 0 n) variable ∙ length-rising 0 n

module _ (m : Machine) where
  pub length-expansions : length (expansions m) ≡ held_count m + length m.equations
  unfolding expansions
  length-expansions = length-expanded m.equations (map variable (rising 0 (held_count m))) ∙ omega (arith, held_long (held_count m))

  -- an input or register is itself
  pub expansion_held : (k : ℕ) → k < held_count m → name_of (expansions m) k ≡ variable k
  unfolding expansions
  expansion_held k h =
      expanded_kept m.equations (map variable (rising 0 (held_count m))) k (omega (arith, held_long (held_count m)))
      ∙ variable_at 0 (held_count m) k h ∙ (let e : 0 + k ≡ k = omega arith in ap variable e)

  -- an equation's name is what it says
  pub expansion_at : IsOrdered m → (n : ℕ) (x : Equation) → slice_get m.equations n ≡ Some x → name_of (expansions m) (held_count m + n) ≡ put_in (expansions m) x.expr
  unfolding expansions
  expansion_at ordered n x at =
      expanded_at m.equations (map variable (rising 0 (held_count m))) (held_count m) n x (held_long (held_count m)) ordered.below at

  pub length-vars : IsOrdered m → length m.vars ≡ held_count m + length m.equations
  length-vars ordered =
      ap length ordered.vars ∙ length-append (held_names m) (equation_names m) ∙ ap (λ (n : ℕ). held_count m + n) (length-map m.equations (λ (e : Equation). e.name))
