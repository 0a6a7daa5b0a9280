-- What is asked for counts the same as all subexpressions of the expansion.
use Rattle.std.proofs.Common.{◌≡◌, ◌⊎◌, inl, inr, ℕ, zero, suc, ◌+◌, ◌-◌, ◌<◌, ◌≤◌, Bool, true, false, List, [], ◌∷◌, ◌++◌, length, map, slice_get, None, Some, refl, sym, ap, subst, ◌∙◌, arith}
use Rattle.std.specs.List.{Contains, slice_index_or}
use Rattle.std.proofs.lemmas.Bool.{cases_lt}
use Rattle.std.proofs.lemmas.List.Elements.{Contains-append_cases}
use Rattle.std.proofs.lemmas.Option.{slice_get_within, slice_get-get_or}
use Rattle.vlsi_base.specs.Member.{In, here, there}
use Rattle.vlsi_base.specs.Range.{falling}
use Rattle.bool_expr.specs.Expression.{Expression, constant, variable, inverse, pair, choice, variables, bit, IsOver}
use Rattle.machine_core.specs.Machine.{Machine, Equation}
use Rattle.machine_core.specs.Order.{IsOrdered}
use Rattle.machine_core.proofs.Values.{In-left, In-right, In-split, In-map}
use Rattle.bdd_core.specs.Truths.{Truths, constant as even, IsPart, IsCounted}
use Rattle.bdd_core.specs.Nodes.{raised, place}
use Rattle.bdd_core.specs.Asked.{denoted, asked_of}
use Rattle.machine_walk.specs.Expansion.{put_in, expansions, held_count, expansion, place_among, subexpressions}
use Rattle.machine_roots.specs.Roots.{list_by, list_of, lists_of}
use Rattle.machine_walk.specs.Walk.{order_of, Meets, reads, through, AreMet}
use Rattle.machine_roots.specs.Binding.{variable_list, variable_lists, bound_lists, asked_by}
use Rattle.machine_roots.proofs.Members.{sub_own, sub_of, FromEither, own, inside, sub_split, asked_each, CountsIn, counts_nothing}
use Rattle.machine_walk.proofs.Names.{over_in, name_of, length-expansions, expansion_held, expansion_at, length-vars}
use Rattle.machine_walk.proofs.Reaching.{only_in, equation_below}
use Rattle.machine_roots.proofs.Denoting.{order_different, place_within, place_again, meets_then, in_order_of, order_in, bound_kept, bound_at, AskedBy, asked_by_out, asked_by_in, denoted_put}

-- ---- members

pub contains_in : (xs : List Truths) (x : Truths) → In x xs → Contains xs x
contains_in [] x h = elim h [ ]
contains_in (y ∷ xs) x here = (0, omega arith, refl)
contains_in (y ∷ xs) x (there h) = let c = contains_in xs x h in (suc c.0, (let w = c.1 in omega (arith, w)), c.2)

in_contains_at : (xs : List Truths) (i : ℕ) (x d : Truths) → i < length xs → slice_index_or xs i d ≡ x → In x xs
in_contains_at [] i x d w is = absurd (omega arith)
in_contains_at (y ∷ xs) zero x d w is = subst (λ (z : Truths). In z (y ∷ xs)) is here
in_contains_at (y ∷ xs) (suc i) x d w is = there (in_contains_at xs i x d (omega arith) is)

pub in_contains : (xs : List Truths) (x : Truths) → Contains xs x → In x xs
in_contains xs x c = in_contains_at xs c.0 x x c.1 c.2

-- members are counted
pub counts_members : (fs gs : List Truths) → ((f : Truths) → In f fs → In f gs) → CountsIn fs gs
counts_members fs gs sub x c = (c.0, (c.1.0, contains_in gs c.1.0 (sub c.1.0 (in_contains fs c.1.0 c.1.1)), c.1.2))

pub counts_append : (xs ys gs : List Truths) → CountsIn xs gs → CountsIn ys gs → CountsIn (xs ++ ys) gs
counts_append xs ys gs first second x c = by (Contains-append_cases xs ys c.1.0 c.1.1) where
  by : Contains xs c.1.0 ⊎ Contains ys c.1.0 → IsCounted gs x
  by (inl k) = first x (c.0, (c.1.0, k, c.1.2))
  by (inr k) = second x (c.0, (c.1.0, k, c.1.2))

pub counts_constant : (n : ℕ) (gs : List Truths) → CountsIn (raised n (even false) ∷ []) gs
counts_constant n gs x c = absurd (counts_nothing n false x c.0 (subst (λ (f : Truths). IsPart x f) (only_in c.1.0 (raised n (even false)) (in_contains (raised n (even false) ∷ []) c.1.0 c.1.1)) c.1.2))

-- the lists of variables
pub record IsVariable (n c : ℕ) (f : Truths) : Type 0 where
  pub number : ℕ
  pub small : number < c
  pub is : f ≡ variable_list n number

variables_out : (n c : ℕ) (f : Truths) → In f (map (variable_list n) (falling 0 c)) → IsVariable n c f
variables_out n zero f h = elim h [ ]
variables_out n (suc c) f here = let e : 0 + c ≡ c = omega arith in record { number = c; small = omega arith; is = ap (variable_list n) e }
variables_out n (suc c) f (there h) = wider (variables_out n c f h) where
  wider : IsVariable n c f → IsVariable n (suc c) f
  wider v = record { number = v.number; small = (let s : v.number < c = v.small in omega (arith, s)); is = v.is }

variables_in : (n c k : ℕ) → k < c → In (variable_list n k) (map (variable_list n) (falling 0 c))
variables_in n zero k h = absurd (omega arith)
variables_in n (suc c) k h = by (cases_lt k c) (λ low. variables_in n c k low) where
  by : (k < c) ⊎ (c ≤ k) → (k < c → In (variable_list n k) (map (variable_list n) (falling 0 c))) → In (variable_list n k) (map (variable_list n) (falling 0 (suc c)))
  by (inl low) rest = there (rest low)
  by (inr high) rest = let e : 0 + c ≡ k = omega (arith, h, high) in subst (λ (i : ℕ). In (variable_list n k) (variable_list n i ∷ map (variable_list n) (falling 0 c))) (sym e) here

var_sub : (x : Expression) (k : ℕ) → In k (variables x) → In (variable k) (subexpressions x)
var_sub (constant b) k h = elim h [ ]
var_sub (variable j) k here = here
var_sub (variable j) k (there h) = elim h [ ]
var_sub (inverse x) k h = there (var_sub x k h)
var_sub (pair g a b) k h = there (elim (In-split k (variables a) (variables b) h) [
  | inl p ↦ In-left (variable k) (subexpressions a) (subexpressions b) (var_sub a k p)
  | inr p ↦ In-right (variable k) (subexpressions a) (subexpressions b) (var_sub b k p)
])
var_sub (choice c a b) k h =
    there (by (λ p. var_sub c k p) (λ p. var_sub a k p) (λ p. var_sub b k p) (In-split k (variables c) (variables a ++ variables b) h)) where
      C : List Expression
      C = subexpressions c

      A : List Expression
      A = subexpressions a

      B : List Expression
      B = subexpressions b

      rest : (In k (variables a) → In (variable k) A) → (In k (variables b) → In (variable k) B) → In k (variables a) ⊎ In k (variables b) → In (variable k) (A ++ B)
      rest ofa ofb (inl p) = In-left (variable k) A B (ofa p)
      rest ofa ofb (inr p) = In-right (variable k) A B (ofb p)

      by : (In k (variables c) → In (variable k) C) → (In k (variables a) → In (variable k) A) → (In k (variables b) → In (variable k) B)
          → In k (variables c) ⊎ In k (variables a ++ variables b) → In (variable k) (C ++ (A ++ B))
      by ofc ofa ofb (inl p) = In-left (variable k) C (A ++ B) (ofc p)
      by ofc ofa ofb (inr p) = In-right (variable k) C (A ++ B) (rest ofa ofb (In-split k (variables a) (variables b) p))

-- a subexpression reads what the expression reads
sub_reads : (x y : Expression) (k : ℕ) → In y (subexpressions x) → In k (variables y) → In k (variables x)
sub_reads (constant b) y k h i = subst (λ (z : Expression). In k (variables z)) (only_in y (constant b) h) i
sub_reads (variable j) y k h i = subst (λ (z : Expression). In k (variables z)) (only_in y (variable j) h) i
sub_reads (inverse x) y k here i = i
sub_reads (inverse x) y k (there h) i = sub_reads x y k h i
sub_reads (pair g a b) y k here i = i
sub_reads (pair g a b) y k (there h) i = elim (In-split y (subexpressions a) (subexpressions b) h) [
  | inl p ↦ In-left k (variables a) (variables b) (sub_reads a y k p i)
  | inr p ↦ In-right k (variables a) (variables b) (sub_reads b y k p i)
]
sub_reads (choice c a b) y k here i = i
sub_reads (choice c a b) y k (there h) i =
    by (λ p. sub_reads c y k p i) (λ p. sub_reads a y k p i) (λ p. sub_reads b y k p i) (In-split y (subexpressions c) (subexpressions a ++ subexpressions b) h) where
      rest : (In y (subexpressions a) → In k (variables a)) → (In y (subexpressions b) → In k (variables b)) → In y (subexpressions a) ⊎ In y (subexpressions b) → In k (variables a ++ variables b)
      rest ofa ofb (inl p) = In-left k (variables a) (variables b) (ofa p)
      rest ofa ofb (inr p) = In-right k (variables a) (variables b) (ofb p)

      by : (In y (subexpressions c) → In k (variables c)) → (In y (subexpressions a) → In k (variables a)) → (In y (subexpressions b) → In k (variables b))
          → In y (subexpressions c) ⊎ In y (subexpressions a ++ subexpressions b) → In k (variables c ++ (variables a ++ variables b))
      by ofc ofa ofb (inl p) = In-left k (variables c) (variables a ++ variables b) (ofc p)
      by ofc ofa ofb (inr p) = In-right k (variables c) (variables a ++ variables b) (rest ofa ofb (In-split y (subexpressions a) (subexpressions b) p))

sub_over : (x : Expression) (n : ℕ) → ((k : ℕ) → In k (variables x) → k < n) → IsOver x n
sub_over (constant b) n h = tt
sub_over (variable k) n h = h k here
sub_over (inverse x) n h = sub_over x n h
sub_over (pair g a b) n h = (sub_over a n (λ k i. h k (In-left k (variables a) (variables b) i)), sub_over b n (λ k i. h k (In-right k (variables a) (variables b) i)))
sub_over (choice c a b) n h = (
  sub_over c n (λ k i. h k (In-left k (variables c) (variables a ++ variables b) i)),
  (
    sub_over a n (λ k i. h k (In-right k (variables c) (variables a ++ variables b) (In-left k (variables a) (variables b) i))),
    sub_over b n (λ k i. h k (In-right k (variables c) (variables a ++ variables b) (In-right k (variables a) (variables b) i))),
  ),
)

-- what is asked for is what some subexpression denotes
pub record DenotedBy (n : ℕ) (lists : List Truths) (x : Expression) (f : Truths) : Type 0 where
  pub part : Expression
  pub inside : In part (subexpressions x)
  pub is : f ≡ denoted n lists part

module _ (n : ℕ) (lists : List Truths) where
  wider : (x y : Expression) (f : Truths) → ((z : Expression) → In z (subexpressions x) → In z (subexpressions y)) → DenotedBy n lists x f → DenotedBy n lists y f
  wider x y f sub d = record { part = d.part; inside = sub d.part d.inside; is = d.is }

  asked_back : (x : Expression) (f : Truths) → In f (asked_of n lists x) → DenotedBy n lists x f
  asked_back (constant b) f here = record { part = constant b; inside = here; is = refl }
  asked_back (constant b) f (there h) = elim h [ ]
  asked_back (variable k) f here = record { part = variable k; inside = here; is = refl }
  asked_back (variable k) f (there h) = elim h [ ]
  asked_back (inverse x) f here = record { part = inverse x; inside = here; is = refl }
  asked_back (inverse x) f (there h) = wider x (inverse x) f (λ z i. there i) (asked_back x f h)
  asked_back (pair g a b) f here = record { part = pair g a b; inside = here; is = refl }
  asked_back (pair g a b) f (there h) = elim (In-split f (asked_of n lists b) (asked_of n lists a) h) [
    | inl p ↦ wider b (pair g a b) f (λ z i. there (In-right z (subexpressions a) (subexpressions b) i)) (asked_back b f p)
    | inr p ↦ wider a (pair g a b) f (λ z i. there (In-left z (subexpressions a) (subexpressions b) i)) (asked_back a f p)
  ]
  asked_back (choice c a b) f here = record { part = choice c a b; inside = here; is = refl }
  asked_back (choice c a b) f (there h) =
      by (λ p. asked_back c f p) (λ p. asked_back a f p) (λ p. asked_back b f p) (In-split f (asked_of n lists b) (asked_of n lists a ++ asked_of n lists c) h) where
        ofa2 : DenotedBy n lists a f → DenotedBy n lists (choice c a b) f
        ofa2 d = wider a (choice c a b) f (λ z i. there (In-right z (subexpressions c) (subexpressions a ++ subexpressions b) (In-left z (subexpressions a) (subexpressions b) i))) d

        ofb2 : DenotedBy n lists b f → DenotedBy n lists (choice c a b) f
        ofb2 d = wider b (choice c a b) f (λ z i. there (In-right z (subexpressions c) (subexpressions a ++ subexpressions b) (In-right z (subexpressions a) (subexpressions b) i))) d

        ofc2 : DenotedBy n lists c f → DenotedBy n lists (choice c a b) f
        ofc2 d = wider c (choice c a b) f (λ z i. there (In-left z (subexpressions c) (subexpressions a ++ subexpressions b) i)) d

        rest : (In f (asked_of n lists c) → DenotedBy n lists c f) → (In f (asked_of n lists a) → DenotedBy n lists a f)
            → In f (asked_of n lists a) ⊎ In f (asked_of n lists c) → DenotedBy n lists (choice c a b) f
        rest ofc ofa (inl p) = ofa2 (ofa p)
        rest ofc ofa (inr p) = ofc2 (ofc p)

        by : (In f (asked_of n lists c) → DenotedBy n lists c f) → (In f (asked_of n lists a) → DenotedBy n lists a f) → (In f (asked_of n lists b) → DenotedBy n lists b f)
            → In f (asked_of n lists b) ⊎ In f (asked_of n lists a ++ asked_of n lists c) → DenotedBy n lists (choice c a b) f
        by ofc ofa ofb (inl p) = ofb2 (ofb p)
        by ofc ofa ofb (inr p) = rest ofc ofa (In-split f (asked_of n lists a) (asked_of n lists c) p)

-- what a map has is of some element
pub record MapBack (g : Expression → Truths) (xs : List Expression) (f : Truths) : Type 0 where
  pub from : Expression
  pub inside : In from xs
  pub is : f ≡ g from

In-map_back : (g : Expression → Truths) (xs : List Expression) (f : Truths) → In f (map g xs) → MapBack g xs f
In-map_back g [] f h = elim h [ ]
In-map_back g (x ∷ xs) f here = record { from = x; inside = here; is = refl }
In-map_back g (x ∷ xs) f (there h) = wide (In-map_back g xs f h) where
  wide : MapBack g xs f → MapBack g (x ∷ xs) f
  wide b = record { from = b.from; inside = there b.inside; is = b.is }

-- ---- all of a root

module _ (m : Machine) (ordered : IsOrdered m) (e : Expression) (over : IsOver e (length m.vars)) (met : List Bool) (marks : AreMet m e met) (lists : List Truths)
    (long : length lists ≡ held_count m)
    (first : (k : ℕ) → k < held_count m → In k (order_of m e) → place lists k ≡ variable_list (length (order_of m e)) (place_among (order_of m e) k)) where
  abbrev bound : List Truths
  bound = bound_lists (length (order_of m e)) met lists m.equations

  met_is : (k : ℕ) → Meets m e k → k < length m.vars → bit met k ≡ true
  met_is k meets within = (marks.marked k within).1 meets

  met_inside : (x : Expression) (k : ℕ) (y : Expression) → Meets m x k → In y (subexpressions (name_of (expansions m) k)) → In y (subexpressions (put_in (expansions m) x))
  met_inside x k y (reads h) i = sub_of (name_of (expansions m)) x k y h i
  met_inside x k y (through j q h at r) i =
      let deeper = met_inside q.expr k y r i in
      sub_of (name_of (expansions m)) x (held_count m + j) y h (subst (λ (z : Expression). In y (subexpressions z)) (sym (expansion_at m ordered j q at)) deeper)

  -- a name that is met has the list of its expansion
  bound_below : (b k : ℕ) → k < b → Meets m e k → k < length m.vars → place bound k ≡ list_by (order_of m e) (name_of (expansions m) k)
  bound_below zero k small meets within = absurd (omega arith)
  bound_below (suc b) k small meets within = by (cases_lt k (held_count m)) (λ j low more inside. bound_below b j low more inside) where
    inner : (j : ℕ) (x : Equation) → k ≡ held_count m + j → slice_get m.equations j ≡ Some x
        → ((i : ℕ) → i < b → Meets m e i → i < length m.vars → place (bound_lists (length (order_of m e)) met lists m.equations) i ≡ list_by (order_of m e) (name_of (expansions m) i))
        → place (bound_lists (length (order_of m e)) met lists m.equations) k ≡ list_by (order_of m e) (name_of (expansions m) k)
    inner j x is at ih =
        let below : IsOver x.expr (held_count m + j) = equation_below m.equations (held_count m) j x ordered.below at in
        let small2 : (i : ℕ) → In i (variables x.expr) → i < k = λ i h. (let l : i < held_count m + j = over_in x.expr (held_count m + j) i below h in omega (arith, is, l)) in
        let marked : bit met (held_count m + j) ≡ true = subst (λ (i : ℕ). bit met i ≡ true) is (met_is k meets within) in
        let one = bound_at (length (order_of m e)) met m.equations lists (held_count m) j x long ordered.below at marked in
        let wide : IsOver x.expr (length (expansions m)) =
        sub_over x.expr (length (expansions m)) (λ i h. (let l = small2 i h in omega (arith, l, within, length-expansions m, length-vars m ordered))) in
        let step : (i : ℕ) → In i (variables x.expr) → Meets m e i =
        λ i h. meets_then m e k i meets (through j x (subst (λ (y : ℕ). In y (k ∷ [])) is here) at (reads h)) in
        let two = denoted_put (order_of m e) (expansions m) (bound_lists (length (order_of m e)) met lists m.equations) x.expr wide
        (λ i h. (let l : i < k = small2 i h in ih i (omega (arith, l, small)) (step i h) (omega (arith, l, within)))) in
        ap (place (bound_lists (length (order_of m e)) met lists m.equations)) is ∙ one ∙ two
        ∙ ap (list_by (order_of m e)) (sym (ap (name_of (expansions m)) is ∙ expansion_at m ordered j x at))

    by : (k < held_count m) ⊎ (held_count m ≤ k)
        → ((i : ℕ) → i < b → Meets m e i → i < length m.vars → place (bound_lists (length (order_of m e)) met lists m.equations) i ≡ list_by (order_of m e) (name_of (expansions m) i))
        → place (bound_lists (length (order_of m e)) met lists m.equations) k ≡ list_by (order_of m e) (name_of (expansions m) k)
    by (inl low) ih =
        bound_kept (length (order_of m e)) met m.equations lists k (omega (arith, low, long)) ∙ first k low (in_order_of m ordered e k meets low)
        ∙ ap (list_by (order_of m e)) (sym (expansion_held m k low))
    by (inr high) ih =
        let small_n : k - held_count m < length m.equations = omega (arith, length-vars m ordered, within, high) in
        inner (k - held_count m) (slice_index_or m.equations (k - held_count m) (record { name = record { text = []; bit = None }; expr = variable 0 })) (omega (arith, high))
        (slice_get-get_or m.equations (k - held_count m) (record { name = record { text = []; bit = None }; expr = variable 0 }) small_n) ih

  bound_is : (k : ℕ) → Meets m e k → k < length m.vars → place bound k ≡ list_by (order_of m e) (name_of (expansions m) k)
  bound_is k meets within = bound_below (suc k) k (omega arith) meets within

  -- an expression that reads names that are met denotes the list of its expansion
  denotes : (x : Expression) → ((k : ℕ) → In k (variables x) → Meets m e k × (k < length m.vars))
      → denoted (length (order_of m e)) bound x ≡ list_by (order_of m e) (put_in (expansions m) x)
  denotes x each =
      denoted_put (order_of m e) (expansions m) bound x
      (sub_over x (length (expansions m)) (λ k h. (let w = (each k h).1 in omega (arith, w, length-expansions m, length-vars m ordered))))
      (λ k h. bound_is k (each k h).0 (each k h).1)

  root_reads : (k : ℕ) → In k (variables e) → Meets m e k × (k < length m.vars)
  root_reads k h = (reads h, over_in e (length m.vars) k over h)

  -- what the root denotes
  pub root_denotes : denoted (length (order_of m e)) (bound_lists (length (order_of m e)) met lists m.equations) e ≡ list_of m e
  root_denotes = denotes e root_reads

  equation_reads : (j : ℕ) (x : Equation) → slice_get m.equations j ≡ Some x → bit met (held_count m + j) ≡ true → (k : ℕ) → In k (variables x.expr) → Meets m e k × (k < length m.vars)
  equation_reads j x at marked k h =
      let small = slice_get_within m.equations j x at in
      let within : held_count m + j < length m.vars = omega (arith, small, length-vars m ordered) in
      let meets : Meets m e (held_count m + j) = (marks.marked (held_count m + j) within).0 marked in
      let below : k < held_count m + j = over_in x.expr (held_count m + j) k (equation_below m.equations (held_count m) j x ordered.below at) h in
      (meets_then m e (held_count m + j) k meets (through j x here at (reads h)), omega (arith, below, within))

  -- ---- all that is asked for is a list of a subexpression

  pub variables_counted : CountsIn (variable_lists (length (order_of m e))) (lists_of m e)
  variables_counted = counts_members (variable_lists (length (order_of m e))) (lists_of m e) (λ f h. by f (variables_out (length (order_of m e)) (length (order_of m e)) f h)) where
    by : (f : Truths) → IsVariable (length (order_of m e)) (length (order_of m e)) f → In f (lists_of m e)
    by f v =
        let again = place_again (order_of m e) v.number 0 (order_different m e) v.small in
        let known = order_in m ordered e (slice_index_or (order_of m e) v.number 0) over again.0 in
        let part : In (variable (slice_index_or (order_of m e) v.number 0)) (subexpressions (expansion m e)) =
        met_inside e (slice_index_or (order_of m e) v.number 0) (variable (slice_index_or (order_of m e) v.number 0)) known.1
        (subst (λ (z : Expression). In (variable (slice_index_or (order_of m e) v.number 0)) (subexpressions z)) (sym (expansion_held m (slice_index_or (order_of m e) v.number 0) known.0)) here) in
        let is : list_by (order_of m e) (variable (slice_index_or (order_of m e) v.number 0)) ≡ f = ap (variable_list (length (order_of m e))) again.1 ∙ sym v.is in
        subst (λ (t : Truths). In t (lists_of m e)) is (In-map (list_by (order_of m e)) (variable (slice_index_or (order_of m e) v.number 0)) (subexpressions (expansion m e)) part)

  pub root_counted : CountsIn (asked_of (length (order_of m e)) (bound_lists (length (order_of m e)) met lists m.equations) e) (lists_of m e)
  root_counted =
      counts_members (asked_of (length (order_of m e)) bound e) (lists_of m e) (λ f h. by f (asked_back (length (order_of m e)) bound e f h)) where
        by : (f : Truths) → DenotedBy (length (order_of m e)) bound e f → In f (lists_of m e)
        by f d =
            let is : denoted (length (order_of m e)) bound d.part ≡ list_by (order_of m e) (put_in (expansions m) d.part) = denotes d.part (λ k i. root_reads k (sub_reads e d.part k d.inside i)) in
            subst (λ (t : Truths). In t (lists_of m e)) (sym (d.is ∙ is))
            (In-map (list_by (order_of m e)) (put_in (expansions m) d.part) (subexpressions (expansion m e)) (sub_own (name_of (expansions m)) e d.part d.inside))

  pub equations_counted : CountsIn (asked_by (length (order_of m e)) met lists m.equations) (lists_of m e)
  equations_counted =
      counts_members (asked_by (length (order_of m e)) met lists m.equations) (lists_of m e)
      (λ f h. by f (asked_by_out (length (order_of m e)) met m.equations lists (held_count m) f long ordered.below h)) where
        inner : (f : Truths) (a : AskedBy (length (order_of m e)) met m.equations lists (held_count m) f) → DenotedBy (length (order_of m e)) bound a.equation.expr f → In f (lists_of m e)
        inner f a d =
            let each = equation_reads a.number a.equation a.at a.marked in
            let is : denoted (length (order_of m e)) bound d.part ≡ list_by (order_of m e) (put_in (expansions m) d.part) = denotes d.part (λ k i. each k (sub_reads a.equation.expr d.part k d.inside i)) in
            let small = slice_get_within m.equations a.number a.equation a.at in
            let within : held_count m + a.number < length m.vars = omega (arith, small, length-vars m ordered) in
            let meets : Meets m e (held_count m + a.number) = (marks.marked (held_count m + a.number) within).0 a.marked in
            let part : In (put_in (expansions m) d.part) (subexpressions (name_of (expansions m) (held_count m + a.number))) =
            subst (λ (z : Expression). In (put_in (expansions m) d.part) (subexpressions z)) (sym (expansion_at m ordered a.number a.equation a.at)) (sub_own (name_of (expansions m)) a.equation.expr d.part d.inside) in
            subst (λ (t : Truths). In t (lists_of m e)) (sym (d.is ∙ is))
            (In-map (list_by (order_of m e)) (put_in (expansions m) d.part) (subexpressions (expansion m e)) (met_inside e (held_count m + a.number) (put_in (expansions m) d.part) meets part))

        by : (f : Truths) → AskedBy (length (order_of m e)) met m.equations lists (held_count m) f → In f (lists_of m e)
        by f a = inner f a (asked_back (length (order_of m e)) bound a.equation.expr f a.inside)

  -- ---- and the other way round

  -- what is asked for before the root
  abbrev pub before_root : List Truths
  before_root = asked_by (length (order_of m e)) met lists m.equations ++ variable_lists (length (order_of m e))

  inner_below : (b k : ℕ) (s : Expression) → k < b → Meets m e k → k < length m.vars → In s (subexpressions (name_of (expansions m) k)) → In (list_by (order_of m e) s) before_root
  inner_below zero k s small meets within i = absurd (omega arith)
  inner_below (suc b) k s small meets within i = by (cases_lt k (held_count m)) (λ j low more inside at. inner_below b j s low more inside at) where
    inner : (j : ℕ) (x : Equation) → k ≡ held_count m + j → slice_get m.equations j ≡ Some x
        → ((q : ℕ) → q < b → Meets m e q → q < length m.vars → In s (subexpressions (name_of (expansions m) q)) → In (list_by (order_of m e) s) before_root)
        → FromEither (name_of (expansions m)) x.expr s → In (list_by (order_of m e) s) before_root
    inner j x is at ih (own y h p) =
        let marked : bit met (held_count m + j) ≡ true = subst (λ (q : ℕ). bit met q ≡ true) is (met_is k meets within) in
        let each = equation_reads j x at marked in
        let says : list_by (order_of m e) s ≡ denoted (length (order_of m e)) bound y =
        ap (list_by (order_of m e)) p ∙ sym (denotes y (λ q w. each q (sub_reads x.expr y q h w))) in
        subst (λ (t : Truths). In t before_root) (sym says)
        (In-left (denoted (length (order_of m e)) bound y) (asked_by (length (order_of m e)) met lists m.equations) (variable_lists (length (order_of m e)))
        (asked_by_in (length (order_of m e)) met m.equations lists (held_count m) j x (denoted (length (order_of m e)) bound y) long ordered.below at marked
        (asked_each (length (order_of m e)) bound x.expr y h)))
    inner j x is at ih (inside q h w) =
        let marked : bit met (held_count m + j) ≡ true = subst (λ (q : ℕ). bit met q ≡ true) is (met_is k meets within) in
        let each = equation_reads j x at marked q h in
        let below : q < held_count m + j = over_in x.expr (held_count m + j) q (equation_below m.equations (held_count m) j x ordered.below at) h in
        ih q (omega (arith, below, is, small)) each.0 each.1 w

    by : (k < held_count m) ⊎ (held_count m ≤ k)
        → ((q : ℕ) → q < b → Meets m e q → q < length m.vars → In s (subexpressions (name_of (expansions m) q)) → In (list_by (order_of m e) s) before_root)
        → In (list_by (order_of m e) s) before_root
    by (inl low) ih =
        let is : s ≡ variable k = only_in s (variable k) (subst (λ (z : Expression). In s (subexpressions z)) (expansion_held m k low) i) in
        let small_n = place_within (order_of m e) k (in_order_of m ordered e k meets low) in
        subst (λ (t : Truths). In t before_root) (sym (ap (list_by (order_of m e)) is))
        (In-right (variable_list (length (order_of m e)) (place_among (order_of m e) k)) (asked_by (length (order_of m e)) met lists m.equations) (variable_lists (length (order_of m e)))
        (variables_in (length (order_of m e)) (length (order_of m e)) (place_among (order_of m e) k) small_n))
    by (inr high) ih =
        let small_n : k - held_count m < length m.equations = omega (arith, length-vars m ordered, within, high) in
        let number : k ≡ held_count m + (k - held_count m) = omega (arith, high) in
        let at = slice_get-get_or m.equations (k - held_count m) (record { name = record { text = []; bit = None }; expr = variable 0 }) small_n in
        inner (k - held_count m) (slice_index_or m.equations (k - held_count m) (record { name = record { text = []; bit = None }; expr = variable 0 })) number at ih
        (sub_split (name_of (expansions m)) (slice_index_or m.equations (k - held_count m) (record { name = record { text = []; bit = None }; expr = variable 0 })).expr s
        (subst (λ (z : Expression). In s (subexpressions z)) (ap (name_of (expansions m)) number ∙ expansion_at m ordered (k - held_count m) (slice_index_or m.equations (k - held_count m) (record { name = record { text = []; bit = None }; expr = variable 0 })) at) i))

  pub lists_counted : CountsIn (lists_of m e)
      (asked_of (length (order_of m e)) (bound_lists (length (order_of m e)) met lists m.equations) e
      ++ (asked_by (length (order_of m e)) met lists m.equations ++ variable_lists (length (order_of m e))))
  lists_counted =
      counts_members (lists_of m e) (asked_of (length (order_of m e)) bound e ++ before_root) (λ f h. out f (In-map_back (list_by (order_of m e)) (subexpressions (expansion m e)) f h)) where
        part : (s : Expression) → FromEither (name_of (expansions m)) e s → In (list_by (order_of m e) s) (asked_of (length (order_of m e)) bound e ++ before_root)
        part s (own y h p) =
            let says : list_by (order_of m e) s ≡ denoted (length (order_of m e)) bound y =
            ap (list_by (order_of m e)) p ∙ sym (denotes y (λ q w. root_reads q (sub_reads e y q h w))) in
            subst (λ (t : Truths). In t (asked_of (length (order_of m e)) bound e ++ before_root)) (sym says)
            (In-left (denoted (length (order_of m e)) bound y) (asked_of (length (order_of m e)) bound e) before_root (asked_each (length (order_of m e)) bound e y h))
        part s (inside q h w) =
            In-right (list_by (order_of m e) s) (asked_of (length (order_of m e)) bound e) before_root
            (inner_below (suc q) q s (omega arith) (reads h) (over_in e (length m.vars) q over h) w)

        out : (f : Truths) → MapBack (list_by (order_of m e)) (subexpressions (expansion m e)) f → In f (asked_of (length (order_of m e)) bound e ++ before_root)
        out f b = subst (λ (t : Truths). In t (asked_of (length (order_of m e)) bound e ++ before_root)) (sym b.is) (part b.from (sub_split (name_of (expansions m)) e b.from b.inside))
