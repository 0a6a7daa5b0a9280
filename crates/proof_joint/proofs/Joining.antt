-- Two roots in one diagram: its order, and what is asked for.
use Rattle.std.proofs.Common.{◌≡◌, ◌⊎◌, inl, inr, ℕ, ◌+◌, ◌<◌, ◌≤◌, Bool, true, false, not, List, [], ◌∷◌, ◌++◌, length, map, filter, replicate, Option, None, Some, option_to_list, refl, sym, ap, subst, ◌∙◌, arith, if◌then◌else◌, ◌||◌}
use Rattle.std.specs.Prelude.{nat_eq}
use Rattle.std.specs.List.{slice_index_or}
use Rattle.std.proofs.lemmas.Bool.{eqb-true}
use Rattle.std.proofs.lemmas.List.{length-replicate}
use Rattle.vlsi_base.specs.declared.name.Name.{Name}
use Rattle.vlsi_base.specs.Member.{In, here, there, AllDifferent}
use Rattle.bool_expr.specs.Expression.{Expression, bit, IsOver as IsWithin}
use Rattle.bool_expr.specs.Support.{among}
use Rattle.machine_core.specs.Machine.{Machine, is_clock}
use Rattle.machine_core.specs.Order.{held_names, IsOrdered}
use Rattle.machine_core.proofs.Values.{In-left, In-right, In-split}
use Rattle.bdd_core.specs.Truths.{Truths, constant}
use Rattle.bdd_core.specs.Nodes.{raised, place}
use Rattle.bdd_core.specs.Asked.{asked_of}
use Rattle.machine_walk.specs.Expansion.{held_count, expansion, subexpressions, place_among}
use Rattle.machine_roots.specs.Roots.{list_by}
use Rattle.machine_walk.specs.Walk.{order_of, AreMet}
use Rattle.machine_roots.specs.Binding.{variable_list, variable_lists, held_lists, bound_lists, asked_by}
use Rattle.machine_roots.proofs.Members.{CountsIn}
use Rattle.machine_walk.proofs.Names.{length-vars}
use Rattle.machine_roots.proofs.Few.{few_below}
use Rattle.machine_roots.proofs.Denoting.{order_different, place_again, in_order_of, order_in, length_put, put_at}
use Rattle.machine_roots.proofs.Sets.{counts_members, counts_append, counts_constant, IsVariable}
use Rattle.machine_roots.specs.Shared.{shared_lists, root_list, root_lists}
use Rattle.proof_joint.specs.declared.naming.Role.TheVariants.{Input, Clock, Register}
use Rattle.proof_joint.specs.Naming.{HaveSameNames}
use Rattle.proof_joint.specs.Together.{joint_order, joint_lists}
use Rattle.proof_joint.proofs.Ordered.{lists_over, variables_out, root_denotes, variable_inside, root_counted, equations_counted, lists_counted}

-- ---- machines that have the same names

one_option : (x y : Option Name) → option_to_list y ≡ option_to_list x → y ≡ x
one_option None None e = refl
one_option None (Some y) e = absurd (cc e)
one_option (Some x) None e = absurd (cc e)
one_option (Some x) (Some y) e = let same : y ≡ x = cc e in ap Some same

pub same_clock : (a b : Machine) → HaveSameNames a b → b.clock ≡ a.clock
same_clock a b same = one_option a.clock b.clock (same Clock)

pub same_held : (a b : Machine) → HaveSameNames a b → held_names b ≡ held_names a
same_held a b same =
    let c = same_clock a b same in
    λ j. filter (λ (name : Name). not (is_clock (c j) name)) (same Input j) ++ same Register j

pub same_count : (a b : Machine) → HaveSameNames a b → held_count b ≡ held_count a
same_count a b same = ap length (same_held a b same)

-- ---- the order

among_in : (k : ℕ) (xs : List ℕ) → among k xs ≡ true → In k xs
among_in k [] e = absurd (cc e)
among_in k (x ∷ xs) e = by (nat_eq x k) refl e (λ p. among_in k xs p) where
  by : (b : Bool) → nat_eq x k ≡ b → (b || among k xs) ≡ true → (among k xs ≡ true → In k xs) → In k (x ∷ xs)
  by true t p rest = subst (λ (y : ℕ). In k (y ∷ xs)) (sym (eqb-true x k t)) here
  by false t p rest = there (rest p)

in_among : (k : ℕ) (xs : List ℕ) → In k xs → among k xs ≡ true
in_among k [] h = elim h [ ]
in_among k (x ∷ xs) here = let t : nat_eq k k ≡ true = search arith in ap (λ (b : Bool). b || among k xs) t
in_among k (x ∷ xs) (there h) = by (nat_eq x k) (in_among k xs h) where
  by : (b : Bool) → among k xs ≡ true → (b || among k xs) ≡ true
  by true p = refl
  by false p = p

filter_in : (t : ℕ → Bool) (k : ℕ) (xs : List ℕ) → In k (filter t xs) → In k xs × (t k ≡ true)
filter_in t k [] h = elim h [ ]
filter_in t k (x ∷ xs) h = by (t x) refl h (λ p. filter_in t k xs p) where
  first : (m : ℕ) → t x ≡ true → In m (x ∷ filter t xs) → (In m (filter t xs) → In m xs × (t m ≡ true)) → In m (x ∷ xs) × (t m ≡ true)
  first m e here rest = (here, e)
  first m e (there p) rest = let r = rest p in (there r.0, r.1)

  by : (b : Bool) → t x ≡ b → In k (if b then x ∷ filter t xs else filter t xs) → (In k (filter t xs) → In k xs × (t k ≡ true)) → In k (x ∷ xs) × (t k ≡ true)
  by true e p rest = first k e p rest
  by false e p rest = let r = rest p in (there r.0, r.1)

in_filter : (t : ℕ → Bool) (k : ℕ) (xs : List ℕ) → In k xs → t k ≡ true → In k (filter t xs)
in_filter t k [] h e = elim h [ ]
in_filter t k (x ∷ xs) here e = subst (λ (b : Bool). In k (if b then k ∷ filter t xs else filter t xs)) (sym e) here
in_filter t k (x ∷ xs) (there h) e = by (t x) (in_filter t k xs h e) where
  by : (b : Bool) → In k (filter t xs) → In k (if b then x ∷ filter t xs else filter t xs)
  by true p = there p
  by false p = p

filter_different : (t : ℕ → Bool) (xs : List ℕ) → AllDifferent xs → AllDifferent (filter t xs)
filter_different t [] d = tt
filter_different t (x ∷ xs) d = by (t x) (filter_different t xs d.1) where
  by : (b : Bool) → AllDifferent (filter t xs) → AllDifferent (if b then x ∷ filter t xs else filter t xs)
  by true rest = (λ h. d.0 (filter_in t x xs h).0, rest)
  by false rest = rest

append_different : (xs ys : List ℕ) → AllDifferent xs → AllDifferent ys → ((k : ℕ) → In k xs → In k ys → ⊥) → AllDifferent (xs ++ ys)
append_different [] ys d e apart = e
append_different (x ∷ xs) ys d e apart = (
  λ h. elim (In-split x xs ys h) [ inl p ↦ d.0 p | inr p ↦ apart x here p ],
  append_different xs ys d.1 e (λ k p q. apart k (there p) q),
)

-- tests that agree on the members
filter_same : (s t : ℕ → Bool) (xs : List ℕ) → ((k : ℕ) → In k xs → s k ≡ t k) → filter s xs ≡ filter t xs
filter_same s t [] h = refl
filter_same s t (x ∷ xs) h = let rest = filter_same s t xs (λ k i. h k (there i)) in λ j. if h x here j then x ∷ rest j else rest j

not_in : (k : ℕ) (xs : List ℕ) → not (among k xs) ≡ true → In k xs → ⊥
not_in k xs e h = let a = in_among k xs h in absurd (cc (a, e))

map_append : (g : Expression → Truths) (xs ys : List Expression) → map g (xs ++ ys) ≡ map g xs ++ map g ys
map_append g [] ys = refl
map_append g (x ∷ xs) ys = ap (λ (l : List Truths). g x ∷ l) (map_append g xs ys)

behind : (f : Truths) (other own by_them vars none : List Truths) → In f (own ++ (by_them ++ vars)) → In f (other ++ ((own ++ by_them) ++ (vars ++ none)))
behind f other own by_them vars none h = In-right f other ((own ++ by_them) ++ (vars ++ none)) (elim (In-split f own (by_them ++ vars) h) [
  | inl p ↦ In-left f (own ++ by_them) (vars ++ none) (In-left f own by_them p)
  | inr p ↦ elim (In-split f by_them vars p) [
    | inl q ↦ In-left f (own ++ by_them) (vars ++ none) (In-right f own by_them q)
    | inr q ↦ In-right f (own ++ by_them) (vars ++ none) (In-left f vars none q)
  ]
])

before : (f : Truths) (other own by_them vars none : List Truths) → In f (own ++ (by_them ++ vars)) → In f ((own ++ by_them) ++ (other ++ (vars ++ none)))
before f other own by_them vars none h = elim (In-split f own (by_them ++ vars) h) [
  | inl p ↦ In-left f (own ++ by_them) (other ++ (vars ++ none)) (In-left f own by_them p)
  | inr p ↦ elim (In-split f by_them vars p) [
    | inl q ↦ In-left f (own ++ by_them) (other ++ (vars ++ none)) (In-right f own by_them q)
    | inr q ↦ In-right f (own ++ by_them) (other ++ (vars ++ none)) (In-right f other (vars ++ none) (In-left f vars none q))
  ]
]

module _ (a b : Machine) (same : HaveSameNames a b) (oa : IsOrdered a) (ob : IsOrdered b) (x y : Expression) (over : IsWithin x (length a.vars))
    (other : IsWithin y (length b.vars)) where
  pub has_first : (k : ℕ) → In k (order_of a x) → In k (joint_order a b x y)
  has_first k h = In-left k (order_of a x) (filter (λ k. not (among k (order_of a x))) (order_of b y)) h

  pub has_second : (k : ℕ) → In k (order_of b y) → In k (joint_order a b x y)
  has_second k h = by (among k (order_of a x)) refl where
    by : (c : Bool) → among k (order_of a x) ≡ c → In k (joint_order a b x y)
    by true e = has_first k (among_in k (order_of a x) e)
    by false e = In-right k (order_of a x) (filter (λ k. not (among k (order_of a x))) (order_of b y)) (in_filter (λ k. not (among k (order_of a x))) k (order_of b y) h (ap not e))

  -- a name in the order is read by one of the two
  in_either : (k : ℕ) → In k (joint_order a b x y) → In k (order_of a x) ⊎ In k (order_of b y)
  in_either k h = elim (In-split k (order_of a x) (filter (λ k. not (among k (order_of a x))) (order_of b y)) h) [
    | inl p ↦ inl p
    | inr p ↦ inr (filter_in (λ k. not (among k (order_of a x))) k (order_of b y) p).0
  ]

  pub joint_different : AllDifferent (joint_order a b x y)
  joint_different =
      append_different (order_of a x) (filter (λ k. not (among k (order_of a x))) (order_of b y)) (order_different a x)
      (filter_different (λ k. not (among k (order_of a x))) (order_of b y) (order_different b y))
      (λ k p q. not_in k (order_of a x) (filter_in (λ k. not (among k (order_of a x))) k (order_of b y) q).1 p)

  pub joint_within : (k : ℕ) → In k (joint_order a b x y) → k < held_count a
  joint_within k h = elim (in_either k h) [
    | inl p ↦ (order_in a oa x k over p).0
    | inr p ↦ (let low = (order_in b ob y k other p).0 in let n = same_count a b same in omega (arith, low, n))
  ]

  pub joint_few : length (joint_order a b x y) ≤ held_count a
  joint_few = few_below (held_count a) (joint_order a b x y) joint_different joint_within

  -- the marks of the first walk tell what it has met
  marks_tell : (met : List Bool) → AreMet a x met → (k : ℕ) → k < held_count a → bit met k ≡ among k (order_of a x)
  marks_tell met marks k low = by (bit met k) refl (among k (order_of a x)) refl where
    inside : k < length a.vars
    inside = let l = length-vars a oa in omega (arith, low, l)

    by : (c : Bool) → bit met k ≡ c → (d : Bool) → among k (order_of a x) ≡ d → c ≡ d
    by true p true q = refl
    by false p false q = refl
    by true p false q = absurd (let t = in_among k (order_of a x) (in_order_of a oa x k ((marks.marked k inside).0 p) low) in cc (t, q))
    by false p true q = absurd (let t = (marks.marked k inside).1 (order_in a oa x k over (among_in k (order_of a x) q)).1 in cc (t, p))

  -- what was walked, joined
  pub joined_is : (met : List Bool) (first second order : List ℕ) → AreMet a x met → first ≡ order_of a x → second ≡ order_of b y
      → order ≡ first ++ filter (λ k. not (bit met k)) second → order ≡ joint_order a b x y
  joined_is met first second order marks is_first is_second is =
      is ∙ (λ j. is_first j ++ filter (λ k. not (bit met k)) (is_second j))
      ∙ ap (λ (l : List ℕ). order_of a x ++ l)
      (filter_same (λ k. not (bit met k)) (λ k. not (among k (order_of a x))) (order_of b y)
      (λ k h. ap not (marks_tell met marks k (joint_within k (has_second k h)))))

  -- ---- what is asked for

  abbrev order : List ℕ
  order = joint_order a b x y

  abbrev n : ℕ
  n = length (joint_order a b x y)

  first_in : (f : Truths) → In f (lists_over a (joint_order a b x y) x) → In f (joint_lists a b x y)
  first_in f h =
      subst (λ (l : List Truths). In f l) (sym (map_append (list_by order) (subexpressions (expansion a x)) (subexpressions (expansion b y))))
      (In-left f (lists_over a order x) (lists_over b order y) h)

  second_in : (f : Truths) → In f (lists_over b (joint_order a b x y) y) → In f (joint_lists a b x y)
  second_in f h =
      subst (λ (l : List Truths). In f l) (sym (map_append (list_by order) (subexpressions (expansion a x)) (subexpressions (expansion b y))))
      (In-right f (lists_over a order x) (lists_over b order y) h)

  counts_first : (fs : List Truths) → CountsIn fs (lists_over a (joint_order a b x y) x) → CountsIn fs (joint_lists a b x y)
  counts_first fs c t h = counts_members (lists_over a order x) (joint_lists a b x y) first_in t (c t h)

  counts_second : (fs : List Truths) → CountsIn fs (lists_over b (joint_order a b x y) y) → CountsIn fs (joint_lists a b x y)
  counts_second fs c t h = counts_members (lists_over b order y) (joint_lists a b x y) second_in t (c t h)

  abbrev lists : List Truths
  lists = held_lists (length (joint_order a b x y)) (joint_order a b x y) (held_count a)

  long : length (held_lists (length (joint_order a b x y)) (joint_order a b x y) (held_count a)) ≡ held_count a
  long = length_put n 0 order (replicate (held_count a) (raised n (constant false))) ∙ length-replicate (held_count a) (raised n (constant false))

  variable_at : (k : ℕ) → k < held_count a → In k (joint_order a b x y)
      → place (held_lists (length (joint_order a b x y)) (joint_order a b x y) (held_count a)) k ≡ variable_list (length (joint_order a b x y)) (place_among (joint_order a b x y) k)
  variable_at k low h =
      let none : 0 + place_among order k ≡ place_among order k = omega arith in
      let room : k < length (replicate (held_count a) (raised n (constant false))) = (let l = length-replicate (held_count a) (raised n (constant false)) in omega (arith, low, l)) in
      put_at n 0 order (replicate (held_count a) (raised n (constant false))) k joint_different room h ∙ ap (variable_list n) none

  long_b : length (held_lists (length (joint_order a b x y)) (joint_order a b x y) (held_count a)) ≡ held_count b
  long_b = long ∙ sym (same_count a b same)

  variable_at_b : (k : ℕ) → k < held_count b → In k (joint_order a b x y)
      → place (held_lists (length (joint_order a b x y)) (joint_order a b x y) (held_count a)) k ≡ variable_list (length (joint_order a b x y)) (place_among (joint_order a b x y) k)
  variable_at_b k low h = variable_at k (let e = same_count a b same in omega (arith, low, e)) h

  module _ (met : List Bool) (marks : AreMet a x met) (met_b : List Bool) (marks_b : AreMet b y met_b) where
    pub first_denotes : root_list (length (joint_order a b x y)) met (held_lists (length (joint_order a b x y)) (joint_order a b x y) (held_count a)) a.equations x ≡ list_by (joint_order a b x y) (expansion a x)
    first_denotes = root_denotes a oa x over met marks order has_first lists long variable_at

    pub second_denotes : root_list (length (joint_order a b x y)) met_b (held_lists (length (joint_order a b x y)) (joint_order a b x y) (held_count a)) b.equations y ≡ list_by (joint_order a b x y) (expansion b y)
    second_denotes = root_denotes b ob y other met_b marks_b order has_second lists long_b variable_at_b

    -- the variables are subexpressions
    variable_in : (f : Truths) → IsVariable (length (joint_order a b x y)) (length (joint_order a b x y)) f → In f (joint_lists a b x y)
    variable_in f v =
        let again = place_again order v.number 0 joint_different v.small in
        let is : variable_list n (place_among order (slice_index_or order v.number 0)) ≡ f = ap (variable_list n) again.1 ∙ sym v.is in
        subst (λ (t : Truths). In t (joint_lists a b x y)) is (elim (in_either (slice_index_or order v.number 0) again.0) [
          | inl p ↦ first_in (variable_list n (place_among order (slice_index_or order v.number 0))) (variable_inside a oa x over met marks order has_first lists long variable_at (slice_index_or order v.number 0) p)
          | inr p ↦ second_in (variable_list n (place_among order (slice_index_or order v.number 0))) (variable_inside b ob y other met_b marks_b order has_second lists long_b variable_at_b (slice_index_or order v.number 0) p)
        ])

    pub shared_counted : CountsIn (shared_lists (length (joint_order a b x y))) (joint_lists a b x y)
    shared_counted =
        counts_append (variable_lists n) (raised n (constant false) ∷ []) (joint_lists a b x y)
        (counts_members (variable_lists n) (joint_lists a b x y) (λ f h. variable_in f (variables_out n n f h)))
        (counts_constant n (joint_lists a b x y))

    pub first_counted : CountsIn (root_lists (length (joint_order a b x y)) met (held_lists (length (joint_order a b x y)) (joint_order a b x y) (held_count a)) a.equations x) (joint_lists a b x y)
    first_counted =
        counts_first (root_lists n met lists a.equations x)
        (counts_append _ _ (lists_over a order x) (root_counted a oa x over met marks order has_first lists long variable_at)
        (equations_counted a oa x over met marks order has_first lists long variable_at))

    pub second_counted : CountsIn (root_lists (length (joint_order a b x y)) met_b (held_lists (length (joint_order a b x y)) (joint_order a b x y) (held_count a)) b.equations y) (joint_lists a b x y)
    second_counted =
        counts_second (root_lists n met_b lists b.equations y)
        (counts_append _ _ (lists_over b order y) (root_counted b ob y other met_b marks_b order has_second lists long_b variable_at_b)
        (equations_counted b ob y other met_b marks_b order has_second lists long_b variable_at_b))

    -- all that is asked for
    abbrev pub all_asked : List Truths
    all_asked =
        root_lists (length (joint_order a b x y)) met_b (held_lists (length (joint_order a b x y)) (joint_order a b x y) (held_count a)) b.equations y
        ++ (root_lists (length (joint_order a b x y)) met (held_lists (length (joint_order a b x y)) (joint_order a b x y) (held_count a)) a.equations x
        ++ shared_lists (length (joint_order a b x y)))

    pub two_counted : CountsIn (root_lists (length (joint_order a b x y)) met (held_lists (length (joint_order a b x y)) (joint_order a b x y) (held_count a)) a.equations x
        ++ shared_lists (length (joint_order a b x y))) (joint_lists a b x y)
    two_counted = counts_append (root_lists n met lists a.equations x) (shared_lists n) (joint_lists a b x y) first_counted shared_counted

    pub all_counted : CountsIn all_asked (joint_lists a b x y)
    all_counted = counts_append (root_lists n met_b lists b.equations y) (root_lists n met lists a.equations x ++ shared_lists n) (joint_lists a b x y) second_counted two_counted

    pub none_missing : CountsIn (joint_lists a b x y) all_asked
    none_missing =
        subst (λ (l : List Truths). CountsIn l all_asked) (sym (map_append (list_by order) (subexpressions (expansion a x)) (subexpressions (expansion b y))))
        (counts_append (lists_over a order x) (lists_over b order y) all_asked
        (λ t c. counts_members (asked_of n (bound_lists n met lists a.equations) x ++ (asked_by n met lists a.equations ++ variable_lists n)) all_asked
        (λ f h. behind f (root_lists n met_b lists b.equations y) (asked_of n (bound_lists n met lists a.equations) x) (asked_by n met lists a.equations) (variable_lists n) (raised n (constant false) ∷ []) h)
        t (lists_counted a oa x over met marks order has_first lists long variable_at t c))
        (λ t c. counts_members (asked_of n (bound_lists n met_b lists b.equations) y ++ (asked_by n met_b lists b.equations ++ variable_lists n)) all_asked
        (λ f h. before f (root_lists n met lists a.equations x) (asked_of n (bound_lists n met_b lists b.equations) y) (asked_by n met_b lists b.equations) (variable_lists n) (raised n (constant false) ∷ []) h)
        t (lists_counted b ob y other met_b marks_b order has_second lists long_b variable_at_b t c)))
