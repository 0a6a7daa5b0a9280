-- The functions that are bound to names are those of their expansions.
use Rattle.std.proofs.Common.{◌≡◌, ◌⊎◌, inl, inr, ℕ, zero, suc, ◌+◌, ◌<◌, Bool, true, false, List, [], ◌∷◌, ◌++◌, length, map, slice_get, Some, refl, sym, ap, subst, ◌∙◌, arith, length-append, if◌then◌else◌, ◌||◌}
use Rattle.std.specs.Prelude.{nat_eq}
use Rattle.std.specs.List.{slice_index_or}
use Rattle.std.proofs.Math.ListN.{set}
use Rattle.std.proofs.Math.Seq.{get_or-append_seam}
use Rattle.std.proofs.lemmas.Bool.{eqb-true}
use Rattle.std.proofs.lemmas.List.{length-set, get_or-set_same, get_or-set_other, length-map, get_or_append_left}
use Rattle.vlsi_base.specs.Member.{In, here, there, AllDifferent}
use Rattle.bool_expr.specs.declared.expr.Gate.TheVariants.{Nand}
use Rattle.bool_expr.specs.Expression.{Expression, constant, variable, inverse, pair, choice, variables, bit, val, IsOver}
use Rattle.bool_expr.specs.Support.{among, meetings_after}
use Rattle.machine_core.specs.Machine.{Machine, Equation}
use Rattle.machine_core.specs.Order.{EachReadsBelow, IsOrdered}
use Rattle.machine_core.proofs.Values.{In-left, In-right, In-split}
use Rattle.bdd_core.specs.Truths.{Truths, constant as even, truths}
use Rattle.bdd_core.specs.Nodes.{raised, place}
use Rattle.bdd_core.specs.Diagram.{gate_of, choice_of}
use Rattle.bdd_core.specs.Asked.{denoted, asked_of}
use Rattle.bdd_core.proofs.Meaning.{denoted_is}
use Rattle.machine_walk.specs.Expansion.{with_variables, put_in, expansions, held_count, expansion, place_among, in_order}
use Rattle.machine_roots.specs.Roots.{list_by}
use Rattle.machine_walk.specs.Walk.{order_of, Meets, reads, through}
use Rattle.machine_roots.specs.Binding.{variable_list, put_variables, next_list, bound_lists, asked_by}
use Rattle.machine_roots.proofs.Expanding.{val-with_variables, first_meetings-all}
use Rattle.machine_walk.proofs.Names.{over_in, name_of, expansion_held, expansion_at}
use Rattle.machine_walk.proofs.Reaching.{Reach, also_in, meets_by, variables-with, In-reads, In-reads_split, ReadBy, among_new}
use Rattle.machine_walk.proofs.Turns.{expansion_reach}

-- ---- the order has each name once

among_more : (seen more : List ℕ) (k : ℕ) → among k seen ≡ true → among k (seen ++ more) ≡ true
among_more [] more k e = absurd (cc e)
among_more (x ∷ seen) more k e = by (nat_eq x k) e (λ p. among_more seen more k p) where
  by : (b : Bool) → (b || among k seen) ≡ true → (among k seen ≡ true → among k (seen ++ more) ≡ true) → (b || among k (seen ++ more)) ≡ true
  by true p rest = refl
  by false p rest = rest p

not_true : (b : Bool) → (b ≡ true → ⊥) → b ≡ false
not_true true h = absurd (h refl)
not_true false h = refl

after_new : (seen xs : List ℕ) (k : ℕ) → In k (meetings_after seen xs) → among k seen ≡ false
after_new seen [] k h = elim h [ ]
after_new seen (x ∷ xs) k h = by (among x seen) refl h (λ before p. after_new before xs k p) where
  deeper : among x seen ≡ false → (k ≡ x) ⊎ In k (meetings_after (seen ++ x ∷ []) xs) → ((before : List ℕ) → In k (meetings_after before xs) → among k before ≡ false) → among k seen ≡ false
  deeper e (inl p) rest = ap (λ (y : ℕ). among y seen) p ∙ e
  deeper e (inr p) rest =
      not_true (among k seen) (λ t. let a : among k (seen ++ x ∷ []) ≡ true = among_more seen (x ∷ []) k t in let b = rest (seen ++ x ∷ []) p in (cc (a, b)))

  by : (b : Bool) → among x seen ≡ b → In k (if b then meetings_after seen xs else x ∷ meetings_after (seen ++ x ∷ []) xs)
      → ((before : List ℕ) → In k (meetings_after before xs) → among k before ≡ false) → among k seen ≡ false
  by true e p rest = rest seen p
  by false e p rest = deeper e (also_in k x (meetings_after (seen ++ x ∷ []) xs) p) rest

after_different : (seen xs : List ℕ) → AllDifferent (meetings_after seen xs)
after_different seen [] = tt
after_different seen (x ∷ xs) = by (among x seen) (λ before. after_different before xs) where
  apart : In x (meetings_after (seen ++ x ∷ []) xs) → ⊥
  apart h = let a = after_new (seen ++ x ∷ []) xs x h in let b = among_new seen x in (cc (a, b))

  by : (b : Bool) → ((before : List ℕ) → AllDifferent (meetings_after before xs)) → AllDifferent (if b then meetings_after seen xs else x ∷ meetings_after (seen ++ x ∷ []) xs)
  by true rest = rest seen
  by false rest = (apart, rest (seen ++ x ∷ []))

after_in : (seen xs : List ℕ) (k : ℕ) → In k (meetings_after seen xs) → In k xs
after_in seen [] k h = elim h [ ]
after_in seen (x ∷ xs) k h = by (among x seen) h (λ before p. after_in before xs k p) where
  deeper : (k ≡ x) ⊎ In k (meetings_after (seen ++ x ∷ []) xs) → ((before : List ℕ) → In k (meetings_after before xs) → In k xs) → In k (x ∷ xs)
  deeper (inl p) rest = subst (λ (y : ℕ). In k (y ∷ xs)) p here
  deeper (inr p) rest = there (rest (seen ++ x ∷ []) p)

  by : (b : Bool) → In k (if b then meetings_after seen xs else x ∷ meetings_after (seen ++ x ∷ []) xs)
      → ((before : List ℕ) → In k (meetings_after before xs) → In k xs) → In k (x ∷ xs)
  by true p rest = there (rest seen p)
  by false p rest = deeper (also_in k x (meetings_after (seen ++ x ∷ []) xs) p) rest

pub order_different : (m : Machine) (e : Expression) → AllDifferent (order_of m e)
order_different m e = after_different [] (variables (expansion m e))

pub place_within : (order : List ℕ) (k : ℕ) → In k order → place_among order k < length order
place_within [] k h = elim h [ ]
place_within (x ∷ order) k h = by (nat_eq x k) refl h (λ p. place_within order k p) where
  deeper : nat_eq x k ≡ false → (k ≡ x) ⊎ In k order → (In k order → place_among order k < length order) → suc (place_among order k) < suc (length order)
  deeper e (inl p) rest = absurd (let t : nat_eq k k ≡ true = search arith in let f : nat_eq k k ≡ false = subst (λ (y : ℕ). nat_eq y k ≡ false) (sym p) e in (cc (t, f)))
  deeper e (inr p) rest = let r = rest p in omega (arith, r)

  by : (b : Bool) → nat_eq x k ≡ b → In k (x ∷ order) → (In k order → place_among order k < length order) → (if b then 0 else suc (place_among order k)) < suc (length order)
  by true e p rest = omega arith
  by false e p rest = deeper e (also_in k x order p) rest

-- the name at a place of different names has this place
pub place_again : (order : List ℕ) (k : ℕ) (d : ℕ) → AllDifferent order → k < length order → In (slice_index_or order k d) order × (place_among order (slice_index_or order k d) ≡ k)
place_again [] k d apart h = absurd (omega arith)
place_again (x ∷ order) zero d apart h = (here, ap (λ (b : Bool). if b then 0 else suc (place_among order x)) (let t : nat_eq x x ≡ true = search arith in t))
place_again (x ∷ order) (suc k) d apart h = by (nat_eq x (slice_index_or order k d)) refl (place_again order k d apart.1 (omega arith)) where
  by : (b : Bool) → nat_eq x (slice_index_or order k d) ≡ b → In (slice_index_or order k d) order × (place_among order (slice_index_or order k d) ≡ k)
      → In (slice_index_or order k d) (x ∷ order) × ((if b then 0 else suc (place_among order (slice_index_or order k d))) ≡ suc k)
  by true e rest = absurd (apart.0 (subst (λ (y : ℕ). In y order) (sym (eqb-true x (slice_index_or order k d) e)) rest.0))
  by false e rest = (there rest.0, ap suc rest.1)

-- ---- the names of the order are the inputs and registers that the expansion meets

pub meets_then : (m : Machine) (e : Expression) (k i : ℕ) → Meets m e k → Reach m k i → Meets m e i
meets_then m e k i (reads h) r = meets_by m e k i h r
meets_then m e k i (through n x h at f) r = through n x h at (meets_then m x.expr k i f r)

module _ (m : Machine) (ordered : IsOrdered m) where
  reads_held : (x : Expression) (k : ℕ) → Meets m x k → k < held_count m → In k (variables (put_in (expansions m) x))
  reads_held x k (reads h) low =
      subst (λ (vs : List ℕ). In k vs) (sym (variables-with (name_of (expansions m)) x))
      (In-reads (name_of (expansions m)) k k (variables x) h (subst (λ (y : Expression). In k (variables y)) (sym (expansion_held m k low)) here))
  reads_held x k (through n q h at r) low =
      let inner = reads_held q.expr k r low in
      subst (λ (vs : List ℕ). In k vs) (sym (variables-with (name_of (expansions m)) x))
      (In-reads (name_of (expansions m)) (held_count m + n) k (variables x) h (subst (λ (y : Expression). In k (variables y)) (sym (expansion_at m ordered n q at)) inner))

  pub in_order_of : (e : Expression) (k : ℕ) → Meets m e k → k < held_count m → In k (order_of m e)
  in_order_of e k meets low = first_meetings-all (variables (expansion m e)) k (reads_held e k meets low)

  -- each is one, and it is met
  pub order_in : (e : Expression) (k : ℕ) → IsOver e (length m.vars) → In k (order_of m e) → (k < held_count m) × Meets m e k
  order_in e k over h = by (In-reads_split (name_of (expansions m)) k (variables e) (subst (λ (vs : List ℕ). In k vs) (variables-with (name_of (expansions m)) e) (after_in [] (variables (expansion m e)) k h))) where
    by : ReadBy (name_of (expansions m)) (variables e) k → (k < held_count m) × Meets m e k
    by r =
        let reach = expansion_reach m ordered (suc r.name) r.name k (omega arith) (over_in e (length m.vars) r.name over r.inside) r.reads_it in
        (reach.1, meets_by m e r.name k r.inside reach.0)

-- ---- lists at places

pub length_put : (n a : ℕ) (order : List ℕ) (lists : List Truths) → length (put_variables n a order lists) ≡ length lists
length_put n a [] lists = refl
length_put n a (x ∷ order) lists = length_put n (suc a) order (set lists x (variable_list n a)) ∙ length-set lists x (variable_list n a)

put_other : (n a : ℕ) (order : List ℕ) (lists : List Truths) (k : ℕ) → (In k order → ⊥) → place (put_variables n a order lists) k ≡ place lists k
put_other n a [] lists k apart = refl
put_other n a (x ∷ order) lists k apart =
    put_other n (suc a) order (set lists x (variable_list n a)) k (λ h. apart (there h))
    ∙ get_or-set_other lists x k (variable_list n a) (even false) (λ p. apart (subst (λ (y : ℕ). In k (y ∷ order)) p here))

-- a name in the order has the variable with its place
pub put_at : (n a : ℕ) (order : List ℕ) (lists : List Truths) (k : ℕ) → AllDifferent order → k < length lists → In k order
    → place (put_variables n a order lists) k ≡ variable_list n (a + place_among order k)
put_at n a [] lists k d within h = elim h [ ]
put_at n a (x ∷ order) lists k d within h =
    by (nat_eq x k) refl (also_in k x order h) (λ p. put_at n (suc a) order (set lists x (variable_list n a)) k d.1 (omega (arith, within, length-set lists x (variable_list n a))) p)
  where
    deeper : nat_eq x k ≡ false → (k ≡ x) ⊎ In k order → In k order
    deeper e (inl p) = absurd (let t : nat_eq k k ≡ true = search arith in let f : nat_eq k k ≡ false = subst (λ (y : ℕ). nat_eq y k ≡ false) (sym p) e in (cc (t, f)))
    deeper e (inr p) = p

    by : (b : Bool) → nat_eq x k ≡ b → (k ≡ x) ⊎ In k order
        → (In k order → place (put_variables n (suc a) order (set lists x (variable_list n a))) k ≡ variable_list n (suc a + place_among order k))
        → place (put_variables n (suc a) order (set lists x (variable_list n a))) k ≡ variable_list n (a + (if b then 0 else suc (place_among order k)))
    by true e p rest =
        let same : x ≡ k = eqb-true x k e in
        let none : a ≡ a + 0 = omega arith in
        put_other n (suc a) order (set lists x (variable_list n a)) k (λ q. d.0 (subst (λ (y : ℕ). In y order) (sym same) q))
        ∙ ap (λ (y : ℕ). place (set lists y (variable_list n a)) k) same ∙ get_or-set_same lists k (variable_list n a) (even false) within ∙ ap (variable_list n) none
    by false e p rest =
        let more : suc a + place_among order k ≡ a + suc (place_among order k) = omega arith in
        rest (deeper e p) ∙ ap (variable_list n) more

-- ---- what an expression denotes depends on what it reads

pub denoted_agree : (n : ℕ) (xs ys : List Truths) (e : Expression) → ((k : ℕ) → In k (variables e) → place xs k ≡ place ys k) → denoted n xs e ≡ denoted n ys e
denoted_agree n xs ys (constant b) h = refl
denoted_agree n xs ys (variable k) h = h k here
denoted_agree n xs ys (inverse e) h = let p = denoted_agree n xs ys e h in λ j. gate_of Nand (p j) (p j)
denoted_agree n xs ys (pair g a b) h =
    let p = denoted_agree n xs ys a (λ k i. h k (In-left k (variables a) (variables b) i)) in
    let q = denoted_agree n xs ys b (λ k i. h k (In-right k (variables a) (variables b) i)) in
    λ j. gate_of g (p j) (q j)
denoted_agree n xs ys (choice c a b) h =
    let o = denoted_agree n xs ys c (λ k i. h k (In-left k (variables c) (variables a ++ variables b) i)) in
    let p = denoted_agree n xs ys a (λ k i. h k (In-right k (variables c) (variables a ++ variables b) (In-left k (variables a) (variables b) i))) in
    let q = denoted_agree n xs ys b (λ k i. h k (In-right k (variables c) (variables a ++ variables b) (In-right k (variables a) (variables b) i))) in
    λ j. choice_of (o j) (p j) (q j)

pub asked_agree : (n : ℕ) (xs ys : List Truths) (e : Expression) → ((k : ℕ) → In k (variables e) → place xs k ≡ place ys k) → asked_of n xs e ≡ asked_of n ys e
asked_agree n xs ys (constant b) h = refl
asked_agree n xs ys (variable k) h = ap (λ (t : Truths). t ∷ []) (h k here)
asked_agree n xs ys (inverse e) h = let d = denoted_agree n xs ys (inverse e) h in let p = asked_agree n xs ys e h in λ j. d j ∷ p j
asked_agree n xs ys (pair g a b) h =
    let d = denoted_agree n xs ys (pair g a b) h in
    let p = asked_agree n xs ys a (λ k i. h k (In-left k (variables a) (variables b) i)) in
    let q = asked_agree n xs ys b (λ k i. h k (In-right k (variables a) (variables b) i)) in
    λ j. d j ∷ (q j ++ p j)
asked_agree n xs ys (choice c a b) h =
    let d = denoted_agree n xs ys (choice c a b) h in
    let o = asked_agree n xs ys c (λ k i. h k (In-left k (variables c) (variables a ++ variables b) i)) in
    let p = asked_agree n xs ys a (λ k i. h k (In-right k (variables c) (variables a ++ variables b) (In-left k (variables a) (variables b) i))) in
    let q = asked_agree n xs ys b (λ k i. h k (In-right k (variables c) (variables a ++ variables b) (In-right k (variables a) (variables b) i))) in
    λ j. d j ∷ (q j ++ (p j ++ o j))

-- ---- equation by equation

module _ (n : ℕ) (met : List Bool) where
  next : List Truths → Equation → List Truths
  next lists e = lists ++ next_list n met lists e ∷ []

  long-next : (lists : List Truths) (e : Equation) → length (lists ++ next_list n met lists e ∷ []) ≡ length lists + 1
  long-next lists e = length-append lists (next_list n met lists e ∷ []) ∙ omega arith

  pub length_bound : (es : List Equation) (lists : List Truths) → length (bound_lists n met lists es) ≡ length lists + length es
  length_bound [] lists = omega arith
  length_bound (e ∷ es) lists = length_bound es (lists ++ next_list n met lists e ∷ []) ∙ omega (arith, long-next lists e)

  pub bound_kept : (es : List Equation) (lists : List Truths) (k : ℕ) → k < length lists → place (bound_lists n met lists es) k ≡ place lists k
  bound_kept [] lists k within = refl
  bound_kept (e ∷ es) lists k within =
      bound_kept es (lists ++ next_list n met lists e ∷ []) k (omega (arith, within, long-next lists e))
      ∙ get_or_append_left lists (next_list n met lists e ∷ []) (even false) k within

  reads_kept : (es : List Equation) (lists : List Truths) (b : ℕ) (x : Expression) → length lists ≡ b → IsOver x b → (k : ℕ) → In k (variables x)
      → place lists k ≡ place (bound_lists n met lists es) k
  reads_kept es lists b x long over k h = sym (bound_kept es lists k (omega (arith, long, over_in x b k over h)))

  pub bound_at : (es : List Equation) (lists : List Truths) (b j : ℕ) (x : Equation) → length lists ≡ b → EachReadsBelow b es → slice_get es j ≡ Some x → bit met (b + j) ≡ true
      → place (bound_lists n met lists es) (b + j) ≡ denoted n (bound_lists n met lists es) x.expr
  bound_at [] lists b j x long below at marked = absurd (cc at)
  bound_at (e ∷ es) lists b zero x long below at marked =
      let same : e ≡ x = cc at in
      let more = lists ++ next_list n met lists e ∷ [] in
      let number : b + 0 ≡ length lists = omega (arith, long) in
      let on : bit met (length lists) ≡ true = subst (λ (i : ℕ). bit met i ≡ true) number marked in
      let first : place (bound_lists n met more es) (length lists) ≡ place more (length lists) = bound_kept es more (length lists) (omega (arith, long-next lists e)) in
      let last : place more (length lists) ≡ next_list n met lists e = get_or-append_seam lists (next_list n met lists e) [] (even false) in
      let says : next_list n met lists e ≡ denoted n lists e.expr = ap (λ (c : Bool). if c then denoted n lists e.expr else raised n (even false)) on in
      ap (place (bound_lists n met more es)) number ∙ first ∙ last ∙ says
      ∙ denoted_agree n lists (bound_lists n met more es) e.expr (reads_kept (e ∷ es) lists b e.expr long below.0)
      ∙ ap (λ (y : Equation). denoted n (bound_lists n met more es) y.expr) same
  bound_at (e ∷ es) lists b (suc j) x long below at marked =
      let more = lists ++ next_list n met lists e ∷ [] in
      let number : b + suc j ≡ (b + 1) + j = omega arith in
      ap (place (bound_lists n met more es)) number
      ∙ bound_at es more (b + 1) j x (omega (arith, long, long-next lists e)) below.1 at (subst (λ (i : ℕ). bit met i ≡ true) number marked)

  -- what equations ask for that are met
  pub record AskedBy (es : List Equation) (lists : List Truths) (b : ℕ) (f : Truths) : Type 0 where
    pub number : ℕ
    pub equation : Equation
    pub at : slice_get es number ≡ Some equation
    pub marked : bit met (b + number) ≡ true
    pub inside : In f (asked_of n (bound_lists n met lists es) equation.expr)

  pub asked_by_out : (es : List Equation) (lists : List Truths) (b : ℕ) (f : Truths) → length lists ≡ b → EachReadsBelow b es → In f (asked_by n met lists es) → AskedBy es lists b f
  asked_by_out [] lists b f long below h = elim h [ ]
  asked_by_out (e ∷ es) lists b f long below h =
      by (In-split f (asked_by n met more es) (if bit met (length lists) then asked_of n lists e.expr else []) h)
      (λ p. asked_by_out es more (b + 1) f (omega (arith, long, long-next lists e)) below.1 p)
    where
      more : List Truths
      more = lists ++ next_list n met lists e ∷ []

      deeper : AskedBy es more (b + 1) f → AskedBy (e ∷ es) lists b f
      deeper a = record {
        number = suc a.number;
        equation = a.equation;
        at = a.at;
        marked = (let e : (b + 1) + a.number ≡ b + suc a.number = omega arith in subst (λ (i : ℕ). bit met i ≡ true) e a.marked);
        inside = a.inside;
      }

      own : (c : Bool) → bit met (length lists) ≡ c → In f (if c then asked_of n lists e.expr else []) → AskedBy (e ∷ es) lists b f
      own true on p = record {
        number = 0;
        equation = e;
        at = refl;
        marked = (let e : length lists ≡ b + 0 = omega (arith, long) in subst (λ (i : ℕ). bit met i ≡ true) e on);
        inside = subst (λ (fs : List Truths). In f fs) (asked_agree n lists (bound_lists n met more es) e.expr (reads_kept (e ∷ es) lists b e.expr long below.0)) p;
      }
      own false off p = elim p [ ]

      by : In f (asked_by n met more es) ⊎ In f (if bit met (length lists) then asked_of n lists e.expr else [])
          → (In f (asked_by n met more es) → AskedBy es more (b + 1) f) → AskedBy (e ∷ es) lists b f
      by (inl p) rest = deeper (rest p)
      by (inr p) rest = own (bit met (length lists)) refl p

  pub asked_by_in : (es : List Equation) (lists : List Truths) (b j : ℕ) (x : Equation) (f : Truths) → length lists ≡ b → EachReadsBelow b es → slice_get es j ≡ Some x
      → bit met (b + j) ≡ true → In f (asked_of n (bound_lists n met lists es) x.expr) → In f (asked_by n met lists es)
  asked_by_in [] lists b j x f long below at marked h = absurd (cc at)
  asked_by_in (e ∷ es) lists b zero x f long below at marked h =
      let same : x ≡ e = cc at in
      let more = lists ++ next_list n met lists e ∷ [] in
      let number : b + 0 ≡ length lists = omega (arith, long) in
      let on : bit met (length lists) ≡ true = subst (λ (i : ℕ). bit met i ≡ true) number marked in
      let h2 : In f (asked_of n lists e.expr) =
      subst (λ (fs : List Truths). In f fs)
      (ap (λ (y : Equation). asked_of n (bound_lists n met more es) y.expr) same ∙ sym (asked_agree n lists (bound_lists n met more es) e.expr (reads_kept (e ∷ es) lists b e.expr long below.0))) h in
      In-right f (asked_by n met more es) (if bit met (length lists) then asked_of n lists e.expr else [])
      (subst (λ (c : Bool). In f (if c then asked_of n lists e.expr else [])) (sym on) h2)
  asked_by_in (e ∷ es) lists b (suc j) x f long below at marked h =
      let more = lists ++ next_list n met lists e ∷ [] in
      let number : b + suc j ≡ (b + 1) + j = omega arith in
      In-left f (asked_by n met more es) (if bit met (length lists) then asked_of n lists e.expr else [])
      (asked_by_in es more (b + 1) j x f (omega (arith, long, long-next lists e)) below.1 at (subst (λ (i : ℕ). bit met i ≡ true) number marked) h)

-- ---- by their values

bit_of_each : (g : Expression → Bool) (es : List Expression) (k : ℕ) → g (constant false) ≡ false → bit (map g es) k ≡ g (name_of es k)
bit_of_each g [] k none = sym none
bit_of_each g (e ∷ es) zero none = refl
bit_of_each g (e ∷ es) (suc k) none = bit_of_each g es k none

with_with : (f g : ℕ → Expression) (e : Expression) → with_variables g (with_variables f e) ≡ with_variables (λ k. with_variables g (f k)) e
with_with f g (constant b) = refl
with_with f g (variable k) = refl
with_with f g (inverse e) = ap inverse (with_with f g e)
with_with f g (pair o a b) = let p = with_with f g a in let q = with_with f g b in λ j. pair o (p j) (q j)
with_with f g (choice c a b) = let o = with_with f g c in let p = with_with f g a in let q = with_with f g b in λ j. choice (o j) (p j) (q j)

-- the value of an expression with expansions put in, over an order
value_put : (order : List ℕ) (known : List Expression) (x : Expression) (w : List Bool)
    → val (in_order order (put_in known x)) w ≡ val x (map (λ y. val (in_order order y) w) known)
value_put order known x w =
    ap (λ (y : Expression). val y w) (with_with (name_of known) (λ k. variable (place_among order k)) x)
    ∙ val-with_variables (λ k. in_order order (name_of known k)) x w (map (λ y. val (in_order order y) w) known)
    (λ k h. sym (bit_of_each (λ y. val (in_order order y) w) known k refl))

lists_again : (n : ℕ) (g : Expression → List Bool → Bool) (known : List Expression) → map (λ (f : List Bool → Bool). truths n f) (map g known) ≡ map (λ y. truths n (g y)) known
lists_again n g [] = refl
lists_again n g (y ∷ known) = ap (λ (ts : List Truths). truths n (g y) ∷ ts) (lists_again n g known)

bits_again : (w : List Bool) (g : Expression → List Bool → Bool) (known : List Expression) → map (λ (f : List Bool → Bool). f w) (map g known) ≡ map (λ y. g y w) known
bits_again w g [] = refl
bits_again w g (y ∷ known) = ap (λ (bs : List Bool). g y w ∷ bs) (bits_again w g known)

place_map : (g : Expression → Truths) (known : List Expression) (k : ℕ) → k < length known → place (map g known) k ≡ g (name_of known k)
place_map g [] k h = absurd (omega arith)
place_map g (y ∷ known) zero h = refl
place_map g (y ∷ known) (suc k) h = place_map g known k (omega arith)

-- what an expression denotes, where each name that it reads has the list of its expansion
pub denoted_put : (order : List ℕ) (known : List Expression) (lists : List Truths) (x : Expression) → IsOver x (length known)
    → ((k : ℕ) → In k (variables x) → place lists k ≡ list_by order (name_of known k)) → denoted (length order) lists x ≡ list_by order (put_in known x)
denoted_put order known lists x over each =
    denoted_agree n lists (map (list_by order) known) x (λ k h. each k h ∙ sym (place_map (list_by order) known k (over_in x (length known) k over h)))
    ∙ ap (λ (ts : List Truths). denoted n ts x) (sym (lists_again n g known))
    ∙ denoted_is n (map g known) x (subst (λ (i : ℕ). IsOver x i) (sym (length-map known g)) over)
    ∙ (λ j. truths n (λ w. val x (bits_again w g known j)))
    ∙ (λ j. truths n (λ w. sym (value_put order known x w) j))
  where
    n : ℕ
    n = length order

    g : Expression → List Bool → Bool
    g y w = val (in_order order y) w
