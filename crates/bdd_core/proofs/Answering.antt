-- Answers, from what stands at places.
use Rattle.std.proofs.Common.{◌≡◌, ℕ, ◌+◌, ◌-◌, ◌<◌, ◌≤◌, Bool, true, false, List, [], ◌∷◌, length, Option, None, Some, Result, Ok, Err, sym, subst, ◌∙◌, arith}
use Rattle.bdd_core.specs.declared.node.NodeId.{NodeId}
use Rattle.bdd_core.specs.declared.node.BddError.{BddError}
use Rattle.bdd_core.specs.declared.node.BddError.TheVariants.{Budget}
use Rattle.bool_expr.specs.Expression.{bit}
use Rattle.bdd_core.specs.declared.operators.Operator.{Operator}
use Rattle.bdd_core.specs.declared.operators.Triple.{Triple}
use Rattle.bdd_core.specs.Truths.{Truths, constant, truths, IsCountOf, IsOver}
use Rattle.bdd_core.specs.Branching.{IsBranch}
use Rattle.bdd_core.specs.Nodes.{raised, raised_to, height, place, joined, Lists, IsSon, IsMade, IsFull, IsWhole}
use Rattle.bdd_core.specs.Combined.{combined, combined_at, IsOutcome}
use Rattle.bdd_core.specs.Counting.{function, Holds}
use Rattle.bdd_core.specs.Diagram.{Diagram, IsNode, function_of, IsSplit, Keeps, IsAnswer}
use Rattle.bdd_core.proofs.Standing.{KeepsPlaces, Stands}
use Rattle.bdd_core.proofs.Counts.{count_is, keeps_grown, asked_is, over_asked}
use Rattle.bdd_core.proofs.Counting.{over_count}
use Rattle.bdd_core.proofs.Single.{constant_to, stands_again, variable_keeps, variable_asked, variable_over, keeps_same}
use Rattle.bdd_core.proofs.Held.{constant_function, branch_is, split_is}

abbrev good : NodeId → Result NodeId BddError
good a = Ok a

abbrev wrong : BddError → Result NodeId BddError
wrong e = Err e

abbrev known : BddError → Option BddError
known e = Some e

none_some : (o : Option BddError) (e : BddError) → o ≡ None → o ≡ known e → ⊥
none_some o e p q = let r : known e ≡ None = sym q ∙ p in (cc)

ok_err : (a : NodeId) (e : BddError) → good a ≡ wrong e → ⊥
ok_err a e p = (cc)

same_err : (a b : BddError) → wrong a ≡ wrong b → a ≡ b
same_err a b p = (cc)

same_known : (a b : BddError) → known a ≡ known b → a ≡ b
same_known a b p = (cc)

-- a node where the question was answered
pub answer_ok : (d0 d1 : Diagram) (f : Truths) (at n : ℕ) → d1.table.vars ≡ d0.table.vars → d1.table.budget ≡ d0.table.budget
    → KeepsPlaces d0.table d1.table → Stands d0.table d1.table f at → IsWhole d1.table → n + 2 ≡ length d1.table.lists → n ≤ d1.table.budget
    → d0.refused ≡ None → d1.refused ≡ None → IsAnswer d0 d1 (f ∷ []) f (Ok (record { place = at }))
answer_ok d0 d1 f at n vars budget keeps s whole count within was live = record {
  vars = vars;
  budget = budget;
  keeps = λ a w. keeps a.place w;
  ok = record {
    node = s.within;
    is = s.is;
    holds = s.holds;
    within = λ fs h o.
        let over : d1.table.budget < n =
        over_count (f ∷ fs) n d1.table.budget (count_is d1.table n (f ∷ fs) whole count (s.holds fs h))
        (subst (λ (b : ℕ). IsOver (f ∷ fs) b) (sym budget) o) in
        omega arith;
  };
  live = live;
  over = λ was is fs h. absurd (ok_err _ Budget is);
  refused = tt;
  still = λ e once. absurd (none_some d0.refused e was once);
}

-- a refusal of this question
pub answer_err : (d0 d1 : Diagram) (f : Truths) (e : BddError) → d1.table.vars ≡ d0.table.vars → d1.table.budget ≡ d0.table.budget
    → KeepsPlaces d0.table d1.table → (e ≡ Budget → (fs : List Truths) → Holds fs d0.table → IsOver (f ∷ fs) d0.table.budget)
    → d0.refused ≡ None → d1.refused ≡ Some e → IsAnswer d0 d1 (f ∷ []) f (Err e)
answer_err d0 d1 f e vars budget keeps over was now = record {
  vars = vars;
  budget = budget;
  keeps = λ a w. keeps a.place w;
  ok = tt;
  live = tt;
  over = λ was is fs h. over (same_err e Budget is) fs h;
  refused = now;
  still = λ x once. absurd (none_some d0.refused x was once);
}

keeps_itself : (d : Diagram) → Keeps d d
keeps_itself d a w = (w, (λ j. function_of d a))

-- a node that was there
pub answer_again : (d : Diagram) (a : NodeId) (n : ℕ) → IsNode d a → IsWhole d.table → n + 2 ≡ length d.table.lists → n ≤ d.table.budget → d.refused ≡ None
    → IsAnswer d d (function_of d a ∷ []) (function_of d a) (Ok a)
answer_again d a n w whole count within live =
    answer_ok d d (function_of d a) a.place n (λ j. d.table.vars) (λ j. d.table.budget) (λ i v. (v, (λ j. function d.table i)))
    (stands_again d.table a.place whole w) whole count within live live

-- the node of a constant
pub answer_constant : (d : Diagram) (at : ℕ) (b : Bool) (r : Result NodeId BddError) → place d.table.lists at ≡ constant b
    → IsAnswer d d (function d.table at ∷ []) (function d.table at) r → IsAnswer d d (raised d.table.vars (constant b) ∷ []) (raised d.table.vars (constant b)) r
answer_constant d at b r is a = subst (λ (f : Truths). IsAnswer d d (f ∷ []) f r) (constant_to d.table.vars (place d.table.lists at) b is) a

-- ---- what the functions of diagrams answer, where t0 is the table before and t1 the one after

abbrev at_view : Lists → Option BddError → Diagram
at_view t r = record { table = t; refused = r }

abbrev key : NodeId → NodeId → NodeId → Triple
key x y z = record { x = x.place; y = y.place; z = z.place }

abbrev combined_of : Operator → Diagram → NodeId → NodeId → NodeId → Truths
combined_of o d x y z = combined o (function_of d x) (function_of d y) (function_of d z)

-- nothing is refused, where no refusal is there
pub none_of : (r : Option BddError) → ((e : BddError) → r ≡ known e → ⊥) → r ≡ None
none_of None h = (λ j. None)
none_of (Some e) h = absurd (h e (λ j. known e))

pub ask_ok : (o : Operator) (x y z : NodeId) (t0 t1 : Lists) (r : Option BddError) (at n : ℕ) (d : Diagram) → at_view t0 r ≡ d → r ≡ None
    → t1.vars ≡ t0.vars → t1.budget ≡ t0.budget → IsWhole t1 → n + 2 ≡ length t1.lists → n ≤ t1.budget
    → IsOutcome t0.vars t0.budget t0.lists t1.lists 0 (combined_at o t0.vars t0.lists 0 (key x y z)) (Ok at)
    → IsAnswer d (at_view t1 r) (combined_of o d x y z ∷ []) (combined_of o d x y z) (Ok (record { place = at }))
ask_ok o x y z t0 t1 r at n d is live vars budget whole count within out =
    subst (λ (d : Diagram). IsAnswer d (at_view t1 r) (combined_of o d x y z ∷ []) (combined_of o d x y z) (Ok (record { place = at }))) is
    (answer_ok (at_view t0 r) (at_view t1 r) (combined_of o (at_view t0 r) x y z) at n vars budget (keeps_grown t0 t1 _ vars out.grown)
    (asked_is o t0 t1 (key x y z) at whole vars out) whole count within live live)

pub ask_err : (o : Operator) (x y z : NodeId) (t0 t1 : Lists) (r : Option BddError) (e : BddError) (d : Diagram) → at_view t0 r ≡ d → r ≡ None
    → t1.vars ≡ t0.vars → t1.budget ≡ t0.budget → IsWhole t1
    → IsOutcome t0.vars t0.budget t0.lists t1.lists 0 (combined_at o t0.vars t0.lists 0 (key x y z)) (Err e)
    → IsAnswer d (at_view t1 (Some e)) (combined_of o d x y z ∷ []) (combined_of o d x y z) (Err e)
ask_err o x y z t0 t1 r e d is live vars budget whole out =
    subst (λ (d : Diagram). IsAnswer d (at_view t1 (Some e)) (combined_of o d x y z ∷ []) (combined_of o d x y z) (Err e)) is
    (answer_err (at_view t0 r) (at_view t1 (Some e)) (combined_of o (at_view t0 r) x y z) e vars budget (keeps_grown t0 t1 _ vars out.grown)
    (λ b fs h. over_asked o t0 t1 (key x y z) e fs whole out b h) live (λ j. Some e))

abbrev variable_of : Diagram → ℕ → Truths
variable_of d k = truths d.table.vars (λ w. bit w k)

module _ (t0 t1 : Lists) (r : Option BddError) (d : Diagram) (is : at_view t0 r ≡ d) (live : r ≡ None) (k zero one : ℕ) (less : k < d.table.vars)
    (zero_is : place t0.lists zero ≡ constant false) (one_is : place t0.lists one ≡ constant true) (vars : t1.vars ≡ t0.vars) (budget : t1.budget ≡ t0.budget) where
  less0 : k < t0.vars
  less0 = subst (λ (d : Diagram). k < d.table.vars) (sym is) less

  pub variable_ok : (at n : ℕ) → IsMade t0 t1 k zero one at → IsWhole t1 → n + 2 ≡ length t1.lists → n ≤ t1.budget
      → IsAnswer d (at_view t1 r) (variable_of d k ∷ []) (variable_of d k) (Ok (record { place = at }))
  variable_ok at n made whole count within =
      subst (λ (d : Diagram). IsAnswer d (at_view t1 r) (variable_of d k ∷ []) (variable_of d k) (Ok (record { place = at }))) is
      (answer_ok (at_view t0 r) (at_view t1 r) (variable_of (at_view t0 r) k) at n vars budget (variable_keeps t0 t1 k zero one at less0 zero_is one_is made vars)
      (variable_asked t0 t1 k zero one at less0 zero_is one_is made vars whole) whole count within live live)

  pub variable_err : (e : BddError) → t1.lists ≡ t0.lists → (e ≡ Budget → IsFull t0 k zero one) → IsWhole t0
      → IsAnswer d (at_view t1 (Some e)) (variable_of d k ∷ []) (variable_of d k) (Err e)
  variable_err e same full whole =
      subst (λ (d : Diagram). IsAnswer d (at_view t1 (Some e)) (variable_of d k ∷ []) (variable_of d k) (Err e)) is
      (answer_err (at_view t0 r) (at_view t1 (Some e)) (variable_of (at_view t0 r) k) e vars budget (keeps_same t0 t1 vars same)
      (λ b fs h. variable_over t0 t1 k zero one fs less0 zero_is one_is (full b) whole h) live (λ j. Some e))

pub count_at : (t : Lists) (r : Option BddError) (d : Diagram) → at_view t r ≡ d → (n : ℕ) → IsWhole t → n + 2 ≡ length t.lists
    → (fs : List Truths) → Holds fs d.table → IsCountOf fs n
count_at t r d is n whole count fs h = count_is t n fs whole count (subst (λ (d : Diagram). Holds fs d.table) (sym is) h)

pub again_at : (t : Lists) (r : Option BddError) (d : Diagram) → at_view t r ≡ d → (a : NodeId) (n : ℕ) → IsNode d a → IsWhole t → n + 2 ≡ length t.lists → n ≤ t.budget → r ≡ None
    → IsAnswer d d (function_of d a ∷ []) (function_of d a) (Ok a)
again_at t r d is a n w whole count within live =
    subst (λ (d : Diagram). IsNode d a → IsAnswer d d (function_of d a ∷ []) (function_of d a) (Ok a)) is
    (λ w. answer_again (at_view t r) a n w whole count within live) w

pub constant_at : (t : Lists) (q : Option BddError) (d : Diagram) → at_view t q ≡ d → (at : ℕ) (b : Bool) (r : Result NodeId BddError) → place t.lists at ≡ constant b
    → IsAnswer d d (function d.table at ∷ []) (function d.table at) r → IsAnswer d d (raised d.table.vars (constant b) ∷ []) (raised d.table.vars (constant b)) r
constant_at t q d is at b r e a = answer_constant d at b r (subst (λ (d : Diagram). place d.table.lists at ≡ constant b) is e) a

-- the function of a place with a constant
pub function_constant : (t : Lists) (q : Option BddError) (d : Diagram) → at_view t q ≡ d → (at : ℕ) (b : Bool) → place t.lists at ≡ constant b
    → function d.table at ≡ raised d.table.vars (constant b)
function_constant t q d is at b e = subst (λ (d : Diagram). function d.table at ≡ raised d.table.vars (constant b)) is (constant_to t.vars (place t.lists at) b e)

-- a node that has no variable of its own
pub constant_node : (t : Lists) (q : Option BddError) (d : Diagram) → at_view t q ≡ d → (at : ℕ) → height (place t.lists at) ≡ 0
    → (b : Bool) × (function d.table at ≡ raised d.table.vars (constant b))
constant_node t q d is at flat = subst (λ (d : Diagram). (b : Bool) × (function d.table at ≡ raised d.table.vars (constant b))) is (constant_function t at flat)

pub branch_at : (t : Lists) (q : Option BddError) (d : Diagram) → at_view t q ≡ d → (at v low high : ℕ) → IsWhole t → at < length d.table.lists
    → v + height (place t.lists at) ≡ t.vars → v < t.vars → IsSon t.vars t.lists v low → IsSon t.vars t.lists v high
    → raised_to (t.vars - v) (place t.lists at) ≡ joined t.vars t.lists v low high
    → IsBranch d.table.vars (function d.table at) v (function d.table low) (function d.table high)
branch_at t q d is at v low high whole within own less l h half =
    subst (λ (d : Diagram). IsBranch d.table.vars (function d.table at) v (function d.table low) (function d.table high)) is
    (branch_is t at v low high whole (subst (λ (d : Diagram). at < length d.table.lists) (sym is) within) own less l h half)

pub split_at : (t : Lists) (q : Option BddError) (d : Diagram) → at_view t q ≡ d → (a low high : NodeId) (v : ℕ) → IsWhole t → a.place < length d.table.lists
    → v + height (place t.lists a.place) ≡ t.vars → v < t.vars → raised_to (t.vars - v) (place t.lists a.place) ≡ joined t.vars t.lists v low.place high.place
    → IsSplit d a low high
split_at t q d is a low high v whole within own less half =
    subst (λ (d : Diagram). IsSplit d a low high) is
    (let s = split_is t a.place v low.place high.place whole (subst (λ (d : Diagram). a.place < length d.table.lists) (sym is) within) own less half in
    record { uneven = s.0; low = s.1; high = s.2 })

pub whole_at : (t : Lists) (q : Option BddError) (d : Diagram) → at_view t q ≡ d → IsWhole t → IsWhole d.table
whole_at t q d is whole = subst (λ (d : Diagram). IsWhole d.table) is whole
