-- The second machine, root by root.
use Rattle.std.proofs.Common.{◌≡◌, ℕ, zero, suc, ◌+◌, ◌*◌, ◌<◌, ◌≤◌, true, false, List, [], ◌∷◌, ◌++◌, length, take, drop, Option, None, Some, slice_get, refl, sym, ap, subst, ◌∙◌, arith}
use Rattle.std.specs.Prelude.{nat_lt, is_some, sum, IfSome}
use Rattle.std.specs.List.{All, AllZip, slice_index_or}
use Rattle.std.proofs.lemmas.List.Elements.{Contains-append_left, Contains-append_right, Contains-get_or}
use Rattle.bool_expr.specs.Expression.{Expression, variable, val}
use Rattle.bool_expr.specs.View.{view}
use Rattle.machine_core.specs.Machine.{Machine, outputs}
use Rattle.machine_core.specs.Order.{EachReadsBelow}
use Rattle.machine_core.specs.Built.{built}
use Rattle.machine_walk.specs.Expansion.{held_count}
use Rattle.machine_roots.specs.Roots.{Root, IsGreatest}
use Rattle.machine_roots.specs.Listing.{root_view}
use Rattle.machine_roots.specs.declared.listing.RootExpr.{RootExpr}
use Rattle.boom_literal.specs.declared.literal.Literal.{Literal}
use Rattle.boom_muxes.specs.declared.muxes.Muxes.{Muxes}
use Rattle.boom_muxes.specs.declared.plan.Plan.{Plan}
use Rattle.boom_muxes.specs.Muxes.{IsTable, HasGrownBy, IsLiteralBelow, mux_weight, muxes_weight}
use Rattle.boom_muxes.specs.Planning.{IsFollowed, NotedAt, SaysValue}
use Rattle.boom_opt.specs.Rebuilt.{IsRootOf, IsShown, SaysRoot, IsPlanOf, IsNext}
use Rattle.boom_muxes.proofs.Weighing.{weight_by_count}
use Rattle.boom_check.proofs.Lists.{zip_push, zip_mapped}
use Rattle.boom_check.proofs.Sums.{sum_by-cons, sum_by-append}
use Rattle.boom_muxes.proofs.Planned.{below_on, value_on, plan_followed, equation_value}

-- ---- one more at the end of a list

pub all_push : {A : Type 0} (P : A → Type 0) (xs : List A) (x : A) → All P xs → P x → All P (xs ++ x ∷ [])
all_push P [] x all here zero d h = here
all_push P [] x all here (suc k) d h = absurd (omega arith)
all_push P (a ∷ xs) x all here zero d h = all zero d (omega arith)
all_push P (a ∷ xs) x all here (suc k) d h = all_push P xs x (λ i e q. all (suc i) e (omega arith)) here k d (omega arith)

take_short : {A : Type 0} (n : ℕ) (xs : List A) (x : A) → length xs < n → take n (xs ++ x ∷ []) ≡ take n xs ++ x ∷ []
take_short zero xs x h = absurd (omega arith)
take_short (suc n) [] x h = by n where
  by : (n : ℕ) → x ∷ take n [] ≡ x ∷ []
  by zero = refl
  by (suc n) = refl
take_short (suc n) (a ∷ xs) x h = ap (λ (l : List _). a ∷ l) (take_short n xs x (omega arith))

take_long : {A : Type 0} (n : ℕ) (xs : List A) (x : A) → n ≤ length xs → take n (xs ++ x ∷ []) ≡ take n xs
take_long zero xs x h = refl
take_long (suc n) [] x h = absurd (omega arith)
take_long (suc n) (a ∷ xs) x h = ap (λ (l : List _). a ∷ l) (take_long n xs x (omega arith))

drop_none : {A : Type 0} (n : ℕ) → drop {A = A} n [] ≡ []
drop_none zero = refl
drop_none (suc n) = refl

drop_short : {A : Type 0} (n : ℕ) (xs : List A) (x : A) → length xs < n → drop n (xs ++ x ∷ []) ≡ drop n xs
drop_short zero xs x h = absurd (omega arith)
drop_short (suc n) [] x h = drop_none n
drop_short (suc n) (a ∷ xs) x h = drop_short n xs x (omega arith)

drop_long : {A : Type 0} (n : ℕ) (xs : List A) (x : A) → n ≤ length xs → drop n (xs ++ x ∷ []) ≡ drop n xs ++ x ∷ []
drop_long zero xs x h = refl
drop_long (suc n) [] x h = absurd (omega arith)
drop_long (suc n) (a ∷ xs) x h = drop_long n xs x (omega arith)

pub greatest_more : (ks : List ℕ) (n k : ℕ) → n < k → IsGreatest ks n → IsGreatest (ks ++ k ∷ []) k
greatest_more [] n k less g = (Contains-get_or (k ∷ []) 0 k (omega arith), all_push (λ j. j ≤ k) [] k (λ i d h. absurd (omega arith)) (omega arith))
greatest_more (j ∷ ks) n k less g = (
  Contains-append_right (j ∷ ks) (k ∷ []) k (Contains-get_or (k ∷ []) 0 k (omega arith)),
  all_push (λ i. i ≤ k) (j ∷ ks) k (λ i d h. let a = g.1 i d h in omega (arith, a, less)) (omega arith),
)

pub greatest_same : (ks : List ℕ) (n k : ℕ) → k ≤ n → IsGreatest ks n → IsGreatest (ks ++ k ∷ []) n
greatest_same [] n k less g =
    let e : k ≡ n = omega (arith, less, g) in
    subst (λ (i : ℕ). IsGreatest (i ∷ []) n) (sym e) (Contains-get_or (n ∷ []) 0 n (omega arith), all_push (λ j. j ≤ n) [] n (λ i d h. absurd (omega arith)) (omega arith))
greatest_same (j ∷ ks) n k less g = (Contains-append_left (j ∷ ks) (k ∷ []) n g.0, all_push (λ i. i ≤ n) (j ∷ ks) k g.1 less)

pub sum_push : (ks : List ℕ) (k : ℕ) → sum (ks ++ k ∷ []) ≡ sum ks + k
sum_push ks k =
    let a = sum_by-append (λ (x : ℕ). x) ks (k ∷ []) in
    let b = sum_by-cons (λ (x : ℕ). x) k [] in
    omega (arith, a, b)

-- ---- what a table weighs that has grown

pub weight_on : (n : ℕ) (t u : Muxes) → IsTable t → IsTable u → HasGrownBy n t u → u.weight ≤ t.weight + 4 * n
weight_on n t u a b g =
    let e = ap muxes_weight g.nodes in
    let s = sum_by-append mux_weight t.nodes.keys g.more in
    let w = weight_by_count g.more in
    let f = g.few in
    let x = a.weight in
    let y = b.weight in
    omega (arith, e, s, w, f, x, y)

-- ---- what is planned

root_on : (m : Machine) (n : ℕ) (t u : Muxes) (p q : Plan) (e : Expression) (k : Literal) → HasGrownBy n t u
    → IsFollowed (held_count m) m.equations k e p.equations.items q.equations.items → (r : Root) (l : Literal) → SaysRoot m t p r l → SaysRoot m u q r l
root_on m n t u p q e k g f r l s = record {
  below = below_on n t u l g s.below;
  value = value_on n t u l (λ w. val r.expr (built w m.equations)) g s.below s.value;
  led = λ j shows. let a = s.led j shows in (a.0, f.kept j a.0 a.1);
}

shown_on : (m : Machine) (p q : Plan) (e : Expression) (k : Literal) → IsFollowed (held_count m) m.equations k e p.equations.items q.equations.items
    → (r : Root) → IsShown m p r → IsShown m q r
shown_on m p q e k f r s = record {
  place = s.place;
  equation = s.equation;
  literal = s.literal;
  there_is = s.there_is;
  named = s.named;
  planned = f.kept s.place s.literal s.planned;
}

all_shown : (m : Machine) (p q : Plan) (rs : List Root) → ((r : Root) → IsShown m p r → IsShown m q r) → All (IsShown m p) rs → All (IsShown m q) rs
all_shown m p q rs f all k d h = f (slice_index_or rs k d) (all k d h)

-- a root of an equation
planned_output : (m : Machine) (before : List Root) (r : Root) (j : ℕ) (t u : Muxes) (n : ℕ) (p q : Plan) (l : Literal) → t.held ≡ held_count m → EachReadsBelow (held_count m) m.equations
    → length before < length (outputs m) → slice_get m.equations j ≡ Some (record { name = r.name; expr = r.expr }) → HasGrownBy n t u → IsPlanOf m before t p
    → q.loads.items ≡ p.loads.items → IsFollowed (held_count m) m.equations l (variable (held_count m + j)) p.equations.items q.equations.items
    → IsLiteralBelow (u.held + length u.nodes.keys) l → SaysValue u l (λ w. val r.expr (built w m.equations)) → IsPlanOf m (before ++ r ∷ []) u q
planned_output m before r j t u n p q l held reads less at g h loads f below says = record {
  plan = plan_followed m t u n p q l (variable (held_count m + j)) held reads g h.plan f below
      (λ w size. says w size ∙ sym (equation_value w m.equations (held_count m) (size ∙ g.held ∙ held) reads j (record { name = r.name; expr = r.expr }) at));
  shown = subst (λ (rs : List Root). All (IsShown m q) rs) (sym (take_short (length (outputs m)) before r less))
      (all_push (IsShown m q) (take (length (outputs m)) before) r
      (all_shown m p q (take (length (outputs m)) before) (shown_on m p q (variable (held_count m + j)) l f) h.shown)
      (let here = f.first j refl in record { place = j; equation = record { name = r.name; expr = r.expr }; literal = here.0; there_is = at; named = refl; planned = here.1 }));
  loads = subst (λ (rs : List Root). AllZip (SaysRoot m u q) rs q.loads.items) (sym (drop_short (length (outputs m)) before r less))
      (subst (λ (ls : List Literal). AllZip (SaysRoot m u q) (drop (length (outputs m)) before) ls) (sym loads)
      (zip_mapped (SaysRoot m t p) (SaysRoot m u q) (drop (length (outputs m)) before) p.loads.items (root_on m n t u p q (variable (held_count m + j)) l g f) h.loads));
}

-- a root that a register loads
planned_load : (m : Machine) (before : List Root) (r : Root) (t u : Muxes) (n : ℕ) (p q : Plan) (l : Literal) → t.held ≡ held_count m → EachReadsBelow (held_count m) m.equations
    → length (outputs m) ≤ length before → HasGrownBy n t u → IsPlanOf m before t p
    → q.loads.items ≡ p.loads.items ++ l ∷ [] → IsFollowed (held_count m) m.equations l r.expr p.equations.items q.equations.items
    → IsLiteralBelow (u.held + length u.nodes.keys) l → SaysValue u l (λ w. val r.expr (built w m.equations)) → IsPlanOf m (before ++ r ∷ []) u q
planned_load m before r t u n p q l held reads less g h loads f below says = record {
  plan = plan_followed m t u n p q l r.expr held reads g h.plan f below says;
  shown = subst (λ (rs : List Root). All (IsShown m q) rs) (sym (take_long (length (outputs m)) before r less))
      (all_shown m p q (take (length (outputs m)) before) (shown_on m p q r.expr l f) h.shown);
  loads = subst (λ (rs : List Root). AllZip (SaysRoot m u q) rs q.loads.items) (sym (drop_long (length (outputs m)) before r less))
      (subst (λ (ls : List Literal). AllZip (SaysRoot m u q) (drop (length (outputs m)) before ++ r ∷ []) ls) (sym loads)
      (zip_push (SaysRoot m u q) (drop (length (outputs m)) before) p.loads.items r l
      (zip_mapped (SaysRoot m t p) (SaysRoot m u q) (drop (length (outputs m)) before) p.loads.items (root_on m n t u p q r.expr l g f) h.loads)
      (record { below = below; value = says; led = λ j shows. f.first j shows })));
}

pub planned_next : (m : Machine) (before : List Root) (root : RootExpr) (t u : Muxes) (n : ℕ) (p q : Plan) (l : Literal) → t.held ≡ held_count m → EachReadsBelow (held_count m) m.equations
    → IsRootOf m root → IsNext m before root → HasGrownBy n t u → IsPlanOf m before t p
    → NotedAt (held_count m) m.equations (view root.expr.now) l p q root.equation
    → IsLiteralBelow (u.held + length u.nodes.keys) l → SaysValue u l (λ w. val (view root.expr.now) (built w m.equations)) → IsPlanOf m (before ++ root_view root ∷ []) u q
planned_next m before root t u n p q l held reads is next g h noted below says = by root.equation refl noted where
  by : (o : Option ℕ) → root.equation ≡ o → NotedAt (held_count m) m.equations (view root.expr.now) l p q o → IsPlanOf m (before ++ root_view root ∷ []) u q
  by (Some j) e x =
      let less : length before < length (outputs m) = (let t : nat_lt (length before) (length (outputs m)) ≡ true = sym next ∙ ap is_some e in search (arith, t)) in
      planned_output m before (root_view root) j t u n p q l held reads less (subst (λ (o : Option ℕ). IfSome o (λ k. slice_get m.equations k ≡ Some (record { name = root.name.now; expr = view root.expr.now }))) e is.placed) g h x.0 x.1 below says
  by None e x =
      let less : length (outputs m) ≤ length before = (let t : nat_lt (length before) (length (outputs m)) ≡ false = sym next ∙ ap is_some e in search (arith, t)) in
      planned_load m before (root_view root) t u n p q l held reads less g h x.0 x.1 below says
