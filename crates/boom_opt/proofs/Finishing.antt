-- From the second machine of all roots to the answer.
use Rattle.std.proofs.Common.{◌≡◌, ◌⊎◌, inl, inr, ℕ, zero, suc, ◌+◌, ◌-◌, ◌*◌, ◌^◌, ◌<◌, ◌≤◌, min, true, false, List, [], ◌∷◌, length, take, drop, Option, None, Some, slice_get, refl, sym, ap, subst, ◌∙◌, arith}
use Rattle.std.specs.Prelude.{replicate, sum, Result, Ok, Err, IfOk}
use Rattle.std.specs.List.{All, AllZip, slice_index_or}
use Rattle.machine_core.specs.Machine.{Machine, Register, outputs}
use Rattle.machine_core.specs.Size.{machine_size}
use Rattle.machine_core.specs.Checked.{IsChecked}
use Rattle.machine_walk.specs.Expansion.{held_count}
use Rattle.machine_roots.specs.Roots.{Root, roots, register_roots, expression_of, IsGreatestDcount}
use Rattle.boom_literal.specs.declared.literal.Literal.{Literal}
use Rattle.boom_literal.specs.declared.literal.Literal.TheVariants.{Constant}
use Rattle.boom_muxes.specs.declared.mux.Mux.{Mux}
use Rattle.boom_opt.specs.declared.optimising.Rebuilt.{Rebuilt}
use Rattle.boom_muxes.specs.Muxes.{IsTable, IsLiteralBelow, EachIsBelow, muxes_weight}
use Rattle.boom_check.specs.Kept.{inner_size, IsAcceptable}
use Rattle.boom_opt.specs.Optimised.{IsOptimised, IsInnerBound}
use Rattle.boom_opt.proofs.Bounds.{inner_within, size_parts, inner_when_kept}
use Rattle.boom_muxes.specs.Building.{MayBeBuilt, IsBuilt}
use Rattle.boom_opt.specs.Rebuilt.{expressions_size, IsWeight, IsShown, SaysRoot, IsPlanOf, IsRebuilt}
use Rattle.boom_opt.proofs.Optimal.{optimised_same, optimised_built, drop_all}

-- ---- no roots yet

none_replicated : (n j : ℕ) (l : Literal) → slice_get (replicate n None) j ≡ Some (Some l) → ⊥
none_replicated zero j l e = (cc e)
none_replicated (suc n) zero l e = (cc e)
none_replicated (suc n) (suc j) l e = none_replicated n j l e

length_replicated : (n : ℕ) → length (replicate {A = Option Literal} n None) ≡ n
length_replicated zero = refl
length_replicated (suc n) = let a = length_replicated n in omega (arith, a)

pub rebuilt_none : (m : Machine) (b : Rebuilt) → IsTable b.muxes → b.muxes.held ≡ held_count m → IsWeight m b.muxes.given → b.muxes.nodes.keys ≡ [] → b.is_large ≡ false → b.nodes ≡ 0 → b.diagram_nodes ≡ 0
    → b.plan.equations.items ≡ replicate (length m.equations) None → b.plan.loads.items ≡ [] → IsRebuilt m [] b
rebuilt_none m b table held given empty small nodes several equations loads = record {
  table = table;
  held = held;
  given = given;
  counts = [];
  each_count = tt;
  nodes = nodes;
  dags = [];
  each_dag = tt;
  several = (let e = several in omega (arith, e));
  weight = let w = table.weight in let e = ap muxes_weight empty in omega (arith, w, e);
  large = λ e. absurd (let no : true ≡ false = sym e ∙ small in cc no);
  planned = λ e. record {
    plan = record {
      each = ap length equations ∙ length_replicated (length m.equations);
      below = λ j l is. absurd (none_there j l is);
      value = λ j l is. absurd (none_there j l is);
      closed = λ i j l x is at shows. absurd (none_there i l is);
    };
    shown = nothing (length (outputs m));
    loads = subst (λ (ls : List Literal). AllZip (SaysRoot m b.muxes b.plan) (drop (length (outputs m)) []) ls) (sym loads) (nothing_left (length (outputs m)));
  };
}
  where
    none_there : (j : ℕ) (l : Literal) → slice_get b.plan.equations.items j ≡ Some (Some l) → ⊥
    none_there j l is = none_replicated (length m.equations) j l (ap (λ (xs : List (Option Literal)). slice_get xs j) (sym equations) ∙ is)

    nothing : (n : ℕ) → All (IsShown m b.plan) (take n [])
    nothing zero k d h = absurd (omega arith)
    nothing (suc n) k d h = absurd (omega arith)

    nothing_left : (n : ℕ) → AllZip (SaysRoot m b.muxes b.plan) (drop n []) []
    nothing_left zero = tt
    nothing_left (suc n) = tt

-- ---- what may be built

zip_length : {A B : Type 0} (R : A → B → Type 0) (xs : List A) (ys : List B) → AllZip R xs ys → length xs ≡ length ys
zip_length R [] [] h = refl
zip_length R [] (y ∷ ys) h = elim h [ ]
zip_length R (x ∷ xs) [] h = elim h [ ]
zip_length R (x ∷ xs) (y ∷ ys) h = ap suc (zip_length R xs ys h.1)

zip_at : {A B : Type 0} (R : A → B → Type 0) (P : B → Type 0) (xs : List A) (ys : List B) → ((x : A) (y : B) → R x y → P y) → AllZip R xs ys → (k : ℕ) (d : B) → k < length ys → P (slice_index_or ys k d)
zip_at R P [] [] f h k d q = absurd (omega arith)
zip_at R P [] (y ∷ ys) f h k d q = elim h [ ]
zip_at R P (x ∷ xs) [] f h k d q = elim h [ ]
zip_at R P (x ∷ xs) (y ∷ ys) f h zero d q = f x y h.0
zip_at R P (x ∷ xs) (y ∷ ys) f h (suc k) d q = zip_at R P xs ys f h.1 k d (omega arith)

length_register_roots : (rs : List Register) → length (register_roots rs) ≡ 2 * length rs
length_register_roots [] = refl
length_register_roots (r ∷ rs) = let a = length_register_roots rs in omega (arith, a)

get_from_index : (xs : List (Option Literal)) (k : ℕ) (l : Literal) → slice_index_or xs k None ≡ Some l → slice_get xs k ≡ Some (Some l)
get_from_index [] k l e = absurd (cc e)
get_from_index (x ∷ xs) zero l e = ap Some e
get_from_index (x ∷ xs) (suc k) l e = get_from_index xs k l e

pub may_be_kept : (m : Machine) → IsChecked m → MayBeBuilt m [] None
may_be_kept m checked = record { checked = checked; below = tt; planned = tt }

pub may_be_built : (m : Machine) (b : Rebuilt) → IsChecked m → IsRebuilt m (roots m) b → b.is_large ≡ false → MayBeBuilt m b.muxes.nodes.keys (Some b.plan)
may_be_built m b checked h small = record {
  checked = checked;
  below = subst (λ (n : ℕ). EachIsBelow n n b.muxes.nodes.keys) h.held h.table.below;
  planned = record {
    equations = p.plan.each;
    loads = sym (zip_length (SaysRoot m b.muxes b.plan) (register_roots m.registers) b.plan.loads.items loads) ∙ length_register_roots m.registers;
    below = λ k l is. subst (λ (n : ℕ). IsLiteralBelow (n + length b.muxes.nodes.keys) l) h.held (p.plan.below k l (get_from_index b.plan.equations.items k l is));
    loads_below = λ k less. subst (λ (n : ℕ). IsLiteralBelow (n + length b.muxes.nodes.keys) (slice_index_or b.plan.loads.items k (Constant false))) h.held
        (zip_at (SaysRoot m b.muxes b.plan) (λ l. IsLiteralBelow (b.muxes.held + length b.muxes.nodes.keys) l) (register_roots m.registers) b.plan.loads.items (λ r l s. s.below) loads k (Constant false) less);
  };
}
  where
    p : IsPlanOf m (roots m) b.muxes b.plan
    p = h.planned small

    loads : AllZip (SaysRoot m b.muxes b.plan) (register_roots m.registers) b.plan.loads.items
    loads = subst (λ (rs : List Root). AllZip (SaysRoot m b.muxes b.plan) rs b.plan.loads.items)
        (drop_all (outputs m) (λ name. record { name = name; expr = expression_of m.equations name }) (register_roots m.registers)) p.loads

-- there are no more choices than the machine weighs
pub few_built : (m : Machine) (b : Rebuilt) → IsRebuilt m (roots m) b → b.muxes.weight < b.muxes.given → length b.muxes.nodes.keys ≤ machine_size m
few_built m b h less =
    let each = h.table.each in
    let g = h.given in
    omega (arith, each, g, less)

-- ---- the answer

pub smaller : (m : Machine) (b : Rebuilt) (o : Machine) → IsChecked m → (h : IsRebuilt m (roots m) b) → (small : b.is_large ≡ false) → b.muxes.weight < b.muxes.given
    → IsBuilt m b.muxes.nodes.keys (Some b.plan) o → IsOptimised m o
smaller m b o checked h small less built =
    let g = h.given in
    optimised_built m b.muxes b.plan (may_be_built m b checked h small) o built h.held (h.planned small) h.dags h.each_dag h.table h.weight (omega (arith, less, g))

pub kept_small : (m : Machine) (b : Rebuilt) (o : Machine) → IsChecked m → IsRebuilt m (roots m) b → (b.is_large ≡ true) ⊎ (b.muxes.given ≤ b.muxes.weight) → IsBuilt m [] None o → IsOptimised m o
kept_small m b o checked h (inl large) built = optimised_same m h.dags (may_be_kept m checked) o built h.each_dag (inner_when_kept m (4 * sum h.dags) (h.large large))
kept_small m b o checked h (inr more) built =
    optimised_same m h.dags (may_be_kept m checked) o built h.each_dag (inner_when_kept m (4 * sum h.dags) (by h.table.less))
  where
    by : (b.muxes.weight < b.muxes.given) ⊎ (b.muxes.nodes.keys ≡ []) → expressions_size m ≤ 4 * sum h.dags
    by (inl less) = absurd (omega (arith, less, more))
    by (inr empty) =
        let w = h.table.weight in
        let e = ap muxes_weight empty in
        let g = h.given in
        omega (arith, w, e, g, more)

-- how much inner signals may weigh
pub inner_bound : (m : Machine) (b : Rebuilt) (most : ℕ) → IsRebuilt m (roots m) b → ((b.is_large ≡ true) × (most ≡ b.muxes.given)) ⊎ (most ≤ 4 * b.diagram_nodes) → IsInnerBound m most
inner_bound m b most h (inl large) = record {
  dags = h.dags;
  each = h.each_dag;
  within = let g = h.given in let l = h.large large.0 in let is = large.1 in omega (arith, g, l, is);
}
inner_bound m b most h (inr less) = record { dags = h.dags; each = h.each_dag; within = let s = h.several in omega (arith, s, less) }

-- the given machine is within the bound
pub kept_within_result : {E : Type 0} (m : Machine) (r : Result Machine E) (weight most : ℕ) → IsChecked m → machine_size m < 2 ^ 32 → min (inner_size m) (2 ^ 64 - 1) ≤ weight → weight ≤ most
    → IsInnerBound m most → IfOk r (λ o. IsBuilt m [] None o) → IfOk r (λ o. IsOptimised m o)
kept_within_result m (Ok o) weight most checked few weighs less bound built =
    optimised_same m bound.dags (may_be_kept m checked) o built bound.each
    (let within = bound.within in let inner = inner_within m in let parts = size_parts m in omega (arith, few, weighs, less, within, inner, parts))
kept_within_result m (Err e) weight most checked few weighs less bound built = tt

-- a machine that was proposed
pub optimised_accepted : (m o : Machine) (most : ℕ) → IsInnerBound m most → IsAcceptable m most o → IsOptimised m o
optimised_accepted m o most bound a = record {
  alike = a.alike;
  kept = a.kept;
  small = record { size = a.size; dags = bound.dags; each = bound.each; inner = let within = bound.within in let inner = a.inner in omega (arith, within, inner) };
}

pub greatest_is : (m : Machine) (b : Rebuilt) → IsRebuilt m (roots m) b → IsGreatestDcount m b.nodes
greatest_is m b h = record { counts = h.counts; each = h.each_count; greatest = h.nodes }

pub smaller_result : {E : Type 0} (m : Machine) (b : Rebuilt) (r : Result Machine E) (keys : List Mux) → IsChecked m → IsRebuilt m (roots m) b → b.is_large ≡ false → b.muxes.weight < b.muxes.given
    → keys ≡ b.muxes.nodes.keys → IfOk r (λ o. IsBuilt m keys (Some b.plan) o) → IfOk r (λ o. IsOptimised m o)
smaller_result m b (Ok o) keys checked h small less is built = smaller m b o checked h small less (subst (λ (xs : List Mux). IsBuilt m xs (Some b.plan) o) is built)
smaller_result m b (Err e) keys checked h small less is built = tt

pub kept_result : {E : Type 0} (m : Machine) (b : Rebuilt) (r : Result Machine E) → IsChecked m → IsRebuilt m (roots m) b → (b.is_large ≡ true) ⊎ (b.muxes.given ≤ b.muxes.weight)
    → IfOk r (λ o. IsBuilt m [] None o) → IfOk r (λ o. IsOptimised m o)
kept_result m b (Ok o) checked h why built = kept_small m b o checked h why built
kept_result m b (Err e) checked h why built = tt
