-- The literals of a plan, root by root.
use Rattle.std.proofs.Common.{◌≡◌, ◌⊎◌, inl, inr, ℕ, zero, suc, ◌+◌, Bool, not, List, [], ◌∷◌, ◌++◌, length, map, Option, None, Some, slice_get, refl, sym, ap, subst, ◌∙◌, arith, length-append}
use Rattle.std.specs.List.{slice_index_or}
use Rattle.std.proofs.lemmas.Option.{slice_get_within, slice_get-get_or}
use Rattle.std.proofs.lemmas.List.{length-map}
use Rattle.bool_expr.specs.Expression.{Expression, constant, variable, inverse, pair, choice, bit, val, gate_value, variables, IsOver}
use Rattle.bdd_core.specs.Truths.{Truths}
use Rattle.bdd_core.specs.Branching.{truth_at}
use Rattle.bdd_core.specs.Nodes.{IsWhole}
use Rattle.bdd_core.proofs.Held.{truths_value}
use Rattle.machine_core.specs.Machine.{Machine, Equation}
use Rattle.machine_core.specs.Order.{EachReadsBelow}
use Rattle.machine_core.specs.Built.{built}
use Rattle.machine_roots.specs.declared.diagram.RootDiagram.{RootDiagram}
use Rattle.machine_walk.specs.Expansion.{expansion, held_count, in_order}
use Rattle.machine_roots.specs.Roots.{list_of}
use Rattle.machine_walk.specs.Walk.{order_of}
use Rattle.machine_roots.specs.Asked.{IsRootDiagram}
use Rattle.machine_roots.proofs.Expanding.{value_of_expansion, val-in_order, first_meetings-all}
use Rattle.boom_literal.specs.declared.literal.Literal.{Literal}
use Rattle.boom_literal.specs.declared.literal.Literal.TheVariants.{Constant, Name}
use Rattle.boom_muxes.specs.declared.mux.Mux.{Mux}
use Rattle.boom_muxes.specs.declared.muxes.Muxes.{Muxes}
use Rattle.boom_muxes.specs.declared.plan.Plan.{Plan}
use Rattle.boom_muxes.specs.Muxes.{IsLiteralBelow, literal_value, mux_values, HasGrownBy}
use Rattle.boom_muxes.specs.Planning.{LeadsTo, at_once, onward, IsFollowed, SaysValue, IsPlan}
use Rattle.boom_muxes.specs.Rebuilding.{IsUsable, SaysNode, bits_of}
use Rattle.boom_muxes.proofs.Weighing.{literal_kept}
use Rattle.boom_muxes.proofs.Following.{built-keeps, built-first}

-- ---- the equations of what is built

-- over the first names an expression has its value under all
pub val-built : (e : Expression) (w : List Bool) (es : List Equation) → IsOver e (length w) → val e (built w es) ≡ val e w
val-built (constant b) w es h = refl
val-built (variable k) w es h = built-keeps w es k h
val-built (inverse e) w es h = ap not (val-built e w es h)
val-built (pair g a b) w es h = λ j. gate_value g (val-built a w es h.0 j) (val-built b w es h.1 j)
val-built (choice c a b) w es h = choose (val c (built w es)) (val c w) (val a (built w es)) (val a w) (val b (built w es)) (val b w) (val-built c w es h.0) (val-built a w es h.1.0) (val-built b w es h.1.1) where
  choose : (x y a c b d : Bool) → x ≡ y → a ≡ c → b ≡ d → val (choice (constant x) (constant a) (constant b)) [] ≡ val (choice (constant y) (constant c) (constant d)) []
  choose x y a c b d p q r = λ j. val (choice (constant (p j)) (constant (q j)) (constant (r j))) []

-- each name of an equation has the value of what the equation says
pub equation_value : (w : List Bool) (es : List Equation) (n : ℕ) → length w ≡ n → EachReadsBelow n es → (i : ℕ) (x : Equation) → slice_get es i ≡ Some x
    → bit (built w es) (n + i) ≡ val x.expr (built w es)
equation_value w [] n long below i x is = absurd (cc is)
equation_value w (e ∷ es) n long below zero x is =
    let same : e ≡ x = cc is in
    let here : n + zero ≡ length w = omega (arith, long) in
    ap (bit (built w (e ∷ es))) here ∙ built-first w e es
    ∙ sym (val-built e.expr w (e ∷ es) (subst (λ (k : ℕ). IsOver e.expr k) (sym long) below.0))
    ∙ ap (λ (y : Equation). val y.expr (built w (e ∷ es))) same
equation_value w (e ∷ es) n long below (suc i) x is =
    let next : length (w ++ val e.expr w ∷ []) ≡ n + 1 = let l = length-append w (val e.expr w ∷ []) in omega (arith, l, long) in
    let at : n + suc i ≡ n + 1 + i = omega arith in
    ap (bit (built w (e ∷ es))) at ∙ equation_value (w ++ val e.expr w ∷ []) es (n + 1) next below.1 i x is

-- names alone lead to names with the same value
pub leads_value : (held : ℕ) (es : List Equation) (e : Expression) (w : List Bool) → ((i : ℕ) (x : Equation) → slice_get es i ≡ Some x → bit w (held + i) ≡ val x.expr w)
    → (j : ℕ) → LeadsTo held es e j → bit w (held + j) ≡ val e w
leads_value held es e w each j (at_once s) = sym (ap (λ (f : Expression). val f w) s)
leads_value held es e w each j (onward {i} x l at s) =
    sym (ap (λ (f : Expression). val f w) s) ∙ sym (each i x at) ∙ leads_value held es e w each i l

-- ---- literals in a table that has grown

pub below_on : (n : ℕ) (t u : Muxes) (l : Literal) → HasGrownBy n t u → IsLiteralBelow (t.held + length t.nodes.keys) l → IsLiteralBelow (u.held + length u.nodes.keys) l
below_on n t u (Constant b) g low = tt
below_on n t u (Name k) g low =
    let h = g.held in
    let k2 = ap length g.nodes in
    let k3 = length-append t.nodes.keys g.more in
    omega (arith, low, h, k2, k3)

pub value_on : (n : ℕ) (t u : Muxes) (l : Literal) (f : List Bool → Bool) → HasGrownBy n t u → IsLiteralBelow (t.held + length t.nodes.keys) l → SaysValue t l f → SaysValue u l f
value_on n t u l f g below says w size =
    let long : length w ≡ t.held = size ∙ g.held in
    ap (λ (xs : List Mux). literal_value l (mux_values w xs)) g.nodes
    ∙ literal_kept l t.nodes.keys g.more w (subst (λ (m : ℕ). IsLiteralBelow (m + length t.nodes.keys) l) (sym long) below) ∙ says w long

-- ---- what a root's literal leaves

-- a literal stood there before, or there was none
pub was : {held : ℕ} {es : List Equation} {l : Literal} {e : Expression} (old new : List (Option Literal)) → IsFollowed held es l e old new
    → (j : ℕ) (k : Literal) → slice_get new j ≡ Some (Some k) → (slice_get old j ≡ Some (Some k)) ⊎ (slice_get old j ≡ Some None)
was old new f j k is = by (slice_index_or old j None) (slice_get-get_or old j None (let h = slice_get_within new j (Some k) is in let n = f.each in omega (arith, h, n))) where
  by : (o : Option Literal) → slice_get old j ≡ Some o → (slice_get old j ≡ Some (Some k)) ⊎ (slice_get old j ≡ Some None)
  by None e = inr e
  by (Some q) e = inl (e ∙ ap (λ (x : Literal). Some (Some x)) (let a = f.kept j q e in cc (a, is)))

pub plan_followed : (m : Machine) (t u : Muxes) (n : ℕ) (old new : Plan) (l : Literal) (e : Expression) → t.held ≡ held_count m → EachReadsBelow (held_count m) m.equations
    → HasGrownBy n t u → IsPlan m t old → IsFollowed (held_count m) m.equations l e old.equations.items new.equations.items
    → IsLiteralBelow (u.held + length u.nodes.keys) l → SaysValue u l (λ w. val e (built w m.equations)) → IsPlan m u new
plan_followed m t u n old new l e held reads g p f below says = record {
  each = f.each ∙ p.each;
  below = λ j k is. elim (was old.equations.items new.equations.items f j k is) [
    | inl before ↦ below_on n t u k g (p.below j k before)
    | inr none ↦ subst (λ (q : Literal). IsLiteralBelow (u.held + length u.nodes.keys) q) (sym (f.more j k is none).0) below
  ];
  value = λ j k is. elim (was old.equations.items new.equations.items f j k is) [
    | inl before ↦ value_on n t u k (λ w. bit (built w m.equations) (held_count m + j)) g (p.below j k before) (p.value j k before)
    | inr none ↦ further j k (f.more j k is none)
  ];
  closed = λ i j k x is at shows. elim (was old.equations.items new.equations.items f i k is) [
    | inl before ↦ let r = p.closed i j k x before at shows in (r.0, f.kept j r.0 r.1)
    | inr none ↦ f.closed i j k x is none at shows
  ];
}
  where
    further : (j : ℕ) (k : Literal) → (k ≡ l) × LeadsTo (held_count m) m.equations e j → SaysValue u k (λ w. bit (built w m.equations) (held_count m + j))
    further j k h w size =
        ap (λ (q : Literal). literal_value q (mux_values w u.nodes.keys)) h.0 ∙ says w size
        ∙ sym (leads_value (held_count m) m.equations e (built w m.equations) (equation_value w m.equations (held_count m) (size ∙ g.held ∙ held) reads) j h.1)

-- ---- a root's literal

pub root_usable : (m : Machine) (e : Expression) (budget : ℕ) (d : RootDiagram) (t : Muxes) → t.held ≡ held_count m → IsWhole d.diagrams.table → IsRootDiagram m e budget d → IsUsable t d
root_usable m e budget d t held whole r = record {
  whole = whole;
  vars = r.vars;
  held = λ k x h. let a = r.held k x h in omega (arith, a, held);
  zero_node = r.zero_node;
  zero_is = r.zero_is;
}

pub root_value : (m : Machine) (e : Expression) (budget : ℕ) (d : RootDiagram) (u : Muxes) (l : Literal) → u.held ≡ held_count m → IsRootDiagram m e budget d → SaysNode u d d.root l
    → SaysValue u l (λ w. val e (built w m.equations))
root_value m e budget d u l held r says w size =
    says.value w size
    ∙ ap (λ (f : Truths). truth_at f (bits_of d w)) r.root_is
    ∙ ap (λ (ks : List ℕ). truth_at (list_of m e) (map (bit w) ks)) r.order
    ∙ truths_value (length (order_of m e)) (λ (v : List Bool). val (in_order (order_of m e) (expansion m e)) v) (map (bit w) (order_of m e)) (length-map (order_of m e) (bit w))
    ∙ val-in_order (order_of m e) w (expansion m e) (λ k h. first_meetings-all (variables (expansion m e)) k h)
    ∙ value_of_expansion m w e (size ∙ held)
