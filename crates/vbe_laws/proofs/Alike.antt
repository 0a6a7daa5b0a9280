-- Values of formulas as they are written, over the numbers of another machine's names: they are those of the machine's expressions.
use Rattle.std.proofs.Common.{◌≡◌, ◌∙◌, ℕ, ◌<◌, Bool, true, false, not, ◌&&◌, List, [], ◌∷◌, ◌++◌, length, cond, refl, sym, ap, if◌then◌else◌}
use Rattle.vlsi_base.specs.declared.name.Name.{Name}
use Rattle.bool_expr.specs.declared.expr.Gate.TheVariants as gate
use Rattle.bool_expr.specs.Expression.{Expression, constant, variable, inverse as not_of, pair, choice, IsOver, bit, gate_value, val}
use Rattle.source_checks.specs.Formula.{Formula, fixed, joined, place, numbered}
use Rattle.source_checks.specs.Clock.{all_of}
use Rattle.vbe_print.specs.Expressions.{name_of}
use Rattle.vbe_laws.proofs.Formulas.{formula_of, value_formula}
use Rattle.vbe_laws.proofs.Guards.{conditions_of, enables_of}

-- a choice by `and`, `or` and `not` has the value of the choice
choice_value : (c a b : Bool) → gate_value gate.Or (gate_value gate.And c a) (gate_value gate.And (not c) b) ≡ cond c a b
choice_value true true b = refl
choice_value true false b = refl
choice_value false a b = refl

-- each name has, by its number among others, the bit that its variable has
abbrev pub Agree : List Name → List Name → List Bool → List Bool → Type 0
Agree names vars w v = (k : ℕ) → k < length names → bit v (place vars (name_of names k)) ≡ bit w k

pub formula_value : (names vars : List Name) (w v : List Bool) → Agree names vars w v → (e : Expression) → IsOver e (length names) → val (numbered vars (formula_of names e)) v ≡ val e w
formula_value names vars w v agree (constant b) over = refl
formula_value names vars w v agree (variable k) over = agree k over
formula_value names vars w v agree (not_of e) over = ap not (formula_value names vars w v agree e over)
formula_value names vars w v agree (pair g a b) over =
    ap (λ (x : Bool). gate_value g x (val (numbered vars (formula_of names b)) v)) (formula_value names vars w v agree a over.0)
    ∙ ap (λ (x : Bool). gate_value g (val a w) x) (formula_value names vars w v agree b over.1)
formula_value names vars w v agree (choice c a b) over =
    let x = val (numbered vars (formula_of names a)) v in
    let y = val (numbered vars (formula_of names b)) v in
    ap (λ (z : Bool). gate_value gate.Or (gate_value gate.And z x) (gate_value gate.And (not z) y)) (formula_value names vars w v agree c over.0)
    ∙ ap (λ (z : Bool). gate_value gate.Or (gate_value gate.And (val c w) z) (gate_value gate.And (not (val c w)) y)) (formula_value names vars w v agree a over.1.0)
    ∙ ap (λ (z : Bool). gate_value gate.Or (gate_value gate.And (val c w) (val a w)) (gate_value gate.And (not (val c w)) z)) (formula_value names vars w v agree b over.1.1)
    ∙ choice_value (val c w) (val a w) (val b w)

pub whole_value : (names vars : List Name) (w v : List Bool) → Agree names vars w v → (e : Expression) → IsOver e (length names) → val (numbered vars (value_formula names e)) v ≡ val e w
whole_value names vars w v agree (constant b) over = refl
whole_value names vars w v agree (variable k) over = agree k over
whole_value names vars w v agree (not_of e) over = formula_value names vars w v agree (not_of e) over
whole_value names vars w v agree (pair g a b) over = formula_value names vars w v agree (pair g a b) over
whole_value names vars w v agree (choice c a b) over =
    let x = val (numbered vars (formula_of names a)) v in
    let y = val (numbered vars (value_formula names b)) v in
    ap (λ (z : Bool). if z then x else y) (formula_value names vars w v agree c over.0)
    ∙ ap (λ (z : Bool). if val c w then z else y) (formula_value names vars w v agree a over.1.0)
    ∙ ap (λ (z : Bool). if val c w then val a w else z) (whole_value names vars w v agree b over.1.1)

-- ---- enables

-- all of the formulas are 1
every : List Name → List Bool → List Formula → Bool
every vars v [] = true
every vars v (f ∷ fs) = val (numbered vars f) v && every vars v fs

and_true : (a : Bool) → a ≡ (a && true)
and_true true = refl
and_true false = refl

and_three : (a b c : Bool) → ((a && b) && c) ≡ (a && (b && c))
and_three true b c = refl
and_three false b c = refl

every_grouped : (vars : List Name) (v : List Bool) (f : Formula) (fs : List Formula) → val (numbered vars (all_of (f ∷ fs))) v ≡ every vars v (f ∷ fs)
unfolding every
every_grouped vars v f [] = and_true (val (numbered vars f) v)
every_grouped vars v f (g ∷ gs) = every_grouped vars v (joined gate.And f g) gs ∙ and_three (val (numbered vars f) v) (val (numbered vars g) v) (every vars v gs)

every_append : (vars : List Name) (v : List Bool) (fs gs : List Formula) → every vars v (fs ++ gs) ≡ (every vars v fs && every vars v gs)
unfolding every
every_append vars v [] gs = refl
every_append vars v (f ∷ fs) gs =
    ap (λ (x : Bool). val (numbered vars f) v && x) (every_append vars v fs gs) ∙ sym (and_three (val (numbered vars f) v) (every vars v fs) (every vars v gs))

-- one formula
every_one : (vars : List Name) (v : List Bool) (f : Formula) (b : Bool) → val (numbered vars f) v ≡ b → every vars v (f ∷ []) ≡ b
unfolding every
every_one vars v f b e = sym (and_true (val (numbered vars f) v)) ∙ e

every_condition : (names vars : List Name) (w v : List Bool) → Agree names vars w v → (e : Expression) → IsOver e (length names) → every vars v (conditions_of names e) ≡ val e w
every_condition names vars w v agree (constant b) over = every_one vars v (fixed b) b refl
every_condition names vars w v agree (variable k) over = every_one vars v (formula_of names (variable k)) (bit w k) (agree k over)
every_condition names vars w v agree (not_of e) over = every_one vars v (formula_of names (not_of e)) (val (not_of e) w) (formula_value names vars w v agree (not_of e) over)
every_condition names vars w v agree (pair gate.And a b) over =
    every_append vars v (conditions_of names a) (conditions_of names b)
    ∙ ap (λ (x : Bool). x && every vars v (conditions_of names b)) (every_condition names vars w v agree a over.0)
    ∙ ap (λ (x : Bool). val a w && x) (every_condition names vars w v agree b over.1)
every_condition names vars w v agree (pair gate.Or a b) over = every_one vars v (formula_of names (pair gate.Or a b)) (val (pair gate.Or a b) w) (formula_value names vars w v agree (pair gate.Or a b) over)
every_condition names vars w v agree (pair gate.Nand a b) over = every_one vars v (formula_of names (pair gate.Nand a b)) (val (pair gate.Nand a b) w) (formula_value names vars w v agree (pair gate.Nand a b) over)
every_condition names vars w v agree (pair gate.Nor a b) over = every_one vars v (formula_of names (pair gate.Nor a b)) (val (pair gate.Nor a b) w) (formula_value names vars w v agree (pair gate.Nor a b) over)
every_condition names vars w v agree (pair gate.Xor a b) over = every_one vars v (formula_of names (pair gate.Xor a b)) (val (pair gate.Xor a b) w) (formula_value names vars w v agree (pair gate.Xor a b) over)
every_condition names vars w v agree (pair gate.Xnor a b) over = every_one vars v (formula_of names (pair gate.Xnor a b)) (val (pair gate.Xnor a b) w) (formula_value names vars w v agree (pair gate.Xnor a b) over)
every_condition names vars w v agree (choice c a b) over = every_one vars v (formula_of names (choice c a b)) (val (choice c a b) w) (formula_value names vars w v agree (choice c a b) over)

-- formulas of which there is one
grouped_value : (vars : List Name) (v : List Bool) (fs : List Formula) → val (numbered vars (all_of fs)) v ≡ every vars v fs
unfolding every
grouped_value vars v [] = refl
grouped_value vars v (f ∷ fs) = every_grouped vars v f fs

pub enable_value : (names vars : List Name) (w v : List Bool) → Agree names vars w v → (e : Expression) → IsOver e (length names) → val (numbered vars (all_of (enables_of names e))) v ≡ val e w
enable_value names vars w v agree (constant true) over = refl
enable_value names vars w v agree (constant false) over = grouped_value vars v (conditions_of names (constant false)) ∙ every_condition names vars w v agree (constant false) over
enable_value names vars w v agree (variable k) over = grouped_value vars v (conditions_of names (variable k)) ∙ every_condition names vars w v agree (variable k) over
enable_value names vars w v agree (not_of e) over = grouped_value vars v (conditions_of names (not_of e)) ∙ every_condition names vars w v agree (not_of e) over
enable_value names vars w v agree (pair g a b) over = grouped_value vars v (conditions_of names (pair g a b)) ∙ every_condition names vars w v agree (pair g a b) over
enable_value names vars w v agree (choice c a b) over = grouped_value vars v (conditions_of names (choice c a b)) ∙ every_condition names vars w v agree (choice c a b) over
