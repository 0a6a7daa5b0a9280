-- Choices and guards over numbers.
use Rattle.std.proofs.Common.{◌≡◌, ℕ, ◌+◌, ◌-◌, ◌<◌, List, [], ◌∷◌, map, length, drop, get_or, Bor, refl, sym, ap, ◌∙◌, arith}
use Rattle.std.proofs.lemmas.List.{at_drop_more}
use Rattle.vlsi_base.specs.declared.name.Name.{Name}
use Rattle.vlsi_base.specs.declared.expression.ParsedExpr.{ParsedExpr}
use Rattle.vlsi_base.specs.Tree.{Tree, view}
use Rattle.bool_expr.specs.declared.expr.Gate.TheVariants as gate
use Rattle.bool_expr.specs.Expression.{Expression, choice}
use Rattle.source_checks.specs.declared.statement.Guarded.{Guarded}
use Rattle.source_checks.specs.declared.symbol_table.Symbol.{Symbol}
use Rattle.source_checks.specs.Symbols.{all_names}
use Rattle.source_checks.specs.Formula.{Formula, joined, numbered, formulas, first_bit, alternative_bits}
use Rattle.source_checks.specs.Clock.{all_of, condition_bits, conditions_among, parts_of, enable_of}
use Rattle.source_bits.specs.Vectors.{each_two}
use Rattle.source_bits.specs.Formulas.{bits_of, first_of, alternatives_of, grouped_of, all_in, condition_of}
use Rattle.source_bits.proofs.Operators.{numbered_choices}

numbered_first : (vars : List Name) (xs : List Formula) → numbered vars (first_bit xs) ≡ first_of (map (numbered vars) xs)
numbered_first vars [] = refl
numbered_first vars (x ∷ xs) = refl

pub numbered_alternatives : (known : List Symbol) (gs : List Guarded) (fs : List Formula) → map (numbered (all_names known)) (alternative_bits known gs fs) ≡ alternatives_of known gs (map (numbered (all_names known)) fs)
numbered_alternatives known [] fs = refl
numbered_alternatives known (g ∷ gs) fs =
    let vars = all_names known in
    let c = first_bit (formulas known (view g.condition)) in
    let values = bits_of known (view g.value) in
    numbered_choices vars c (formulas known (view g.value)) (alternative_bits known gs fs)
    ∙ ap (λ (e : Expression). each_two (choice e) values (map (numbered vars) (alternative_bits known gs fs))) (numbered_first vars (formulas known (view g.condition)))
    ∙ ap (each_two (choice (first_of (bits_of known (view g.condition)))) values) (numbered_alternatives known gs fs)

-- a turn of the loop over alternatives, from the last
pub alternatives_turn : (known : List Symbol) (gs : List Guarded) (left : ℕ) (g : Guarded) (before made fs : List Expression) → 0 < left → left - 1 < length gs → g ≡ get_or gs (left - 1) g
    → made ≡ each_two (choice (condition_of known (view g.condition))) (bits_of known (view g.value)) before → before ≡ alternatives_of known (drop left gs) fs → made ≡ alternatives_of known (drop (left - 1) gs) fs
alternatives_turn known gs left g before made fs some within is goes so_far =
    let next : left - 1 + 1 ≡ left = omega arith in
    let here : List Guarded → List Expression = λ (xs : List Guarded). alternatives_of known xs fs in
    goes ∙ ap (each_two (choice (condition_of known (view g.condition))) (bits_of known (view g.value))) (so_far ∙ ap (λ k. here (drop k gs)) (sym next))
    ∙ ap (λ (x : Guarded). here (x ∷ drop (left - 1 + 1) gs)) is ∙ sym (at_drop_more here gs (left - 1) g within)

numbered_grouped : (vars : List Name) (x : Formula) (rest : List Formula) → numbered vars (all_of (x ∷ rest)) ≡ grouped_of (numbered vars x) (map (numbered vars) rest)
numbered_grouped vars x [] = refl
numbered_grouped vars x (y ∷ rest) = numbered_grouped vars (joined gate.And x y) rest

numbered_all : (vars : List Name) (xs : List Formula) → numbered vars (all_of xs) ≡ all_in (map (numbered vars) xs)
numbered_all vars [] = refl
numbered_all vars (x ∷ rest) = numbered_grouped vars x rest

numbered_conditions : (known : List Symbol) (es : List Tree) → map (numbered (all_names known)) (condition_bits known es) ≡ map (condition_of known) es
numbered_conditions known [] = refl
numbered_conditions known (e ∷ es) =
    ap (λ (x : Expression). x ∷ map (numbered (all_names known)) (condition_bits known es)) (numbered_first (all_names known) (formulas known e)) ∙ ap (λ (xs : List Expression). condition_of known e ∷ xs) (numbered_conditions known es)

each_seen : (known : List Symbol) (rs : List (Bor ParsedExpr)) → map (λ (r : Bor ParsedExpr). condition_of known (view r.now)) rs ≡ map (condition_of known) (map (λ (r : Bor ParsedExpr). view r.now) rs)
each_seen known [] = refl
each_seen known (r ∷ rs) = ap (λ (xs : List Expression). condition_of known (view r.now) ∷ xs) (each_seen known rs)

pub enables : (known : List Symbol) (clock : List ℕ) (guard : Tree) (found seen : List (Bor ParsedExpr)) (made : Expression) → map (λ (r : Bor ParsedExpr). view r.now) found ≡ conditions_among clock (parts_of guard) → seen ≡ found
    → made ≡ all_in (map (λ (r : Bor ParsedExpr). condition_of known (view r.now)) seen) → made ≡ numbered (all_names known) (enable_of known clock guard)
enables known clock guard found seen made are same is =
    is ∙ ap (λ (rs : List (Bor ParsedExpr)). all_in (map (λ (r : Bor ParsedExpr). condition_of known (view r.now)) rs)) same ∙ ap all_in (each_seen known found ∙ ap (map (condition_of known)) are ∙ sym (numbered_conditions known (conditions_among clock (parts_of guard))))
    ∙ sym (numbered_all (all_names known) (condition_bits known (conditions_among clock (parts_of guard))))

-- the first condition, and the others behind it
pub first_and_others : (known : List Symbol) (rs : List (Bor ParsedExpr)) (r : Bor ParsedExpr) (others : List (Bor ParsedExpr)) → r ≡ get_or rs 0 r → 0 < length rs → others ≡ drop 1 rs
    → grouped_of (condition_of known (view r.now)) (map (λ (r : Bor ParsedExpr). condition_of known (view r.now)) others) ≡ all_in (map (λ (r : Bor ParsedExpr). condition_of known (view r.now)) rs)
first_and_others known [] r others is some behind = absurd (omega arith)
first_and_others known (x ∷ rs) r others is some behind =
    ap (λ (y : Bor ParsedExpr). grouped_of (condition_of known (view y.now)) (map (λ (r : Bor ParsedExpr). condition_of known (view r.now)) others)) is
    ∙ ap (λ (ys : List (Bor ParsedExpr)). grouped_of (condition_of known (view x.now)) (map (λ (r : Bor ParsedExpr). condition_of known (view r.now)) ys)) behind
