-- The sizes of inner signals: the numbers of names weigh nothing.
use Rattle.std.proofs.Common.{◌≡◌, ℕ, ◌+◌, Bool, cond, List, [], ◌∷◌, map, refl, sym, ap, ◌∙◌, if◌then◌else◌}
use Rattle.std.specs.Prelude.{sum_by}
use Rattle.std.specs.List.{list_any}
use Rattle.std.specs.List.Sorted.{IsPermutation}
use Rattle.std.proofs.lemmas.List.Sums.{sum_by-cons}
use Rattle.std.proofs.lemmas.List.Sorted.{sum_by-IsPermutation}
use Rattle.vlsi_base.specs.declared.name.Name.{Name}
use Rattle.bool_expr.specs.Expression.{size_of, gate_size}
use Rattle.machine_core.specs.Named.{is_same_name}
use Rattle.machine_core.specs.Machine.{Machine, Equation, outputs}
use Rattle.source_checks.specs.Formula.{Formula, fixed, named, opposite, joined, chosen, numbered}
use Rattle.source_checks.specs.Elaboration.{Definition}
use Rattle.boom_opt.specs.Optimised.{inner_size}
use Rattle.vbe_roots.proofs.Readings.{equation_over, AreOfOne}
use Rattle.vbe_roots.proofs.Meanings.{outputs_same}

same_size : (vars others : List Name) (f : Formula) → size_of (numbered vars f) ≡ size_of (numbered others f)
same_size vars others (fixed b) = refl
same_size vars others (named n) = refl
same_size vars others (opposite e) = ap (λ n. 1 + n) (same_size vars others e)
same_size vars others (joined g a b) =
    let first = same_size vars others a in
    let second = same_size vars others b in
    λ j. gate_size g + (first j + second j)
same_size vars others (chosen c a b) =
    let first = same_size vars others c in
    let second = same_size vars others a in
    let third = same_size vars others b in
    λ j. 4 + (first j + (second j + third j))

-- what an equation weighs, and a bit over no numbers, where the names are those of outputs
abbrev is_among : List Name → Name → Bool
is_among names name = list_any (λ n. is_same_name n name) names

abbrev inner_equation : List Name → Equation → ℕ
inner_equation names e = if is_among names e.name then 0 else size_of e.expr

abbrev inner_bit : List Name → Definition → ℕ
inner_bit names d = if is_among names d.name then 0 else size_of (numbered [] d.formula)

bits_weigh : (names vars : List Name) (ds : List Definition) → sum_by (inner_equation names) (map (equation_over vars) ds) ≡ sum_by (inner_bit names) ds
bits_weigh names vars [] = refl
bits_weigh names vars (d ∷ ds) =
    sum_by-cons (inner_equation names) (equation_over vars d) (map (equation_over vars) ds)
    ∙ ap (λ (n : ℕ). cond (is_among names d.name) 0 n + sum_by (inner_equation names) (map (equation_over vars) ds)) (same_size vars [] d.formula)
    ∙ ap (λ (n : ℕ). inner_bit names d + n) (bits_weigh names vars ds) ∙ sym (sum_by-cons (inner_bit names) d ds)

inner_weighs : (m : Machine) (ds : List Definition) → IsPermutation m.equations (map (equation_over m.vars) ds)
    → inner_size m ≡ sum_by (inner_bit (outputs m)) ds
inner_weighs m ds is =
    sym (sum_by-IsPermutation (inner_equation (outputs m)) m.equations (map (equation_over m.vars) ds) is) ∙ bits_weigh (outputs m) m.vars ds

pub same_inner : (m k : Machine) → AreOfOne m k → inner_size m ≡ inner_size k
same_inner m k one =
    inner_weighs m one.driven one.equations ∙ ap (λ (ns : List Name). sum_by (inner_bit ns) one.driven) (outputs_same m k one)
    ∙ sym (inner_weighs k one.driven one.other_equations)
