use Rattle.std.proofs.Common.{◌≡◌, ◌+◌, List, length, map, Ok, Err, ap, subst, ◌∙◌, arith}
use Rattle.std.proofs.lemmas.List.{length-map}
use Rattle.std.proofs.lemmas.Result.{err_from_is_err_and}
use Rattle.bool_expr.specs.Expression.{IsOver}
use Rattle.bool_expr.specs.View.{view}
use Rattle.bdd_core.specs.Diagram.{function_of, functions_of}
use Rattle.machine_core.specs.Machine.{Equation}
use Rattle.machine_core.specs.View.{equation_view}
use Rattle.machine_roots.specs.Asked.{HaveAsked}
use Rattle.machine_roots.specs.Binding.{bound_lists, asked_by}
use Rattle.machine_roots.proofs.Denoting.{length_bound}
use Rattle.machine_roots.proofs.Rooting.{have_answer, root_answer_of, equation_refused}
use Rattle.machine_roots.proofs.sharing.root_node.Goals as goal

pub returns-in_err-bind_equations-clause-asked : goal.returns-in_err-bind_equations-clause-asked
returns-in_err-bind_equations-clause-asked c =
    let es : map equation_view c.as_slice-equations.result.now ≡ c.args.cone.machine.now.equations = ap (map equation_view) c.as_slice-equations.ensures ∙ c.equations.ensures.value in
    let d0 = c.args.diagrams.now in
    let lists = functions_of c.args.diagrams.now c.args.bound.items in
    let p = err_from_is_err_and c.from_residual.result c.from_residual.ensures.1 in
    rw (p.1, p.2)
    (equation_refused d0 c.bind_equations.new.diagrams c.args.met.now lists c.args.cone.machine.now.equations (view c.args.cone.root.now) c.in_err-bind_equations.field-0.0
    (subst (λ (xs : List Equation). HaveAsked {A = Unit {0}} d0 c.bind_equations.new.diagrams (asked_by d0.table.vars c.args.met.now lists xs) (Err c.in_err-bind_equations.field-0.0)) es
    c.in_err-bind_equations.ensures.asked))

pub of_expr-requires-clause-variables : goal.of_expr-requires-clause-variables
of_expr-requires-clause-variables c =
    let es : map equation_view c.as_slice-equations.result.now ≡ c.args.cone.machine.now.equations = ap (map equation_view) c.as_slice-equations.ensures ∙ c.equations.ensures.value in
    let d0 = c.args.diagrams.now in
    let lists = functions_of c.args.diagrams.now c.args.bound.items in
    let long : length c.args.bound.items + length c.args.cone.machine.now.equations ≡ length c.deref.result.now =
    (let f = ap length c.in_ok-bind_equations.ensures.functions ∙ length_bound d0.table.vars c.args.met.now (map equation_view c.as_slice-equations.result.now) lists in
    let g = length-map c.bind_equations.new.bound.items (function_of c.bind_equations.new.diagrams) in
    let h = length-map c.args.bound.items (function_of c.args.diagrams.now) in
    omega (arith, f, g, h, ap length es, ap length c.deref.ensures.value)) in
    subst (λ n. IsOver (view c.args.cone.root.now) n) long c.requires.over

pub returns-clause-asked : goal.returns-clause-asked
returns-clause-asked c =
    let es : map equation_view c.as_slice-equations.result.now ≡ c.args.cone.machine.now.equations = ap (map equation_view) c.as_slice-equations.ensures ∙ c.equations.ensures.value in
    let d0 = c.args.diagrams.now in
    let lists = functions_of c.args.diagrams.now c.args.bound.items in
    have_answer d0 c.of_expr.new.self _ _ c.of_expr.result c.requires.live
    (root_answer_of d0 c.bind_equations.new.diagrams c.of_expr.new.self c.args.met.now c.args.bound.items c.bind_equations.new.bound.items c.deref.result.now
    c.args.cone.machine.now.equations (view c.args.cone.root.now) c.of_expr.result c.in_ok-bind_equations.field-0 c.requires.live
    (subst (λ (xs : List Equation). HaveAsked d0 c.bind_equations.new.diagrams (asked_by d0.table.vars c.args.met.now lists xs) (Ok c.in_ok-bind_equations.field-0)) es c.in_ok-bind_equations.ensures.asked)
    (subst (λ (xs : List Equation). functions_of c.bind_equations.new.diagrams c.bind_equations.new.bound.items ≡ bound_lists d0.table.vars c.args.met.now lists xs) es c.in_ok-bind_equations.ensures.functions)
    c.deref.ensures.value c.of_expr.ensures)

pub returns-clause-node : goal.returns-clause-node
returns-clause-node c =
    let es : map equation_view c.as_slice-equations.result.now ≡ c.args.cone.machine.now.equations = ap (map equation_view) c.as_slice-equations.ensures ∙ c.equations.ensures.value in
    let d0 = c.args.diagrams.now in
    let lists = functions_of c.args.diagrams.now c.args.bound.items in
    let total =
    root_answer_of d0 c.bind_equations.new.diagrams c.of_expr.new.self c.args.met.now c.args.bound.items c.bind_equations.new.bound.items c.deref.result.now
    c.args.cone.machine.now.equations (view c.args.cone.root.now) c.of_expr.result c.in_ok-bind_equations.field-0 c.requires.live
    (subst (λ (xs : List Equation). HaveAsked d0 c.bind_equations.new.diagrams (asked_by d0.table.vars c.args.met.now lists xs) (Ok c.in_ok-bind_equations.field-0)) es c.in_ok-bind_equations.ensures.asked)
    (subst (λ (xs : List Equation). functions_of c.bind_equations.new.diagrams c.bind_equations.new.bound.items ≡ bound_lists d0.table.vars c.args.met.now lists xs) es c.in_ok-bind_equations.ensures.functions)
    c.deref.ensures.value c.of_expr.ensures in
    total.ok
