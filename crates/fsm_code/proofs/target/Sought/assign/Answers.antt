use Rattle.std.proofs.Common.{◌≡◌, ◌∙◌, ℕ, List, map, length, Some, sym, subst, if◌then◌else◌}
use Rattle.std.specs.Prelude.{◌==◌}
use Rattle.vlsi_base.specs.declared.name.Name.{Name}
use Rattle.bool_expr.specs.declared.expr.Expr.{Expr}
use Rattle.bool_expr.specs.Expression.{Expression, variable, IsOver}
use Rattle.bool_expr.specs.View.{view}
use Rattle.fsm_machine.specs.Moved.{moved_assignment, substituted}
use Rattle.fsm_machine.specs.Signals.{assigned}
use Rattle.fsm_code.specs.Over.{IsAssignmentOver}
use Rattle.fsm_code.specs.Sought.{given_at, count_of, AreInTheirOrder, EachBecomes}
use Rattle.fsm_code.specs.View.{assignment_view}
use Rattle.fsm_code.proofs.Numbers.{renumbered_is}
use Rattle.fsm_code.proofs.Steps.{on_ok}
use Rattle.fsm_code.proofs.Targeted.{put_output}
use Rattle.fsm_code.proofs.target.Sought.assign.Goals as goal

pub returns-in_ok-given-in-Outputs-Output : goal.returns-in_ok-given-in-Outputs-Output
returns-in_ok-given-in-Outputs-Output c =
    let case = c.in-Outputs-Output in
    let names : List Name = case.names.now in
    let numbers : List ℕ = c.args.self.now.numbers.now in
    let olds : List Expr = c.args.values.now in
    let news : List Expr = c.put.new.values in
    let given = c.in_ok-given-in-Outputs-Output in
    let e : Expression = view case.e in
    let over : IsOver e (length numbers) = subst (λ a. IsAssignmentOver (length numbers) (assignment_view a)) case.is-1 c.requires.over in
    let value_is : view given.given ≡ substituted (map variable numbers) e = given.ensures ∙ sym (renumbered_is numbers e over) in
    let many : length olds ≡ length names = subst (λ t. length olds ≡ count_of t) case.is-0 c.requires.count in
    on_ok c.put.result (EachBecomes (λ k v. if k == c.in-Some.place then assigned (Some (view given.given)) c.args.path v else v) olds news)
    (EachBecomes (λ k v. assigned (given_at c.args.self.now.targets k (moved_assignment (map variable numbers) (assignment_view c.args.assignment.now))) c.args.path v) olds news)
    (λ put. rw (case.is-0, case.is-1)
    (put_output names c.in-Some.place case.target (view given.given) (substituted (map variable numbers) e) c.args.path olds news (subst AreInTheirOrder case.is-0 c.requires.order)
    c.in-Some.ensures value_is many put))
    c.put.ensures
