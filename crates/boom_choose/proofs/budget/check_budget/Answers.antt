use Rattle.std.proofs.Common.{◌≡◌, List, map, sym, ap, subst, ◌∙◌}
use Rattle.std.specs.Prelude.{is_some}
use Rattle.std.specs.List.{All}
use Rattle.std.proofs.lemmas.Result.{err_from_is_err_and}
use Rattle.bool_expr.specs.View.{view}
use Rattle.vlsi_base.specs.declared.name.Name.{Name}
use Rattle.machine_core.specs.View.{equation_view}
use Rattle.machine_roots.specs.declared.listing.RootExpr.{RootExpr}
use Rattle.machine_roots.specs.Listing.{AreRoots}
use Rattle.boom_choose.specs.Choice.{IsOverBoth}
use Rattle.boom_choose.proofs.Outputs.{all_names, root_over, other_over, within_more, within_still, over_here}
use Rattle.boom_choose.proofs.Refusing.{refused}
use Rattle.boom_choose.proofs.budget.check_budget.Goals.{in-Some+in_ok-check_output, in_default}
use Rattle.boom_choose.proofs.budget.check_budget.Goals as goal

pub check_output-requires-clause-low : goal.check_output-requires-clause-low
check_output-requires-clause-low c =
    let low = c.args.m.now.low in
    let high = c.args.m.now.high in
    let listed = c.deref-root-items.result.now in
    let are : AreRoots low listed = subst (λ (l : List RootExpr). AreRoots low l) (sym c.deref-root-items.ensures.value) c.in_ok-listed.ensures in
    let others : map equation_view c.as_slice-others.result.now ≡ high.equations = ap (map equation_view) c.as_slice-others.ensures ∙ c.equations.ensures.value in
    root_over low listed are c.loop-root.root-index c.root-item.result c.loop-root-test.true c.root-item.is high c.name.ensures.checked c.equations.ensures.checked c.requires.free c.as_slice-others.result.now others c.in-Some.k c.in-Some.is

pub check_output-requires-clause-high : goal.check_output-requires-clause-high
check_output-requires-clause-high c =
    let low = c.args.m.now.low in
    let high = c.args.m.now.high in
    let listed = c.deref-root-items.result.now in
    let are : AreRoots low listed = subst (λ (l : List RootExpr). AreRoots low l) (sym c.deref-root-items.ensures.value) c.in_ok-listed.ensures in
    let others : map equation_view c.as_slice-others.result.now ≡ high.equations = ap (map equation_view) c.as_slice-others.ensures ∙ c.equations.ensures.value in
    other_over low listed are c.loop-root.root-index c.root-item.result c.loop-root-test.true c.root-item.is high c.name.ensures.checked c.equations.ensures.checked c.requires.free c.as_slice-others.result.now others c.in-Some.k c.in-Some.is c.index-others-k.result c.index-others-k.is

pub returns-in_err-check_output-clause-over : goal.returns-in_err-check_output-clause-over
returns-in_err-check_output-clause-over c =
    let low = c.args.m.now.low in
    let high = c.args.m.now.high in
    let listed = c.deref-root-items.result.now in
    let are : AreRoots low listed = subst (λ (l : List RootExpr). AreRoots low l) (sym c.deref-root-items.ensures.value) c.in_ok-listed.ensures in
    let others : map equation_view c.as_slice-others.result.now ≡ high.equations = ap (map equation_view) c.as_slice-others.ensures ∙ c.equations.ensures.value in
    let p = err_from_is_err_and c.from_residual-in_err-check_output.result c.from_residual-in_err-check_output.ensures.1 in
    rw (p.1, p.2)
    (refused low high c.args.budget c.root-item.result.name.now (view c.root-item.result.expr.now) (view c.index-others-k.result.expr) c.in_err-check_output.field-0.0
    (λ over. over_here low listed are c.loop-root.root-index c.root-item.result c.loop-root-test.true c.root-item.is high c.name.ensures.checked c.equations.ensures.checked c.requires.free c.as_slice-others.result.now others
    c.in-Some.k c.in-Some.is c.index-others-k.result c.index-others-k.is c.args.budget over c.loop-root.invariant) c.in_err-check_output.ensures.over)

pub loop-root-preserved : goal.loop-root-preserved
loop-root-preserved c =
    let low = c.args.m.now.low in
    let high = c.args.m.now.high in
    let listed = c.deref-root-items.result.now in
    let are : AreRoots low listed = subst (λ (l : List RootExpr). AreRoots low l) (sym c.deref-root-items.ensures.value) c.in_ok-listed.ensures in
    let others : map equation_view c.as_slice-others.result.now ≡ high.equations = ap (map equation_view) c.as_slice-others.ensures ∙ c.equations.ensures.value in
    elim c.match-root.branch [
      | in-Some+in_ok-check_output w ↦ within_more low listed are c.loop-root.root-index c.root-item.result c.loop-root-test.true c.root-item.is high c.name.ensures.checked c.equations.ensures.checked c.requires.free c.as_slice-others.result.now others
          w.in-Some.k w.in-Some.is w.index-others-k.result w.index-others-k.is c.args.budget w.in_ok-check_output.ensures.within c.loop-root.invariant
      | in_default w ↦ within_still low listed are c.loop-root.root-index c.root-item.result c.loop-root-test.true c.root-item.is (λ n. IsOverBoth low high c.args.budget n → ⊥) (ap is_some w.in_default.is) c.loop-root.invariant
    ]

pub returns-clause-within : goal.returns-clause-within
returns-clause-within c =
    let low = c.args.m.now.low in
    let high = c.args.m.now.high in
    let listed = c.deref-root-items.result.now in
    let are : AreRoots low listed = subst (λ (l : List RootExpr). AreRoots low l) (sym c.deref-root-items.ensures.value) c.in_ok-listed.ensures in
    subst (λ (l : List Name). All (λ n. IsOverBoth low high c.args.budget n → ⊥) l) (all_names low listed are c.loop-root.root-index c.loop-root-test.false) c.loop-root.invariant
