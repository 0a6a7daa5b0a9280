use Rattle.std.proofs.Common.{◌≡◌, map, ap, sym, subst, ◌∙◌, take, List, ◌+◌}
use Rattle.machine_core.specs.View.{equation_view}
use Rattle.machine_core.specs.declared.equation.Equation.{Equation as EquationParts}
use Rattle.boom_choose.specs.Choice.{AreChosen}
use Rattle.boom_choose.proofs.Listing.{e_over, f_over, are_freed, e_within, chosen_more, chosen_all}
use Rattle.boom_choose.proofs.machine.chosen_equations.Goals as goal

pub chosen-requires-clause-low : goal.chosen-requires-clause-low
chosen-requires-clause-low c =
    let low = c.args.m.now.low in
    let high = c.args.m.now.high in
    let el : map equation_view c.as_slice-equations.result.now ≡ low.equations = ap (map equation_view) c.as_slice-equations.ensures ∙ c.equations.ensures.value in
    let eh : map equation_view c.as_slice-others.result.now ≡ high.equations = ap (map equation_view) c.as_slice-others.ensures ∙ c.equations-2.ensures.value in
    e_over low high c.equations.ensures.checked c.equations-2.ensures.checked c.requires.free c.as_slice-equations.result.now c.as_slice-others.result.now el eh c.loop-k.k c.index-equations-k.result c.index-others-k.result c.loop-k-test.true c.index-equations-k.is c.index-others-k.is

pub chosen-requires-clause-high : goal.chosen-requires-clause-high
chosen-requires-clause-high c =
    let low = c.args.m.now.low in
    let high = c.args.m.now.high in
    let el : map equation_view c.as_slice-equations.result.now ≡ low.equations = ap (map equation_view) c.as_slice-equations.ensures ∙ c.equations.ensures.value in
    let eh : map equation_view c.as_slice-others.result.now ≡ high.equations = ap (map equation_view) c.as_slice-others.ensures ∙ c.equations-2.ensures.value in
    f_over low high c.equations.ensures.checked c.equations-2.ensures.checked c.requires.free c.as_slice-equations.result.now c.as_slice-others.result.now el eh c.loop-k.k c.index-equations-k.result c.index-others-k.result c.loop-k-test.true c.index-equations-k.is c.index-others-k.is

pub chosen-requires-clause-freed : goal.chosen-requires-clause-freed
chosen-requires-clause-freed c =
    let low = c.args.m.now.low in
    let high = c.args.m.now.high in
    let el : map equation_view c.as_slice-equations.result.now ≡ low.equations = ap (map equation_view) c.as_slice-equations.ensures ∙ c.equations.ensures.value in
    let eh : map equation_view c.as_slice-others.result.now ≡ high.equations = ap (map equation_view) c.as_slice-others.ensures ∙ c.equations-2.ensures.value in
    are_freed low high c.equations.ensures.checked c.equations-2.ensures.checked c.requires.free c.as_slice-equations.result.now c.as_slice-others.result.now el eh c.loop-k.k c.index-equations-k.result c.index-others-k.result c.loop-k-test.true c.index-equations-k.is c.index-others-k.is

pub chosen-requires-clause-within : goal.chosen-requires-clause-within
chosen-requires-clause-within c =
    let low = c.args.m.now.low in
    let high = c.args.m.now.high in
    let el : map equation_view c.as_slice-equations.result.now ≡ low.equations = ap (map equation_view) c.as_slice-equations.ensures ∙ c.equations.ensures.value in
    let eh : map equation_view c.as_slice-others.result.now ≡ high.equations = ap (map equation_view) c.as_slice-others.ensures ∙ c.equations-2.ensures.value in
    e_within low high c.equations.ensures.checked c.equations-2.ensures.checked c.requires.free c.as_slice-equations.result.now c.as_slice-others.result.now el eh c.loop-k.k c.index-equations-k.result c.index-others-k.result c.loop-k-test.true c.index-equations-k.is c.index-others-k.is c.args.budget c.requires.within

pub loop-k-preserved : goal.loop-k-preserved
loop-k-preserved c =
    let low = c.args.m.now.low in
    let high = c.args.m.now.high in
    let el : map equation_view c.as_slice-equations.result.now ≡ low.equations = ap (map equation_view) c.as_slice-equations.ensures ∙ c.equations.ensures.value in
    let eh : map equation_view c.as_slice-others.result.now ≡ high.equations = ap (map equation_view) c.as_slice-others.ensures ∙ c.equations-2.ensures.value in
    subst (λ (l : List EquationParts). AreChosen low (take (c.loop-k.k + 1) low.equations) (take (c.loop-k.k + 1) high.equations) (map equation_view l)) (sym c.in_ok-push.ensures.items)
    (chosen_more low high c.equations.ensures.checked c.equations-2.ensures.checked c.requires.free c.as_slice-equations.result.now c.as_slice-others.result.now el eh c.loop-k.k c.index-equations-k.result c.index-others-k.result c.loop-k-test.true c.index-equations-k.is c.index-others-k.is c.loop-k.made.items (record { name = c.in_ok-name.name; expr = c.in_ok-expr.expr }) c.loop-k.invariant c.in_ok-name.ensures c.in_ok-expr.ensures)

pub returns : goal.returns
returns c =
    let low = c.args.m.now.low in
    let high = c.args.m.now.high in
    let el : map equation_view c.as_slice-equations.result.now ≡ low.equations = ap (map equation_view) c.as_slice-equations.ensures ∙ c.equations.ensures.value in
    let eh : map equation_view c.as_slice-others.result.now ≡ high.equations = ap (map equation_view) c.as_slice-others.ensures ∙ c.equations-2.ensures.value in
    chosen_all low high c.equations.ensures.checked c.equations-2.ensures.checked c.requires.free c.as_slice-equations.result.now c.as_slice-others.result.now el eh c.loop-k.k c.loop-k.made.items c.loop-k-test.false c.loop-k.invariant
