use Rattle.std.proofs.Common.{List, take, map, sym, subst}
use Rattle.std.proofs.lemmas.Result.{err_from_is_err_and}
use Rattle.machine_roots.specs.declared.listing.RootExpr.{RootExpr}
use Rattle.machine_roots.specs.Listing.{AreRoots, root_view}
use Rattle.boom_opt.proofs.Rooting.{root_of, root_next, over_first}
use Rattle.boom_opt.proofs.Remade.{remaking_more, remaking_all}
use Rattle.boom_opt.proofs.optimising.remake.Goals as goal

pub diagram_of-requires-clause-root : goal.diagram_of-requires-clause-root
diagram_of-requires-clause-root c =
    root_of c.args.m.now c.requires.checked c.deref-root-items.result.now (subst (λ (l : List RootExpr). AreRoots c.args.m.now l) (sym c.deref-root-items.ensures.value) c.in_ok-roots.ensures)
    c.loop-root.root-index c.root-item.result c.loop-root-test.true c.root-item.is

pub returns-in_err-diagram-clause-over : goal.returns-in_err-diagram-clause-over
returns-in_err-diagram-clause-over c =
    let p = err_from_is_err_and c.from_residual-in_err-diagram.result c.from_residual-in_err-diagram.ensures.1 in
    rw (p.1, p.2)
    (over_first c.args.m.now c.args.budget c.deref-root-items.result.now (subst (λ (l : List RootExpr). AreRoots c.args.m.now l) (sym c.deref-root-items.ensures.value) c.in_ok-roots.ensures)
    c.loop-root.root-index c.root-item.result c.loop-root-test.true c.root-item.is c.loop-root.invariant.within c.in_err-diagram.field-0.0 c.in_err-diagram.ensures.over)

pub add-requires-clause-root : goal.add-requires-clause-root
add-requires-clause-root c =
    root_of c.args.m.now c.requires.checked c.deref-root-items.result.now (subst (λ (l : List RootExpr). AreRoots c.args.m.now l) (sym c.deref-root-items.ensures.value) c.in_ok-roots.ensures)
    c.loop-root.root-index c.root-item.result c.loop-root-test.true c.root-item.is

pub add-requires-clause-rebuilt : goal.add-requires-clause-rebuilt
add-requires-clause-rebuilt c = (
  map root_view (take c.loop-root.root-index c.deref-root-items.result.now),
  root_next c.args.m.now c.deref-root-items.result.now (subst (λ (l : List RootExpr). AreRoots c.args.m.now l) (sym c.deref-root-items.ensures.value) c.in_ok-roots.ensures)
      c.loop-root.root-index c.root-item.result c.loop-root-test.true c.root-item.is,
  c.loop-root.invariant.rebuilt,
)

pub loop-root-preserved : goal.loop-root-preserved
loop-root-preserved c =
    remaking_more c.args.m.now c.args.budget c.deref-root-items.result.now c.loop-root.root-index c.root-item.result c.in_ok-diagram.diagram c.loop-root.made c.add.new.self
    (subst (λ (l : List RootExpr). AreRoots c.args.m.now l) (sym c.deref-root-items.ensures.value) c.in_ok-roots.ensures)
    c.loop-root-test.true c.root-item.is c.in_ok-diagram.ensures.diagram c.in_ok-add.ensures c.loop-root.invariant

pub returns-clause-made : goal.returns-clause-made
returns-clause-made c =
    remaking_all c.args.m.now c.args.budget c.deref-root-items.result.now c.loop-root.root-index c.loop-root.made
    (subst (λ (l : List RootExpr). AreRoots c.args.m.now l) (sym c.deref-root-items.ensures.value) c.in_ok-roots.ensures)
    c.loop-root-test.false c.loop-root.invariant
