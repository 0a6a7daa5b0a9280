use Rattle.std.proofs.Common.{◌+◌, slice_index, Option, sym, subst, arith}
use Rattle.bool_expr.specs.Expression.{bit}
use Rattle.boog_cuts.proofs.Growing.{is_number}
use Rattle.boog_tree.specs.declared.pick.Pick.{Pick}
use Rattle.boog_tree.proofs.Picking.{Picking, picked_new, picked_kept, picked_none}
use Rattle.boog_tree.proofs.pick.best_pick.Goals as goal
use Rattle.boog_tree.proofs.pick.best_pick.Goals.{in-Some+then-improves, in-Some+else-improves, in_default}

pub matched-requires : goal.matched-requires
matched-requires c =
    let at = is_number c.args.cuts.now c.loop-cut.cut-index c.cut-item.result c.loop-cut-test.true c.cut-item.is in
    (omega arith, (omega arith, (c.requires.table, c.requires.once c.loop-cut.cut-index c.cut-item.result at)))

pub cost_of-cost-requires-clause-inner : goal.cost_of-cost-requires-clause-inner
cost_of-cost-requires-clause-inner c = λ x some.
    let at = is_number c.args.cuts.now c.loop-cut.cut-index c.cut-item.result c.loop-cut-test.true c.cut-item.is in
    c.requires.inner c.loop-cut.cut-index c.cut-item.result at x ((c.in-Some.ensures.some.members x).0 some)

pub cost_of-cost-requires-clause-bounds : goal.cost_of-cost-requires-clause-bounds
cost_of-cost-requires-clause-bounds c = λ x some.
    let at = is_number c.args.cuts.now c.loop-cut.cut-index c.cut-item.result c.loop-cut-test.true c.cut-item.is in
    c.requires.bounds c.loop-cut.cut-index c.cut-item.result at x ((c.in-Some.ensures.some.members x).0 some)

pub loop-cut-preserved : goal.loop-cut-preserved
loop-cut-preserved c =
    let at = is_number c.args.cuts.now c.loop-cut.cut-index c.cut-item.result c.loop-cut-test.true c.cut-item.is in
    let cells = c.args.cells.now in
    let areas = c.args.areas.now in
    let inner = bit c.args.inner.now in
    let b = slice_index c.args.bounds.now in
    let cuts = c.args.cuts.now in
    let i = c.loop-cut.cut-index in
    let cut = c.cut-item.result in
    let is = c.loop-cut.invariant in
    elim c.match-matched.branch [
      | in-Some+then-improves w ↦
          subst (λ (o : Option Pick). Picking cells areas inner b cuts (i + 1) o) (sym w.best-is)
          (picked_new cells areas inner b cuts c.requires.areas i cut at w.in-Some.gate w.cost_of-cost.result w.in-Some.ensures.some w.in-Some.ensures.first w.cost_of-cost.ensures
          c.loop-cut.best is.some is.none (w.improves.ensures.yes w.if-improves.true))
      | in-Some+else-improves w ↦
          subst (λ (o : Option Pick). Picking cells areas inner b cuts (i + 1) o) (sym w.best-is)
          (picked_kept cells areas inner b cuts c.requires.areas i cut at w.in-Some.gate w.cost_of-cost.result w.in-Some.ensures.some w.in-Some.ensures.first w.cost_of-cost.ensures
          c.loop-cut.best is.some (w.improves.ensures.no w.if-improves.false))
      | in_default w ↦
          subst (λ (o : Option Pick). Picking cells areas inner b cuts (i + 1) o) (sym w.best-is)
          (picked_none cells areas inner b cuts c.requires.areas i cut at c.loop-cut.best w.in_default.ensures.none is)
    ]
