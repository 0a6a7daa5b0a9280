use Rattle.std.proofs.Common.{arith, sym, subst, neg_ℤ}
use Rattle.std.proofs.lemmas.Int.{ints}
use Rattle.sym_geom.specs.Rect.{HasReach, moved}
use Rattle.sym_geom.specs.declared.rect.Rect.{Rect}
use Rattle.cell_model.specs.Cell.{cell_width, cell_height}
use Rattle.cougar_extract.proofs.Reaches.{corner_reach}
use Rattle.cougar_extract.proofs.ShownSteps.{transformed_same}
use Rattle.real_boxes.proofs.placing.placed_rect.Goals as goal

pub transform-requires-clause-r_fits : goal.transform-requires-clause-r_fits
transform-requires-clause-r_fits c =
    subst (λ (r : Rect). HasReach r) (sym c.from_corner.ensures) (corner_reach c.args.rect.now c.args.cell.now.bounds c.requires.rect c.requires.bounds)

pub returns : goal.returns
returns c =
    let cell = c.args.cell.now in
    let i = c.args.instance.now in
    let r = c.args.rect.now in
    transformed_same i.transform c.transform.result c.from_corner.result (moved r (neg_ℤ cell.bounds.x1) (neg_ℤ cell.bounds.y1)) _ (cell_width cell) _ (cell_height cell) _ i.x _ i.y
    c.transform.ensures c.from_corner.ensures (omega (arith, ints)) (omega (arith, ints)) (omega (arith, ints)) (omega (arith, ints))
