use Rattle.std.proofs.Common.{◌≡◌, ◌∙◌, List, length, sym, subst, ap, arith}
use Rattle.sym_shapes.specs.Shape.{Shape}
use Rattle.real_boxes.specs.Metals.{metal_shapes, metal_boxes, NoneUnlike}
use Rattle.real_boxes.proofs.Beside.{same_count, same_metal, shapes_gap, boxes_gap}
use Rattle.real_boxes.proofs.Unlike.{meet_as_shapes}
use Rattle.real_boxes.proofs.metals.keep_joints.Goals as goal

pub keep_shapes_apart-requires-clause-same : goal.keep_shapes_apart-requires-clause-same
keep_shapes_apart-requires-clause-same c =
    same_count c.args.table.now c.args.marks.now c.most_aside-aside.result c.deref.result.now c.deref-2.result.now c.requires.kept c.most_aside-aside.ensures.aside
    (c.deref.ensures.value ∙ c.in_ok-shapes.ensures) (c.deref-2.ensures.value ∙ c.in_ok-boxes.ensures)

pub keep_shapes_apart-requires-clause-within : goal.keep_shapes_apart-requires-clause-within
keep_shapes_apart-requires-clause-within c =
    shapes_gap c.args.table.now c.args.marks.now c.most_aside-aside.result c.deref.result.now c.deref-2.result.now c.requires.kept c.most_aside-aside.ensures.aside
    (c.deref.ensures.value ∙ c.in_ok-shapes.ensures) (c.deref-2.ensures.value ∙ c.in_ok-boxes.ensures) c.most_aside-aside.ensures.least

pub keep_shapes_together-requires-clause-few : goal.keep_shapes_together-requires-clause-few
keep_shapes_together-requires-clause-few c =
    let same =
    same_count c.args.table.now c.args.marks.now c.most_aside-aside.result c.deref-3.result.now c.deref-4.result.now c.requires.kept c.most_aside-aside.ensures.aside
    (c.deref-3.ensures.value ∙ c.in_ok-shapes.ensures) (c.deref-4.ensures.value ∙ c.in_ok-boxes.ensures) in
    let shown : length c.deref-3.result.now ≡ length (metal_shapes c.args.marks.now) = ap (λ (ss : List Shape). length ss) (c.deref-3.ensures.value ∙ c.in_ok-shapes.ensures) in
    let few = c.requires.few in
    omega (arith, same, shown, few)

pub keep_shapes_together-requires-clause-same : goal.keep_shapes_together-requires-clause-same
keep_shapes_together-requires-clause-same c =
    sym
    (same_count c.args.table.now c.args.marks.now c.most_aside-aside.result c.deref-3.result.now c.deref-4.result.now c.requires.kept c.most_aside-aside.ensures.aside
    (c.deref-3.ensures.value ∙ c.in_ok-shapes.ensures) (c.deref-4.ensures.value ∙ c.in_ok-boxes.ensures))

pub keep_shapes_together-requires-clause-within : goal.keep_shapes_together-requires-clause-within
keep_shapes_together-requires-clause-within c =
    boxes_gap c.args.table.now c.args.marks.now c.most_aside-aside.result c.deref-3.result.now c.deref-4.result.now c.requires.kept c.most_aside-aside.ensures.aside
    (c.deref-3.ensures.value ∙ c.in_ok-shapes.ensures) (c.deref-4.ensures.value ∙ c.in_ok-boxes.ensures)

pub returns-clause-meet : goal.returns-clause-meet
returns-clause-meet c =
    let shapes = metal_shapes c.args.marks.now in
    let boxes = metal_boxes c.args.table.now c.args.marks.now in
    let apart =
    subst (λ (ss : List Shape). NoneUnlike ss boxes) (c.deref.ensures.value ∙ c.in_ok-shapes.ensures)
    (subst (λ (bs : List Shape). NoneUnlike c.deref.result.now bs) (c.deref-2.ensures.value ∙ c.in_ok-boxes.ensures) c.in_ok-keep_shapes_apart.ensures.apart) in
    let together =
    subst (λ (ss : List Shape). NoneUnlike boxes ss) (c.deref-3.ensures.value ∙ c.in_ok-shapes.ensures)
    (subst (λ (bs : List Shape). NoneUnlike bs c.deref-3.result.now) (c.deref-4.ensures.value ∙ c.in_ok-boxes.ensures) c.in_ok-keep_shapes_together.ensures.together) in
    meet_as_shapes shapes boxes
    (same_count c.args.table.now c.args.marks.now c.most_aside-aside.result shapes boxes c.requires.kept c.most_aside-aside.ensures.aside (λ i. shapes) (λ i. boxes))
    (same_metal c.args.table.now c.args.marks.now c.most_aside-aside.result shapes boxes c.requires.kept c.most_aside-aside.ensures.aside (λ i. shapes) (λ i. boxes))
    apart together
