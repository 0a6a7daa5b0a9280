use Rattle.std.proofs.Common.{◌∙◌, List, subst, rules}
use Rattle.real_boxes.specs.declared.boxes.RealBox.{RealBox}
use Rattle.real_boxes.specs.Refused.{AreGood}
use Rattle.real_boxes.proofs.Layers.{are_on_layers}
use Rattle.real_boxes.proofs.Stages.{lost_refusal, joint_refusal, box_refusal}
use Rattle.real_boxes.proofs.making.made_of.Goals as goal

pub check_boxes-requires-clause-layers : goal.check_boxes-requires-clause-layers
check_boxes-requires-clause-layers c =
    are_on_layers c.args.table.now.entries c.args.table.now.head.scale c.args.marks.now c.deref.result.now (c.deref.ensures.value ∙ c.in_ok-boxes.ensures.value)

pub returns-in_err-keep_metal-clause-refused : goal.returns-in_err-keep_metal-clause-refused
returns-in_err-keep_metal-clause-refused c =
    let refused = lost_refusal c.args.table.now c.args.marks.now c.in_err-keep_metal.field-0.0 c.in_err-keep_metal.ensures.refused in search rules

pub returns-in_err-keep_joints-clause-refused : goal.returns-in_err-keep_joints-clause-refused
returns-in_err-keep_joints-clause-refused c =
    let refused =
    joint_refusal c.args.table.now c.args.marks.now c.in_err-keep_joints.field-0.0 c.in_ok-keep_metal.ensures.kept c.in_err-keep_joints.ensures.refused in
    search rules

pub returns-in_err-check_boxes-clause-refused : goal.returns-in_err-check_boxes-clause-refused
returns-in_err-check_boxes-clause-refused c =
    let refused =
    box_refusal c.args.table.now c.args.marks.now c.deref.result.now c.in_ok-keep_metal.ensures.kept c.in_ok-keep_joints.ensures.meet
    (c.deref.ensures.value ∙ c.in_ok-boxes.ensures.value) c.in_err-check_boxes.field-0.0 c.in_err-check_boxes.ensures.refused in
    search rules

pub returns-clause-good : goal.returns-clause-good
returns-clause-good c = subst (λ (bs : List RealBox). AreGood c.args.table.now bs) c.deref.ensures.value c.in_ok-check_boxes.ensures.good
