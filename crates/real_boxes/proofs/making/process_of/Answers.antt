use Rattle.std.proofs.Common.{◌∙◌, List, All, sym, subst, rules}
use Rattle.sym_geom.specs.Rect.{HasReach}
use Rattle.cell_checks.specs.Checked.{library_of}
use Rattle.real_boxes.specs.declared.mark.Mark.{Mark}
use Rattle.real_boxes.proofs.Reaches.{marks_reach}
use Rattle.real_boxes.proofs.Stages.{draw_refusal, few_shapes, make_refusal, can_be_made}
use Rattle.real_boxes.proofs.making.process_of.Goals as goal

pub made_of-requires-clause-reach : goal.made_of-requires-clause-reach
made_of-requires-clause-reach c =
    subst (λ (ms : List Mark). All (λ (m : Mark). HasReach m.core) ms) (sym (c.deref.ensures.value ∙ c.in_ok-marks.ensures))
    (marks_reach c.args.items.now (library_of c.args.cells.now) c.requires.ready c.requires.formed c.requires.places)

pub made_of-requires-clause-few : goal.made_of-requires-clause-few
made_of-requires-clause-few c =
    few_shapes c.args.items.now (library_of c.args.cells.now) c.deref.result.now (c.deref.ensures.value ∙ c.in_ok-marks.ensures) c.in_ok-check_drawn.ensures.drawn

pub returns-in_err-check_drawn-clause-refused : goal.returns-in_err-check_drawn-clause-refused
returns-in_err-check_drawn-clause-refused c =
    let refused =
    draw_refusal c.args.table.now c.args.items.now (library_of c.args.cells.now) c.in_err-check_drawn.field-0.0 c.in_err-check_drawn.ensures.refused in
    search rules

pub returns-in_err-boxes-clause-refused : goal.returns-in_err-boxes-clause-refused
returns-in_err-boxes-clause-refused c =
    let refused =
    make_refusal c.args.table.now c.args.items.now (library_of c.args.cells.now) c.in_ok-check_drawn.ensures.drawn c.deref.result.now c.in_err-boxes.field-0.0
    (c.deref.ensures.value ∙ c.in_ok-marks.ensures) c.in_err-boxes.ensures.refused in
    search rules

pub returns-clause-able : goal.returns-clause-able
returns-clause-able c =
    can_be_made c.args.table.now c.args.items.now (library_of c.args.cells.now) c.in_ok-check_drawn.ensures.drawn c.deref.result.now c.in_ok-boxes.boxes.items
    (c.deref.ensures.value ∙ c.in_ok-marks.ensures) c.in_ok-boxes.ensures.value c.in_ok-boxes.ensures.kept c.in_ok-boxes.ensures.meet c.in_ok-boxes.ensures.good
