use Rattle.std.proofs.Common.{◌∙◌, ap, map}
use Rattle.machine_core.specs.View.{equation_view}
use Rattle.cell_pins.proofs.Ended.{ended_fit, ended_right}
use Rattle.cell_pins.proofs.follows.follows.Goals as goal

pub value_at-requires : goal.value_at-requires
value_at-requires c =
    ended_fit c.args.machine.now c.args.input.now c.in_ok-marks.marks.items c.deref.result.now c.as_slice.result.now c.as_slice-2.result.now c.vars.ensures.checked
    (c.as_slice-2.ensures ∙ c.vars.ensures.value) (ap (map equation_view) c.as_slice.ensures ∙ c.equations.ensures.value) c.in_ok-marks.ensures
    (c.deref.ensures.value ∙ c.in_ok-mark_all.ensures)

pub returns : goal.returns
returns c =
    ended_right c.args.machine.now c.args.input.now c.args.name.now c.in_ok-marks.marks.items c.deref.result.now c.as_slice.result.now c.as_slice-2.result.now c.value_at.result c.vars.ensures.checked
    (c.as_slice-2.ensures ∙ c.vars.ensures.value) (ap (map equation_view) c.as_slice.ensures ∙ c.equations.ensures.value) c.in_ok-marks.ensures
    (c.deref.ensures.value ∙ c.in_ok-mark_all.ensures) c.value_at.ensures
