use Rattle.std.proofs.Common.{◌∙◌, ◌++◌, ap, map, false, List, Bool}
use Rattle.machine_core.specs.View.{register_view}
use Rattle.cell_pins.proofs.Starts.{started}
use Rattle.cell_pins.proofs.follows.starts.Goals as goal

pub returns : goal.returns
returns c =
    c.in_ok-push_unmarked.ensures
    ∙ ap (λ (bs : List Bool). bs ++ map (λ r. false) c.as_slice-2.result.now) c.in_ok-marks.ensures
    ∙ started c.args.machine.now c.args.input.now c.as_slice.result.now c.input_count-count.result c.as_slice-2.result.now c.vars.ensures.checked
    (c.as_slice.ensures ∙ c.vars.ensures.value) c.input_count-count.ensures (ap (map register_view) c.as_slice-2.ensures ∙ c.registers.ensures.value)
