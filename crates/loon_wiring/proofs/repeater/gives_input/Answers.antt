use Rattle.std.proofs.Common.{◌≡◌, sym, ap, ◌∙◌}
use Rattle.bool_expr.specs.View.{view}
use Rattle.cell_model.specs.View.{function_view}
use Rattle.cell_model.specs.Function.{gate}
use Rattle.cell_model.proofs.KindLemmas.{inputs_among, gate_over}
use Rattle.loon_wiring.proofs.Cells.{buffer_gate}
use Rattle.loon_wiring.proofs.repeater.gives_input.Goals as goal

pub is_buffer_gate-requires : goal.is_buffer_gate-requires
is_buffer_gate-requires c =
    let n = c.count_inputs.ensures ∙ ap inputs_among c.as_slice.ensures in
    let is : c.args.cell.now.function ≡ gate (view c.in-Gate.e) = sym c.as_enum.ensures ∙ ap function_view c.in-Gate.is in
    gate_over c.args.cell.now (view c.in-Gate.e) c.count_inputs.result n is c.requires.function

pub returns-in-Gate : goal.returns-in-Gate
returns-in-Gate c =
    let n = c.count_inputs.ensures ∙ ap inputs_among c.as_slice.ensures in
    let is : c.args.cell.now.function ≡ gate (view c.in-Gate.e) = sym c.as_enum.ensures ∙ ap function_view c.in-Gate.is in
    buffer_gate c.args.cell.now (view c.in-Gate.e) c.count_inputs.result n is c.is_buffer_gate.result c.is_buffer_gate.ensures
