use Rattle.std.proofs.Common.{◌∙◌, List, ap, arith}
use Rattle.cell_model.specs.declared.cell.Pin.{Pin}
use Rattle.cell_word.specs.Words.{input_count}
use Rattle.gate_cells.proofs.Checked.{connectors_of, width_of, few_inputs, gate_cell_is}
use Rattle.gate_cells.proofs.entry.entry_of.Goals as goal

pub usable-requires-clause-connectors : goal.usable-requires-clause-connectors
usable-requires-clause-connectors c = connectors_of c.args.cell.now c.requires.passes

pub overflow_cast-result : goal.overflow_cast-result
overflow_cast-result c =
    let count = c.count_inputs.ensures ∙ ap (λ (ps : List Pin). input_count ps) c.as_slice.ensures in
    let few = few_inputs c.args.cell.now c.in-Some.ensures.word.expr (c.usable.ensures.0 c.if-not-usable.false) c.in-Some.ensures.word.is_gate in
    omega (arith, count, few)

pub columns_of-requires : goal.columns_of-requires
columns_of-requires c = width_of c.args.cell.now c.requires.passes (c.usable.ensures.0 c.if-not-usable.false)

pub returns-in-Some-clause-gate : goal.returns-in-Some-clause-gate
returns-in-Some-clause-gate c =
    gate_cell_is c.args.cell.now _ _ (c.usable.ensures.0 c.if-not-usable.false) c.in-Some.ensures.word
    (c.count_inputs.ensures ∙ ap (λ (ps : List Pin). input_count ps) c.as_slice.ensures) c.columns_of.ensures
