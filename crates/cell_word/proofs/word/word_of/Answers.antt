use Rattle.std.proofs.Common.{◌≡◌, ◌∙◌, sym, ap}
use Rattle.bool_expr.specs.View.{view}
use Rattle.cell_model.specs.View.{function_view}
use Rattle.cell_model.specs.Function.{gate}
use Rattle.cell_model.proofs.KindLemmas.{inputs_among, inputs_counted, gate_over}
use Rattle.cell_word.proofs.Inputs.{gate_few}
use Rattle.cell_word.proofs.word.word_of.Goals as goal

pub word_of_expr-requires-clause-few : goal.word_of_expr-requires-clause-few
word_of_expr-requires-clause-few c =
    let n = c.count_inputs.ensures ∙ ap inputs_among c.as_slice.ensures in
    let is : c.args.cell.now.function ≡ gate (view c.in-Gate.e) = sym c.as_enum.ensures ∙ ap function_view c.in-Gate.is in
    gate_few c.args.cell.now (view c.in-Gate.e) c.count_inputs.result n is c.requires.function

pub word_of_expr-requires-clause-over : goal.word_of_expr-requires-clause-over
word_of_expr-requires-clause-over c =
    let n = c.count_inputs.ensures ∙ ap inputs_among c.as_slice.ensures in
    let is : c.args.cell.now.function ≡ gate (view c.in-Gate.e) = sym c.as_enum.ensures ∙ ap function_view c.in-Gate.is in
    gate_over c.args.cell.now (view c.in-Gate.e) c.count_inputs.result n is c.requires.function

pub returns-in-Gate-clause-word : goal.returns-in-Gate-clause-word
returns-in-Gate-clause-word c =
    let n = c.count_inputs.ensures ∙ ap inputs_among c.as_slice.ensures in
    record {
      expr = view c.in-Gate.e;
      is_gate = sym c.as_enum.ensures ∙ ap function_view c.in-Gate.is;
      value = λ w long. c.word_of_expr.ensures w (long ∙ inputs_counted c.args.cell.now c.count_inputs.result n);
    }
