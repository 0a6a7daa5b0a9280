use Rattle.std.proofs.Common.{◌≡◌, sym, ap, ◌∙◌}
use Rattle.bool_expr.specs.View.{view}
use Rattle.cell_model.specs.View.{function_view}
use Rattle.cell_model.specs.Function.{gate}
use Rattle.cell_model.proofs.KindLemmas.{inputs_among, gate_over, gate_kinds, kinds_gate, some_like, none_like}
use Rattle.cell_model.proofs.kinds.kind_of.Goals as goal

pub gate_kind-requires : goal.gate_kind-requires
gate_kind-requires c =
    let n = c.count_inputs.ensures ∙ ap inputs_among c.as_slice.ensures in
    let is : c.args.cell.now.function ≡ gate (view c.in-Gate.e) = sym c.as_enum.ensures ∙ ap function_view c.in-Gate.is in
    gate_over c.args.cell.now (view c.in-Gate.e) c.count_inputs.result n is c.requires.function

pub returns-in-Gate-clause-kind : goal.returns-in-Gate-clause-kind
returns-in-Gate-clause-kind c =
    let n = c.count_inputs.ensures ∙ ap inputs_among c.as_slice.ensures in
    let is : c.args.cell.now.function ≡ gate (view c.in-Gate.e) = sym c.as_enum.ensures ∙ ap function_view c.in-Gate.is in
    some_like _ _ c.gate_kind.result (gate_kinds c.args.cell.now (view c.in-Gate.e) c.count_inputs.result n is) c.gate_kind.ensures.kind

pub returns-in-Gate-clause-none : goal.returns-in-Gate-clause-none
returns-in-Gate-clause-none c =
    let n = c.count_inputs.ensures ∙ ap inputs_among c.as_slice.ensures in
    let is : c.args.cell.now.function ≡ gate (view c.in-Gate.e) = sym c.as_enum.ensures ∙ ap function_view c.in-Gate.is in
    none_like _ _ c.gate_kind.result (λ none k has. none k (kinds_gate c.args.cell.now (view c.in-Gate.e) c.count_inputs.result n is k has)) c.gate_kind.ensures.none
