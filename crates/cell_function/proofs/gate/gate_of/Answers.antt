use Rattle.bool_expr.specs.View.{view}
use Rattle.cell_function.proofs.Values.{gate_is}
use Rattle.cell_function.proofs.gate.gate_of.Goals as goal

pub returns : goal.returns
returns c =
    gate_is c.args.machine.now c.in-Some.output.now (view c.in_ok-e.e) c.gate_output.ensures.checked c.in-Some.ensures.output c.in_ok-e.ensures.rows c.in_ok-e.ensures.over
