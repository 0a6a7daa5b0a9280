use Rattle.std.proofs.Common.{◌∙◌, List, map, ap, length}
use Rattle.bool_expr.specs.declared.expr.Expr.{Expr}
use Rattle.bool_expr.specs.View.{view}
use Rattle.fsm_code.specs.Over.{numbered_body}
use Rattle.fsm_code.specs.Sought.{given_at}
use Rattle.fsm_code.specs.View.{body_view}
use Rattle.syf_machine.proofs.Targeted.{rewritten, values_are}
use Rattle.syf_machine.proofs.machine.Body.values.Goals as goal

pub returns : goal.returns
returns c =
    let self = c.args.self.now in
    let vec = c.in_ok-values.values in
    let olds : List Expr = vec.items in
    let made = rw c.deref_mut.ensures.value at c.in_ok-run.ensures.values in
    ap (map view) (rewritten vec.len c.run.new.values olds made.0 vec.ok.0)
    ∙ values_are (given_at c.args.targets) self.first (numbered_body self.numbers.now (body_view self.statements.now)) olds c.run.new.values c.args.count
    c.in_ok-values.ensures.count c.in_ok-values.ensures.zeros made
