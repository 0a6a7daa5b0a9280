use Rattle.std.proofs.Common.{map, ◌∙◌, sym}
use Rattle.bool_expr.specs.Expression.{variable}
use Rattle.bool_expr.specs.View.{view}
use Rattle.fsm_machine.specs.Signals.{along}
use Rattle.fsm_machine.specs.Moved.{substituted}
use Rattle.fsm_code.proofs.Numbers.{renumbered_is}
use Rattle.fsm_code.proofs.Steps.{two_put}
use Rattle.fsm_code.proofs.emission.StateSignals.emit_condition.Goals as goal

pub returns : goal.returns
returns c =
    two_put c.args.out.now.items c.push.new.self.items c.push-2.new.self.items c.in_ok-renumbered.field-0 c.in_ok-along.field-0
    (substituted (map variable c.args.self.now.numbers.now) (view c.args.condition.now)) (along c.args.place.path (variable c.args.place.next))
    c.in_ok-push.ensures.items c.in_ok-push-2.ensures.items
    (c.in_ok-renumbered.ensures ∙ sym (renumbered_is c.args.self.now.numbers.now (view c.args.condition.now) c.requires)) c.in_ok-along.ensures
