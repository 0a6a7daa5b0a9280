use Rattle.std.proofs.Common.{rules, refl, sym, ◌∙◌}
use Rattle.bool_expr.specs.View.{view}
use Rattle.vbe_print.proofs.Operands.{operands_first, operands_next}
use Rattle.vbe_print.proofs.expressions.Speller.operands.Goals as goal

pub loop-first-init : goal.loop-first-init
loop-first-init c =
    operands_first c.args.self.now.names.now c.args.gate (view c.args.left.now) (view c.args.right.now) c.new-others.result.items c.push.new.self.items _ c.new-others.ensures.items c.in_ok-push.ensures.items refl c.requires.left c.requires.right

pub loop-first-preserved : goal.loop-first-preserved
loop-first-preserved c =
    operands_next c.args.self.now.names.now c.args.gate c.in-Pair.inner (view c.args.left.now) (view c.args.right.now) (view c.loop-first.first.now) (view c.deref-first.result.now) (view c.deref.result.now) c.loop-first.others.items c.push-in-Pair.new.self.items c.deref.result
    (sym c.chains.ensures ∙ c.if-chains.true) (search rules) c.in_ok-push-in-Pair.ensures.items refl c.loop-first.invariant
