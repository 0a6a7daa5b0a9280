use Rattle.std.proofs.Common.{ℕ, List, sym, subst}
use Rattle.loon_wiring.proofs.Putting.{Rounding, round_step, round_groups}
use Rattle.loon_wiring.proofs.wiring.Wiring.round.Goals as goal

pub loop-start-preserved : goal.loop-start-preserved
loop-start-preserved c =
    subst (λ (xs : List ℕ). Rounding c.args.repeater.now c.args.limit c.args.class c.args.self.now c.put_behind.new.self c.args.sinks.now xs c.group_end-end.result) (sym c.in_ok-push.ensures.items)
    (round_step c.args.repeater.now c.args.limit c.args.class c.args.self.now c.loop-start.self c.put_behind.new.self c.args.sinks.now c.loop-start.inputs.items c.loop-start.start
    c.group_end-end.result c.group-group.result.now c.in_ok-input.input c.requires.size c.loop-start-test.true c.group_end-end.ensures c.group-group.ensures
    c.in_ok-input.ensures.behind c.in_ok-input.ensures.inside c.in_ok-input.ensures.grown c.loop-start.invariant)

pub returns-clause-groups : goal.returns-clause-groups
returns-clause-groups c =
    round_groups c.args.repeater.now c.args.limit c.args.class c.args.self.now c.loop-start.self c.args.sinks.now c.loop-start.inputs.items c.loop-start.start c.loop-start-test.false c.loop-start.invariant
