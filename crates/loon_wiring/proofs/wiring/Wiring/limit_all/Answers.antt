use Rattle.std.proofs.Common.{ℕ, List, subst}
use Rattle.loon_wiring.specs.Stages.{LimitsClass}
use Rattle.loon_wiring.proofs.Putting.{all_step, all_end}
use Rattle.loon_wiring.proofs.wiring.Wiring.limit_all.Goals as goal

pub loop-class-preserved : goal.loop-class-preserved
loop-class-preserved c =
    all_step c.args.repeater.now c.args.limit c.args.self.now c.loop-class.self c.limit_class.new.self c.args.loads.now c.loop-class.class c.index-loads-class.result c.loop-class-test.true c.index-loads-class.is
    (subst (λ (xs : List ℕ). LimitsClass c.args.repeater.now c.args.limit c.loop-class.class c.loop-class.self xs c.limit_class.new.self) c.deref.ensures.value c.in_ok-limit_class.ensures.limited)
    c.in_ok-limit_class.ensures.grown c.loop-class.invariant

pub returns : goal.returns
returns c = all_end c.args.repeater.now c.args.limit c.args.self.now c.loop-class.self c.args.loads.now c.loop-class.class c.loop-class-test.false c.loop-class.invariant
