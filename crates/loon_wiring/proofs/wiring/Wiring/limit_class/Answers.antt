use Rattle.std.proofs.Common.{◌<◌, ℕ, List, [], length, subst, arith}
use Rattle.loon_wiring.specs.Stages.{PutsGroups, few}
use Rattle.loon_wiring.proofs.Putting.{limiting_start, limiting_step, limiting_end}
use Rattle.loon_wiring.proofs.wiring.Wiring.limit_class.Goals as goal

pub returns-then-sinks-limit-clause-limited : goal.returns-then-sinks-limit-clause-limited
returns-then-sinks-limit-clause-limited c = few c.if-sinks-limit.true

pub loop-alloc-init : goal.loop-alloc-init
loop-alloc-init c =
    limiting_start c.args.repeater.now c.args.limit c.args.class c.args.self.now c.round.new.self c.args.sinks.now c.in_ok-left.left.items c.if-sinks-limit.false c.in_ok-left.ensures.groups
    c.in_ok-left.ensures.inside c.in_ok-left.ensures.grown

pub loop-alloc-preserved : goal.loop-alloc-preserved
loop-alloc-preserved c =
    let test = c.loop-alloc-test.true in
    let size = c.len.ensures in
    let many = c.deref.ensures.len in
    limiting_step c.args.repeater.now c.args.limit c.args.class c.args.self.now c.loop-alloc.self c.round-in-loop-alloc.new.self c.args.sinks.now c.loop-alloc.left.items c.in_ok-left-2.left.items
    c.loop-alloc.invariant
    (subst (λ (xs : List ℕ). c.args.limit < length xs) c.deref.ensures.value (omega (arith, test, size, many)))
    (subst (λ (xs : List ℕ). PutsGroups c.args.repeater.now c.args.limit c.args.class c.loop-alloc.self xs [] c.round-in-loop-alloc.new.self c.in_ok-left-2.left.items) c.deref.ensures.value c.in_ok-left-2.ensures.groups)
    c.in_ok-left-2.ensures.inside c.in_ok-left-2.ensures.grown

pub returns-clause-limited : goal.returns-clause-limited
returns-clause-limited c =
    let test = c.loop-alloc-test.false in
    let size = c.len.ensures in
    let many = c.loop-alloc.left.ok in
    limiting_end c.args.repeater.now c.args.limit c.args.class c.args.self.now c.loop-alloc.self c.args.sinks.now c.loop-alloc.left.items c.loop-alloc.invariant (grind (arith, test, size, many))
