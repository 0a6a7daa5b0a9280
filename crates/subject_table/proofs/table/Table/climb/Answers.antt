use Rattle.std.proofs.Common.{◌≡◌, length, arith}
use Rattle.subject_table.proofs.Walking.{next_below, next_room, one_up, starts_up}
use Rattle.subject_table.proofs.Ways.{climb_starts, climb_on, climb_ends}
use Rattle.subject_table.proofs.table.Table.climb.Goals as goal

pub loop-step-init : goal.loop-step-init
loop-step-init c =
    (starts_up c.args.self.now c.args.steps.items c.args.last c.requires.sound c.requires.operand, climb_starts c.args.self.now c.args.steps.items c.args.last)

pub step-requires-clause-others : goal.step-requires-clause-others
step-requires-clause-others c =
    next_below c.args.self.now c.loop-step.self c.args.steps.items c.args.last c.loop-step.steps.items c.pop.new.self.items c.in-Some.step c.loop-step.number c.requires.others
    c.in-Some.ensures.items c.loop-step.invariant.0

pub step-requires-clause-room : goal.step-requires-clause-room
step-requires-clause-room c =
    next_room c.args.self.now c.loop-step.self c.args.steps.items c.args.last c.loop-step.steps.items c.pop.new.self.items c.in-Some.step c.loop-step.number c.requires.room c.in-Some.ensures.items
    c.loop-step.invariant.0

pub loop-step-preserved : goal.loop-step-preserved
loop-step-preserved c = (
  one_up c.args.self.now c.loop-step.self c.step.new.self c.args.steps.items c.args.last c.loop-step.steps.items c.pop.new.self.items c.in-Some.step c.loop-step.number c.in_ok-number.number
      c.requires.others c.in-Some.ensures.items c.loop-step.invariant.0 c.in_ok-number.ensures.value,
  climb_on c.args.self.now c.loop-step.self c.step.new.self c.args.steps.items c.args.last c.loop-step.steps.items c.pop.new.self.items c.in-Some.step c.loop-step.number c.in_ok-number.number
      c.in-Some.ensures.items c.loop-step.invariant.1 c.in_ok-number.ensures.made,
)

pub returns-clause-made : goal.returns-clause-made
returns-clause-made c =
    let cases = c.in_default.ensures.cases in
    let none : length c.loop-step.steps.items ≡ 0 = omega (arith, cases) in
    climb_ends c.args.self.now c.loop-step.self c.args.steps.items c.args.last c.loop-step.number c.loop-step.steps.items none c.loop-step.invariant.1
