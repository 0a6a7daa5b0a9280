use Rattle.std.proofs.Common.{length, refl, ap, ◌∙◌, rules}
use Rattle.bool_expr.specs.View.{view}
use Rattle.machine_walk.specs.Turn.{views}
use Rattle.machine_walk.proofs.Stacks.{walk_opened, less_opened, name_within, walk_meeting, less_meeting, started}
use Rattle.machine_walk.proofs.walking.walk.Goals as goal

pub loop-next-init : goal.loop-next-init
loop-next-init c =
    started c.args.m.now c.vars.ensures.checked.ordered (view c.args.e.now) (length c.as_slice.result.now) c.in_ok-met.met.items c.new.result.items c.new-waiting.result.items
    c.push.new.self.items c.args.e (search rules) (ap length (c.as_slice.ensures ∙ c.vars.ensures.value)) c.new.ensures.items c.new-waiting.ensures.items c.in_ok-push.ensures.items refl c.requires.over

pub visit-requires-clause-known : goal.visit-requires-clause-known
visit-requires-clause-known c =
    name_within c.loop-next.waiting.items c.pop.new.self.items c.in-Some.next c.in-Some.ensures.items c.args.m.now (view c.args.e.now) c.in-Var.name c.loop-next.walked c.in-Var.is
    c.loop-next.invariant

pub loop-next-smaller-in-Continue-branch-3 : goal.loop-next-smaller-in-Continue-branch-3
loop-next-smaller-in-Continue-branch-3 c =
    less_meeting c.loop-next.waiting.items c.pop.new.self.items c.in-Some.next c.in-Some.ensures.items c.args.m.now (view c.args.e.now) c.in-Var.name c.loop-next.walked c.in-Var.is
    c.loop-next.invariant c.vars.ensures.checked.ordered c.visit.new.walked (views c.visit.new.waiting.items) c.in_ok-visit.ensures.meeting

pub loop-next-preserved-in-Continue-branch-3 : goal.loop-next-preserved-in-Continue-branch-3
loop-next-preserved-in-Continue-branch-3 c =
    walk_meeting c.loop-next.waiting.items c.pop.new.self.items c.in-Some.next c.in-Some.ensures.items c.args.m.now (view c.args.e.now) c.in-Var.name c.loop-next.walked c.in-Var.is
    c.loop-next.invariant c.vars.ensures.checked.ordered c.visit.new.walked (views c.visit.new.waiting.items) c.in_ok-visit.ensures.meeting

pub loop-next-smaller : goal.loop-next-smaller
loop-next-smaller c = less_opened c.loop-next.waiting.items c.pop.new.self.items c.in-Some.next c.in-Some.ensures.items _ c.in_ok-open.ensures.operands _

pub loop-next-preserved : goal.loop-next-preserved
loop-next-preserved c =
    walk_opened c.loop-next.waiting.items c.pop.new.self.items c.in-Some.next c.in-Some.ensures.items _ c.in_ok-open.ensures.operands _ _ _ _ c.in_default-next.not-Var c.loop-next.invariant
