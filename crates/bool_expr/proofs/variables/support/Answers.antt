use Rattle.std.proofs.Common.{rules}
use Rattle.bool_expr.proofs.Waiting.{walked_constant, walked_inverse, walked_pair, walked_choice, in_all_walked, in_all_met, less_met}
use Rattle.bool_expr.proofs.variables.support.Goals as goal

pub loop-next-smaller-in-Const : goal.loop-next-smaller-in-Const
loop-next-smaller-in-Const c = less_met _ _ c.in-Some.next c.in-Some.ensures.items

pub loop-next-preserved-in-Const : goal.loop-next-preserved-in-Const
loop-next-preserved-in-Const c = (
  c.loop-next.invariant.0,
  in_all_walked _ _ _ _ (walked_constant _ _ c.in-Some.next c.in-Const.field-0 c.in-Some.ensures.items (search rules)) c.loop-next.invariant.1,
)

pub loop-next-smaller-in-Continue-branch-2 : goal.loop-next-smaller-in-Continue-branch-2
loop-next-smaller-in-Continue-branch-2 c = less_met _ _ c.in-Some.next c.in-Some.ensures.items

pub loop-next-preserved-in-Continue-branch-2 : goal.loop-next-preserved-in-Continue-branch-2
loop-next-preserved-in-Continue-branch-2 c = (
  c.in_ok-meet-in-Var.ensures.knows,
  in_all_met _ _ _ _ c.in-Some.next c.in-Var.k _ c.in-Some.ensures.items (search rules) c.in_ok-meet-in-Var.ensures.vars c.loop-next.invariant.1,
)

pub loop-next-smaller-in-Continue-branch-3 : goal.loop-next-smaller-in-Continue-branch-3
loop-next-smaller-in-Continue-branch-3 c =
    (walked_inverse _ _ _ c.in-Some.next c.deref.result c.in-Some.ensures.items c.in_ok-push-in-Not.ensures.items (search rules)).less

pub loop-next-preserved-in-Continue-branch-3 : goal.loop-next-preserved-in-Continue-branch-3
loop-next-preserved-in-Continue-branch-3 c = (
  c.loop-next.invariant.0,
  in_all_walked _ _ _ _ (walked_inverse _ _ _ c.in-Some.next c.deref.result c.in-Some.ensures.items c.in_ok-push-in-Not.ensures.items (search rules)) c.loop-next.invariant.1,
)

pub loop-next-smaller-in-Continue-branch-5 : goal.loop-next-smaller-in-Continue-branch-5
loop-next-smaller-in-Continue-branch-5 c =
    (walked_pair _ _ _ _ c.in-Some.next c.deref-in-Pair-2.result c.deref-in-Pair.result c.in-Pair.field-0 c.in-Some.ensures.items c.in_ok-push-in-Pair.ensures.items c.in_ok-push-in-Pair-2.ensures.items (search rules)).less

pub loop-next-preserved-in-Continue-branch-5 : goal.loop-next-preserved-in-Continue-branch-5
loop-next-preserved-in-Continue-branch-5 c = (
  c.loop-next.invariant.0,
  in_all_walked _ _ _ _ (walked_pair _ _ _ _ c.in-Some.next c.deref-in-Pair-2.result c.deref-in-Pair.result c.in-Pair.field-0 c.in-Some.ensures.items c.in_ok-push-in-Pair.ensures.items c.in_ok-push-in-Pair-2.ensures.items (search rules)) c.loop-next.invariant.1,
)

pub loop-next-smaller : goal.loop-next-smaller
loop-next-smaller c =
    (walked_choice _ _ _ _ _ c.in-Some.next c.deref-in-Choice-3.result c.deref-in-Choice-2.result c.deref-in-Choice.result c.in-Some.ensures.items c.in_ok-push-in-Choice.ensures.items c.in_ok-push-in-Choice-2.ensures.items c.in_ok-push-in-Choice-3.ensures.items (search rules)).less

pub loop-next-preserved : goal.loop-next-preserved
loop-next-preserved c = (
  c.loop-next.invariant.0,
  in_all_walked _ _ _ _ (walked_choice _ _ _ _ _ c.in-Some.next c.deref-in-Choice-3.result c.deref-in-Choice-2.result c.deref-in-Choice.result c.in-Some.ensures.items c.in_ok-push-in-Choice.ensures.items c.in_ok-push-in-Choice-2.ensures.items c.in_ok-push-in-Choice-3.ensures.items (search rules)) c.loop-next.invariant.1,
)
