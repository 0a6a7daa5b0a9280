use Rattle.std.proofs.Common.{refl, rules, arith}
use Rattle.bool_expr.specs.declared.expr.Expr.TheViews.{the_lemmas}
use Rattle.asimut_sim.proofs.LayoutLemmas.{computes_from, down_begins, down_constant, down_variable, down_inverse, down_pair, down_choice}
use Rattle.asimut_sim.proofs.layout.+lay.Goals as goal

pub descend-loop-rest-init : goal.descend-loop-rest-init
descend-loop-rest-init t c = (omega arith, down_begins _ _ _ _ c.new-steps.ensures.items c.requires.program c.requires.over)

pub descend-returns-in-Const : goal.descend-returns-in-Const
descend-returns-in-Const t c = down_constant _ _ _ _ _ _ _ _ (search rules) c.constant_place.ensures.before c.constant_place.ensures.value c.loop-rest.invariant.1

pub descend-returns-in-Var : goal.descend-returns-in-Var
descend-returns-in-Var t c = down_variable _ _ _ _ _ _ c.in-Var.k _ (search rules) refl c.requires.vars c.loop-rest.invariant.1

pub descend-loop-rest-preserved-in-Not : goal.descend-loop-rest-preserved-in-Not
descend-loop-rest-preserved-in-Not t c =
    (search (rules, the_lemmas), down_inverse _ _ _ _ _ _ _ _ c.in_ok-push-in-Not.ensures.items (search rules) c.loop-rest.invariant.1)

pub descend-loop-rest-preserved-in-Pair : goal.descend-loop-rest-preserved-in-Pair
descend-loop-rest-preserved-in-Pair t c =
    (search (rules, the_lemmas), down_pair _ _ _ _ _ _ _ _ _ _ _ _ c.in_ok-push-in-Pair.ensures.items (search rules) c.in_ok-right-in-Pair.ensures c.loop-rest.invariant.1)

pub descend-loop-rest-preserved : goal.descend-loop-rest-preserved
descend-loop-rest-preserved t c = (
  search (rules, the_lemmas),
  down_choice _ _ _ _ _ _ _ _ _ _ _ _ _ _ c.in_ok-push-in-Choice.ensures.items (search rules) c.in_ok-condition-in-Choice.ensures
      c.in_ok-first-in-Choice.ensures c.loop-rest.invariant.1,
)

pub lay-ascend-requires-clause-program : goal.lay-ascend-requires-clause-program
lay-ascend-requires-clause-program t c = c.in_ok-steps.ensures.goes_on.program

pub lay-ascend-requires-clause-steps : goal.lay-ascend-requires-clause-steps
lay-ascend-requires-clause-steps t c = c.in_ok-steps.ensures.below

pub lay-ascend-requires-clause-inner : goal.lay-ascend-requires-clause-inner
lay-ascend-requires-clause-inner t c = c.in_ok-steps.ensures.within

pub lay-returns : goal.lay-returns
lay-returns t c = computes_from _ _ _ _ _ _ _ _ c.in_ok-steps.ensures c.in_ok-place.ensures
