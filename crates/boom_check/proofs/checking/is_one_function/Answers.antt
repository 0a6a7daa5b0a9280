use Rattle.bool_expr.specs.View.{view}
use Rattle.proof_cmp.proofs.Comparing.{one_function}
use Rattle.boom_check.proofs.checking.is_one_function.Goals as goal

pub returns-in-Ok-clause-function : goal.returns-in-Ok-clause-function
returns-in-Ok-clause-function c = λ same.
    one_function c.args.first.machine.now c.args.second.machine.now (view c.args.first.root.now) (view c.args.second.root.now) c.in-Ok.joint
    (record {
      names = c.requires.names;
      first = c.requires.first.checked;
      second = c.requires.second.checked;
      over = c.requires.first.over;
      other = c.requires.second.over;
    })
    c.in-Ok.ensures.diagram (c.same.ensures.0 same)
