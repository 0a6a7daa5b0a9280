use Rattle.bdd_core.proofs.Answering.{none_of, variable_ok, variable_err}
use Rattle.bdd_core.proofs.diagrams.Diagrams.variable.Goals as goal

pub returns-in-Ok : goal.returns-in-Ok
returns-in-Ok c =
    let m = c.make-answer.ensures in
    let n = c.nodes-after.ensures in
    variable_ok c.self.inside.table c.make-answer.new.self c.self.inside.refused c.args.self.now c.self.view_is (none_of c.self.inside.refused c.in_default.not-Some) c.args.k
    c.constant-zero.result c.constant-one.result c.requires c.constant-zero.ensures.place c.constant-one.ensures.place m.vars m.budget
    c.in-Ok.place c.nodes-after.result c.in-Ok.ensures.ok n.whole n.count n.within

pub returns-in-Err : goal.returns-in-Err
returns-in-Err c =
    let m = c.make-answer.ensures in
    variable_err c.self.inside.table c.make-answer.new.self c.self.inside.refused c.args.self.now c.self.view_is (none_of c.self.inside.refused c.in_default.not-Some) c.args.k
    c.constant-zero.result c.constant-one.result c.requires c.constant-zero.ensures.place c.constant-one.ensures.place m.vars m.budget
    c.in-Err.refusal c.in-Err.ensures.err c.in-Err.ensures.over c.nodes-before.ensures.whole
