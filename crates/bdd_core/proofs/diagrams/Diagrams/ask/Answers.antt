use Rattle.bdd_core.proofs.Answering.{none_of, ask_ok, ask_err}
use Rattle.bdd_core.proofs.diagrams.Diagrams.ask.Goals as goal

pub returns-in-Ok : goal.returns-in-Ok
returns-in-Ok c =
    let m = c.combine-answer.ensures in
    let n = c.nodes-after.ensures in
    ask_ok c.args.operator c.args.x c.args.y c.args.z c.self.inside.table c.combine-answer.new.table c.self.inside.refused c.in-Ok.place c.nodes-after.result c.args.self.now
    c.self.view_is (none_of c.self.inside.refused c.in_default.not-Some) m.vars m.budget n.whole n.count n.within c.in-Ok.ensures.outcome

pub returns : goal.returns
returns c =
    let m = c.combine-answer.ensures in
    ask_err c.args.operator c.args.x c.args.y c.args.z c.self.inside.table c.combine-answer.new.table c.self.inside.refused c.in-Err.refusal c.args.self.now
    c.self.view_is (none_of c.self.inside.refused c.in_default.not-Some) m.vars m.budget c.nodes-after.ensures.whole c.in-Err.ensures.outcome
