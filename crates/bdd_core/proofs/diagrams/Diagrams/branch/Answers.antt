use Rattle.std.proofs.Common.{◌≡◌, arith}
use Rattle.bdd_core.specs.Nodes.{height, place}
use Rattle.bdd_core.proofs.Answering.{constant_node, branch_at, split_at}
use Rattle.bdd_core.proofs.diagrams.Diagrams.branch.Goals as goal

pub returns-then-variable-vars-clause-none : goal.returns-then-variable-vars-clause-none
returns-then-variable-vars-clause-none c =
    let flat : height (place c.self.inside.table.lists c.args.a.place) ≡ 0 = omega (arith, c.if-variable-vars.true, c.vars.ensures, c.variable-variable.ensures) in
    constant_node c.self.inside.table c.self.inside.refused c.args.self.now c.self.view_is c.args.a.place flat

pub returns-clause-branch : goal.returns-clause-branch
returns-clause-branch c =
    let h = c.halves-low.ensures in
    branch_at c.self.inside.table c.self.inside.refused c.args.self.now c.self.view_is c.args.a.place c.variable-variable.result c.halves-low.result.0 c.halves-low.result.1
    c.nodes-nodes.ensures.whole c.requires c.variable-variable.ensures (omega (arith, c.if-variable-vars.false, c.vars.ensures)) h.low h.high h.joined

pub returns-clause-split : goal.returns-clause-split
returns-clause-split c =
    split_at c.self.inside.table c.self.inside.refused c.args.self.now c.self.view_is c.args.a (record { place = c.halves-low.result.0 }) (record { place = c.halves-low.result.1 })
    c.variable-variable.result c.nodes-nodes.ensures.whole c.requires c.variable-variable.ensures (omega (arith, c.if-variable-vars.false, c.vars.ensures)) c.halves-low.ensures.joined
