use Rattle.std.proofs.Common.{arith}
use Rattle.bdd_core.proofs.Places.{opened, own_at, variable_is, stays, son_itself, constant_height}
use Rattle.bdd_core.proofs.table.Table.halves.Goals as goal

pub returns-then-at-lt2-clause-joined : goal.returns-then-at-lt2-clause-joined
returns-then-at-lt2-clause-joined c =
    let s = opened _ _ _ c.args.self.now c.self.view_is c.self.invariant.0 in
    let h = constant_height _ _ _ s c.args.at c.if-at-lt2.true in
    stays c.args.self.now.vars c.args.self.now.lists c.args.variable c.args.at (omega (arith, h))

pub returns-then-node-variable-clause-low : goal.returns-then-node-variable-clause-low
returns-then-node-variable-clause-low c =
    let s = opened _ _ _ c.args.self.now c.self.view_is c.self.invariant.0 in
    (own_at c.args.self.now _ c.args.variable c.args.at c.in-Some.node.now s c.if-at-lt2.false c.in-Some.ensures.key c.if-node-variable.true).low

pub returns-then-node-variable-clause-high : goal.returns-then-node-variable-clause-high
returns-then-node-variable-clause-high c =
    let s = opened _ _ _ c.args.self.now c.self.view_is c.self.invariant.0 in
    (own_at c.args.self.now _ c.args.variable c.args.at c.in-Some.node.now s c.if-at-lt2.false c.in-Some.ensures.key c.if-node-variable.true).high

pub returns-then-node-variable-clause-joined : goal.returns-then-node-variable-clause-joined
returns-then-node-variable-clause-joined c =
    let s = opened _ _ _ c.args.self.now c.self.view_is c.self.invariant.0 in
    (own_at c.args.self.now _ c.args.variable c.args.at c.in-Some.node.now s c.if-at-lt2.false c.in-Some.ensures.key c.if-node-variable.true).is

pub returns-else-node-variable-clause-low : goal.returns-else-node-variable-clause-low
returns-else-node-variable-clause-low c =
    let s = opened _ _ _ c.args.self.now c.self.view_is c.self.invariant.0 in
    let e = variable_is c.args.self.now _ c.args.at c.in-Some.node.now s c.if-at-lt2.false c.in-Some.ensures.key in
    son_itself _ _ _ _ c.requires.within (omega (arith, e, c.requires.early, c.if-node-variable.false))

pub returns-else-node-variable-clause-high : goal.returns-else-node-variable-clause-high
returns-else-node-variable-clause-high c =
    let s = opened _ _ _ c.args.self.now c.self.view_is c.self.invariant.0 in
    let e = variable_is c.args.self.now _ c.args.at c.in-Some.node.now s c.if-at-lt2.false c.in-Some.ensures.key in
    son_itself _ _ _ _ c.requires.within (omega (arith, e, c.requires.early, c.if-node-variable.false))

pub returns-else-node-variable-clause-joined : goal.returns-else-node-variable-clause-joined
returns-else-node-variable-clause-joined c =
    let s = opened _ _ _ c.args.self.now c.self.view_is c.self.invariant.0 in
    let e = variable_is c.args.self.now _ c.args.at c.in-Some.node.now s c.if-at-lt2.false c.in-Some.ensures.key in
    stays c.args.self.now.vars c.args.self.now.lists c.args.variable c.args.at (omega (arith, e, c.requires.early, c.if-node-variable.false))
