use Rattle.bdd_core.proofs.Places.{opened}
use Rattle.bdd_core.proofs.Balance.{balanced}
use Rattle.bdd_core.proofs.table.Table.known.Goals as goal

pub returns-in-0-clause-balanced : goal.returns-in-0-clause-balanced
returns-in-0-clause-balanced c = balanced c.args.self.now.vars _ c.args.self.now.lists (opened _ _ _ c.args.self.now c.self.view_is c.self.invariant.0)

pub returns-in-1-clause-balanced : goal.returns-in-1-clause-balanced
returns-in-1-clause-balanced c = balanced c.args.self.now.vars _ c.args.self.now.lists (opened _ _ _ c.args.self.now c.self.view_is c.self.invariant.0)

pub returns-in_default-clause-balanced : goal.returns-in_default-clause-balanced
returns-in_default-clause-balanced c = balanced c.args.self.now.vars _ c.args.self.now.lists (opened _ _ _ c.args.self.now c.self.view_is c.self.invariant.0)
