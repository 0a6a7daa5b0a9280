use Rattle.std.proofs.Common.{ℕ, false, true, ap, ◌∙◌}
use Rattle.bdd_core.specs.Branching.{held}
use Rattle.bdd_core.specs.Diagram.{function_of}
use Rattle.proof_joint.proofs.Descent.{branch_low, branch_high, other_branch, no_branch}
use Rattle.proof_joint.proofs.differing.halves_at.Goals as goal

pub returns-in_Some-branch-clause-halves : goal.returns-in_Some-branch-clause-halves
returns-in_Some-branch-clause-halves c =
    let d = c.args.diagrams.now in
    let f = function_of d c.args.node in
    let w = c.in_Some-branch.ensures.branch in
    λ a b is. (
      branch_low d.table.vars c.args.variable c.requires.within f a b is (function_of d c.in_Some-branch.branch.low) (w.low_is ∙ ap (λ (k : ℕ). held k false f) c.if-branch-variable.true),
      branch_high d.table.vars c.args.variable c.requires.within f a b is (function_of d c.in_Some-branch.branch.high) (w.high_is ∙ ap (λ (k : ℕ). held k true f) c.if-branch-variable.true),
    )

pub returns-in_default-branch-clause-halves : goal.returns-in_default-branch-clause-halves
returns-in_default-branch-clause-halves c =
    let d = c.args.diagrams.now in
    let f = function_of d c.args.node in
    λ a b is. other_branch d.table.vars c.args.variable c.requires.within f a b is c.in_Some-branch.branch.variable (function_of d c.in_Some-branch.branch.low)
    (function_of d c.in_Some-branch.branch.high) c.in_Some-branch.ensures.branch c.if-branch-variable.false

pub returns-in_default-branch-2-clause-halves : goal.returns-in_default-branch-2-clause-halves
returns-in_default-branch-2-clause-halves c =
    let d = c.args.diagrams.now in
    let none = c.in_default-branch.ensures.none in
    λ a b is. no_branch d.table.vars c.args.variable c.requires.within (function_of d c.args.node) a b is none.0 none.1
