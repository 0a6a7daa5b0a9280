use Rattle.std.proofs.Common.{◌≡◌, ℕ, false, ap, ◌∙◌}
use Rattle.bdd_core.specs.Truths.{constant}
use Rattle.bdd_core.specs.Nodes.{place}
use Rattle.bdd_core.proofs.Answering.{function_constant}
use Rattle.bdd_core.proofs.diagrams.Diagrams.pick_true.Goals as goal

pub returns-then-a-constant-clause-none : goal.returns-then-a-constant-clause-none
returns-then-a-constant-clause-none c =
    let zero : place c.self.inside.table.lists c.args.a.place ≡ constant false =
    ap (λ (i : ℕ). place c.self.inside.table.lists i) c.if-a-constant.true ∙ c.constant.ensures.place in
    function_constant c.self.inside.table c.self.inside.refused c.args.self.now c.self.view_is c.args.a.place false zero
