use Rattle.std.proofs.Common.{◌++◌, ◌∷◌, [], List, ℕ, sym, ap, ◌∙◌}
use Rattle.row_descent.proofs.Views.{items}
use Rattle.row_descent.proofs.Starting.{pushed_view}
use Rattle.row_descent.proofs.start.list_net.Goals as goal

pub returns-clause-lists : goal.returns-clause-lists
returns-clause-lists c =
    pushed_view c.args.lists.now c.args.cell c.args.net c.index-lists-cell.result c.push.new.self c.requires c.index-lists-cell.is
    (c.in_ok-push.ensures.items ∙ ap (λ (row : List ℕ). row ++ c.args.net ∷ []) (ap items (sym c.index-lists-cell.is)))
