use Rattle.std.proofs.Common.{◌+◌, List, ℕ, swap, sym, ap, ◌∙◌}
use Rattle.row_descent.proofs.Views.{exchanged_view, items}
use Rattle.row_descent.proofs.table.exchange_in.Goals as goal

pub returns : goal.returns
returns c =
    exchanged_view c.args.rows.now c.args.row c.args.place c.index-rows-row.result c.swap.new.self c.requires.row c.index-rows-row.is c.requires.place
    (c.swap.ensures.items ∙ ap (λ (xs : List ℕ). swap xs c.args.place (c.args.place + 1)) (ap items (sym c.index-rows-row.is)))
