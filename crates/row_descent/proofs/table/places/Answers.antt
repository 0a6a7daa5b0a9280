use Rattle.std.proofs.Common.{ℕ, List, length, sym, ap, ◌∙◌}
use Rattle.row_descent.proofs.Views.{row_view}
use Rattle.row_descent.proofs.table.places.Goals as goal

pub returns : goal.returns
returns c =
    c.len.ensures ∙ c.index-rows-row.result.ok.0
    ∙ ap (λ (row : List ℕ). length row) (sym (row_view c.args.rows.now c.args.row c.index-rows-row.result c.requires c.index-rows-row.is))
