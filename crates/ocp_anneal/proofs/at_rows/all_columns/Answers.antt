use Rattle.std.proofs.Common.{ℕ, ◌/◌, ◌∙◌, ap}
use Rattle.ocp_place.proofs.Seen.{orderly}
use Rattle.ocp_anneal.proofs.Square.{all_in_row}
use Rattle.ocp_anneal.proofs.at_rows.all_columns.Goals as goal

pub returns : goal.returns
returns c = λ k seen.
    ap (λ (w : ℕ). w / c.from.result) c.width.ensures.width ∙ ap (λ (p : ℕ). c.in_ok-row.row.width / p) c.from.ensures
    ∙ all_in_row k c.args.library.now c.requires.library (orderly c.args.library.now c.args.netlist.now c.requires.library c.requires.netlist k seen) c.in_ok-row.row.width
    (c.in_ok-row.ensures.row k seen).width
