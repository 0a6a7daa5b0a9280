use Rattle.std.proofs.Common.{◌∙◌}
use Rattle.ocp_anneal.proofs.Fair.{still_improved}
use Rattle.ocp_anneal.proofs.Square.{good}
use Rattle.ocp_anneal.proofs.at_rows.place.Goals as goal

pub returns-clause-good : goal.returns-clause-good
returns-clause-good c = λ k seen.
    good c.args.library.now c.args.netlist.now c.args.rows c.in_ok-columns.columns c.row_count-count.result c.args.moves.seed c.args.moves.many c.in_ok-first.first
    c.in_ok-placement.placement k seen (c.in_ok-columns.ensures k seen) c.row_count-count.ensures.count c.in_ok-first.ensures.first c.in_ok-first.ensures.many
    (c.in_ok-placement.ensures.many ∙ c.in_ok-improved.ensures.many)
    (c.in_ok-placement.ensures.even (c.in_ok-improved.ensures.even c.in_ok-first.ensures.even))
    (still_improved c.args.library.now c.args.netlist.now c.args.moves.seed c.args.moves.many c.in_ok-first.first c.in_ok-improved.improved c.in_ok-placement.placement
    c.in_ok-improved.ensures.improved c.in_ok-placement.ensures.stable c.in_ok-placement.ensures.lower)
