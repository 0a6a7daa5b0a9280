use Rattle.std.proofs.Common.{◌∙◌}
use Rattle.ocp_place.proofs.Lengths.{lengths_are_right}
use Rattle.ocp_place.proofs.RowSited.{row_lengths}
use Rattle.ocp_place.proofs.Seen.{orderly}
use Rattle.ocp_place.proofs.length.half_perimeter.Goals as goal

pub returns-clause-tracks : goal.returns-clause-tracks
returns-clause-tracks c = λ n k placement seen.
    let l = c.args.library.now in
    c.length.ensures
    ∙ lengths_are_right k l c.args.placement.now (orderly l n placement.passed placement.drawable k seen) (placement.row k seen)

pub returns-clause-rows : goal.returns-clause-rows
returns-clause-rows c = λ n k placement seen.
    let l = c.args.library.now in
    c.length.ensures ∙ row_lengths k l (orderly l n placement.passed placement.drawable k seen) c.args.placement.now (placement.rows k seen)
