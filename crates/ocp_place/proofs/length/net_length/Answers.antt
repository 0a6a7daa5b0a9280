use Rattle.std.proofs.Common.{◌∙◌, arith}
use Rattle.ocp_place.proofs.RowSited.{row_length}
use Rattle.ocp_place.proofs.Seen.{orderly}
use Rattle.ocp_place.proofs.length.net_length.Goals as goal

pub returns-clause-rows : goal.returns-clause-rows
returns-clause-rows c = λ l n k placement seen no_vdd no_vss.
    let are = placement.rows k seen in
    let many = are.many in
    let low = c.requires in
    c.box_of.ensures.value ∙ row_length k l (orderly l n placement.passed placement.drawable k seen) c.args.placement.now are c.args.class (omega (arith, many, low)) no_vdd no_vss
