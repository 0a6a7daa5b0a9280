use Rattle.std.proofs.Common.{ℕ, arith, ap}
use Rattle.ocp_place.proofs.Classes.{known, known_seen}
use Rattle.vlsi_base.specs.declared.fault.LimitKind.TheVariants.{Size}
use Rattle.tool_drive.specs.declared.status.Status.TheVariants as status
use Rattle.nero_run.proofs.placed.check_nodes.Goals as goal

pub returns-clause-many : goal.returns-clause-many
returns-clause-many c = λ l n placed.
    let k = known n in
    let seen = known_seen n placed.drawable.sound in
    let is = c.grid_nodes-nodes.ensures l k (placed.rows k seen) in (
      k,
      seen,
      (let over = c.if-nodes-le-MOST_NODES.false in omega (arith, over, is)),
      ap (λ (reached : ℕ). status.Limit (record { which = Size; reached = reached })) is,
    )
