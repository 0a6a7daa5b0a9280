use Rattle.std.proofs.Common.{◌≡◌, ℕ, length, subst, arith}
use Rattle.cell_checks.proofs.BareColumns.{Narrowed, left_out}
use Rattle.cell_checks.proofs.nodes.next_column.Goals as goal

pub returns-clause-skipped : goal.returns-clause-skipped
returns-clause-skipped c =
    let all : c.loop-shape.shape-index ≡ length c.args.shapes.now = omega arith in
    left_out c.args.cell.now c.args.shapes.now c.args.name.now c.args.from c.loop-shape.next c.args.end c.requires.row c.requires.shapes
    (subst (λ (n : ℕ). Narrowed c.args.shapes.now c.args.name.now c.args.from c.loop-shape.next c.args.end n) all c.loop-shape.invariant)
