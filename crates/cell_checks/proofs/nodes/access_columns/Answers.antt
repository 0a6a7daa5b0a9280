use Rattle.std.proofs.Common.{◌≡◌, ◌+◌, ℕ, List, Option, length, sym, subst, arith}
use Rattle.cell_checks.proofs.ReachedColumns.{FirstReached, one_more_reached, all_reached}
use Rattle.cell_checks.proofs.nodes.access_columns.Goals as goal

pub loop-pin-preserved : goal.loop-pin-preserved
loop-pin-preserved c =
    subst (λ (xs : List (Option ℕ)). FirstReached c.args.cell.now xs (c.loop-pin.pin-index + 1)) (sym c.in_ok-push.ensures.items)
    (one_more_reached c.args.cell.now c.as_slice-pin-items.result.now c.loop-pin.columns.items c.loop-pin.pin-index c.pin-item.result c.in_ok-access_column.field-0
    c.as_slice-pin-items.ensures c.loop-pin.invariant (omega arith) c.pin-item.is c.in_ok-access_column.ensures)

pub returns : goal.returns
returns c =
    let all : c.loop-pin.pin-index ≡ length c.as_slice-pin-items.result.now = omega arith in
    all_reached c.args.cell.now c.as_slice-pin-items.result.now c.loop-pin.columns.items c.loop-pin.pin-index c.as_slice-pin-items.ensures all c.loop-pin.invariant
