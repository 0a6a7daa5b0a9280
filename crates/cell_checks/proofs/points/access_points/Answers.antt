use Rattle.std.proofs.Common.{◌≡◌, ◌+◌, List, Option, length, map, take, sym, subst, arith}
use Rattle.std.specs.Prelude.{option_map}
use Rattle.cell_model.specs.Access.{access_point}
use Rattle.cell_checks.specs.Points.{point_of}
use Rattle.cell_checks.specs.declared.points.GridPoint.{GridPoint}
use Rattle.cell_checks.proofs.PointLists.{points_next, points_all}
use Rattle.cell_checks.proofs.points.access_points.Goals as goal

pub loop-pin-preserved : goal.loop-pin-preserved
loop-pin-preserved c =
    subst (λ (xs : List (Option GridPoint)). map (option_map point_of) xs ≡ map (λ p. access_point c.args.cell.now p.port.name) (take (c.loop-pin.pin-index + 1) c.args.cell.now.pins))
    (sym c.in_ok-push.ensures.items)
    (points_next c.args.cell.now c.as_slice-pin-items.result.now c.loop-pin.points.items c.loop-pin.pin-index c.pin-item.result c.in_ok-point.field-0
    c.as_slice-pin-items.ensures c.loop-pin.invariant (omega arith) c.pin-item.is c.in_ok-point.ensures)

pub returns : goal.returns
returns c =
    let all : c.loop-pin.pin-index ≡ length c.as_slice-pin-items.result.now = omega arith in
    points_all c.args.cell.now c.as_slice-pin-items.result.now c.loop-pin.points.items c.loop-pin.pin-index c.as_slice-pin-items.ensures all c.loop-pin.invariant
