use Rattle.std.proofs.Common.{◌≡◌, map, take}
use Rattle.std.specs.Prelude.{option_map}
use Rattle.machine_core.specs.Machine.{names_of}
use Rattle.cell_model.specs.Cell.{pin_ports}
use Rattle.cell_model.specs.Access.{access_point}
use Rattle.cell_checks.specs.Points.{point_of}
use Rattle.cell_checks.proofs.points.access_points.Given as goal

abbrev pub invariant-loop-pin : goal.invariant-loop-pin
invariant-loop-pin l = map (option_map point_of) l.points.items ≡ map (λ p. access_point l.cell p.port.name) (take l.pin-index l.cell.pins)
