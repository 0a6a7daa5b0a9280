-- What a verdict with tracks says without them.
use Rattle.std.proofs.Common.{◌≡◌, Bool, true, false}
use Rattle.cell_model.specs.Cell.{Cell}
use Rattle.cell_checks.specs.declared.verdict.Check.{Check}
use Rattle.cell_checks.specs.declared.verdict.Check.TheVariants as check
use Rattle.cell_checks.specs.declared.verdict.CellVerdict.TheVariants as verdict
use Rattle.cell_checks.specs.Verdict.{PassesCheck, IsVerdict}

passes_less : (tracks : Bool) (c : Cell) (k : Check) → PassesCheck tracks c k → PassesCheck false c k
passes_less tracks c check.Connectors p = p
passes_less tracks c check.Box p = p
passes_less tracks c check.Rails p = p
passes_less tracks c check.Access p = p
passes_less tracks c check.PinsApart p = p
passes_less tracks c check.WithinBox p = p
passes_less tracks c check.RailGaps p = p
passes_less tracks c check.Columns p = λ m is. absurd (let h : false ≡ true = is in cc)

-- a cell that passes its checks, with those for tracks or without them, passes them without
pub passes_without_tracks : (tracks : Bool) (c : Cell) → IsVerdict tracks c verdict.Passes → IsVerdict false c verdict.Passes
passes_without_tracks tracks c v = (λ k. passes_less tracks c k (v.0 k), v.1)
