-- Libraries whose cells have passed their checks and have their arcs.
use Rattle.std.specs.Prelude.{◌≢◌, Bool, List, All, AllPairs}
use Rattle.cell_model.specs.Cell.{Cell}
use Rattle.cell_model.specs.Library.{Library}
use Rattle.cell_model.specs.Usable.{IsFormed}
use Rattle.cell_checks.specs.declared.verdict.CellVerdict.TheVariants as verdict
use Rattle.cell_checks.specs.Verdict.{IsVerdict}
use Rattle.cell_checks.specs.Arcs.{HaveTheirArcs}

abbrev pub library_of : List Cell → Library
library_of cells = record { cells = cells }

-- Each cell has passed its checks, with those for tracks or without them, no two have one name, and the usable ones have their arcs.
pub record IsChecked (tracks : Bool) (l : Library) : Type 0 where
  pub formed : All IsFormed l.cells
  pub passes : All (λ c. IsVerdict tracks c verdict.Passes) l.cells
  pub names : AllPairs (λ a b. a.name ≢ b.name) l.cells
  pub arcs : HaveTheirArcs l
