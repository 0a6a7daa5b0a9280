-- What is known of a library that has passed its checks.
use Rattle.std.proofs.Common.{◌≡◌, List, sym, ap, subst, false}
use Rattle.std.specs.Prelude.{All}
use Rattle.cell_model.specs.Cell.{Cell}
use Rattle.cell_model.specs.Connectors.{PinsAreConnectors}
use Rattle.cell_model.specs.Library.{Library}
use Rattle.cell_checks.specs.Checked.{IsChecked, library_of}
use Rattle.cell_checks.specs.declared.verdict.Check.TheVariants as check

pub connected : (l : Library) → IsChecked false l → All PinsAreConnectors l.cells
connected l h k d low = (h.passes k d low).0 check.Connectors

-- what is said of the cells of a library
pub of_library : (cells : List Cell) (l : Library) → library_of cells ≡ l → (P : List Cell → Type 0) → P l.cells → P cells
of_library cells l is P h = subst P (sym (ap (λ (x : Library). x.cells) is)) h

-- and what is said of a list of cells, said of the library
pub to_library : (cells : List Cell) (l : Library) → library_of cells ≡ l → (P : List Cell → Type 0) → P cells → P l.cells
to_library cells l is P h = subst P (ap (λ (x : Library). x.cells) is) h
