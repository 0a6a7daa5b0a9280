-- What follows of a library that is read.
use Rattle.std.proofs.Common.{ℕ, Bool, false, List, sym, ◌∙◌, subst}
use Rattle.vlsi_base.specs.Member.{AllDifferent}
use Rattle.cell_model.specs.Cell.{Cell}
use Rattle.cell_model.specs.Usable.{IsFormed}
use Rattle.cell_checks.specs.declared.verdict.CellVerdict.TheVariants as verdict
use Rattle.cell_checks.specs.Verdict.{IsVerdict}
use Rattle.cell_lib.specs.Cells.{Source, sources, AreCells, none, next}
use Rattle.cell_lib.specs.Library.{IsCell}
use Rattle.cell_lib.specs.Laws.{LibraryPasses, LibraryNeedsNoTracks}
use Rattle.cell_lib.proofs.Forming.{formed}
use Rattle.cell_lib.proofs.Judging.{all_cells, have_arcs, cell_names, source_names, apart, without}

pub passes : LibraryPasses
passes tracks list files l h = record {
  formed = all_cells IsFormed tracks (sources h.names files) l.cells (λ s c k. formed s c k.said) h.cells;
  passes = all_cells (λ c. IsVerdict tracks c verdict.Passes) tracks (sources h.names files) l.cells (λ s c k. k.passes) h.cells;
  names = apart l.cells
      (subst (λ (names : List (List ℕ)). AllDifferent names) (sym (cell_names tracks (sources h.names files) l.cells h.cells ∙ source_names h.names files)) h.uses.used.different);
  arcs = have_arcs tracks (sources h.names files) l.cells h.cells;
}

cells_without : (tracks : Bool) (ss : List Source) (cells : List Cell) → AreCells (IsCell tracks) ss cells → AreCells (IsCell false) ss cells
cells_without tracks _ _ none = none
cells_without tracks _ _ (next {source = s} {rest = ss} {cell = c} {cells = cs} h rest) =
    next (record { said = h.said; passes = (λ k. without tracks c k (h.passes.0 k), h.passes.1) }) (cells_without tracks ss cs rest)

pub plain : LibraryNeedsNoTracks
plain tracks list files l h = record { names = h.names; uses = h.uses; cells = cells_without tracks (sources h.names files) l.cells h.cells }
