-- That a cell's two files, and those of a library, have at most one refusal.
use Rattle.std.specs.Prelude.{◌≡◌, ℕ, Bool, List}
use Rattle.cell_lib.specs.declared.error.LibError.{LibError}
use Rattle.cell_lib.specs.Cells.{Source}
use Rattle.cell_lib.specs.Library.{IsCellRefusal, IsRefusedLibrary}

-- A name has at most one reason to have no cell: one check, or one limit.
abbrev pub CellHasOneRefusal : Type 0
CellHasOneRefusal = (tracks : Bool) (source : Source) (d e : LibError) → IsCellRefusal tracks source d → IsCellRefusal tracks source e → d ≡ e

-- The files of a library have at most one reason to be none: of CATAL, or of the first cell that is none.
abbrev pub LibraryHasOneRefusal : Type 0
LibraryHasOneRefusal =
    (tracks : Bool) (catal : List ℕ) (files : List (List ℕ)) (d e : LibError)
    → IsRefusedLibrary tracks catal files d → IsRefusedLibrary tracks catal files e → d ≡ e
