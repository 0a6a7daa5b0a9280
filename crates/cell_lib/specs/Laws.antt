-- What follows of a library that is read.
use Rattle.std.specs.Prelude.{ℕ, Bool, false, List}
use Rattle.cell_model.specs.Library.{Library as CellLibrary}
use Rattle.cell_checks.specs.Checked.{IsChecked}
use Rattle.cell_lib.specs.Library.{IsLibraryOf}

-- Each of its cells has passed its checks, with those for tracks where they were asked for, no two cells have one name, and the usable
-- ones have their arcs.
abbrev pub LibraryPasses : Type 0
LibraryPasses =
    (tracks : Bool) (catal : List ℕ) (files : List (List ℕ)) (l : CellLibrary) → IsLibraryOf tracks catal files l → IsChecked tracks l

-- What is a library with the checks for tracks is one without them.
abbrev pub LibraryNeedsNoTracks : Type 0
LibraryNeedsNoTracks =
    (tracks : Bool) (catal : List ℕ) (files : List (List ℕ)) (l : CellLibrary) → IsLibraryOf tracks catal files l → IsLibraryOf false catal files l
