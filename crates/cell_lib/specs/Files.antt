-- The files of a library.
use Rattle.std.specs.Prelude.{ℕ, List, [], ◌∷◌, ◌++◌, codes, get_or, length}
use Rattle.tool_drive.specs.declared.tool.Wanted.{Wanted}
use Rattle.tool_drive.specs.Plan.{Plan, limited}
use Rattle.catal.specs.Cells.{cells_in}

abbrev pub catal_name : List ℕ → List ℕ
catal_name dir = dir ++ codes "/CATAL"

abbrev pub cell_name : List ℕ → List ℕ → List ℕ → List ℕ
cell_name dir cell ending = dir ++ (codes "/" ++ (cell ++ ending))

abbrev pub vbe_name : List ℕ → List ℕ → List ℕ
vbe_name dir cell = cell_name dir cell (codes ".vbe")

abbrev pub ap_name : List ℕ → List ℕ → List ℕ
ap_name dir cell = cell_name dir cell (codes ".ap")

-- behaviour and layout of each of these cells
abbrev pub cell_files : List ℕ → List (List ℕ) → List Wanted
cell_files dir [] = []
cell_files dir (cell ∷ cells) = limited (vbe_name dir cell) ∷ limited (ap_name dir cell) ∷ cell_files dir cells

-- These files, then CATAL, and then the files of the cells that CATAL uses; no further ones, where it is none.
abbrev pub with_library : List Wanted → List ℕ → Plan
with_library files dir = record {
  first = files ++ limited (catal_name dir) ∷ [];
  more = λ read. cell_files dir (cells_in (get_or read (length files) []));
}

-- a library alone
abbrev pub library_plan : List ℕ → Plan
library_plan dir = with_library [] dir
