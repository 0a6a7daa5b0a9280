-- The files of a tool that reads some of its own and a library.
use Rattle.std.proofs.Common.{◌≡◌, ◌-◌, ℕ, List, [], ◌∷◌, length, get_or, ap, ◌∙◌, arith, length-append}
use Rattle.tool_drive.specs.declared.tool.Wanted.{Wanted}
use Rattle.tool_drive.specs.Plan.{limited}
use Rattle.catal.specs.Cells.{cells_in}
use Rattle.cell_lib.specs.Files.{catal_name, cell_files, with_library}

-- CATAL stands behind its own files
behind : (files : List Wanted) (dir : List ℕ) (read : List (List ℕ)) → length read ≡ length (with_library files dir).first → length read - 1 ≡ length files
behind files dir read h = omega (arith, h, length-append files (limited (catal_name dir) ∷ []))

pub catal_is : (files : List Wanted) (dir : List ℕ) (read : List (List ℕ)) (catal : List ℕ) → length read ≡ length (with_library files dir).first
    → catal ≡ get_or read (length read - 1) [] → catal ≡ get_or read (length files) []
catal_is files dir read catal count is = is ∙ ap (λ (n : ℕ). get_or read n []) (behind files dir read count)

-- the files of the cells
pub more_are : (files : List Wanted) (dir folder : List ℕ) (read : List (List ℕ)) (catal : List ℕ) (wanted : List Wanted) → length read ≡ length (with_library files dir).first
    → catal ≡ get_or read (length read - 1) [] → folder ≡ dir → wanted ≡ cell_files folder (cells_in catal) → wanted ≡ (with_library files dir).more read
more_are files dir folder read catal wanted count is same named =
    named
    ∙ ap (λ (d : List ℕ). cell_files d (cells_in catal)) same
    ∙ ap (λ (c : List ℕ). cell_files dir (cells_in c)) (catal_is files dir read catal count is)
