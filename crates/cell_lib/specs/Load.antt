-- What the files of a library are, and why they aren't read.
use Rattle.std.specs.Prelude.{◌≡◌, ◌⊎◌, ℕ, List, [], ◌∷◌, length, Option, IfSome}
use Rattle.vlsi_shelf.specs.Files.{Files}
use Rattle.vlsi_shelf.specs.Counts.{Rose}
use Rattle.vlsi_shelf.specs.Seen.{ShelfSeen}
use Rattle.tool_drive.specs.declared.read.Stop.{Stop}
use Rattle.tool_drive.specs.declared.read.Stop.TheVariants as stop
use Rattle.tool_drive.specs.Plan.{got, lacking, reading, Gathers, IsAsked}
use Rattle.tool_drive.specs.Table.{file_limit, IsTooLong}
use Rattle.catal.specs.declared.error.CatalError.{CatalError}
use Rattle.catal.specs.declared.error.CatalError.TheVariants as catal_errors
use Rattle.catal.specs.Catal.{IsCatal, Refused}
use Rattle.cell_lib.specs.declared.error.LibError.{LibError}
use Rattle.cell_lib.specs.declared.error.LibError.TheVariants as errors
use Rattle.cell_lib.specs.declared.load.LibraryFiles.{LibraryFiles}
use Rattle.cell_lib.specs.Files.{cell_files, library_plan}

-- CATAL was read, it uses these cells, and this stood in their files
pub record IsLoaded (told : Option Files) (dir : List ℕ) (files : LibraryFiles) : Type 0 where
  pub list : List ℕ
  pub list_read : Gathers told (library_plan dir).first (got (list ∷ []))
  pub uses : IsCatal list files.names
  pub files_read : Gathers told (cell_files dir files.names) (got files.files.items)
  pub count : length files.files.items ≡ length (cell_files dir files.names)

-- CATAL was read, and is refused so
pub record IsListFault (told : Option Files) (dir : List ℕ) (e : CatalError) : Type 0 where
  pub list : List ℕ
  pub list_read : Gathers told (library_plan dir).first (got (list ∷ []))
  pub refused : Refused list e

-- why the files of a library aren't read
abbrev pub IsLoadRefusal : ShelfSeen → ShelfSeen → List ℕ → LibError → Type 0
IsLoadRefusal before now dir errors.Memory = Unit {0}
IsLoadRefusal before now dir (errors.Missing name) =
    Rose before.counts.misses now.counts.misses × IsAsked before.files (library_plan dir) name
    × IfSome before.files (λ files. reading files (library_plan dir) ≡ lacking name)
IsLoadRefusal before now dir (errors.ReadFault name) =
    Rose before.counts.read_faults now.counts.read_faults × IsAsked before.files (library_plan dir) name
IsLoadRefusal before now dir (errors.Limit l) = IsTooLong before.files (library_plan dir) l ⊎ IsListFault before.files dir (catal_errors.Limit l)
IsLoadRefusal before now dir (errors.BadCatal line) = IsListFault before.files dir (catal_errors.BadLine line)
IsLoadRefusal before now dir (errors.BadCell cell cause) = ⊥

abbrev pub stopped : Stop → LibError
stopped stop.Memory = errors.Memory
stopped (stop.Missing name) = errors.Missing name
stopped (stop.ReadFault name) = errors.ReadFault name
stopped (stop.Long most) = errors.Limit (file_limit most)

abbrev pub refused : CatalError → LibError
refused catal_errors.Memory = errors.Memory
refused (catal_errors.BadLine line) = errors.BadCatal line
refused (catal_errors.Limit l) = errors.Limit l
