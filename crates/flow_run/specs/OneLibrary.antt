-- That the files of a library are one library.
use Rattle.std.specs.Prelude.{◌↔◌, ℕ, Bool, List}
use Rattle.machine_core.specs.Machine.{Machine}
use Rattle.vbe_io.specs.Text.{IsVbe}
use Rattle.vlsi_base.specs.declared.kind.Kind.{Kind}
use Rattle.cell_model.specs.Cell.{Cell}
use Rattle.cell_model.specs.Library.{Library}
use Rattle.cell_model.specs.Covering.{HasCellOf, needed, IsFirstMissing}
use Rattle.boog_map.specs.Netlist.{has_registers, Covers}
use Rattle.cell_lib.specs.declared.error.LibError.{LibError}
use Rattle.cell_lib.specs.Cells.{Source}
use Rattle.cell_lib.specs.Library.{IsSaid, IsUnsaid, IsCell, IsCellRefusal, IsLibraryOf, IsRefusedLibrary}
use Rattle.flow_run.specs.Same.{AreSameCells}

-- Two files that say a cell have neither a fault nor a limit.
abbrev pub SaidIsNeverUnsaid : Type 0
SaidIsNeverUnsaid = (source : Source) (c : Cell) (e : LibError) → IsSaid source c → IsUnsaid source e → ⊥

-- A name that has a cell isn't refused.
abbrev pub CellIsNeverRefused : Type 0
CellIsNeverRefused = (tracks : Bool) (source : Source) (c : Cell) (e : LibError) → IsCell tracks source c → IsCellRefusal tracks source e → ⊥

-- The files of a library aren't refused.
abbrev pub LibraryIsNeverRefused : Type 0
LibraryIsNeverRefused =
    (tracks : Bool) (catal : List ℕ) (files : List (List ℕ)) (l : Library) (e : LibError)
    → IsLibraryOf tracks catal files l → IsRefusedLibrary tracks catal files e → ⊥

-- Two libraries of the same files, whether checked for tracks or not, have the same cells.
abbrev pub LibrariesAreSame : Type 0
LibrariesAreSame =
    (tracks others : Bool) (catal : List ℕ) (files : List (List ℕ)) (l k : Library)
    → IsLibraryOf tracks catal files l → IsLibraryOf others catal files k → AreSameCells l.cells k.cells

-- the one library has usable cells of those kinds, and covers those machines, for which the other does, and of each list of kinds it
-- lacks the same first
pub record CoverTheSame (l k : Library) : Type 0 where
  pub cell : (kind : Kind) → HasCellOf l.cells kind ↔ HasCellOf k.cells kind
  pub missing : (kind : Kind) (kinds : List Kind) → IsFirstMissing l.cells kind kinds ↔ IsFirstMissing k.cells kind kinds
  pub machines : (m : Machine) → Covers l m ↔ Covers k m

-- Two libraries of the same files cover the same.
abbrev pub LibrariesCoverTheSame : Type 0
LibrariesCoverTheSame =
    (tracks others : Bool) (catal : List ℕ) (files : List (List ℕ)) (l k : Library)
    → IsLibraryOf tracks catal files l → IsLibraryOf others catal files k → CoverTheSame l k

-- Where a library covers a machine, no library of the same files lacks a kind that a machine of the same source needs.
abbrev pub CoveredLacksNothing : Type 0
CoveredLacksNothing =
    (tracks others : Bool) (catal : List ℕ) (files : List (List ℕ)) (l k : Library)
    → IsLibraryOf tracks catal files l → IsLibraryOf others catal files k
    → (source : List ℕ) (m n : Machine) → IsVbe source m → IsVbe source n
    → Covers l m → (kind : Kind) → IsFirstMissing k.cells kind (needed (has_registers n)) → ⊥
