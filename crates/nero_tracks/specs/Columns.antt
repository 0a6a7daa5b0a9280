-- Pins of one cell that are reached in one column.
use Rattle.std.specs.Prelude.{◌≡◌, ℕ, List, Some}
use Rattle.vlsi_base.specs.declared.name.Name.{Name}
use Rattle.machine_core.specs.Machine.{names_of}
use Rattle.cell_model.specs.Cell.{Cell, pin_ports}
use Rattle.cell_model.specs.Library.{Library, cell_of}
use Rattle.cell_model.specs.Usable.{IsMappable}
use Rattle.cell_checks.specs.Checks.{ColumnsDiffer}
use Rattle.cell_checks.specs.Columns.{IsSharedAt}
use Rattle.net_core.specs.Places.{Stands, IsThere}
use Rattle.net_core.specs.Netlist.{Instance, Netlist as InMemory}
use Rattle.nero_tracks.specs.declared.error.TrackError.{TrackError}
use Rattle.nero_tracks.specs.declared.error.TrackError.TheVariants as error

-- the first pin of a cell, in the order of names, that is reached in the column of an earlier one
pub record IsShared (c : Cell) (pin : Name) : Type 0 where
  pub place : ℕ
  pub stands : Stands (names_of (pin_ports c)) place pin
  pub shared : IsSharedAt c place

-- why a cell is refused, if memory hasn't run out
abbrev pub IsSharedPin : Cell → TrackError → Type 0
IsSharedPin c error.Memory = Unit {0}
IsSharedPin c (error.NoColumn cell pin) = (c.name ≡ cell) × IsShared c pin

-- a netlist may use the cell of this model only if no two pins of it are reached in one column
abbrev pub HasOwnColumns : Library → List ℕ → Type 0
HasOwnColumns l model = (c : Cell) → cell_of l model ≡ Some c → IsMappable c → ColumnsDiffer c

-- the cell of this model has this name, and this is the first pin of it that is reached in the column of an earlier one
pub record IsSharedIn (l : Library) (model : List ℕ) (cell : List ℕ) (pin : Name) : Type 0 where
  pub used : Cell
  pub found : cell_of l model ≡ Some used
  pub named : used.name ≡ cell
  pub shared : IsShared used pin

-- why a model is refused, if memory hasn't run out
abbrev pub IsModelRefusal : Library → List ℕ → TrackError → Type 0
IsModelRefusal l model error.Memory = Unit {0}
IsModelRefusal l model (error.NoColumn cell pin) = IsSharedIn l model cell pin

-- no two pins of a cell in use are reached in one column
abbrev pub HaveOwnColumns : Library → InMemory → Type 0
HaveOwnColumns l n = (i : Instance) (c : Cell) → IsThere n.instances i → cell_of l i.model ≡ Some c → ColumnsDiffer c
