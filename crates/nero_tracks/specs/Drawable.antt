-- What routing with tracks asks of a netlist, and why it is refused.
use Rattle.std.specs.Prelude.{◌≡◌, ◌<◌, true, ℕ, List, Some}
use Rattle.vlsi_base.specs.declared.name.Name.{Name}
use Rattle.cell_model.specs.Cell.{Cell}
use Rattle.cell_model.specs.Library.{Library, cell_of}
use Rattle.cell_checks.specs.Checks.{ColumnsDiffer}
use Rattle.cell_checks.specs.Checked.{IsChecked as HasPassed}
use Rattle.net_core.specs.Places.{Stands, IsThere}
use Rattle.net_core.specs.Netlist.{Instance, Netlist as InMemory}
use Rattle.nero_tracks.specs.declared.error.TrackError.{TrackError}
use Rattle.nero_tracks.specs.declared.error.TrackError.TheVariants as error
use Rattle.nero_tracks.specs.Columns.{IsShared}
pub use Rattle.ocp_place.specs.Drawable.{IsDrawableIn}

-- A cell of this name is in use, and this is the first of its pins, in the order of names, that is reached in the column of an earlier
-- one; and of the cells in use, in the order of models, it is the first with such a pin.
pub record SharesColumn (l : Library) (n : InMemory) (cell : List ℕ) (pin : Name) : Type 0 where
  pub user : Instance
  pub listed : IsThere n.instances user
  pub place : ℕ
  pub model : Stands n.models place user.model
  pub used : Cell
  pub found : cell_of l user.model ≡ Some used
  pub named : used.name ≡ cell
  pub shared : IsShared used pin
  pub first : (other : Instance) (j : ℕ) (c : Cell) → IsThere n.instances other → Stands n.models j other.model → j < place
      → cell_of l other.model ≡ Some c → ColumnsDiffer c

-- why a netlist isn't routed with tracks, if memory hasn't run out
abbrev pub IsTrackRefusal : Library → InMemory → TrackError → Type 0
IsTrackRefusal l n error.Memory = Unit {0}
IsTrackRefusal l n (error.NoColumn cell pin) = SharesColumn l n cell pin

-- that never comes with a library that was checked for tracks
abbrev pub ColumnsAreFree : Type 0
ColumnsAreFree = (l : Library) (n : InMemory) (e : TrackError) → HasPassed true l → IsDrawableIn l n → IsTrackRefusal l n e → e ≡ error.Memory
