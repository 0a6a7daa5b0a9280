-- Exchanges of cells, one after the other, that make the longest path shorter.
use Rattle.std.specs.Prelude.{◌≡◌, ℕ, ◌<◌, ◌≤◌, Bool, true, false, List, Some, slice_index_or}
use Rattle.std.specs.Global.{Vec}
use Rattle.cell_model.specs.Cell.{Cell}
use Rattle.cell_model.specs.Library.{Library, cell_of, IsUsable}
use Rattle.net_core.specs.Places.{Stands}
use Rattle.net_core.specs.Netlist.{Instance, Netlist, IsNetlist}
use Rattle.net_theory.specs.Exchanges.{IsDrive}
use Rattle.delay_sta.specs.declared.arrivals.Delays.{Delays}
use Rattle.delay_sta.specs.Timed.{CanBeTimed, AreDelaysOf}
use Rattle.delay_sta.specs.Paths.{IsWorst}
use Rattle.delay_sta.specs.Exchanged.{IsSetTo}
use Rattle.loon_buffer.specs.Drives.{HasDrives, IsAt, IsExchange, IsListedExchange}

-- what exchanges need and leave so: the netlist can be timed, its instances can be given all usable cells, and these are its delays
pub record IsReady (l : Library) (n : Netlist) (d : Delays) : Type 0 where
  pub sound : IsNetlist n
  pub timed : CanBeTimed l n
  pub models : HasDrives l n
  pub delays : AreDelaysOf n l d

-- an instance, by its place, has a pin in a marked class
pub record HasMarkedPin (n : Netlist) (marks : List Bool) (place : ℕ) : Type 0 where
  pub class : ℕ
  pub at : IsAt n class place
  pub marked : slice_index_or marks class false ≡ true

-- at a place of the library stands a usable cell that can stand for that of an instance, by its number
pub record IsDriveAt (l : Library) (n : Netlist) (number place : ℕ) : Type 0 where
  pub owner : Instance
  pub stands : Stands n.instances number owner
  pub was : Cell
  pub found : cell_of l owner.model ≡ Some was
  pub now : Cell
  pub there : Stands l.cells place now
  pub listed : cell_of l now.name ≡ Some now
  pub usable : IsUsable now
  pub drive : IsDrive was now

-- the longest path of the second netlist is shorter
abbrev pub IsShorter : Library → Netlist → Netlist → Type 0
IsShorter l n m = (before after : ℕ) → IsWorst n l before → IsWorst m l after → after < before

-- the longest path of the second netlist is no longer
abbrev pub IsNoLonger : Library → Netlist → Netlist → Type 0
IsNoLonger l n m = (before after : ℕ) → IsWorst n l before → IsWorst m l after → after ≤ before

-- one exchange makes the longest path shorter
pub record Shortens (l : Library) (n m : Netlist) : Type 0 where
  pub exchange : IsExchange l n m
  pub shorter : IsShorter l n m

-- with the cell at a place of the library in the place of an instance's, by its number, the longest path is no shorter
abbrev pub DoesNotHelp : Library → Netlist → ℕ → ℕ → Type 0
DoesNotHelp l n number place = (m : Netlist) (time other : ℕ) → IsSetTo l n m number place → IsWorst n l time → IsWorst m l other → time ≤ other

-- no exchange of this instance's cell that a table lists makes the longest path shorter
abbrev pub IsDrivenAt : Library → List (Vec ℕ) → Netlist → ℕ → Type 0
IsDrivenAt l table n number =
    (m : Netlist) (time other : ℕ) (x : IsListedExchange l table n m) → x.exchange.place ≡ number → IsWorst n l time → IsWorst m l other → time ≤ other
