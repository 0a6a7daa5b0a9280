-- Cells that can stand for others, and netlists in which no exchange of one helps.
use Rattle.std.specs.Prelude.{◌≡◌, ◌≢◌, ◌↔◌, ℕ, ◌<◌, ◌≤◌, Bool, List, [], ◌∷◌, map, length, Some, slice_index_or}
use Rattle.std.specs.List.{sum_by}
use Rattle.std.specs.Global.{Vec}
use Rattle.vlsi_base.specs.declared.name.Name.{Name}
use Rattle.bool_expr.specs.Expression.{Expression, bit, val, IsOver}
use Rattle.cell_model.specs.Cell.{Cell, Function, gate}
use Rattle.cell_model.specs.Library.{Library, cell_of, IsUsable}
use Rattle.cell_checks.specs.Arcs.{BeginsThere, GoesThrough, HaveTheirArcs}
use Rattle.net_core.specs.Places.{Stands, IsThere}
use Rattle.net_core.specs.Netlist.{Instance, Netlist, pin_of, HasClass, SetsModel}
use Rattle.net_theory.specs.Exchanges.{IsDrive}
use Rattle.delay_sta.specs.Timed.{CanBeTimed}
use Rattle.delay_sta.specs.Paths.{Step, TakesTo, IsStep, IsStart, IsEnd, IsWorst}

-- two vectors have the same bits from this place up to the sixth
abbrev pub Agrees : List Bool → List Bool → ℕ → Type 0
Agrees w bits known = (k : ℕ) → known ≤ k → k < 6 → bit w k ≡ bit bits k

-- two expressions have one value on each such vector
abbrev pub HaveSameValues : Expression → Expression → List Bool → ℕ → Type 0
HaveSameValues e x bits known = (w : List Bool) → Agrees w bits known → val x w ≡ val e w

-- a gate reads at most six inputs
abbrev pub IsNarrow : Function → Type 0
IsNarrow (gate e) = IsOver e 6
IsNarrow _ = Unit {0}

-- at the second place stands another usable cell, which can stand for the usable cell at the first
pub record IsOtherDrive (cells : List Cell) (place k : ℕ) : Type 0 where
  pub apart : k ≢ place
  pub was : Cell
  pub stood : Stands cells place was
  pub usable : IsUsable was
  pub now : Cell
  pub stands : Stands cells k now
  pub as_usable : IsUsable now
  pub drive : IsDrive was now

-- the places below an end of the others that can stand for the cell at a place
abbrev pub AreOtherDrives : List Cell → ℕ → ℕ → List ℕ → Type 0
AreOtherDrives cells place end drives = (k : ℕ) → IsThere drives k ↔ ((k < end) × IsOtherDrive cells place k)

-- those of the cell at a place
abbrev pub drives_at : List (Vec ℕ) → ℕ → List ℕ
drives_at table place = slice_index_or (map (λ d. d.items) table) place []

-- the others that can stand for each of these cells, by places
pub record IsDriveTable (cells : List Cell) (table : List (Vec ℕ)) : Type 0 where
  pub many : length table ≡ length cells
  pub each : (place : ℕ) → place < length cells → AreOtherDrives cells place (length cells) (drives_at table place)

-- one instance's cell is exchanged for a usable cell that can stand for it
pub record IsExchange (l : Library) (n m : Netlist) : Type 0 where
  pub place : ℕ
  pub owner : Instance
  pub stands : Stands n.instances place owner
  pub was : Cell
  pub found : cell_of l owner.model ≡ Some was
  pub now : Cell
  pub listed : cell_of l now.name ≡ Some now
  pub usable : IsUsable now
  pub drive : IsDrive was now
  pub sets : SetsModel n m place now.name

-- no exchange of one instance's cell makes the longest path shorter
abbrev pub IsDriven : Netlist → Library → Type 0
IsDriven n l = (m : Netlist) (time other : ℕ) → IsExchange l n m → IsWorst n l time → IsWorst m l other → time ≤ other

-- the same instance but for its model, whose cell can stand for that of the old one
pub record IsChosenFor (l : Library) (old new : Instance) : Type 0 where
  pub same : new ≡ record old { model = new.model }
  pub was : Cell
  pub found : cell_of l old.model ≡ Some was
  pub now : Cell
  pub listed : cell_of l new.model ≡ Some now
  pub usable : IsUsable now
  pub drive : IsDrive was now

-- the same netlist but for the models of instances, whose cells can stand for those of the old ones
pub record OnlyExchanges (l : Library) (old new : Netlist) : Type 0 where
  pub now : new ≡ record old { instances = new.instances }
  pub many : length new.instances ≡ length old.instances
  pub each : (k : ℕ) (i j : Instance) → Stands old.instances k i → Stands new.instances k j → IsChosenFor l i j

-- the names of all usable cells are among the models that instances can be given
abbrev pub HasDrives : Library → Netlist → Type 0
HasDrives l n = (c : Cell) → IsThere l.cells c → IsUsable c → IsThere n.models c.name

-- an instance, by its place, has a pin in the class
pub record IsAt (n : Netlist) (class place : ℕ) : Type 0 where
  pub owner : Instance
  pub stands : Stands n.instances place owner
  pub pin : Name
  pub joined : HasClass n (pin_of owner.name pin) class

-- After an exchange the longest path takes at least as long as each path to an end had taken of which no step leads to a class in which
-- the exchanged instance has a pin. So only the instances at the classes of a longest path can make it shorter.
abbrev pub OthersDoNotHelp : Type 0
OthersDoNotHelp = (l : Library) (n m : Netlist) (x : IsExchange l n m) (class time longest : ℕ) → IsEnd n l class
    → (p : TakesTo (IsStart n) (IsStep n l BeginsThere) (IsStep n l GoesThrough) class time)
    → ((s : Step) → IsThere p.path s → IsAt n s.to x.place → ⊥)
    → IsWorst m l longest → time ≤ longest

-- before any exchange
abbrev pub NoExchangeYet : Type 0
NoExchangeYet = (l : Library) (n : Netlist) → CanBeTimed l n → OnlyExchanges l n n

-- exchanges and one more
abbrev pub OneExchangeMore : Type 0
OneExchangeMore = (l : Library) (old mid new : Netlist) → OnlyExchanges l old mid → IsExchange l mid new → OnlyExchanges l old new

-- after an exchange a netlist can be timed, as before
abbrev pub ExchangesCanBeTimed : Type 0
ExchangesCanBeTimed = (l : Library) (n m : Netlist) → CanBeTimed l n → IsExchange l n m → CanBeTimed l m

-- after an exchange some step of the same kind leads between the same classes as each step before
abbrev pub StepsStay : Type 0
StepsStay = (l : Library) (n m : Netlist) → IsExchange l n m → HaveTheirArcs l → (s : Step)
    → (IsStep n l BeginsThere s → (t : Step) × IsStep m l BeginsThere t × (t.from ≡ s.from) × (t.to ≡ s.to))
    × (IsStep n l GoesThrough s → (t : Step) × IsStep m l GoesThrough t × (t.from ≡ s.from) × (t.to ≡ s.to))

-- steps of a netlist that stand, one by one, in the place of those of a path in another
pub data StandFor (n m : Netlist) (l : Library) : List Step → List Step → Type 0 where
  no_steps : StandFor n m l [] []
  one_step : {s t : Step} {path steps : List Step} → t.from ≡ s.from → t.to ≡ s.to → (IsStep n l BeginsThere s → IsStep m l BeginsThere t) → (IsStep n l GoesThrough s → IsStep m l GoesThrough t)
      → StandFor n m l path steps → StandFor n m l (s ∷ path) (t ∷ steps)

-- after an exchange the longest path takes at least as long as steps that stand in the place of those of a path to an end
abbrev pub PathsStay : Type 0
PathsStay = (l : Library) (n m : Netlist) (x : IsExchange l n m) (class time longest : ℕ) → IsEnd n l class
    → (p : TakesTo (IsStart n) (IsStep n l BeginsThere) (IsStep n l GoesThrough) class time) (steps : List Step) → StandFor n m l p.path steps
    → IsWorst m l longest → sum_by (λ s. s.delay) steps ≤ longest

-- an exchange for a drive that a table lists
pub record IsListedExchange (l : Library) (table : List (Vec ℕ)) (n m : Netlist) : Type 0 where
  pub exchange : IsExchange l n m
  pub from : ℕ
  pub stood : Stands l.cells from exchange.was
  pub to : ℕ
  pub stands : Stands l.cells to exchange.now
  pub listed : IsThere (drives_at table from) to

-- where none of these makes the longest path shorter, none does
abbrev pub TableIsEnough : Type 0
TableIsEnough = (l : Library) (table : List (Vec ℕ)) (n : Netlist) → IsDriveTable l.cells table → CanBeTimed l n
    → ((m : Netlist) (time other : ℕ) → IsListedExchange l table n m → IsWorst n l time → IsWorst m l other → time ≤ other)
    → IsDriven n l
