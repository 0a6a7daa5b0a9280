-- The cells of a netlist, as a row of their instances asks for them: how wide they are, and where their pins are reached.
use Rattle.std.specs.Prelude.{◌≡◌, ◌≤◌, ◌+◌, ℕ, ℤ, pos, List, [], ◌∷◌, map, filter, not, flat_map, length, slice_index, slice_index_or, Option, None, Some, option_map}
use Rattle.vlsi_base.specs.declared.name.Port.{Port}
use Rattle.machine_core.specs.Machine.{is_input, names_of}
use Rattle.cell_model.specs.Cell.{Cell, pin_ports, cell_width}
use Rattle.cell_model.specs.Library.{Library, cell_of, IsUsable}
use Rattle.cell_model.specs.Access.{Point, access_point}
use Rattle.cell_pins.specs.Pins.{all_ports}
use Rattle.cell_checks.specs.Points.{point_of}
use Rattle.cell_checks.specs.declared.points.GridPoint.{GridPoint}
use Rattle.net_core.specs.Places.{Stands}
use Rattle.ocp_place.specs.declared.reach.PinReach.{PinReach}
use Rattle.ocp_place.specs.declared.reach.Reach.{Reach}
use Rattle.ocp_place.specs.declared.row.Site.{Site as Placed}
use Rattle.row_meaning.specs.Length.{y_at}
use Rattle.ocp_place.specs.Sites.{Site, site_at}
use Rattle.ocp_place.specs.Stood.{point_site}

-- a pin of a cell: its place among all pins with vdd and vss, whether it is an output, and where it is reached
pub record IsPinReach (c : Cell) (p : Port) (r : PinReach) : Type 0 where
  pub place : Stands (names_of (all_ports c)) r.place p.name
  pub drives : r.drives ≡ not (is_input p.dir)
  pub point : option_map point_of r.point ≡ access_point c p.name

-- each of some ports in turn
pub data ArePinReaches (c : Cell) : List Port → List PinReach → Type 0 where
  no_pins : ArePinReaches c [] []
  one_pin : {p : Port} {r : PinReach} {ports : List Port} {reaches : List PinReach}
      → IsPinReach c p r → ArePinReaches c ports reaches → ArePinReaches c (p ∷ ports) (r ∷ reaches)

-- the width of a cell, at most that of 32 columns, and all its signal pins
pub record IsReach (c : Cell) (r : Reach) : Type 0 where
  pub width : pos r.width ≡ cell_width c
  pub narrow : r.width ≤ 16000
  pub pins : ArePinReaches c (pin_ports c) r.pins.items

-- the reaches of the models of a netlist: that of each which is a usable cell of the library
pub record AreReaches (l : Library) (models : List (List ℕ)) (reaches : List Reach) : Type 0 where
  pub many : length reaches ≡ length models
  pub each : (k : ℕ) (model : List ℕ) (c : Cell) (d : Reach) → Stands models k model → cell_of l model ≡ Some c → IsUsable c
      → IsReach c (slice_index_or reaches k d)

-- a site in memory
abbrev pub site_of : Placed → Site
site_of s = (s.class, (pos s.x, pos s.y))

-- the sites of pins, and the classes of those that are outputs, where all pins of the instance have these classes
abbrev pub reached_sites : ℤ → List ℕ → List PinReach → List Site
reached_sites x classes pins = flat_map (λ r. site_at (slice_index classes r.place) x (option_map point_of r.point)) pins

-- the point of a pin in an instance that begins at x in row r
abbrev pub spot_point : ℕ → ℕ → Option GridPoint → Option Point
spot_point x r None = None
spot_point x r (Some q) = Some (pos (x + q.x), pos (y_at r q.y))

-- the sites of its pins, where all pins of the instance have these classes
abbrev pub spot_sites : ℕ → ℕ → List ℕ → List PinReach → List Site
spot_sites x r classes pins = flat_map (λ p. point_site (slice_index classes p.place) (spot_point x r p.point)) pins

abbrev pub reached_drivers : List ℕ → List PinReach → List ℕ
reached_drivers classes pins = map (λ r. slice_index classes r.place) (filter (λ r. r.drives) pins)
