-- The lines of a figure with private tracks, piece by piece, from what is kept in memory.
use Rattle.std.specs.Prelude.{◌≤◌, ℕ, ◌+◌, ℤ, pos, List, [], ◌∷◌, ◌++◌, map, filter, flat_map, length, slice_get, Option, None, Some}
use Prim.Native.Nat.{suc}
use Rattle.vlsi_base.specs.declared.name.Name.{Name}
use Rattle.vlsi_base.specs.declared.name.Port.{Port}
use Rattle.vlsi_base.specs.Names.{vdd, vss}
use Rattle.sym_geom.specs.declared.grid.TheConstants.{WIRE_WIDTH, RAIL_WIDTH, VSS_RAIL_Y, VDD_RAIL_Y, VSS_STRAP_X, VDD_STRAP_X, FIRST_CELL_X}
use Rattle.sym_geom.specs.declared.rect.Transform.TheVariants.{NoSym}
use Rattle.sym_geom.specs.declared.layer.Layer.TheVariants.{Alu}
use Rattle.sym_geom.specs.declared.layer.Level.TheVariants.{One, Two, Three}
use Rattle.sym_geom.specs.declared.item.Contact.TheVariants.{Via1, Via2}
use Rattle.sym_geom.specs.declared.item.Item.{Item}
use Rattle.sym_geom.specs.declared.item.Item.TheVariants as item
use Rattle.cell_model.specs.Access.{Point}
use Rattle.net_core.specs.Netlist.{Instance}
use Rattle.ocp_rows.specs.Placement.{wire, level_wire, upright_wire, contact_at, track_y}
use Rattle.ocp_place.specs.Nets.{is_signal}
use Rattle.ocp_place.specs.Placed.{InRow}
use Rattle.ocp_place.specs.Spans.{shown_span}
use Rattle.nero_tracks.specs.declared.route.Track.{Track}
use Rattle.nero_tracks.specs.Tracks.{net_pins, ends_of}
use Rattle.net_drawing.specs.Drawing.{riser}
use Rattle.route_draw.specs.declared.lines.Wire.{Wire}
use Rattle.route_draw.specs.declared.lines.Spot.{Spot}

-- ---- single lines

-- a wire between two points in memory
abbrev pub wire_line : Wire → Option Name → Item
wire_line w name = wire w.direction w.layer (pos w.width) (pos w.from.x) (pos w.from.y) (pos w.to.x) (pos w.to.y) name

-- no further away than the coordinates here
pub record IsNear (s : Spot) : Type 0 where
  pub x : s.x ≤ 200000000000000
  pub y : s.y ≤ 200000000000000

-- ---- ports and instances

-- the names of the ports that are no supplies, in their order
abbrev pub signal_names : List Port → List Name
signal_names ports = filter is_signal (map (λ p. p.name) ports)

-- instances that begin at these places, as they are
abbrev pub instance_lines : List Instance → List ℕ → List Item
instance_lines [] xs = []
instance_lines (i ∷ is) [] = []
instance_lines (i ∷ is) (x ∷ xs) =
    item.Instance (record { x = pos x; y = pos 0; model = i.model; name = i.name; transform = NoSym }) ∷ instance_lines is xs

-- ---- supplies

-- the strap of a supply of one row, with its vias
abbrev pub strap_lines : ℕ → ℕ → Name → List Item
strap_lines x y name =
    upright_wire (Alu Three) (pos WIRE_WIDTH) (pos x) (pos y) (pos y) (Some name)
    ∷ contact_at Via1 (pos x) (pos y) (Some name) ∷ contact_at Via2 (pos x) (pos y) (Some name) ∷ []

-- the rails of one row that is so wide, and both straps
abbrev pub row_supplies : ℕ → List Item
row_supplies width =
    level_wire (Alu One) (pos RAIL_WIDTH) (pos VSS_STRAP_X) (pos (FIRST_CELL_X + width)) (pos VSS_RAIL_Y) (Some vss)
    ∷ level_wire (Alu One) (pos RAIL_WIDTH) (pos VSS_STRAP_X) (pos (FIRST_CELL_X + width)) (pos VDD_RAIL_Y) (Some vdd)
    ∷ (strap_lines VSS_STRAP_X VSS_RAIL_Y vss ++ strap_lines VDD_STRAP_X VDD_RAIL_Y vdd)

-- ---- nets

-- the track of net k
abbrev pub track_line : ℕ → Option Name → Option (ℤ × ℤ) → List Item
track_line k name None = []
track_line k name (Some r) = level_wire (Alu Two) (pos WIRE_WIDTH) r.0 r.1 (track_y k) name ∷ []

-- the track, then the terminals
abbrev pub net_lines : ℕ → Option Name → Option (ℤ × ℤ) → List Point → List Item
net_lines k name span pins = track_line k name span ++ flat_map (riser k name) pins

-- the nets of these tracks, the first of which is net k
abbrev pub all_lines : ℕ → List Name → InRow → List Track → List Item
all_lines k names p [] = []
all_lines k names p (t ∷ rest) =
    net_lines k (slice_get names k) (shown_span t.span) (net_pins (length p.ports) k (ends_of p t.class)) ++ all_lines (suc k) names p rest
