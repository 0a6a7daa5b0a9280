-- A netlist may be drawn over a checked library where pins have columns of their own, and the drawing of a right one gives it.
use Rattle.std.proofs.Common.{◌≡◌, List, Some, sym, ◌∙◌, subst}
use Rattle.std.proofs.lemmas.Option.{same_Some}
use Rattle.machine_core.specs.Machine.{names_of}
use Rattle.cell_model.specs.Cell.{Cell}
use Rattle.vlsi_base.specs.Member.{In}
use Rattle.cell_model.specs.Library.{Library, cell_of}
use Rattle.cell_model.proofs.Members.{In-map_back}
use Rattle.cell_pins.specs.Pins.{all_ports}
use Rattle.net_core.specs.Netlist.{Netlist as InMemory}
use Rattle.net_right.specs.Right.{HasPinsOfCells}
use Rattle.net_meaning.specs.Netlist.{Member}
use Rattle.net_right.specs.View.{member_of}
use Rattle.net_right.proofs.Lists.{in_place}
use Rattle.net_right.proofs.Terminals.{seen_instances}
use Rattle.net_drawing.specs.Clean.{PinColumnsDiffer}
use Rattle.net_right.proofs.Seen.{seen_is_well_formed}
use Rattle.net_drawing.proofs.Untied.{untied_is_extracted}
use Rattle.ocp_place.specs.Drawable.{IsDrawableIn}
use Rattle.ocp_place.proofs.Seen.{own_cell, orderly}
use Rattle.nero_tracks.proofs.Numbered.{nets_are_numbered}
use Rattle.route_draw.specs.Law.{NetlistsAreDrawable, RightDrawingsAreRight, RightGridDrawingsAreRight}

pub netlists_are_drawable : NetlistsAreDrawable
netlists_are_drawable l n k passed given own seen = nets_are_numbered k l (orderly l n passed given k seen) columns where
  columns : (one : Member) (c : Cell) → In one k.instances → cell_of l one.model ≡ Some c → PinColumnsDiffer c
  columns one c h found =
      let r = In-map_back member_of one n.instances (subst (λ (ms : List Member). In one ms) (seen_instances n k seen) h) in
      (own r.0 c (in_place r.0 n.instances r.1) (subst (λ (x : Member). cell_of l x.model ≡ Some c) (sym r.2) found)).same

its_pins : (l : Library) (n : InMemory) → IsDrawableIn l n → HasPinsOfCells n l
its_pins l n given i c there found =
    let own = own_cell l n given i there in
    let same : own.cell ≡ c = same_Some own.cell c (sym own.found ∙ found) in
    subst (λ (x : Cell). i.pins ≡ names_of (all_ports x)) same own.pins

pub right_drawings_are_right : RightDrawingsAreRight
right_drawings_are_right l n m k f passed given checked right seen drawn =
    let well = (seen_is_well_formed n l m k given.sound checked right (its_pins l n given) seen).0 in
    let counted = (orderly l n passed given k seen).counted in
    untied_is_extracted f.items l k (drawn.shows k seen) (record { high = well.high; low = well.low; numbered = counted.numbered; used = counted.used })

pub right_grid_drawings_are_right : RightGridDrawingsAreRight
right_grid_drawings_are_right l n m k p routes f placed checked right seen drawn whole =
    let given = placed.drawable in
    let well = (seen_is_well_formed n l m k given.sound checked right (its_pins l n given) seen).0 in
    let counted = (orderly l n placed.passed given k seen).counted in
    untied_is_extracted f.items l k (drawn.shows k seen whole) (record { high = well.high; low = well.low; numbered = counted.numbered; used = counted.used })
