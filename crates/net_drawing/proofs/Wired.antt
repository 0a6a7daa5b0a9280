-- All shapes of the drawing are those of the block by numbers.
use Rattle.std.proofs.Common.{◌≡◌, List, [], ◌∷◌, ◌++◌, map, refl, sym, ap, ◌∙◌, arith}
use Rattle.std.specs.Prelude.{pos}
use Rattle.std.proofs.lemmas.List.{append-nil, map-append}
use Rattle.vlsi_base.specs.declared.name.Name as name
use Rattle.sym_geom.specs.declared.rect.Transform.TheVariants.{NoSym}
use Rattle.sym_geom.specs.declared.item.Item.TheVariants as item
use Rattle.sym_shapes.specs.Shape.{connector_names}
use Rattle.cell_model.specs.Layout as layout
use Rattle.cell_model.specs.Library.{Library}
use Rattle.cell_model.specs.Layout.{instances_of, all_instances_show}
use Rattle.net_meaning.specs.Netlist.{AbstractNetlist}
use Rattle.vlsi_base.specs.Names.{vdd, vss}
use Rattle.ocp_rows.specs.Placement.{standing, supplies, track_ports, net_count}
use Rattle.block_geom.specs.Figure.{drawn_shapes}
use Rattle.block_geom.specs.Block as block
use Rattle.block_geom.specs.Block.{Tagged}
use Rattle.block_geom.specs.Tracks.{drawn_track, terminal_lines, blank_lines, supply_lines, net_lines, port_lines, block_lines}
use Rattle.block_geom.proofs.Lists.{line_of}
use Rattle.net_drawing.specs.Picture.{shown}
use Rattle.net_drawing.specs.Drawing.{Numbering, net_wiring, wiring, track_items, IsDrawable}
use Rattle.net_drawing.proofs.Coding.{name_or}
use Rattle.net_drawing.proofs.Pieces.{Same, next, Same_append, same_drawn, Wires, Wires_append, Drawn, count_drawn, no_instances, no_names}
use Rattle.net_drawing.proofs.Numbers.{low, high, own, call}
use Rattle.net_drawing.proofs.Row.{block_of}
use Rattle.net_drawing.proofs.Shown.{instances_append, connectors_append, instances_back, instances_quiet, ports_still, ports_named, instances_same, ports_same, blanks_same, supplies_drawn}
use Rattle.net_drawing.proofs.Tracked.{net_drawn}

module _ (n : AbstractNetlist) (l : Library) (net : Numbering) (ports : List name.Name) (ok : IsDrawable n l net ports) where
  pub wiring_drawn : Drawn (shown (own n) (call n l ports)) (wiring n l net ports) (net_lines (block_of n l net ports) (low n l net ports) (high n l net ports))
  wiring_drawn =
      count_drawn (shown (own n) (call n l ports)) (net_count n) (net_wiring n l net ports)
      (λ k. drawn_track (block_of n l net ports) (low n l net ports) (high n l net ports) k ++ terminal_lines (block_of n l net ports) k) (λ k lt. net_drawn n l net ports ok k lt)

  lines_same : Same (shown (own n) (call n l ports)) (track_items n l net ports) (block_lines (block_of n l net ports) (low n l net ports) (high n l net ports))
  lines_same =
      let s = shown (own n) (call n l ports) in
      let b = block_of n l net ports in
      next (λ k. refl) (next (λ k. refl)
      (Same_append s (track_ports 0 ports) _ (port_lines b) _ (ports_same n l net ports ok 0 ports (λ j. j) (λ j m h. (omega arith, ap name_or h)))
      (Same_append s (map item.Instance (standing l NoSym (pos 0) (pos 1500) n.instances)) _ (blank_lines b) _ (blanks_same n l net ports ok (pos 1500) n.instances)
      (Same_append s (supplies l (n.instances ∷ [])) (wiring n l net ports) (supply_lines b) (net_lines b (low n l net ports) (high n l net ports)) (supplies_drawn n l net ports ok).same wiring_drawn.same))))

  rest_wires : Wires (supplies l (n.instances ∷ []) ++ wiring n l net ports)
  rest_wires = Wires_append (supplies l (n.instances ∷ [])) (wiring n l net ports) (supplies_drawn n l net ports ok).wires wiring_drawn.wires

  pub its_instances : instances_of (track_items n l net ports) ≡ standing l NoSym (pos 0) (pos 1500) n.instances
  its_instances =
      let is = standing l NoSym (pos 0) (pos 1500) n.instances in
      let rest = supplies l (n.instances ∷ []) ++ wiring n l net ports in
      instances_append (track_ports 0 ports) (map item.Instance is ++ rest)
      ∙ ap (λ v. v ++ instances_of (map item.Instance is ++ rest)) (ports_still 0 ports)
      ∙ instances_append (map item.Instance is) rest
      ∙ ap (λ v. v ++ instances_of rest) (instances_back is)
      ∙ ap (λ v. is ++ v) (no_instances rest rest_wires)
      ∙ append-nil is

  pub its_names : connector_names (track_items n l net ports) ≡ vss ∷ (vdd ∷ ports)
  its_names =
      let is = standing l NoSym (pos 0) (pos 1500) n.instances in
      let rest = supplies l (n.instances ∷ []) ++ wiring n l net ports in
      ap (λ v. vss ∷ (vdd ∷ v))
      (connectors_append (track_ports 0 ports) (map item.Instance is ++ rest)
      ∙ ap (λ v. v ++ connector_names (map item.Instance is ++ rest)) (ports_named 0 ports)
      ∙ ap (λ v. ports ++ v) (connectors_append (map item.Instance is) rest ∙ ap (λ v. v ++ connector_names rest) (instances_quiet is) ∙ no_names rest rest_wires)
      ∙ append-nil ports)

  pub its_shapes : layout.shapes (track_items n l net ports) l ≡ map (shown (own n) (call n l ports)) (block.shapes (block_of n l net ports) (block_lines (block_of n l net ports) (low n l net ports) (high n l net ports)))
  its_shapes =
      let s = shown (own n) (call n l ports) in
      let b = block_of n l net ports in
      let ts = block_lines b (low n l net ports) (high n l net ports) in
      ap (λ v. v ++ all_instances_show l (instances_of (track_items n l net ports))) (same_drawn s (track_items n l net ports) ts lines_same 0)
      ∙ ap (λ v. map (shown (own n) (call n l ports)) (drawn_shapes 0 (map line_of ts)) ++ v) (ap (all_instances_show l) its_instances ∙ instances_same n l net ports ok)
      ∙ sym (map-append s (drawn_shapes 0 (map line_of ts)) (block.instance_shapes b))
