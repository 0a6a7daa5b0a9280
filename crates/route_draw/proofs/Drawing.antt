-- The figure that is drawn of a placed netlist.
use Rattle.std.proofs.Common.{◌≡◌, suc, ◌+◌, ◌<◌, ◌^◌, not, List, [], ◌∷◌, ◌++◌, length, filter, Some, false, refl, sym, ap, subst, ◌∙◌, arith}
use Rattle.std.specs.Prelude.{ℤ, pos, ◌+ℤ◌}
use Rattle.std.proofs.lemmas.List.{length-map, length-append}
use Rattle.vlsi_base.specs.declared.name.Name.{Name}
use Rattle.vlsi_base.specs.Names.{scalar}
use Rattle.sym_geom.specs.declared.grid.TheConstants.{PITCH, FIRST_CELL_X}
use Rattle.sym_geom.specs.declared.rect.Rect.{Rect}
use Rattle.sym_geom.specs.declared.item.Item.{Item}
use Rattle.cell_model.specs.Library.{Library}
use Rattle.cell_checks.specs.Checked.{IsChecked as HasPassed}
use Rattle.net_core.specs.Netlist.{Netlist as InMemory}
use Rattle.net_meaning.specs.Netlist.{Member, AbstractNetlist, port}
use Rattle.net_meaning.specs.Breaches.{Breaches}
use Rattle.net_right.specs.View.{member_of, IsSeenAs}
use Rattle.net_right.proofs.Terminals.{seen_instances}
use Rattle.ocp_rows.specs.Placement.{IsPlaced, supply_ports, track_ports, track_y, net_count, model_width, rows_width}
use Rattle.net_drawing.specs.Shown.{ShowsNetlist}
use Rattle.net_drawing.specs.Drawing.{track_items}
use Rattle.net_drawing.proofs.Netted.{drawings_are_right}
use Rattle.net_drawing.specs.Law.{one_row, track_box}
use Rattle.ocp_place.specs.Drawable.{IsDrawableIn}
use Rattle.ocp_place.specs.Nets.{is_among, signal_ports, net_number}
use Rattle.ocp_place.specs.Placed.{InRow, IsPlacementOf}
use Rattle.ocp_place.specs.Sites.{row_starts}
use Rattle.nero_tracks.specs.declared.route.Track.{Track}
use Rattle.nero_tracks.specs.Tracks.{AreTracks}
use Rattle.route_draw.specs.Drawn.{IsDrawnInTracks}
use Rattle.route_draw.specs.Pieces.{signal_names, instance_lines, row_supplies, all_lines}
use Rattle.ocp_place.proofs.Clean.{rect_is}
use Rattle.ocp_place.proofs.Classes.{known, known_seen}
use Rattle.ocp_place.proofs.Seen.{orderly}
use Rattle.route_draw.proofs.Joins.{rows_are, many, names_are, lines_are}
use Rattle.nero_tracks.specs.Columns.{HaveOwnColumns}
use Rattle.route_draw.proofs.Right.{netlists_are_drawable}

module _ (l : Library) (n : InMemory) (passed : HasPassed false l) (given : IsDrawableIn l n) (own : HaveOwnColumns l n) (p : InRow) (placement : IsPlacementOf l n p) (tracks : List Track) (are : AreTracks p tracks) where
  abbrev its_lines : List Item
  its_lines =
      supply_ports ++ (track_ports 0 (signal_names n.ports) ++ (instance_lines n.instances p.starts ++ (row_supplies p.width ++ all_lines 0 (signal_names n.ports) p tracks)))

  lines : (k : AbstractNetlist) → IsSeenAs n k → its_lines ≡ track_items k l (net_number k l) (signal_ports k)
  lines k seen =
      lines_are n l k seen (orderly l n passed given k seen) p (placement.row k seen) tracks are

  count : (k : AbstractNetlist) → IsSeenAs n k → length tracks ≡ net_count k
  count k seen =
      many n l k seen (orderly l n passed given k seen) p (placement.row k seen) tracks are

  -- the netlist of layouts that it is known by
  abbrev its_netlist : AbstractNetlist
  its_netlist = known n

  its_seen : IsSeenAs n its_netlist
  its_seen = known_seen n given.sound

  pub starts_many : length p.starts ≡ length n.instances
  starts_many =
      let row = placement.row its_netlist its_seen in
      sym (length-map p.starts pos) ∙ ap length row.starts ∙ rows its_netlist.instances (pos FIRST_CELL_X) ∙ ap length (seen_instances n its_netlist its_seen) ∙ length-map n.instances member_of
    where
      rows : (ms : List Member) (x : ℤ) → length (row_starts l x ms) ≡ length ms
      rows [] x = refl
      rows (one ∷ rest) x = ap suc (rows rest (x +ℤ model_width l one.model))

  pub tracks_few : length p.ends < 2 ^ 32 → length tracks < 2 ^ 32
  tracks_few low =
      let row = placement.row its_netlist its_seen in
      let c = count its_netlist its_seen in
      let e = row.many in
      omega (arith, low, c, e)

  pub names_few : length p.ends < 2 ^ 32 → length (signal_names n.ports) < 2 ^ 32
  names_few low =
      let row = placement.row its_netlist its_seen in
      let a = ap length (names_are n l its_netlist its_seen (orderly l n passed given its_netlist its_seen) p row tracks are) in
      let b = length-map (signal_ports its_netlist) (λ (name : Name). its_netlist.class (port name)) in
      let c = ap length row.ports in
      let d = length-map tracks (λ (t : Track). t.class) in
      let e = ap length are.classes in
      let f = length-append p.ports (filter (λ class. not (is_among p.ports class)) p.drivers) in
      let g = tracks_few low in
      omega (arith, a, b, c, d, e, f, g)

  pub drawn : (name : Name) (bounds : Rect) (items : List Item) → name ≡ scalar n.name → bounds.x1 ≡ pos 0 → bounds.y1 ≡ pos 0 → bounds.x2 ≡ pos (FIRST_CELL_X + PITCH + p.width)
      → bounds.y2 ≡ track_y (length tracks) → items ≡ its_lines → IsDrawnInTracks l n (record { name = Some name; bounds = bounds; items = items })
  drawn name bounds items named x1 y1 x2 y2 is = record {
    named = ap (λ (x : Name). Some x) named;
    lines = λ k seen. is ∙ lines k seen;
    box = box;
    shows = λ k seen. subst (λ (xs : List Item). ShowsNetlist xs l k) (sym (is ∙ lines k seen)) (right k seen).0;
    lawful = subst (λ (xs : List Item). Breaches xs l []) (sym (is ∙ lines its_netlist its_seen)) (right its_netlist its_seen).1;
    placed = λ k seen.
        subst (λ (r : Rect). IsPlaced r items k l (one_row k (signal_ports k))) (sym (box k seen))
        (subst (λ (xs : List Item). IsPlaced (track_box k l) xs k l (one_row k (signal_ports k))) (sym (is ∙ lines k seen)) (right k seen).2);
  } where
    right : (k : AbstractNetlist) → IsSeenAs n k → ShowsNetlist (track_items k l (net_number k l) (signal_ports k)) l k
        × Breaches (track_items k l (net_number k l) (signal_ports k)) l []
        × IsPlaced (track_box k l) (track_items k l (net_number k l) (signal_ports k)) k l (one_row k (signal_ports k))
    right k seen = drawings_are_right k l (net_number k l) (signal_ports k) (netlists_are_drawable l n k passed given own seen)

    box : (k : AbstractNetlist) → IsSeenAs n k → bounds ≡ track_box k l
    box k seen =
        let row = placement.row k seen in
        let wide : pos (FIRST_CELL_X + PITCH + p.width) ≡ (pos (FIRST_CELL_X + PITCH) +ℤ rows_width l (k.instances ∷ [])) =
        ap (λ (z : ℤ). pos (FIRST_CELL_X + PITCH) +ℤ z) (sym (rows_are l p.width k.instances row.width)) in
        rect_is bounds (pos 0) (pos 0) (pos (FIRST_CELL_X + PITCH) +ℤ rows_width l (k.instances ∷ [])) (track_y (net_count k)) x1 y1 (x2 ∙ wide) (y2 ∙ ap track_y (count k seen))
