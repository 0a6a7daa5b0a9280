-- The figure of a netlist in rows without routes is that of routes without a tree.
use Rattle.std.proofs.Common.{◌≡◌, ℕ, ◌+◌, ◌*◌, List, [], ◌∷◌, ◌++◌, map, length, Some, sym, ap, subst, ◌∙◌, refl, arith}
use Rattle.std.specs.Prelude.{pos, ◌+ℤ◌, flat_map, slice_get}
use Rattle.std.proofs.lemmas.List.{append-nil}
use Rattle.vlsi_base.specs.declared.name.Name.{Name}
use Rattle.vlsi_base.specs.Names.{scalar}
use Rattle.sym_geom.specs.declared.grid.TheConstants.{PITCH, ROW_HEIGHT, FIRST_CELL_X}
use Rattle.sym_geom.specs.declared.rect.Rect.{Rect}
use Rattle.sym_geom.specs.declared.item.Instance.{Instance}
use Rattle.sym_geom.specs.declared.item.Item.{Item}
use Rattle.sym_geom.specs.declared.item.Item.TheVariants as item
use Rattle.ap_io.specs.declared.figure.Figure.{Figure}
use Rattle.cell_model.specs.Access.{count_to}
use Rattle.cell_model.specs.Layout.{instances_of}
use Rattle.cell_model.specs.Library.{Library}
use Rattle.net_core.specs.Netlist.{Netlist as InMemory}
use Rattle.net_meaning.specs.Netlist.{AbstractNetlist}
use Rattle.net_meaning.specs.Breaches.{Breaches}
use Rattle.net_right.specs.View.{IsSeenAs}
use Rattle.ocp_rows.specs.Placement.{Placement, IsPlaced, block_width, block_box, supply_ports, placed_ports, supplies_to, net_count}
use Rattle.ocp_place.specs.Nets.{net_number}
use Rattle.ocp_place.specs.Placed.{InRow, IsRowPlacementOf, rows_of, stood_in}
use Rattle.ocp_place.proofs.Classes.{known, known_seen}
use Rattle.net_drawing.specs.Shown.{KeepsNetlist, ShowsNetlist}
use Rattle.maze_drawing.specs.Wiring.{net_items}
use Rattle.maze_drawing.specs.Law.{IsRouted, RoutesKeepNets, RoutesShowNetlist, maze_wiring, maze_items}
use Rattle.maze_drawing.proofs.Lines.{its_instances}
use Rattle.ocp_grid.specs.Law.{PlacementsAreInRows}
use Rattle.ocp_grid.proofs.Apart.{no_routes, no_wiring, routed}
use Rattle.route_draw.specs.Pieces.{signal_names}
use Rattle.route_draw.specs.GridPieces.{bare_lines}
use Rattle.route_draw.specs.Grid.{AreDrawable, placed_items, IsDrawnInGrid, IsDrawnPlaced}
use Rattle.route_draw.proofs.Gridded.{bare_are, box_is}

no_lines : (f : ℕ → List Item) (ks : List ℕ) → ((k : ℕ) → f k ≡ []) → flat_map f ks ≡ []
no_lines f [] none = refl
no_lines f (k ∷ ks) none = ap (λ (is : List Item). is ++ flat_map f ks) (none k) ∙ no_lines f ks none

-- no wire is drawn of routes without a tree
bare_items : (n : AbstractNetlist) (l : Library) (p : Placement) (instances : List Instance) → maze_items n l p instances no_wiring ≡ placed_items n l p instances
bare_items n l p instances =
    let supplies = supplies_to (pos FIRST_CELL_X +ℤ block_width l p) p.rows in
    let nothing : maze_wiring n p.ports no_wiring ≡ [] = no_lines (λ k. net_items (slice_get p.ports k) (no_wiring k)) (count_to (net_count n)) (λ k. refl) in
    ap (λ (is : List Item). supply_ports ++ (placed_ports l p ++ (map item.Instance instances ++ (supplies ++ is)))) nothing
    ∙ ap (λ (is : List Item). supply_ports ++ (placed_ports l p ++ (map item.Instance instances ++ is))) (append-nil supplies)

module _ (l : Library) (n : InMemory) (p : InRow) (placed : IsRowPlacementOf l n p) (in_rows : PlacementsAreInRows) where
  routeless : (k : AbstractNetlist) → IsSeenAs n k → IsRouted k l (net_number k l) (rows_of k p) (stood_in k p) 6 no_routes no_wiring
  routeless k seen = routed k l (net_number k l) (rows_of k p) (stood_in k p) (in_rows l n p k placed seen)

  -- its instances
  pub placed_instances : (k : AbstractNetlist) → IsSeenAs n k → instances_of (placed_items k l (rows_of k p) (stood_in k p)) ≡ stood_in k p
  placed_instances k seen =
      ap instances_of (sym (bare_items k l (rows_of k p) (stood_in k p)))
      ∙ its_instances k l (net_number k l) (rows_of k p) (stood_in k p) 6 no_routes no_wiring (routeless k seen)

  module _ (keep : RoutesKeepNets) where
    right : (k : AbstractNetlist) → IsSeenAs n k → KeepsNetlist (placed_items k l (rows_of k p) (stood_in k p)) l k
        × Breaches (placed_items k l (rows_of k p) (stood_in k p)) l []
        × IsPlaced (block_box k l (rows_of k p)) (placed_items k l (rows_of k p) (stood_in k p)) k l (rows_of k p)
    right k seen =
        subst (λ (is : List Item). KeepsNetlist is l k × Breaches is l [] × IsPlaced (block_box k l (rows_of k p)) is k l (rows_of k p))
        (bare_items k l (rows_of k p) (stood_in k p))
        (keep k l (net_number k l) (rows_of k p) (stood_in k p) 6 no_routes no_wiring (routeless k seen))

    pub drawn_placed : (name : Name) (bounds : Rect) (items : List Item) → name ≡ scalar n.name → bounds.x1 ≡ pos 0 → bounds.y1 ≡ pos 0
        → bounds.x2 ≡ pos (FIRST_CELL_X + PITCH + p.width) → bounds.y2 ≡ pos (ROW_HEIGHT * length p.rows + 2 * PITCH) → items ≡ bare_lines (signal_names n.ports) n p
        → IsDrawnPlaced l n p (record { name = Some name; bounds = bounds; items = items })
    drawn_placed name bounds items named x1 y1 x2 y2 is = record {
      named = ap (λ (x : Name). Some x) named;
      lines = lines;
      box = box;
      lawful = subst (λ (xs : List Item). Breaches xs l []) (sym (lines its its_seen)) (right its its_seen).1;
      placed = λ k seen.
          subst (λ (r : Rect). IsPlaced r items k l (rows_of k p)) (sym (box k seen))
          (subst (λ (xs : List Item). IsPlaced (block_box k l (rows_of k p)) xs k l (rows_of k p)) (sym (lines k seen)) (right k seen).2);
    } where
      its : AbstractNetlist
      its = known n

      its_seen : IsSeenAs n its
      its_seen = known_seen n placed.drawable.sound

      lines : (k : AbstractNetlist) → IsSeenAs n k → items ≡ placed_items k l (rows_of k p) (stood_in k p)
      lines k seen = is ∙ bare_are l n p placed k seen

      box : (k : AbstractNetlist) → IsSeenAs n k → bounds ≡ block_box k l (rows_of k p)
      box k seen = box_is l n p placed bounds x1 y1 x2 y2 k seen

    -- the figure is one of routes without a tree
    pub drawable : AreDrawable l n p no_routes
    drawable = record { metals = 6; few = omega arith; trees = λ k seen j low. tt }

    pub as_grid : RoutesShowNetlist → (f : Figure) → IsDrawnPlaced l n p f → IsDrawnInGrid l n p no_routes f
    as_grid show f drawn = record {
      named = drawn.named;
      wiring = no_wiring;
      drawn = λ k seen. (routeless k seen).drawn;
      lines = lines;
      box = drawn.box;
      keeps = λ k seen. subst (λ (xs : List Item). KeepsNetlist xs l k) (sym (drawn.lines k seen)) (right k seen).0;
      lawful = drawn.lawful;
      placed = drawn.placed;
      shows = λ k seen whole.
          subst (λ (xs : List Item). ShowsNetlist xs l k) (sym (lines k seen))
          (show k l (net_number k l) (rows_of k p) (stood_in k p) 6 no_routes no_wiring (routeless k seen) whole);
    } where
      lines : (k : AbstractNetlist) → IsSeenAs n k → f.items ≡ maze_items k l (rows_of k p) (stood_in k p) no_wiring
      lines k seen = drawn.lines k seen ∙ sym (bare_items k l (rows_of k p) (stood_in k p))
