-- A netlist that may be drawn, once it is placed in rows, routed and drawn, is a right layout; or it shows that a net got stuck.
use Rattle.std.proofs.Common.{◌≡◌, ℕ, ◌-◌, ◌≤◌, false, List, [], ◌++◌, length, Some, inl, inr, refl, sym, ◌∙◌, ap, subst, arith}
use Rattle.vlsi_base.specs.Names.{scalar}
use Rattle.vlsi_base.specs.declared.name.Terminal.{Terminal}
use Rattle.machine_core.specs.Machine.{Machine}
use Rattle.machine_core.specs.Alike.{AlikeRun, AlikeBothWays}
use Rattle.machine_roots.specs.Roots.{IsGreatestDcount}
use Rattle.sym_geom.specs.declared.rect.Rect.{Rect}
use Rattle.sym_geom.specs.declared.item.Item.{Item}
use Rattle.ap_io.specs.declared.figure.Figure.{Figure}
use Rattle.ap_io.specs.ApText.{IsApLines}
use Rattle.ap_io.specs.Laws.{LinesAreReadAgain}
use Rattle.cell_model.specs.Library.{Library}
use Rattle.cell_checks.specs.Checked.{IsChecked as HasPassed}
use Rattle.net_core.specs.Netlist.{Netlist}
use Rattle.net_meaning.specs.Netlist.{AbstractNetlist as Seen}
use Rattle.net_meaning.specs.Breaches.{Breaches}
use Rattle.net_right.specs.View.{IsSeenAs}
use Rattle.net_right.specs.Laws.{RightIsWellFormed}
use Rattle.net_drawing.specs.Shown.{KeepsNetlist}
use Rattle.ocp_rows.specs.Placement.{IsPlaced, net_count}
use Rattle.ocp_place.specs.Nets.{net_number}
use Rattle.ocp_place.specs.Placed.{InRow, IsRowPlacementOf, rows_of, stood_in}
use Rattle.ocp_anneal.specs.Rows.{IsWellPlaced}
use Rattle.grid_core.specs.Routes.{NetRoutes}
use Rattle.maze_drawing.specs.Wiring.{Wiring}
use Rattle.maze_drawing.specs.Law.{IsRouted, maze_items, part_items, marks, RoutesKeepNets, MarkedRoutesKeepNets}
use Rattle.ocp_grid.specs.Law.{PlacementsAreInRows}
use Rattle.ocp_grid.specs.Points.{AreRoutesOf}
use Rattle.nero_nets.specs.Marks.{TellsNets}
use Rattle.nero_nets.specs.Law.{MarksTellNets}
use Rattle.route_draw.specs.Grid.{AreDrawable, IsDrawnInGrid}
use Rattle.route_draw.specs.Law.{GridDrawingCanBeWritten, MarkedDrawingCanBeWritten, RightGridDrawingsAreRight}
use Rattle.flow_netlist.specs.Laws.{DrivenIsGood}
use Rattle.flow_run.specs.Origin.{Origin}
use Rattle.flow_run.specs.Report.{report_by}
use Rattle.flow_run.specs.Route.{InRows, over_rows}
use Rattle.flow_run.specs.RightLayout.{IsRightLayout}
use Rattle.flow_run.specs.StuckLayout.{IsStuckLayout}
use Rattle.flow_run.specs.Drawn.{MayBeDrawn, IsLengthInRows, IsStuckAs}
use Rattle.tool_drive.specs.declared.tool.Refusal.{Refusal}
use Rattle.tool_drive.specs.Table.{IsFair}
use Rattle.nero_run.specs.declared.written.NoRoutes.{NoRoutes}
use Rattle.nero_run.specs.declared.written.NoRoutes.TheVariants as none
use Rattle.nero_run.specs.RowText.{IsRoutedText, IsStuckText, LacksRoutes, IsRefusedSo}
use Rattle.flow_run.proofs.Drawing.{right_for, report_same}

-- the routes of a placement that is drawn
routed : PlacementsAreInRows → (l : Library) (n : Netlist) (p : InRow) (k : Seen) (metals : ℕ) (routes : NetRoutes) (f : Figure) → IsRowPlacementOf l n p → IsSeenAs n k
    → metals ≤ 6 → AreRoutesOf l n p metals routes → (drawn : IsDrawnInGrid l n p routes f)
    → IsRouted k l (net_number k l) (rows_of k p) (stood_in k p) metals routes drawn.wiring
routed rows l n p k metals routes f placed seen few trees drawn =
    let r = rows l n p k placed seen in
    record {
      nets = r.nets;
      no_tracks = r.no_tracks;
      rows = r.rows;
      each_once = r.each_once;
      stands = r.stands;
      listed = r.listed;
      few_metals = few;
      trees = trees k seen;
      drawn = drawn.drawn k seen;
    }

-- ---- whole

pub row_layout : RightIsWellFormed → RightGridDrawingsAreRight → GridDrawingCanBeWritten → LinesAreReadAgain → AlikeRun → AlikeBothWays → DrivenIsGood
    → PlacementsAreInRows
    → (l : Library) (o : Origin) (m : Machine) (fanout : ℕ) (n : Netlist) (delay : ℕ) (p : InRow) (a : InRows) (bytes : List ℕ) (long nodes : ℕ) (report : List ℕ)
    → HasPassed false l → MayBeDrawn false l o m fanout n delay → IsRowPlacementOf l n p → IsWellPlaced l n a.rows a.seed a.moves p → a.metals ≤ 6
    → IsRoutedText l n p a.metals bytes → IsLengthInRows l n p long → IsGreatestDcount m nodes
    → report ≡ report_by o m nodes (length n.instances) (n.count - 2) delay long 0 → IsRightLayout bytes o m l fanout (over_rows a) report
row_layout well extracted written again runs back good in_rows l o m fanout n delay p a bytes long nodes report passed h placed good_rows few t measured counted
    reported =
    let right = h.netlist.right in
    let k = right.sourced.netlist in
    let seen = right.seen in
    let r = right_for well runs back good false l o m fanout n delay passed h in
    let drawn = t.shown.drawn in
    let f = t.shown.figure in
    let ports = h.soon.ports in
    let drawable : AreDrawable l n p t.routes = record { metals = a.metals; few = few; trees = t.routed.trees } in
    let fits = written l n p t.routes f placed drawable h.soon.named h.soon.short h.soon.few (omega (arith, ports)) drawn in
    record {
      figure = f;
      netlist = k;
      placement = rows_of k p;
      file = subst (λ (b : List ℕ). IsApLines b f) (sym t.shown.text) (again f fits.0 fits.1);
      named = drawn.named ∙ ap (λ (name : List ℕ). Some (scalar name)) r.named;
      extracts = extracted l n h.o k p t.routes f placed h.ordered right seen drawn (t.routed.whole k seen);
      well = r.well;
      agrees = r.agrees;
      by_states = r.by_states;
      lawful = drawn.lawful;
      is_placed = drawn.placed k seen;
      many_buffers = r.many_buffers;
      in_order = record {
        order = r.order;
        grid = record {
          instances = stood_in k p;
          routes = t.routes;
          wiring = drawn.wiring;
          over = record {
            good = good_rows k seen;
            routed = routed in_rows l n p k a.metals t.routes f placed seen few t.routed.trees drawn;
          };
          ordered = t.routed.ordered k seen;
          lines = drawn.lines k seen;
        };
      };
      lean = r.lean;
      tight = r.tight;
      delay = delay;
      driven = r.driven;
      nodes = nodes;
      counted = counted;
      reported = reported ∙ report_same o m nodes delay l n k (rows_of k p) long seen (measured k seen);
    }

-- ---- stuck

pub stuck_layout : RightIsWellFormed → MarkedDrawingCanBeWritten → LinesAreReadAgain → AlikeRun → AlikeBothWays → DrivenIsGood → PlacementsAreInRows → RoutesKeepNets
    → MarkedRoutesKeepNets → MarksTellNets
    → (l : Library) (o : Origin) (m : Machine) (fanout : ℕ) (n : Netlist) (delay : ℕ) (p : InRow) (a : InRows) (net : ℕ) (terminal : Terminal) (bytes : List ℕ)
    → HasPassed false l → MayBeDrawn false l o m fanout n delay → n.count ≤ 4294967296 → IsRowPlacementOf l n p → IsWellPlaced l n a.rows a.seed a.moves p
    → a.metals ≤ 6 → IsStuckText l n p a.metals net terminal bytes → IsStuckLayout bytes o m l fanout a net terminal
stuck_layout well written again runs back good in_rows keeps marked_keeps tells l o m fanout n delay p a net terminal bytes passed h counted placed good_rows few t =
    let right = h.netlist.right in
    let k = right.sourced.netlist in
    let seen = right.seen in
    let r = right_for well runs back good false l o m fanout n delay passed h in
    let q = rows_of k p in
    let instances = stood_in k p in
    let plain = t.shown.plain in
    let drawn = t.shown.drawn in
    let f = t.shown.figure in
    let marked = t.shown.marked in
    let w : Wiring = drawn.wiring in
    let ports = h.soon.ports in
    let drawable : AreDrawable l n p t.routes = record { metals = a.metals; few = few; trees = t.trees } in
    let fits = written l n p t.routes plain f placed drawable h.soon.named h.soon.short h.soon.few (omega (arith, ports)) drawn marked in
    let over = routed in_rows l n p k a.metals t.routes plain placed seen few t.trees drawn in
    let lines : f.items ≡ part_items k l (net_number k l) q instances w =
    marked.lines k seen ∙ ap (λ (items : List Item). items ++ marks k l (net_number k l) q instances) (drawn.lines k seen) in
    let same : net_count k ≡ n.count - 2 = ap (λ (x : Seen). net_count x) seen.is in
    let many : net_count k ≤ 18446744073709551616 = omega (arith, same, counted) in
    let both = marked_keeps k l (net_number k l) q instances a.metals t.routes w over in
    record {
      figure = f;
      netlist = k;
      placement = q;
      file = subst (λ (b : List ℕ). IsApLines b f) (sym t.shown.text) (again f fits.0 fits.1);
      named = marked.name ∙ drawn.named ∙ ap (λ (name : List ℕ). Some (scalar name)) r.named;
      told = subst (λ (items : List Item). TellsNets items k l q) (sym lines) (tells k l (net_number k l) q instances w (in_rows l n p k placed seen) many);
      well = r.well;
      agrees = r.agrees;
      by_states = r.by_states;
      many_buffers = r.many_buffers;
      order = r.order;
      lean = r.lean;
      tight = r.tight;
      delay = delay;
      driven = r.driven;
      instances = instances;
      routes = t.routes;
      wiring = w;
      over = record { good = good_rows k seen; routed = over };
      stuck = t.stuck k seen;
      lines = lines;
      is_placed = subst (λ (b : Rect). IsPlaced b (maze_items k l q instances w) k l q) (sym (marked.box ∙ drawn.box k seen))
          (keeps k l (net_number k l) q instances a.metals t.routes w over).2;
      keeps = subst (λ (items : List Item). KeepsNetlist items l k) (sym lines) both.0;
      lawful = subst (λ (items : List Item). Breaches items l []) (sym lines) both.1;
    }

-- the refusal of a placement without whole routes
pub stuck_or_memory : (l : Library) (n : Netlist) (p : InRow) (out : List ℕ) (o : Origin) (m : Machine) (fanout : ℕ) (a : InRows) (lack : NoRoutes) (r : Refusal)
    → ((net : ℕ) (terminal : Terminal) (bytes : List ℕ) → IsStuckText l n p a.metals net terminal bytes → IsStuckLayout bytes o m l fanout a net terminal)
    → LacksRoutes l n p a.metals lack → IsRefusedSo out lack r → IsFair r.status r.part (IsStuckAs out o m l fanout a r)
stuck_or_memory l n p out o m fanout a none.Memory r shows lacks is =
    subst (λ (x : Refusal). IsFair x.status x.part (IsStuckAs out o m l fanout a x)) (sym is) refl
stuck_or_memory l n p out o m fanout a (none.NoPath net terminal bytes) r shows lacks (inl is) =
    subst (λ (x : Refusal). IsFair x.status x.part (IsStuckAs out o m l fanout a x)) (sym is) refl
stuck_or_memory l n p out o m fanout a (none.NoPath net terminal bytes) r shows lacks (inr is) =
    subst (λ (x : Refusal). IsFair x.status x.part (IsStuckAs out o m l fanout a x)) (sym is)
    (record { net = net; terminal = terminal; status = refl; bytes = bytes; part = refl; right = shows net terminal bytes lacks })
