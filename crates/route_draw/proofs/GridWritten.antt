-- The figure of routes over rows can be written, with or without marks.
use Rattle.std.proofs.Common.{◌≡◌, ◌≢◌, inl, inr, ⊎_elim, ℕ, ◌+◌, ◌*◌, ◌<◌, ◌≤◌, Bool, false, not, List, [], ◌∷◌, ◌++◌, map, length, max, Option, Some, refl, sym, ap, subst, ◌∙◌, arith, length-append}
use Rattle.std.specs.Prelude.{ℤ, pos, ◌+ℤ◌, ◌/◌, AllPairs, flat_map, slice_get}
use Rattle.std.specs.Int.{int_max}
use Rattle.std.specs.List.{AllByRecursion}
use Rattle.std.proofs.lemmas.Int.{ints, int_max_is}
use Rattle.std.proofs.lemmas.List.{length-map}
use Rattle.std.proofs.lemmas.List.Sorted.{length_permutation, IsPermutation-sym}
use Rattle.vlsi_base.specs.declared.name.Name.{Name}
use Rattle.vlsi_base.specs.Member.{In, here, there}
use Rattle.sym_geom.specs.declared.rect.Transform.{Transform}
use Rattle.sym_geom.specs.declared.item.Instance.{Instance}
use Rattle.sym_geom.specs.declared.item.Item.{Item}
use Rattle.sym_geom.specs.declared.item.Item.TheVariants as item
use Rattle.ap_io.specs.declared.figure.Figure.{Figure}
use Rattle.ap_io.specs.ApText.{IsLine, IsItemWithin, IsFigure, HasNearLines, instance_names}
use Rattle.cell_model.specs.Library.{Library}
use Rattle.cell_model.specs.Layout.{instances_of}
use Rattle.cell_model.specs.Access.{count_to}
use Rattle.net_core.specs.Netlist.{Instance as Part, Netlist as InMemory}
use Rattle.net_meaning.specs.Netlist.{Member, AbstractNetlist}
use Rattle.net_right.specs.View.{member_of, IsSeenAs}
use Rattle.net_right.specs.Writable.{CanBeNamed, HasShortNames}
use Rattle.net_right.proofs.Lists.{map_twice}
use Rattle.net_right.proofs.Terminals.{seen_instances}
use Rattle.ocp_rows.specs.Placement.{Placement, row_width, rows_width, natural, block_width, block_columns, turn_of, standing, standing_rows, port_column, grid_ports, supply_ports, supplies_to, net_count}
use Rattle.net_drawing.specs.Drawing.{Numbering}
use Rattle.net_drawing.proofs.Cells.{In_first, In_last}
use Rattle.ocp_place.specs.Nets.{signal_ports, net_number}
use Rattle.ocp_place.specs.Placed.{InRow, IsRowPlacementOf, rows_of, stood_in}
use Rattle.ocp_place.specs.Stood.{member, named_rows}
use Rattle.ocp_place.proofs.Classes.{known, known_seen}
use Rattle.grid_core.specs.declared.grid.Node.{Node}
use Rattle.grid_core.specs.Grid.{IsInGrid, ahead, above}
use Rattle.grid_core.specs.Routes.{NetRoutes, tree_nodes}
use Rattle.grid_core.proofs.Lists.{In_either}
use Rattle.maze_drawing.specs.Wiring.{Wire, HasVia, in_tree, at_terminal, wire_item, via_item, net_items}
use Rattle.maze_drawing.specs.Points.{grid_over, terminal_nodes, port_nodes, net_nodes, reserved, via_nodes}
use Rattle.maze_drawing.specs.Law.{IsRouted, maze_wiring, mark, marks}
use Rattle.maze_drawing.proofs.Rows.{permuted_in, In_flat}
use Rattle.maze_drawing.proofs.Trees.{neighbours_in, run_in}
use Rattle.maze_drawing.proofs.Wired.{bounds_of, free_in}
use Rattle.ocp_grid.specs.Law.{IsInRows, PlacementsAreInRows, PointsAreApart}
use Rattle.route_draw.specs.Law.{HasFewPins, GridDrawingCanBeWritten, MarkedDrawingCanBeWritten}
use Rattle.route_draw.specs.Grid.{AreDrawable, IsDrawnInGrid, IsMarked}
use Rattle.route_draw.proofs.Goods.{IsGood, IsGoodLabel, word_of, instance_good}
use Rattle.route_draw.proofs.Spread.{IsModelOf, stood, standing_is, spread, row_is}
use Rattle.route_draw.proofs.Written.{all_in, all_so, all_of, near_pos, supply_ports_good, label_at, names_listed, apart, IsNamedWell, IsBoxWithin, few_members, few_names, few_tracks, models, labels, named_well}
use Rattle.route_draw.proofs.Rows.{supplies_are}
use Rattle.route_draw.proofs.Gridded.{wide_columns}
use Rattle.route_draw.proofs.Fits.{IsFit, AreFit, fit, fit_append, map_fit, numbered_fit, port_column_low, ports_fit, supplies_fit, IsNearNode, wire_fit, via_fit, mark_fit}

-- ---- names of instances

names_append : (xs ys : List Item) → instance_names (xs ++ ys) ≡ instance_names xs ++ instance_names ys
names_append [] ys = refl
names_append (item.Segment s ∷ rest) ys = names_append rest ys
names_append (item.Connector c ∷ rest) ys = names_append rest ys
names_append (item.Via v ∷ rest) ys = names_append rest ys
names_append (item.Instance i ∷ rest) ys = ap (λ (names : List (List ℕ)). i.name ∷ names) (names_append rest ys)
names_append (item.Reference r ∷ rest) ys = names_append rest ys
names_append (item.Remark text ∷ rest) ys = names_append rest ys

no_names : {A : Type 0} (f : A → List Item) (xs : List A) → ((x : A) → instance_names (f x) ≡ []) → instance_names (flat_map f xs) ≡ []
no_names f [] each = refl
no_names f (x ∷ xs) each =
    names_append (f x) (flat_map f xs) ∙ ap (λ (names : List (List ℕ)). names ++ instance_names (flat_map f xs)) (each x) ∙ no_names f xs each

marks_quiet : (k : ℕ) (points : List Node) → instance_names (map (mark k) points) ≡ []
marks_quiet k [] = refl
marks_quiet k (q ∷ points) = marks_quiet k points

append_none : (xs : List (List ℕ)) → xs ++ [] ≡ xs
append_none [] = refl
append_none (x ∷ xs) = ap (λ (ys : List (List ℕ)). x ∷ ys) (append_none xs)

-- ---- rows

row_short : (rows : List (List Member)) (row : List Member) → In row rows → length row ≤ length (flat_map (λ r. r) rows)
row_short [] row h = elim h [ ]
row_short (x ∷ rows) row here = let a = length-append row (flat_map (λ r. r) rows) in omega (arith, a)
row_short (x ∷ rows) row (there h) =
    let a = length-append x (flat_map (λ r. r) rows) in
    let b = row_short rows row h in
    omega (arith, a, b)

rows_wide : (l : Library) (rows : List (List Member)) → ((row : List Member) → In row rows → (w : ℕ) × (pos w ≡ row_width l row) × (w ≤ 1100000000))
    → (w : ℕ) × (pos w ≡ rows_width l rows) × (w ≤ 1100000000)
rows_wide l [] each = (0, refl, omega arith)
rows_wide l (row ∷ rows) each =
    let a = each row here in
    let b = rows_wide l rows (λ r i. each r (there i)) in
    let x = a.1 in
    let y = b.1 in
    let u = a.2 in
    let v = b.2 in
    let m = int_max_is (row_width l row) (rows_width l rows) in
    (max a.0 b.0, omega (arith, ints), omega (arith, u, v))

instance_at : (turn : Transform) (y : ℕ) (one : Member) (b : ℕ) → IsNamedWell one → b ≤ 1100000000 → y ≤ 2000000
    → AllByRecursion (λ (i : Instance). IsFit (item.Instance i)) (stood turn (pos y) (pos b) one)
instance_at turn y one b w low high = (
  fit (instance_good (record { x = pos b; y = pos y; model = one.model; name = one.name; transform = turn })
      (near_pos b (omega (arith, low))) (near_pos y (omega (arith, high))) w.model w.name w.short_model w.short_name),
  tt,
)

-- the row in which an instance stands
record IsInSome (l : Library) (top : ℕ) (rows : List (List Member)) (i : Instance) : Type 0 where
  pub turn : Transform
  pub y : ℕ
  pub members : List Member
  pub listed : In members rows
  pub low : y ≤ top
  pub stands : In i (standing l turn (pos y) (pos 1500) members)

in_some : (l : Library) (rows : List (List Member)) (flipped : Bool) (y : ℕ) (i : Instance) → In i (standing_rows l flipped (pos y) rows) → IsInSome l (y + 5000 * length rows) rows i
in_some l [] flipped y i h = elim h [ ]
in_some l (row ∷ rows) flipped y i h =
    elim (In_either (standing l (turn_of flipped) (pos y) (pos 1500) row) (standing_rows l (not flipped) (pos (y + 5000)) rows) i h) [
      | inl g ↦ record { turn = turn_of flipped; y = y; members = row; listed = here; low = omega arith; stands = g }
      | inr g ↦
          let r = in_some l rows (not flipped) (y + 5000) i g in
          let a = r.low in
          record { turn = r.turn; y = r.y; members = r.members; listed = there r.listed; low = omega (arith, a); stands = r.stands }
    ]

module _ (l : Library) (n : InMemory) (p : InRow) (routes : NetRoutes) (f : Figure) (placed : IsRowPlacementOf l n p) (drawable : AreDrawable l n p routes) (named : CanBeNamed n)
    (short : HasShortNames n) (few : HasFewPins n) (few_ports : length n.ports ≤ 8192) (drawn : IsDrawnInGrid l n p routes f) (stand : PlacementsAreInRows) where
  -- the netlist of layouts that it is known by
  abbrev k : AbstractNetlist
  k = known n

  abbrev seen : IsSeenAs n k
  seen = known_seen n placed.drawable.sound

  abbrev net : Numbering
  net = net_number k l

  abbrev names : List Name
  names = signal_ports k

  abbrev rows : List (List Member)
  rows = named_rows k.instances p.rows

  abbrev block : Placement
  block = rows_of k p

  abbrev lines : List Instance
  lines = stood_in k p

  in_rows : IsInRows k l net block lines
  in_rows = stand l n p k placed seen

  ok : IsRouted k l net block lines drawable.metals routes drawn.wiring
  ok =
      let r = in_rows in
      record {
        nets = r.nets;
        no_tracks = r.no_tracks;
        rows = r.rows;
        each_once = r.each_once;
        stands = r.stands;
        listed = r.listed;
        few_metals = drawable.few;
        trees = drawable.trees k seen;
        drawn = λ j low. drawn.drawn k seen j low;
      }

  its_models : (one : Member) → In one k.instances → IsModelOf l one
  its_models = models l n placed.passed placed.drawable named short few few_ports

  its_labels : (name : Name) → In name names → IsGoodLabel (Some name)
  its_labels = labels l n placed.passed placed.drawable named short few few_ports

  -- ---- how far the block reaches
  of_row : (row : List Member) → In row rows → (one : Member) → In one row → In one k.instances
  of_row row h one g =
      permuted_in k.instances (flat_map (λ r. r) rows) one (IsPermutation-sym (flat_map (λ r. r) rows) k.instances in_rows.each_once) (In_flat (λ r. r) rows row one h g)

  few_in_row : (row : List Member) → In row rows → length row ≤ 65536
  few_in_row row h =
      let a = row_short rows row h in
      let b = length_permutation (flat_map (λ r. r) rows) k.instances in_rows.each_once in
      let c = few_members l n placed.passed placed.drawable named short few few_ports in
      omega (arith, a, b, c)

  few_rows : length rows ≤ 256
  few_rows =
      let a = (placed.rows k seen).few in
      let b = length-map p.rows (λ (row : List ℕ). map (member k.instances) row) in
      omega (arith, a, b)

  width_is : pos p.width ≡ int_max (rows_width l rows) (pos (500 * (length names + 1)))
  width_is = (placed.rows k seen).width

  width_low : p.width ≤ 1100000000
  width_low =
      let w = rows_wide l rows (λ row i.
      let r = row_is l row (λ one g. its_models one (of_row row i one g)) in
      let a = few_in_row row i in
      let b = r.2 in
      (r.0, r.1, omega (arith, a, b))) in
      let e = w.1 in
      let low = w.2 in
      let c = few_names l n placed.passed placed.drawable named short few few_ports in
      let d = width_is in
      let m = int_max_is (rows_width l rows) (pos (500 * (length names + 1))) in
      omega (arith, ints)

  columns_are : block_columns l block ≡ p.width / 500
  columns_are = ap (λ (w : ℤ). natural w / 500) (sym (placed.rows k seen).width)

  columns_low : block_columns l block ≤ 10000000
  columns_low = let a = columns_are in let b = width_low in omega (arith, a, b)

  columns_some : length names < block_columns l block
  columns_some = let a = columns_are in let b = wide_columns p.width (rows_width l rows) (length names) width_is in omega (arith, a, b)

  node_near : (metals : ℕ) (q : Node) → IsInGrid (grid_over metals l block) q → IsNearNode q
  node_near metals q g =
      let a : q.column < block_columns l block + 1 = g.column in
      let b : q.row < 10 * length rows + 1 + 1 = g.row in
      let c = columns_low in
      let d = few_rows in
      record { column = omega (arith, a, c); row = omega (arith, b, d) }

  -- ---- wires and vias
  tree_near : (j : ℕ) → j < net_count k → (q : Node) → In q (tree_nodes (routes j)) → IsNearNode q
  tree_near j low q h = node_near drawable.metals q (free_in k l net block lines drawable.metals routes drawn.wiring ok j low q h).within

  wire_near : (j : ℕ) → j < net_count k → (name : Option Name) → IsGoodLabel name → (one : Wire) → In one (drawn.wiring j).wires → IsFit (wire_item name one)
  wire_near j low name label one h =
      let run = (drawn.drawn k seen j low).runs one h in
      let a = tree_near j low (ahead one.from 0) (run_in (routes j) one run 0 (omega arith)) in
      let b = tree_near j low (ahead one.from one.steps) (run_in (routes j) one run one.steps (omega arith)) in
      let o = bounds_of one.from 0 one.steps (omega arith) in
      let left = o.0 in
      let foot = o.2 in
      let column = a.column in
      let row = a.row in
      wire_fit name one.from (ahead one.from one.steps) (record { column = omega (arith, left, column); row = omega (arith, foot, row) }) b label

  via_near : (j : ℕ) → j < net_count k → (v : Node) → HasVia (routes j) (via_nodes k l net block lines j) v → IsNearNode v
  via_near j low v (in_tree h) = tree_near j low v (neighbours_in (routes j) v (above v) h).0
  via_near j low v (at_terminal m h g) = let a = tree_near j low (above v) g in record { column = a.column; row = a.row }

  net_fit : (j : ℕ) → j < net_count k → AreFit (net_items (slice_get names j) (drawn.wiring j))
  net_fit j low =
      let name = slice_get names j in
      let label : IsGoodLabel name = label_at names its_labels j in
      fit_append (map (wire_item name) (drawn.wiring j).wires) (map (via_item name) (drawn.wiring j).vias)
      (map_fit (wire_item name) (drawn.wiring j).wires (λ one h. wire_near j low name label one h))
      (map_fit (via_item name) (drawn.wiring j).vias (λ v h. via_fit name v (via_near j low v (((drawn.drawn k seen j low).vias v).0 h)) label))

  -- ---- instances
  instance_fit : (i : Instance) → In i lines → IsFit (item.Instance i)
  instance_fit i h =
      let s = in_some l rows false 0 i (permuted_in (standing_rows l false (pos 0) rows) lines i in_rows.stands h) in
      let r = spread l (stood s.turn (pos s.y)) s.members 1500 (λ one g. its_models one (of_row s.members s.listed one g)) i
      (subst (λ (is : List Instance). In i is) (standing_is l s.turn (pos s.y) (pos 1500) s.members) s.stands) in
      let a = few_in_row s.members s.listed in
      let b = r.3 in
      let c = few_rows in
      let d = s.low in
      all_in (λ (x : Instance). IsFit (item.Instance x)) (stood s.turn (pos s.y) (pos r.1) r.0)
      (instance_at s.turn s.y r.0 r.1 (named_well l n placed.passed placed.drawable named short few few_ports r.0 (of_row s.members s.listed r.0 r.2))
      (omega (arith, a, b)) (omega (arith, c, d)))
      i r.4

  -- ---- all lines
  ports_are_fit : AreFit (grid_ports (port_column (length names) (block_columns l block)) (length rows) 0 names)
  ports_are_fit =
      ports_fit (port_column (length names) (block_columns l block)) (length rows) 0 names few_rows
      (λ j low.
      let a = columns_low in
      let b = columns_some in
      let c = port_column_low (length names) (block_columns l block) j (omega (arith, low)) (omega (arith, b)) in
      omega (arith, a, c))
      its_labels

  supplies_are_fit : AreFit (supplies_to (pos 1500 +ℤ block_width l block) rows)
  supplies_are_fit =
      subst (λ (items : List Item). AreFit items)
      (sym (supplies_are p.width rows) ∙ ap (λ (z : ℤ). supplies_to (pos 1500 +ℤ z) rows) (placed.rows k seen).width)
      (supplies_fit p.width (length rows) width_low few_rows)

  items_fit : AreFit f.items
  items_fit =
      subst (λ (items : List Item). AreFit items) (sym (drawn.lines k seen))
      (fit_append supply_ports _ (all_so IsGood IsFit (λ one g. fit g) supply_ports supply_ports_good)
      (fit_append (grid_ports (port_column (length names) (block_columns l block)) (length rows) 0 names) _ ports_are_fit
      (fit_append (map item.Instance lines) _ (map_fit item.Instance lines instance_fit)
      (fit_append (supplies_to (pos 1500 +ℤ block_width l block) rows) (maze_wiring k names drawn.wiring) supplies_are_fit
      (numbered_fit (λ j. net_items (slice_get names j) (drawn.wiring j)) (net_count k) net_fit)))))

  -- ---- the figure
  title : IsGoodLabel f.name
  title = subst IsGoodLabel (sym drawn.named) (record { label = (word_of n.name named.name.0, tt); short = short.name })

  box : IsBoxWithin f.bounds
  box =
      let wide : (pos 2000 +ℤ block_width l block) ≡ pos (2000 + p.width) = ap (λ (z : ℤ). pos 2000 +ℤ z) (sym (placed.rows k seen).width) in
      let low = width_low in
      let high = few_rows in
      subst IsBoxWithin (sym (drawn.box k seen ∙ ap (λ (z : ℤ). record { x1 = pos 0; y1 = pos 0; x2 = z; y2 = pos (5000 * length rows + 1000) }) wide)) (record {
        order = record { wide = omega (arith, ints); tall = omega (arith, ints) };
        x1 = near_pos 0 (omega arith);
        y1 = near_pos 0 (omega arith);
        x2 = near_pos (2000 + p.width) (omega (arith, low));
        y2 = near_pos (5000 * length rows + 1000) (omega (arith, high));
      })

  names_are : instance_names f.items ≡ map (λ (i : Part). i.name) n.instances
  names_are =
      names_listed f.items
      ∙ sym (map_twice (λ (m : Member). m.name) (λ (i : Instance). record { name = i.name; model = i.model }) (instances_of f.items))
      ∙ ap (λ (ms : List Member). map (λ (m : Member). m.name) ms) (sym (drawn.keeps k seen).instances)
      ∙ ap (λ (ms : List Member). map (λ (m : Member). m.name) ms) (seen_instances n k seen)
      ∙ map_twice (λ (m : Member). m.name) member_of n.instances

  -- a figure with this name and box, and lines that can be written
  written : (g : Figure) → g.name ≡ f.name → g.bounds ≡ f.bounds → instance_names g.items ≡ instance_names f.items → AreFit g.items → IsFigure g × HasNearLines g
  written g same_name same_box same_instances fits =
      let label : IsGoodLabel g.name = subst IsGoodLabel (sym same_name) title in
      let bounds : IsBoxWithin g.bounds = subst IsBoxWithin (sym same_box) box in (
        record {
          name = label.label;
          box = bounds.order;
          lines = all_of IsLine g.items (all_so IsFit IsLine (λ one x. x.line) g.items fits);
          instances = subst (λ (xs : List (List ℕ)). AllPairs (λ a b. a ≢ b) xs) (sym (same_instances ∙ names_are))
              (apart (map (λ (i : Part). i.name) n.instances) placed.drawable.sound.names);
        },
        record {
          name = label.short;
          x1 = bounds.x1;
          y1 = bounds.y1;
          x2 = bounds.x2;
          y2 = bounds.y2;
          items = all_of IsItemWithin g.items (all_so IsFit IsItemWithin (λ one x. x.within) g.items fits);
        },
      )

  pub plain_written : IsFigure f × HasNearLines f
  plain_written = written f refl refl refl items_fit

  -- ---- marks
  module _ (apart_law : PointsAreApart) where
    reserved_in : (j : ℕ) (q : Node) → In q (net_nodes k l net block lines j) → In q (reserved k l net block lines j)
    reserved_in j q h =
        let ports = port_nodes l block j in
        let pins = terminal_nodes k l net lines j in
        let pairs = flat_map (λ (v : Node). v ∷ above v ∷ []) pins in
        ⊎_elim
        (λ g. In_first ports pairs q g)
        (λ g. In_last ports pairs q (In_flat (λ (v : Node). v ∷ above v ∷ []) pins q q g here))
        (In_either ports pins q h)

    marks_fit : AreFit (marks k l net block lines)
    marks_fit =
        numbered_fit (λ j. map (mark j) (net_nodes k l net block lines j)) (net_count k) (λ j low.
        let a = few_tracks l n placed.passed placed.drawable named short few few_ports in
        map_fit (mark j) (net_nodes k l net block lines j) (λ q h.
        mark_fit j q (omega (arith, a, low))
        (node_near 3 q ((apart_law k l net block lines 3 in_rows (omega arith)).within j q low (reserved_in j q h)))))

    pub marked_written : (g : Figure) → IsMarked l n p f g → IsFigure g × HasNearLines g
    marked_written g marked =
        let more = marks k l net block lines in
        written g marked.name marked.box
        (ap instance_names (marked.lines k seen) ∙ names_append f.items more
        ∙ ap (λ (xs : List (List ℕ)). instance_names f.items ++ xs)
        (no_names (λ j. map (mark j) (net_nodes k l net block lines j)) (count_to (net_count k)) (λ j. marks_quiet j (net_nodes k l net block lines j)))
        ∙ append_none (instance_names f.items))
        (subst (λ (items : List Item). AreFit items) (sym (marked.lines k seen)) (fit_append f.items more items_fit marks_fit))

pub grid_written : PlacementsAreInRows → GridDrawingCanBeWritten
grid_written stand l n p routes f placed drawable named short few ports drawn = plain_written l n p routes f placed drawable named short few ports drawn stand

pub marked_grid_written : PlacementsAreInRows → PointsAreApart → MarkedDrawingCanBeWritten
marked_grid_written stand alone l n p routes f g placed drawable named short few ports drawn marked =
    marked_written l n p routes f placed drawable named short few ports drawn stand alone g marked
