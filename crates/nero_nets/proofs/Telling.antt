-- Marks at the points of nets tell the nets.
use Rattle.std.proofs.Common.{◌≡◌, ℕ, zero, suc, ◌+◌, ◌<◌, ◌≤◌, ◌⊎◌, inl, inr, ⊎_elim, Bool, true, false, not, List, [], ◌∷◌, ◌++◌, map, length, Option, Some, refl, sym, ap, ◌∙◌, subst, arith, if◌then◌else◌}
use Rattle.std.specs.Prelude.{ℤ, pos, ◌+ℤ◌, slice_get, flat_map, codes}
use Rattle.std.specs.Fmt.{decimal}
use Rattle.std.proofs.lemmas.Int.{ints}
use Rattle.std.proofs.lemmas.Bool.{cases_lt}
use Rattle.std.proofs.lemmas.Fmt.{decimal_injective}
use Rattle.std.proofs.lemmas.Option.{slice_get_within}
use Rattle.std.proofs.lemmas.List.Sorted.{IsPermutation-sym}
use Rattle.std.specs.Cmp.Lexicographic.{bytes_decides}
use Rattle.vlsi_base.specs.declared.name.Name.{Name}
use Rattle.vlsi_base.specs.declared.name.Terminal.{Terminal}
use Rattle.vlsi_base.specs.Member.{In, here, there}
use Rattle.vlsi_base.specs.Names.{vdd, vss}
use Rattle.machine_core.specs.Named.{is_same_name, is_same_text}
use Rattle.machine_core.specs.Machine.{names_of}
use Rattle.sym_geom.specs.declared.item.Instance.{Instance}
use Rattle.sym_geom.specs.declared.item.Item.{Item}
use Rattle.sym_geom.specs.declared.item.Item.TheVariants as item
use Rattle.cell_model.specs.Access.{Point, count_to}
use Rattle.cell_model.specs.Cell.{Cell, pin_ports}
use Rattle.cell_model.specs.Library.{Library, cell_of, IsUsable}
use Rattle.net_meaning.specs.Netlist.{Member, AbstractNetlist, port, pin_of, IsTerminal, a_port, a_pin}
use Rattle.ocp_rows.specs.Placement.{Placement, centres, vss_centre, vdd_centre, rails, strap, strap_vias, supplies_to, supply_ports, track_ports, grid_ports, placed_ports, standing_rows, block_width, block_columns, port_column, port_row, column_x, row_y, net_count}
use Rattle.ocp_rows.specs.Length.{instance_point, pin_point, port_point, grid_point, point_of}
use Rattle.net_drawing.specs.Shown.{IsSupplyClass, IsOnNet}
use Rattle.net_drawing.specs.Drawing.{Numbering}
use Rattle.net_drawing.proofs.Coding.{In_get, get_In, same_name_true, same_name_itself}
use Rattle.net_drawing.proofs.Numbers.{own}
use Rattle.net_drawing.proofs.Block.{own_is}
use Rattle.net_drawing.proofs.Showing.{owners_apart}
use Rattle.grid_core.specs.declared.grid.Node.{Node}
use Rattle.grid_core.specs.Grid.{is_level}
use Rattle.grid_core.proofs.Lists.{In_either, In_first, In_last}
use Rattle.maze_drawing.specs.Wiring.{Wire, Wiring, wire_item, via_item, net_items}
use Rattle.maze_drawing.specs.Points.{port_node, port_nodes, terminal_nodes, net_nodes}
use Rattle.maze_drawing.specs.Law.{maze_wiring, maze_items, mark, marks, part_items}
use Rattle.maze_drawing.proofs.Rows.{permuted_in, In_flat, member_of}
use Rattle.maze_drawing.proofs.Stands.{put_of}
use Rattle.maze_drawing.proofs.Pins.{flat_cases}
use Rattle.maze_drawing.proofs.Wired.{port_there}
use Rattle.ocp_grid.specs.Law.{IsInRows}
use Rattle.ocp_grid.proofs.Apart.{no_routes, no_wiring, routed, site_at, pin_shown, places_apart}
use Rattle.nero_nets.specs.Marks.{HasMark, TellsNets}

same_some : {A : Type 0} {x y : A} → Some x ≡ Some y → x ≡ y
same_some e = cc

-- ---- lists
head_or : {A : Type 0} (x y : A) (xs : List A) → In x (y ∷ xs) → (x ≡ y) ⊎ In x xs
head_or x y xs here = inl refl
head_or x y xs (there h) = inr h

map_cases : {A B : Type 0} (f : A → B) (xs : List A) (y : B) → In y (map f xs) → (x : A) × In x xs × (y ≡ f x)
map_cases f [] y h = elim h [ ]
map_cases f (x ∷ xs) y here = (x, here, refl)
map_cases f (x ∷ xs) y (there h) = let r = map_cases f xs y h in (r.0, there r.1, r.2)

map_in : {A B : Type 0} (f : A → B) (xs : List A) (x : A) → In x xs → In (f x) (map f xs)
map_in f [] x h = elim h [ ]
map_in f (y ∷ xs) x here = here
map_in f (y ∷ xs) x (there h) = there (map_in f xs x h)

counted_low : (n k : ℕ) → In k (count_to n) → k < n
counted_low zero k h = elim h [ ]
counted_low (suc n) k h = ⊎_elim (λ g. let a = counted_low n k g in omega arith) (λ g. let e = one_of k n g in omega arith) (In_either (count_to n) (n ∷ []) k h)
  where
    one_of : (x y : ℕ) → In x (y ∷ []) → x ≡ y
    one_of x y here = refl
    one_of x y (there g) = elim g [ ]

counted : (n k : ℕ) → k < n → In k (count_to n)
counted zero k lt = absurd (omega arith)
counted (suc n) k lt =
    ⊎_elim
    (λ g. In_first (count_to n) (n ∷ []) k (counted n k g))
    (λ g. let e : n ≡ k = omega arith in In_last (count_to n) (n ∷ []) k (subst (λ v. In k (v ∷ [])) (sym e) here))
    (cases_lt k n)

-- ---- lines without marks
abbrev IsLine : Item → Type 0
IsLine (item.Segment s) = Unit {0}
IsLine (item.Connector c) = Unit {0}
IsLine (item.Via v) = Unit {0}
IsLine (item.Instance i) = Unit {0}
IsLine (item.Reference r) = ⊥
IsLine (item.Remark text) = Unit {0}

abbrev AreLines : List Item → Type 0
AreLines xs = (one : Item) → In one xs → IsLine one

none : AreLines []
none one h = elim h [ ]

more : (x : Item) (xs : List Item) → IsLine x → AreLines xs → AreLines (x ∷ xs)
more x xs a b one here = a
more x xs a b one (there h) = b one h

both : (xs ys : List Item) → AreLines xs → AreLines ys → AreLines (xs ++ ys)
both xs ys a b one h = ⊎_elim (λ g. a one g) (λ g. b one g) (In_either xs ys one h)

mapped : {A : Type 0} (f : A → Item) (xs : List A) → ((x : A) → IsLine (f x)) → AreLines (map f xs)
mapped f [] a = none
mapped f (x ∷ xs) a = more (f x) (map f xs) (a x) (mapped f xs a)

flattened : {A : Type 0} (f : A → List Item) (xs : List A) → ((x : A) → AreLines (f x)) → AreLines (flat_map f xs)
flattened f [] a = none
flattened f (x ∷ xs) a = both (f x) (flat_map f xs) (a x) (flattened f xs a)

either : (v : Bool) (xs ys : List Item) → AreLines xs → AreLines ys → AreLines (if v then xs else ys)
either true xs ys a b = a
either false xs ys a b = b

tracks_lines : (k : ℕ) (names : List Name) → AreLines (track_ports k names)
tracks_lines k [] = none
tracks_lines k (name ∷ rest) = more _ _ tt (tracks_lines (suc k) rest)

ports_lines : (column : ℕ → ℕ) (rows k : ℕ) (names : List Name) → AreLines (grid_ports column rows k names)
ports_lines column rows k [] = none
ports_lines column rows k (name ∷ rest) = more _ _ tt (ports_lines column rows (suc k) rest)

rails_lines : (end : ℤ) (flipped : Bool) (y : ℤ) (rows : List (List Member)) → AreLines (rails end flipped y rows)
rails_lines end flipped y [] = none
rails_lines end flipped y (row ∷ rows) = more _ _ tt (more _ _ tt (rails_lines end (not flipped) (y +ℤ pos 5000) rows))

vias_lines : (x : ℤ) (name : Name) (ys : List ℤ) → AreLines (strap_vias x name ys)
vias_lines x name [] = none
vias_lines x name (y ∷ ys) = more _ _ tt (more _ _ tt (vias_lines x name ys))

strap_lines : (x : ℤ) (name : Name) (ys : List ℤ) → AreLines (strap x name ys)
strap_lines x name [] = none
strap_lines x name (y ∷ ys) = more _ _ tt (vias_lines x name (y ∷ ys))

wire_line : (name : Option Name) (w : Wire) → IsLine (wire_item name w)
wire_line name w = by (is_level w.from.metal) _ _ tt tt
  where
    by : (v : Bool) (x y : Item) → IsLine x → IsLine y → IsLine (if v then x else y)
    by true x y a b = a
    by false x y a b = b

wiring_lines : (n : AbstractNetlist) (ports : List Name) (w : Wiring) → AreLines (maze_wiring n ports w)
wiring_lines n ports w =
    flattened (λ k. net_items (slice_get ports k) (w k)) (count_to (net_count n)) (λ k.
    both (map (wire_item (slice_get ports k)) (w k).wires) (map (via_item (slice_get ports k)) (w k).vias)
    (mapped (wire_item (slice_get ports k)) (w k).wires (wire_line (slice_get ports k))) (mapped (via_item (slice_get ports k)) (w k).vias (λ v. tt)))

all_lines : (n : AbstractNetlist) (l : Library) (p : Placement) (instances : List Instance) (w : Wiring) → AreLines (maze_items n l p instances w)
all_lines n l p instances w =
    both supply_ports _ (more _ _ tt (more _ _ tt none))
    (both (placed_ports l p) _
    (either p.tracks (track_ports 0 p.ports) (grid_ports (port_column (length p.ports) (block_columns l p)) (length p.rows) 0 p.ports) (tracks_lines 0 p.ports)
    (ports_lines (port_column (length p.ports) (block_columns l p)) (length p.rows) 0 p.ports))
    (both (map item.Instance instances) _ (mapped item.Instance instances (λ i. tt))
    (both (supplies_to (pos 1500 +ℤ block_width l p) p.rows) (maze_wiring n p.ports w)
    (both (rails (pos 1500 +ℤ block_width l p) false (pos 0) p.rows) _ (rails_lines (pos 1500 +ℤ block_width l p) false (pos 0) p.rows)
    (both (strap (pos 500) vss (centres vss_centre false (pos 0) p.rows)) (strap (pos 1000) vdd (centres vdd_centre false (pos 0) p.rows))
    (strap_lines (pos 500) vss (centres vss_centre false (pos 0) p.rows)) (strap_lines (pos 1000) vdd (centres vdd_centre false (pos 0) p.rows))))
    (wiring_lines n p.ports w))))

-- ---- points by name
same_text_true : (a b : List ℕ) → is_same_text a b ≡ true → a ≡ b
same_text_true a b h = (bytes_decides a b).0 h

same_text_itself : (a : List ℕ) → is_same_text a a ≡ true
same_text_itself a = (bytes_decides a a).1 refl

-- the port of a name stands where the first of this name does
record IsPort (column : ℕ → ℕ) (rows k : ℕ) (names : List Name) (name : Name) : Type 0 where
  pub rank : ℕ
  pub listed : slice_get names rank ≡ Some name
  pub point : grid_point column rows k names name ≡ Some (column_x (column (k + rank)), row_y (port_row rows))

port_stands : (column : ℕ → ℕ) (rows k : ℕ) (names : List Name) (name : Name) → In name names → IsPort column rows k names name
port_stands column rows k [] name h = elim h [ ]
port_stands column rows k (one ∷ rest) name h = by (is_same_name one name) refl (head_or name one rest h) (λ g. port_stands column rows (suc k) rest name g)
  where
    by : (v : Bool) → is_same_name one name ≡ v → (name ≡ one) ⊎ In name rest → (In name rest → IsPort column rows (suc k) rest name) → IsPort column rows k (one ∷ rest) name
    by true e h next =
        let a : k ≡ k + 0 = omega arith in
        record {
          rank = 0;
          listed = ap (λ v. Some v) (same_name_true one name e);
          point = ap (λ (v : Bool). if v then Some (column_x (column k), row_y (port_row rows)) else grid_point column rows (suc k) rest name) e
              ∙ ap (λ v. Some (column_x (column v), row_y (port_row rows))) a;
        }
    by false e (inl g) next = absurd (let a : is_same_name one name ≡ true = subst (λ v. is_same_name v name ≡ true) g (same_name_itself name) in let f : true ≡ false = sym a ∙ e in cc f)
    by false e (inr g) next =
        let r = next g in
        let a : suc k + r.rank ≡ k + suc r.rank = omega arith in
        record {
          rank = suc r.rank;
          listed = r.listed;
          point = ap (λ (v : Bool). if v then Some (column_x (column k), row_y (port_row rows)) else grid_point column rows (suc k) rest name) e
              ∙ r.point ∙ ap (λ v. Some (column_x (column v), row_y (port_row rows))) a;
        }

-- a pin stands where the first instance of its owner's name shows it
record IsFirst (l : Library) (xs : List Instance) (owner : List ℕ) (pin : Name) : Type 0 where
  pub one : Instance
  pub listed : In one xs
  pub named : one.name ≡ owner
  pub point : pin_point l xs owner pin ≡ instance_point (cell_of l one.model) one pin

first_of : (l : Library) (xs : List Instance) (owner : List ℕ) (pin : Name) (some : Instance) → In some xs → some.name ≡ owner → IsFirst l xs owner pin
first_of l [] owner pin some h e = elim h [ ]
first_of l (x ∷ xs) owner pin some h e = by (is_same_text x.name owner) refl (head_or some x xs h) (λ g. first_of l xs owner pin some g e)
  where
    by : (v : Bool) → is_same_text x.name owner ≡ v → (some ≡ x) ⊎ In some xs → (In some xs → IsFirst l xs owner pin) → IsFirst l (x ∷ xs) owner pin
    by true f g next = record {
      one = x;
      listed = here;
      named = same_text_true x.name owner f;
      point = ap (λ (v : Bool). if v then instance_point (cell_of l x.model) x pin else pin_point l xs owner pin) f;
    }
    by false f (inl g) next =
        let a = same_text_itself owner in
        let d : x.name ≡ owner = ap (λ (v : Instance). v.name) (sym g) ∙ e in
        absurd (let b : is_same_text x.name owner ≡ true = subst (λ v. is_same_text v owner ≡ true) (sym d) a in let c : true ≡ false = sym b ∙ f in cc c)
    by false f (inr g) next =
        let r = next g in
        record {
          one = r.one;
          listed = there r.listed;
          named = r.named;
          point = ap (λ (v : Bool). if v then instance_point (cell_of l x.model) x pin else pin_point l xs owner pin) f ∙ r.point;
        }

-- ---- marks
-- what a mark says
abbrev place_of : Item → Point
place_of (item.Reference r) = (r.x, r.y)
place_of _ = (pos 0, pos 0)

abbrev name_of : Item → List ℕ
name_of (item.Reference r) = r.name
name_of _ = []

abbrev net_name : ℕ → List ℕ
net_name k = codes "n" ++ decimal k

name_number : (j k : ℕ) → j < 18446744073709551616 → k < 18446744073709551616 → net_name j ≡ net_name k → j ≡ k
name_number j k hj hk e = decimal_injective j k (omega arith) (omega arith) (ap rest e)
  where
    rest : List ℕ → List ℕ
    rest [] = []
    rest (x ∷ xs) = xs

module _ (n : AbstractNetlist) (l : Library) (net : Numbering) (p : Placement) (instances : List Instance) (w : Wiring) (ok : IsInRows n l net p instances) where
  -- a mark is that of a node of a net
  record IsMark (q : Point) (name : List ℕ) : Type 0 where
    pub number : ℕ
    pub node : Node
    pub below : number < net_count n
    pub listed : In node (net_nodes n l net p instances number)
    pub x : q.0 ≡ column_x node.column
    pub y : q.1 ≡ row_y node.row
    pub named : name ≡ net_name number

  mark_of : (q : Point) (name : List ℕ) → HasMark (marks n l net p instances) q name → IsMark q name
  mark_of q name h =
      let c = flat_cases (λ k. map (mark k) (net_nodes n l net p instances k)) (count_to (net_count n)) _ h in
      let d = map_cases (mark c.1) (net_nodes n l net p instances c.1) _ c.3 in
      record {
        number = c.1;
        node = d.0;
        below = counted_low (net_count n) c.1 (In_get (count_to (net_count n)) c.0 c.1 c.2);
        listed = d.1;
        x = ap (λ v. (place_of v).0) d.2;
        y = ap (λ v. (place_of v).1) d.2;
        named = ap name_of d.2;
      }

  mark_case : (q : Point) (name : List ℕ) → HasMark (part_items n l net p instances w) q name → IsMark q name
  mark_case q name h =
      ⊎_elim (λ g. absurd (all_lines n l p instances w _ g)) (λ g. mark_of q name g) (In_either (maze_items n l p instances w) (marks n l net p instances) _ h)

  mark_there : (k : ℕ) (x : Node) → k < net_count n → In x (net_nodes n l net p instances k) → HasMark (part_items n l net p instances w) (column_x x.column, row_y x.row) (net_name k)
  mark_there k x lt h =
      In_last (maze_items n l p instances w) (marks n l net p instances) (mark k x)
      (In_flat (λ k. map (mark k) (net_nodes n l net p instances k)) (count_to (net_count n)) k (mark k x) (counted (net_count n) k lt) (map_in (mark k) (net_nodes n l net p instances k) x h))

  -- a terminal of net k stands at one of its nodes
  record IsShown (t : Terminal) (k : ℕ) : Type 0 where
    pub node : Node
    pub listed : In node (net_nodes n l net p instances k)
    pub point : point_of l p t.instance t.pin ≡ Some (column_x node.column, row_y node.row)

  at_node : (t : Terminal) (k : ℕ) (x : Node) (o : Option Point) → In x (net_nodes n l net p instances k) → point_of l p t.instance t.pin ≡ o → o ≡ Some (column_x x.column, row_y x.row) → IsShown t k
  at_node t k x o h e f = record { node = x; listed = h; point = e ∙ f }

  port_shown : (name : Name) → In name n.ports → (IsSupplyClass n (n.class (port name)) → ⊥) → IsShown (port name) (net (n.class (port name)))
  port_shown name h free =
      let listed = (ok.nets.port_names name).1 (h, λ e. free (inl (ap (λ v. n.class (port v)) e)), λ e. free (inr (ap (λ v. n.class (port v)) e))) in
      let column = port_column (length p.ports) (block_columns l p) in
      let r = port_stands column (length p.rows) 0 p.ports name listed in
      let k = ok.nets.port_nets r.rank name r.listed in
      let below = slice_get_within p.ports r.rank name r.listed in
      let z : 0 + r.rank ≡ r.rank = omega arith in
      record {
        node = port_node l p r.rank;
        listed = subst (λ v. In (port_node l p r.rank) (net_nodes n l net p instances v)) (sym k)
            (In_first (port_nodes l p r.rank) (terminal_nodes n l net instances r.rank) (port_node l p r.rank) (port_there n l net p instances 6 no_routes no_wiring (routed n l net p instances ok) r.rank below));
        point = ap (λ (v : Bool). if v then port_point 0 p.ports name else grid_point column (length p.rows) 0 p.ports name) ok.no_tracks
            ∙ r.point ∙ ap (λ v. Some (column_x (column v), row_y (port_row (length p.rows)))) z;
      }

  -- a pin of an instance, among the connectors of its cell
  record IsConnected (i : Member) (name : Name) : Type 0 where
    pub cell : Cell
    pub found : cell_of l i.model ≡ Some cell
    pub among : IsUsable cell → (name ≡ vdd) ⊎ ((name ≡ vss) ⊎ In name (names_of (pin_ports cell)))

  signal_in : (i : Member) (name : Name) → IsTerminal n l (pin_of i.name name) → (IsSupplyClass n (n.class (pin_of i.name name)) → ⊥) → IsConnected i name
      → (c : Cell) → cell_of l i.model ≡ Some c → IsUsable c → In name (names_of (pin_ports c))
  signal_in i name t free k c e u = by (subst (λ v. (name ≡ vdd) ⊎ ((name ≡ vss) ⊎ In name (names_of (pin_ports v)))) same (k.among (subst IsUsable (sym same) u)))
    where
      same : k.cell ≡ c
      same = same_some (sym k.found ∙ e)

      by : (name ≡ vdd) ⊎ ((name ≡ vss) ⊎ In name (names_of (pin_ports c))) → In name (names_of (pin_ports c))
      by (inl f) = absurd (free (inl (ok.nets.high (pin_of i.name name) t f)))
      by (inr (inl f)) = absurd (free (inr (ok.nets.low (pin_of i.name name) t f)))
      by (inr (inr f)) = f

  -- the instance of a name stands in the rows once, and is that of the netlist
  same_member : (a b : ℕ) (one : Instance) (i : Member) → slice_get instances a ≡ Some one → slice_get n.instances b ≡ Some i → one.name ≡ i.name → i ≡ member_of one
  same_member a b one i ha hb e =
      let put = put_of l p instances in
      let s = site_at n l net p instances ok a one ha in
      let own_a : own n a ≡ i.name = own_is n l net p.ports put ok.nets a (member_of one) s.listed ∙ e in
      let own_b : own n b ≡ i.name = own_is n l net p.ports put ok.nets b i hb in
      let below_a = slice_get_within n.instances a (member_of one) s.listed in
      let below_b = slice_get_within n.instances b i hb in
      let same : a ≡ b = owners_apart n l net p.ports put ok.nets a b below_a below_b (own_a ∙ sym own_b) in
      same_some (sym hb ∙ ap (slice_get n.instances) (sym same) ∙ s.listed)

  record IsPlacedPin (i : Member) (pin : Name) : Type 0 where
    pub at : ℕ
    pub one : Instance
    pub listed : slice_get instances at ≡ Some one
    pub named : one.name ≡ i.name
    pub is : i ≡ member_of one
    pub point : pin_point l (standing_rows l false (pos 0) p.rows) i.name pin ≡ instance_point (cell_of l one.model) one pin

  placed_pin : (i : Member) (pin : Name) → In i n.instances → IsPlacedPin i pin
  placed_pin i pin h =
      let standing = standing_rows l false (pos 0) p.rows in
      let m = map_cases member_of instances i (subst (λ v. In i v) (sym ok.listed) h) in
      let name : m.0.name ≡ i.name = ap (λ (v : Member). v.name) (sym m.2) in
      let first = first_of l standing i.name pin m.0 (permuted_in standing instances m.0 ok.stands m.1) name in
      let a = get_In instances first.one (permuted_in instances standing first.one (IsPermutation-sym standing instances ok.stands) first.listed) in
      let b = get_In n.instances i h in
      record { at = a.0; one = first.one; listed = a.1; named = first.named; is = same_member a.0 b.0 first.one i a.1 b.1 first.named; point = first.point }

  pin_stands : (i : Member) (name : Name) → In i n.instances → IsTerminal n l (pin_of i.name name) → IsConnected i name
      → (IsSupplyClass n (n.class (pin_of i.name name)) → ⊥) → (k : ℕ) → net (n.class (pin_of i.name name)) ≡ k → k < net_count n → IsShown (pin_of i.name name) k
  pin_stands i name h t connected free k number lt =
      let d = placed_pin i name h in
      let s = site_at n l net p instances ok d.at d.one d.listed in
      let found : cell_of l i.model ≡ Some s.model.cell = ap (λ (v : Member). cell_of l v.model) d.is ∙ s.model.found in
      let q = get_In (names_of (pin_ports s.model.cell)) name (signal_in i name t free connected s.model.cell found s.model.usable) in
      let same : net (n.class (pin_of d.one.name name)) ≡ k = ap (λ v. net (n.class (pin_of v name))) d.named ∙ number in
      let r = pin_shown n l net p instances ok d.at q.0 k d.one name s q.1 lt same in
      at_node (pin_of i.name name) k r.0 (instance_point (cell_of l d.one.model) d.one name) (In_last (port_nodes l p k) (terminal_nodes n l net instances k) r.0 r.1) d.point r.2

  is_shown : (t : Terminal) → IsTerminal n l t → (IsSupplyClass n (n.class t) → ⊥) → net (n.class t) < net_count n → IsShown t (net (n.class t))
  is_shown t (a_port {name = name} h) free lt = port_shown name h free
  is_shown t (a_pin {name = name} i c h found listed) free lt = pin_stands i name h (a_pin i c h found listed) (record { cell = c; found = found; among = λ u. (u.connectors name).0 listed }) free (net (n.class (pin_of i.name name))) refl lt

  shown : (t : Terminal) → IsOnNet n l t → IsShown t (net (n.class t))
  shown t h = is_shown t h.terminal h.free (ok.nets.below t h)

  -- so a mark at the point of a terminal has the number of its net
  told : (t : Terminal) (q : Point) (x : List ℕ) → IsOnNet n l t → point_of l p t.instance t.pin ≡ Some q → HasMark (part_items n l net p instances w) q x → x ≡ net_name (net (n.class t))
  told t q x h e m =
      let s = shown t h in let d = mark_case q x m in
      let at : (column_x s.node.column, row_y s.node.row) ≡ q = same_some (sym s.point ∙ e) in
      let ex : column_x s.node.column ≡ column_x d.node.column = ap (λ v. v.0) at ∙ d.x in
      let ey : row_y s.node.row ≡ row_y d.node.row = ap (λ v. v.1) at ∙ d.y in
      let k : d.number ≡ net (n.class t) = places_apart n l net p instances ok d.number (net (n.class t)) d.node s.node d.below (ok.nets.below t h) d.listed s.listed (omega (arith, ints)) (omega (arith, ints)) in
      d.named ∙ ap net_name k

  -- of so few nets that their numbers differ in the digits of their marks
  pub tells : net_count n ≤ 18446744073709551616 → TellsNets (part_items n l net p instances w) n l p
  tells few = record {
    marked = λ t h. let s = shown t h in ((column_x s.node.column, row_y s.node.row), net_name (net (n.class t)), s.point, mark_there (net (n.class t)) s.node (ok.nets.below t h) s.listed);
    nets = λ a b q r x y ha hb ea eb mx my.
        let u = told a q x ha ea mx in let v = told b r y hb eb my in (
          λ e. u ∙ ap (λ c. net_name (net c)) e ∙ sym v,
          λ e. ok.nets.one_class a b ha hb (name_number (net (n.class a)) (net (n.class b)) (let h = ok.nets.below a ha in omega arith) (let h = ok.nets.below b hb in omega arith) (sym u ∙ e ∙ v)),
        );
  }
