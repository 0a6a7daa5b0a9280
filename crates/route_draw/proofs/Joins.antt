-- The lines that are drawn are those of the drawing with tracks.
use Rattle.std.proofs.Common.{◌≡◌, ℕ, zero, suc, ◌+◌, ◌<◌, ◌≤◌, Bool, true, false, not, cond, List, [], ◌∷◌, ◌++◌, map, filter, length, Option, Some, None, refl, sym, ap, subst, ◌∙◌, arith, append-nil, append_assoc}
use Rattle.std.specs.Prelude.{ℤ, pos, ◌+ℤ◌, slice_get, flat_map, drop, nat_lt}
use Rattle.std.specs.Int.{int_max}
use Rattle.std.proofs.lemmas.Int.{ints, int_max_is}
use Rattle.std.proofs.lemmas.Bool.Decides.{nat_tests}
use Rattle.std.proofs.lemmas.List.{length-map}
use Rattle.std.proofs.lemmas.Grind.{flat_map-append}
use Rattle.std.proofs.lemmas.Option.{slice_get_past, slice_get_within, get_or_from_slice_get}
use Rattle.vlsi_base.specs.declared.name.Name.{Name}
use Rattle.vlsi_base.specs.Names.{vdd, vss}
use Rattle.vlsi_base.specs.Member.{In, there, AllDifferent}
use Rattle.sym_geom.specs.declared.grid.TheConstants.{WIRE_WIDTH, FIRST_CELL_X, VSS_STRAP_X, VDD_STRAP_X}
use Rattle.sym_geom.specs.declared.rect.Transform.TheVariants.{NoSym}
use Rattle.sym_geom.specs.declared.layer.Layer.TheVariants.{Alu}
use Rattle.sym_geom.specs.declared.layer.Level.TheVariants.{Two}
use Rattle.sym_geom.specs.declared.item.Item.{Item}
use Rattle.sym_geom.specs.declared.item.Item.TheVariants as item
use Rattle.cell_model.specs.Library.{Library}
use Rattle.cell_model.specs.Access.{Point, count_to}
use Rattle.cell_model.proofs.Members.{In-left}
use Rattle.cell_pins.proofs.Ports.{in_filter}
use Rattle.net_core.specs.Places.{Stands}
use Rattle.net_core.specs.Netlist.{Instance, Netlist as InMemory}
use Rattle.net_core.proofs.Frames.{mapped, unmapped}
use Rattle.net_core.proofs.Standing.{Split, left, right, split}
use Rattle.net_meaning.specs.Netlist.{Member, AbstractNetlist, port}
use Rattle.net_right.specs.View.{member_of, IsSeenAs}
use Rattle.net_right.proofs.Terminals.{seen_ports, seen_instances}
use Rattle.ocp_rows.specs.Placement.{model_width, row_width, rows_width, level_wire, standing, rails, strap, centres, vss_centre, vdd_centre, supplies, supply_ports, track_ports, track_y, net_count}
use Rattle.ocp_rows.specs.Length.{least, greatest}
use Rattle.net_drawing.specs.Drawing.{of_pins, riser, port_xs, track_over, net_wiring, wiring, track_items}
use Rattle.net_drawing.proofs.Coding.{In_get}
use Rattle.ocp_place.specs.Nets.{is_signal, signal_ports, port_classes, driven, is_among, net_classes, net_number}
use Rattle.ocp_place.specs.Orderly.{IsOrderly}
use Rattle.ocp_place.specs.Sites.{port_sites, pin_sites, points_in, row_starts}
use Rattle.ocp_place.specs.Placed.{InRow, IsRowOf}
use Rattle.ocp_place.specs.Spans.{shown_span}
use Rattle.nero_tracks.specs.declared.route.Track.{Track}
use Rattle.nero_tracks.specs.Tracks.{net_pins, track_span, ends_of, AreTracks}
use Rattle.nero_tracks.proofs.Among.{in_among}
use Rattle.nero_tracks.proofs.Drivers.{nets_differ, all_below}
use Rattle.nero_tracks.proofs.Numbered.{nets_are_counted}
use Rattle.route_draw.specs.Pieces.{signal_names, instance_lines, row_supplies, track_line, net_lines, all_lines}
use Rattle.route_draw.proofs.Sited.{points_append, row_points}
use Rattle.route_draw.proofs.Ends.{no_port, its_port, least_turned, greatest_turned}

-- ---- instances and supplies

lines_stand : (l : Library) (x : ℤ) (is : List Instance) (xs : List ℕ) → map pos xs ≡ row_starts l x (map member_of is)
    → instance_lines is xs ≡ map item.Instance (standing l NoSym (pos 0) x (map member_of is))
lines_stand l x [] xs e = refl
lines_stand l x (i ∷ is) [] e = absurd (cc e)
lines_stand l x (i ∷ is) (a ∷ xs) e =
    let head : pos a ≡ x = cc e in
    let tail : map pos xs ≡ row_starts l (x +ℤ model_width l i.model) (map member_of is) = cc e in
    ap (λ (z : ℤ). item.Instance (record { x = z; y = pos 0; model = i.model; name = i.name; transform = NoSym }) ∷ instance_lines is xs) head
    ∙ ap (λ (rest : List Item). item.Instance (record { x = x; y = pos 0; model = i.model; name = i.name; transform = NoSym }) ∷ rest)
    (lines_stand l (x +ℤ model_width l i.model) is xs tail)

-- supplies whose rails end here
abbrev ending : ℤ → List Member → List Item
ending end ms =
    rails end false (pos 0) (ms ∷ [])
    ++ (strap (pos VSS_STRAP_X) vss (centres vss_centre false (pos 0) (ms ∷ []))
    ++ strap (pos VDD_STRAP_X) vdd (centres vdd_centre false (pos 0) (ms ∷ [])))

-- one row is as wide as the widest
pub rows_are : (l : Library) (w : ℕ) (ms : List Member) → pos w ≡ row_width l ms → rows_width l (ms ∷ []) ≡ pos w
rows_are l w ms e =
    let a = int_max_is (pos w) (pos 0) in
    let wide : int_max (pos w) (pos 0) ≡ pos w = omega (arith, ints) in
    ap (λ (z : ℤ). int_max z (pos 0)) (sym e) ∙ wide

pub supplies_are : (l : Library) (w : ℕ) (ms : List Member) → pos w ≡ row_width l ms → row_supplies w ≡ supplies l (ms ∷ [])
supplies_are l w ms e =
    let end : pos (FIRST_CELL_X + w) ≡ (pos FIRST_CELL_X +ℤ rows_width l (ms ∷ [])) = ap (λ (z : ℤ). pos FIRST_CELL_X +ℤ z) (sym (rows_are l w ms e)) in
    ap (λ (z : ℤ). ending z ms) end

-- ---- counts

-- f of k, of k + 1 and so on, n in all
abbrev pub ranged : {A : Type 0} → (ℕ → List A) → ℕ → ℕ → List A
ranged f k zero = []
ranged f k (suc n) = f k ++ ranged f (suc k) n

ranged_last : {A : Type 0} (f : ℕ → List A) (k n : ℕ) → ranged f k (suc n) ≡ ranged f k n ++ f (k + n)
ranged_last f k zero = let e : k ≡ k + zero = omega arith in append-nil (f k) ∙ ap f e
ranged_last {A} f k (suc n) =
    let e : suc k + n ≡ k + suc n = omega arith in
    ap (λ (xs : List A). f k ++ xs) (ranged_last f (suc k) n) ∙ ap (λ (i : ℕ). f k ++ (ranged f (suc k) n ++ f i)) e
    ∙ sym (append_assoc (f k) (ranged f (suc k) n) (f (k + suc n)))

pub counted : {A : Type 0} (f : ℕ → List A) (n : ℕ) → flat_map f (count_to n) ≡ ranged f 0 n
counted f zero = refl
counted {A} f (suc n) =
    let z : n ≡ 0 + n = omega arith in
    flat_map-append f (count_to n) (n ∷ [])
    ∙ ap (λ (xs : List A). xs ++ flat_map f (n ∷ [])) (counted f n)
    ∙ ap (λ (xs : List A). ranged f 0 n ++ xs) (append-nil (f n) ∙ ap f z)
    ∙ sym (ranged_last f 0 n)

all_ranged : (f : ℕ → List Item) (names : List Name) (p : InRow) (k : ℕ) (ts : List Track)
    → ((i : ℕ) (t : Track) → Stands ts i t → f (k + i) ≡ net_lines (k + i) (slice_get names (k + i)) (shown_span t.span) (net_pins (length p.ports) (k + i) (ends_of p t.class)))
    → ranged f k (length ts) ≡ all_lines k names p ts
all_ranged f names p k [] each = refl
all_ranged f names p k (t ∷ ts) each =
    let z : k + 0 ≡ k = omega arith in
    let first : f k ≡ net_lines k (slice_get names k) (shown_span t.span) (net_pins (length p.ports) k (ends_of p t.class)) =
    subst (λ (j : ℕ). f j ≡ net_lines j (slice_get names j) (shown_span t.span) (net_pins (length p.ports) j (ends_of p t.class))) z (each 0 t refl) in
    ap (λ (xs : List Item). xs ++ ranged f (suc k) (length ts)) first
    ∙ ap (λ (xs : List Item). net_lines k (slice_get names k) (shown_span t.span) (net_pins (length p.ports) k (ends_of p t.class)) ++ xs)
    (all_ranged f names p (suc k) ts (λ i u s.
    let e : k + suc i ≡ suc k + i = omega arith in
    subst (λ (j : ℕ). f j ≡ net_lines j (slice_get names j) (shown_span u.span) (net_pins (length p.ports) j (ends_of p u.class))) e (each (suc i) u s)))

-- ---- tracks

abbrev first_of : Point → ℤ
first_of q = q.0

xs_are : (qs : List Point) → flat_map (λ (q : Point). q.0 ∷ []) qs ≡ map first_of qs
xs_are [] = refl
xs_are (q ∷ qs) = ap (λ (xs : List ℤ). q.0 ∷ xs) (xs_are qs)

-- the track of a net with a port, and of one without
with_port : (j : ℕ) (name : Name) (y : ℤ) (pins : List Point)
    → track_over j (Some name) (pos FIRST_CELL_X ∷ []) (map first_of pins) ≡ track_line j (Some name) (track_span ((pos FIRST_CELL_X, y) ∷ pins) pins)
with_port j name y [] = refl
with_port j name y (q ∷ qs) =
    ap (λ (a : ℤ). level_wire (Alu Two) (pos WIRE_WIDTH) a (greatest q.0 (map first_of qs ++ pos FIRST_CELL_X ∷ [])) (track_y j) (Some name) ∷ [])
    (sym (least_turned (pos FIRST_CELL_X) q.0 (map first_of qs)))
    ∙ ap (λ (a : ℤ). level_wire (Alu Two) (pos WIRE_WIDTH) (least (pos FIRST_CELL_X) (q.0 ∷ map first_of qs)) a (track_y j) (Some name) ∷ [])
    (sym (greatest_turned (pos FIRST_CELL_X) q.0 (map first_of qs)))

without_port : (j : ℕ) (pins : List Point) → track_over j None [] (map first_of pins) ≡ track_line j None (track_span pins pins)
without_port j [] = refl
without_port j (q ∷ qs) =
    ap (λ (xs : List ℤ). level_wire (Alu Two) (pos WIRE_WIDTH) (least q.0 xs) (greatest q.0 xs) (track_y j) None ∷ []) (append-nil (map first_of qs))

different_left : (xs ys : List ℕ) → AllDifferent (xs ++ ys) → AllDifferent xs
different_left [] ys d = tt
different_left (x ∷ xs) ys d = (λ i. d.0 (In-left x xs ys i), different_left xs ys d.1)

is_less : (a b : ℕ) → a < b → nat_lt a b ≡ true
is_less a b h = grind (arith, nat_tests)

is_not_less : (a b : ℕ) → b ≤ a → nat_lt a b ≡ false
is_not_less a b h = grind (arith, nat_tests)

not_true : (b : Bool) → not b ≡ true → b ≡ true → ⊥
not_true true e f = cc e
not_true false e f = cc f

module _ (n : InMemory) (l : Library) (k : AbstractNetlist) (seen : IsSeenAs n k) (orderly : IsOrderly k l)
    (p : InRow) (row : IsRowOf k l p) (tracks : List Track) (are : AreTracks p tracks) where
  abbrev names : List Name
  names = signal_ports k

  abbrev others : List ℕ
  others = filter (λ class. not (is_among (port_classes k) class)) (driven k l k.instances)

  abbrev pins : ℕ → List Point
  pins class = points_in class (pin_sites k l)

  pub names_are : signal_names n.ports ≡ names
  names_are = sym (ap (filter is_signal) (seen_ports n k seen))

  order_is : map (λ t. t.class) tracks ≡ net_classes k l
  order_is =
      are.classes
      ∙ ap (λ (ps : List ℕ). ps ++ filter (λ class. not (is_among ps class)) p.drivers) row.ports
      ∙ ap (λ (ds : List ℕ). port_classes k ++ filter (λ class. not (is_among (port_classes k) class)) ds) row.drivers

  pub many : length tracks ≡ net_count k
  many =
      let a = length-map tracks (λ (t : Track). t.class) in
      let b = ap length order_is in
      let c = nets_are_counted k l orderly in
      omega (arith, a, b, c)

  class_at : (j : ℕ) (t : Track) → Stands tracks j t → Stands (net_classes k l) j t.class
  class_at j t s = subst (λ (cs : List ℕ). Stands cs j t.class) order_is (mapped (λ (x : Track). x.class) tracks j t s)

  ends_are : (j : ℕ) (t : Track) → Stands tracks j t → ends_of p t.class ≡ points_in t.class (port_sites 0 (port_classes k)) ++ pins t.class
  ends_are j t s =
      let i : In t.class (net_classes k l) = In_get (net_classes k l) j t.class (class_at j t s) in
      row.ends t.class [] (all_below k l orderly t.class (there (there i)))
      ∙ points_append t.class (port_sites 0 (port_classes k)) (pin_sites k l)

  same_many : length p.ports ≡ length (port_classes k)
  same_many = ap length row.ports

  -- of a net with a port, and of one without: its name, the points of its port, and those of its pins
  pub record HasEnds (j : ℕ) (t : Track) (name : Option Name) (points : List Point) : Type 0 where
    pub named : slice_get names j ≡ name
    pub ports : points_in t.class (port_sites 0 (port_classes k)) ≡ points
    pub pins_are : net_pins (length p.ports) j (points ++ pins t.class) ≡ pins t.class
    pub track : track_over j name (port_xs name) (map first_of (pins t.class)) ≡ track_line j name (track_span (points ++ pins t.class) (pins t.class))

  ends : (j : ℕ) (t : Track) → Stands tracks j t → (name : Option Name) × (points : List Point) × HasEnds j t name points
  ends j t s = by (split (port_classes k) others j t.class (class_at j t s)) where
    by : Split (port_classes k) others j t.class → (name : Option Name) × (points : List Point) × HasEnds j t name points
    by (left h) =
        let u = unmapped (λ (x : Name). k.class (port x)) names j t.class h in
        let low : j < length (port_classes k) = slice_get_within (port_classes k) j t.class h in
        let less : nat_lt j (length p.ports) ≡ true = is_less j (length p.ports) (subst (λ (x : ℕ). j < x) (sym same_many) low) in (
          Some u.0,
          (pos FIRST_CELL_X, track_y j) ∷ [],
          record {
            named = u.1;
            ports = its_port j t.class (port_classes k) (different_left (port_classes k) others (nets_differ k l orderly)) h;
            pins_are = ap (λ (b : Bool). cond b (drop 1 ((pos FIRST_CELL_X, track_y j) ∷ pins t.class)) ((pos FIRST_CELL_X, track_y j) ∷ pins t.class)) less;
            track = with_port j u.0 (track_y j) (pins t.class);
          },
        )
    by (right i e h) =
        let none : In t.class (port_classes k) → ⊥ = λ a.
        let r = in_filter (λ class. not (is_among (port_classes k) class)) (driven k l k.instances) t.class (In_get others i t.class h) in
        not_true (is_among (port_classes k) t.class) r.1 (in_among (port_classes k) t.class a) in
        let past : length names ≤ j = let x = length-map names (λ (y : Name). k.class (port y)) in omega (arith, x, e) in
        let no_less : nat_lt j (length p.ports) ≡ false = is_not_less j (length p.ports) (let x = same_many in omega (arith, x, e)) in (
          None,
          [],
          record {
            named = slice_get_past names j past;
            ports = no_port t.class (port_classes k) none;
            pins_are = ap (λ (b : Bool). cond b (drop 1 (pins t.class)) (pins t.class)) no_less;
            track = without_port j (pins t.class);
          },
        )

  net_is : (j : ℕ) (t : Track) → Stands tracks j t
      → net_wiring k l (net_number k l) names j ≡ net_lines j (slice_get names j) (shown_span t.span) (net_pins (length p.ports) j (ends_of p t.class))
  net_is j t s =
      let r = ends j t s in
      let name = r.0 in let points = r.1 in let h = r.2 in
      let all : ends_of p t.class ≡ points ++ pins t.class = ends_are j t s ∙ ap (λ (qs : List Point). qs ++ pins t.class) h.ports in
      let own : net_pins (length p.ports) j (ends_of p t.class) ≡ pins t.class = ap (net_pins (length p.ports) j) all ∙ h.pins_are in
      let here_ : shown_span t.span ≡ track_span (points ++ pins t.class) (pins t.class) =
      track_at j t s ∙ ap (λ (qs : List Point). track_span qs (net_pins (length p.ports) j (ends_of p t.class))) all ∙ ap (track_span (points ++ pins t.class)) own in
      let at = class_at j t s in
      let xs : of_pins k l (net_number k l) j (λ (q : Point). q.0 ∷ []) ≡ map first_of (pins t.class) =
      row_points k l orderly (λ (q : Point). q.0 ∷ []) j t.class at (pos FIRST_CELL_X) k.instances (λ one i. i) ∙ xs_are (pins t.class) in
      let rising : of_pins k l (net_number k l) j (riser j name) ≡ flat_map (riser j name) (pins t.class) =
      row_points k l orderly (riser j name) j t.class at (pos FIRST_CELL_X) k.instances (λ one i. i) in
      let first : net_wiring k l (net_number k l) names j ≡ track_over j name (port_xs name) (of_pins k l (net_number k l) j (λ (q : Point). q.0 ∷ [])) ++ of_pins k l (net_number k l) j (riser j name) =
      ap (λ (o : Option Name). track_over j o (port_xs o) (of_pins k l (net_number k l) j (λ (q : Point). q.0 ∷ [])) ++ of_pins k l (net_number k l) j (riser j o)) h.named in
      first
      ∙ ap (λ (zs : List ℤ). track_over j name (port_xs name) zs ++ of_pins k l (net_number k l) j (riser j name)) xs
      ∙ ap (λ (is : List Item). track_over j name (port_xs name) (map first_of (pins t.class)) ++ is) rising
      ∙ ap (λ (is : List Item). is ++ flat_map (riser j name) (pins t.class)) h.track
      ∙ ap (λ (o : Option (ℤ × ℤ)). track_line j name o ++ flat_map (riser j name) (pins t.class)) (sym here_)
      ∙ ap (λ (qs : List Point). track_line j name (shown_span t.span) ++ flat_map (riser j name) qs) (sym own)
      ∙ ap (λ (o : Option Name). net_lines j o (shown_span t.span) (net_pins (length p.ports) j (ends_of p t.class))) (sym h.named)
    where
      track_at : (j : ℕ) (t : Track) → Stands tracks j t → shown_span t.span ≡ track_span (ends_of p t.class) (net_pins (length p.ports) j (ends_of p t.class))
      track_at j t s =
          let low = slice_get_within tracks j t s in
          subst (λ (x : Track). shown_span x.span ≡ track_span (ends_of p x.class) (net_pins (length p.ports) j (ends_of p x.class)))
          (get_or_from_slice_get tracks j t t s) (are.each j t low)

  nets_are : wiring k l (net_number k l) names ≡ all_lines 0 names p tracks
  nets_are =
      ap (λ (c : ℕ). flat_map (net_wiring k l (net_number k l) names) (count_to c)) (sym many)
      ∙ counted (net_wiring k l (net_number k l) names) (length tracks)
      ∙ all_ranged (net_wiring k l (net_number k l) names) names p 0 tracks (λ i t s.
      let z : i ≡ 0 + i = omega arith in
      subst (λ (j : ℕ). net_wiring k l (net_number k l) names j ≡ net_lines j (slice_get names j) (shown_span t.span) (net_pins (length p.ports) j (ends_of p t.class))) z (net_is i t s))

  -- all lines together
  pub lines_are : supply_ports ++ (track_ports 0 (signal_names n.ports) ++ (instance_lines n.instances p.starts ++ (row_supplies p.width ++ all_lines 0 (signal_names n.ports) p tracks)))
      ≡ track_items k l (net_number k l) names
  lines_are =
      let members = seen_instances n k seen in
      let stand : instance_lines n.instances p.starts ≡ map item.Instance (standing l NoSym (pos 0) (pos FIRST_CELL_X) k.instances) =
      lines_stand l (pos FIRST_CELL_X) n.instances p.starts (row.starts ∙ ap (row_starts l (pos FIRST_CELL_X)) members)
      ∙ ap (λ (ms : List Member). map item.Instance (standing l NoSym (pos 0) (pos FIRST_CELL_X) ms)) (sym members) in
      ap (λ (ns : List Name). supply_ports ++ (track_ports 0 ns ++ (instance_lines n.instances p.starts ++ (row_supplies p.width ++ all_lines 0 ns p tracks)))) names_are
      ∙ ap (λ (is : List Item). supply_ports ++ (track_ports 0 names ++ (is ++ (row_supplies p.width ++ all_lines 0 names p tracks)))) stand
      ∙ ap (λ (is : List Item). supply_ports ++ (track_ports 0 names ++ (map item.Instance (standing l NoSym (pos 0) (pos FIRST_CELL_X) k.instances) ++ (is ++ all_lines 0 names p tracks))))
      (supplies_are l p.width k.instances row.width)
      ∙ ap (λ (is : List Item). supply_ports ++ (track_ports 0 names ++ (map item.Instance (standing l NoSym (pos 0) (pos FIRST_CELL_X) k.instances) ++ (supplies l (k.instances ∷ []) ++ is))))
      (sym nets_are)
