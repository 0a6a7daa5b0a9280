-- The drawing of a netlist can be written.
use Rattle.std.proofs.Common.{◌≡◌, ◌≢◌, inl, inr, ℕ, zero, suc, ◌+◌, ◌*◌, ◌<◌, ◌≤◌, ◌^◌, List, [], ◌∷◌, ◌++◌, map, filter, length, not, Option, None, Some, false, refl, sym, ap, subst, ◌∙◌, arith, get_or, length-append}
use Rattle.std.specs.Prelude.{ℤ, pos, ◌+ℤ◌, AllPairs, flat_map, slice_get, sum_by, IfSome}
use Rattle.std.specs.List.{All, AllByRecursion}
use Rattle.std.proofs.lemmas.Int.{ints}
use Rattle.std.proofs.lemmas.Bool.{cases_lt}
use Rattle.std.proofs.lemmas.List.{length-map}
use Rattle.std.proofs.lemmas.List.Elements.{All-nil, All-cons}
use Rattle.std.proofs.lemmas.Grind.{flat_map-append}
use Rattle.std.proofs.lemmas.Option.{slice_get-get_or}
use Rattle.vlsi_base.specs.declared.name.Name.{Name}
use Rattle.vlsi_base.specs.declared.name.Port.{Port}
use Rattle.vlsi_base.specs.Names.{vdd, vss}
use Rattle.vlsi_base.specs.Member.{In, here, there}
use Rattle.sym_geom.specs.declared.rect.Rect.{Rect}
use Rattle.sym_geom.specs.Rect.{IsRect}
use Rattle.sym_geom.specs.declared.rect.Transform.TheVariants.{NoSym}
use Rattle.sym_geom.specs.declared.layer.Layer.TheVariants.{Alu}
use Rattle.sym_geom.specs.declared.layer.Level.TheVariants.{One, Two, Three}
use Rattle.sym_geom.specs.declared.item.Instance.{Instance}
use Rattle.sym_geom.specs.declared.item.Item.{Item}
use Rattle.sym_geom.specs.declared.item.Item.TheVariants as item
use Rattle.ap_io.specs.declared.figure.Figure.{Figure}
use Rattle.ap_io.specs.ApText.{IsWord, IsLine, IsNear, IsShort, IsItemWithin, IsFigure, IsWithinLimits, instance_names}
use Rattle.ap_io.specs.Spelling.{head_text, items_text, text_of}
use Rattle.ap_io.proofs.Brief.{IsBrief, lines_brief, head_brief}
use Rattle.text_names.specs.Words.{IsIdentifier}
use Rattle.cell_model.specs.Cell.{Cell, pin_ports}
use Rattle.cell_model.specs.Library.{Library}
use Rattle.cell_model.specs.Usable.{IsFormed}
use Rattle.cell_model.specs.Layout.{instances_of}
use Rattle.cell_model.specs.Access.{Point, count_to}
use Rattle.cell_model.proofs.Mapped.{usable_is_mappable}
use Rattle.cell_model.proofs.Members.{All-In, In-split, In-map_back}
use Rattle.cell_checks.specs.declared.verdict.CellVerdict.TheVariants as verdict
use Rattle.cell_checks.specs.Checked.{IsChecked as HasPassed}
use Rattle.cell_checks.specs.Verdict.{IsVerdict}
use Rattle.cell_pins.proofs.Ports.{in_filter}
use Rattle.net_core.specs.Places.{Stands, NoneTwice}
use Rattle.net_core.specs.Netlist.{Instance as Node, Netlist as InMemory}
use Rattle.net_meaning.specs.Netlist.{Member, AbstractNetlist, port}
use Rattle.net_right.specs.View.{member_of, IsSeenAs}
use Rattle.net_right.specs.Writable.{CanBeAnInstance, CanBeNamed, HasShortNames}
use Rattle.net_right.proofs.Lists.{in_place, map_twice}
use Rattle.net_right.proofs.Models.{named_cell}
use Rattle.net_right.proofs.Terminals.{seen_ports, seen_instances}
use Rattle.ocp_rows.specs.Placement.{row_width, rows_width, standing, supplies, supply_ports, track_ports, track_y, net_count}
use Rattle.ocp_rows.specs.Length.{least, greatest}
use Rattle.net_drawing.specs.Drawing.{Numbering, of_pins, riser, port_xs, track_over, net_wiring, wiring, track_items}
use Rattle.net_drawing.proofs.Coding.{In_get}
use Rattle.ocp_place.specs.Drawable.{IsDrawableIn}
use Rattle.ocp_place.specs.Nets.{is_signal, is_among, signal_ports, port_classes, driven, net_number}
use Rattle.ocp_place.specs.Orderly.{IsOrderly}
use Rattle.ocp_place.proofs.Classes.{known, known_seen}
use Rattle.ocp_place.proofs.Seen.{own_cell, orderly}
use Rattle.nero_tracks.proofs.Numbered.{nets_are_counted}
use Rattle.route_draw.specs.Drawn.{IsDrawnInTracks}
use Rattle.route_draw.specs.Law.{HasFewPins, DrawingCanBeWritten}
use Rattle.route_draw.specs.Pieces.{row_supplies}
use Rattle.route_draw.proofs.Counts.{filter_less}
use Rattle.route_draw.proofs.Pins.{cell_pins, signal_pins, cell_signals, sums_less}
use Rattle.route_draw.proofs.Goods.{IsGood, IsGoodLabel, IsWireWidth, word_of, vdd_label, vss_label, no_label, level_good, upright_good, low_via_good, high_via_good, port_good, instance_good, all_by, least_one, greatest_one}
use Rattle.route_draw.proofs.Joins.{rows_are, supplies_are}
use Rattle.route_draw.proofs.Spread.{IsModelOf, IsPinPoint, stood, standing_is, standing_long, spread, row_is, pins_all, driven_few, nets_few}

-- ---- what holds of all of a list

abbrev AreGood : List Item → Type 0
AreGood items = AllByRecursion IsGood items

good_append : (xs ys : List Item) → AreGood xs → AreGood ys → AreGood (xs ++ ys)
good_append [] ys a b = b
good_append (x ∷ xs) ys a b = (a.0, good_append xs ys a.1 b)

pub all_in : {A : Type 0} (P : A → Type 0) (xs : List A) → AllByRecursion P xs → (x : A) → In x xs → P x
all_in P [] h x i = elim i [ ]
all_in P (y ∷ xs) h x here = h.0
all_in P (y ∷ xs) h x (there i) = all_in P xs h.1 x i

pub all_so : {A : Type 0} (P Q : A → Type 0) → ((x : A) → P x → Q x) → (xs : List A) → AllByRecursion P xs → AllByRecursion Q xs
all_so P Q so [] h = tt
all_so P Q so (x ∷ xs) h = (so x h.0, all_so P Q so xs h.1)

pub all_of : {A : Type 0} (P : A → Type 0) (xs : List A) → AllByRecursion P xs → All P xs
all_of P [] h = All-nil P
all_of P (x ∷ xs) h = All-cons P x xs h.0 (all_of P xs h.1)

-- ---- supplies, ports and nets

pub wire_width : IsWireWidth 200
wire_width = record { least = omega arith; most = omega arith }

pub rail_width : IsWireWidth 600
rail_width = record { least = omega arith; most = omega arith }

pub near_pos : (z : ℕ) → z ≤ 1000000000000 → IsNear (pos z)
near_pos z h = h

near_track : (k : ℕ) → k ≤ 100000 → IsNear (track_y k)
near_track k low = near_pos (5500 + 500 * k) (omega (arith, low))

pub supply_ports_good : AreGood supply_ports
supply_ports_good = (
  port_good (Alu One) 600 (pos 500) (pos 300) vss rail_width (near_pos 500 (omega arith)) (near_pos 300 (omega arith)) vss_label,
  (port_good (Alu One) 600 (pos 500) (pos 4700) vdd rail_width (near_pos 500 (omega arith)) (near_pos 4700 (omega arith)) vdd_label, tt),
)

supplies_good : (w : ℕ) → w ≤ 1100000000 → AreGood (row_supplies w)
supplies_good w low =
    let end : IsNear (pos (1500 + w)) = near_pos (1500 + w) (omega (arith, low)) in
    let a = near_pos 500 (omega arith) in
    let b = near_pos 300 (omega arith) in
    let c = near_pos 1000 (omega arith) in
    let d = near_pos 4700 (omega arith) in (
      level_good (Alu One) 600 (pos 500) (pos (1500 + w)) (pos 300) (Some vss) rail_width a end b vss_label,
      (
        level_good (Alu One) 600 (pos 500) (pos (1500 + w)) (pos 4700) (Some vdd) rail_width a end d vdd_label,
        (
          upright_good (Alu Three) 200 (pos 500) (pos 300) (pos 300) (Some vss) wire_width a b b vss_label,
          (
            low_via_good (pos 500) (pos 300) (Some vss) a b vss_label,
            (
              high_via_good (pos 500) (pos 300) (Some vss) a b vss_label,
              (
                upright_good (Alu Three) 200 (pos 1000) (pos 4700) (pos 4700) (Some vdd) wire_width c d d vdd_label,
                (
                  low_via_good (pos 1000) (pos 4700) (Some vdd) c d vdd_label,
                  (high_via_good (pos 1000) (pos 4700) (Some vdd) c d vdd_label, tt),
                ),
              ),
            ),
          ),
        ),
      ),
    )

tracks_good : (k : ℕ) (names : List Name) → k + length names ≤ 100000 → ((name : Name) → In name names → IsGoodLabel (Some name)) → AreGood (track_ports k names)
tracks_good k [] few each = tt
tracks_good k (name ∷ rest) few each = (
  port_good (Alu Two) 200 (pos 1500) (track_y k) name wire_width (near_pos 1500 (omega arith)) (near_track k (omega (arith, few))) (each name here),
  tracks_good (suc k) rest (omega (arith, few)) (λ other i. each other (there i)),
)

pub label_at : (names : List Name) → ((name : Name) → In name names → IsGoodLabel (Some name)) → (k : ℕ) → IsGoodLabel (slice_get names k)
label_at names each k = by (slice_get names k) refl where
  by : (o : Option Name) → slice_get names k ≡ o → IsGoodLabel o
  by None e = no_label
  by (Some name) e = each name (In_get names k name e)

port_near : (name : Option Name) → AllByRecursion IsNear (port_xs name)
port_near None = tt
port_near (Some name) = (near_pos 1500 (omega arith), tt)

track_good : (k : ℕ) (name : Option Name) (ps xs : List ℤ) → IsNear (track_y k) → IsGoodLabel name → ((z : ℤ) → In z xs → IsNear z) → ((z : ℤ) → In z ps → IsNear z)
    → AreGood (track_over k name ps xs)
track_good k name ps [] high label a b = tt
track_good k name ps (x ∷ xs) high label a b = (
  level_good (Alu Two) 200 (least x (xs ++ ps)) (greatest x (xs ++ ps)) (track_y k) name wire_width
      (least_one IsNear x (xs ++ ps) (a x here) both) (greatest_one IsNear x (xs ++ ps) (a x here) both) high label,
  tt,
)
  where
    both : (z : ℤ) → In z (xs ++ ps) → IsNear z
    both z i = elim (In-split z xs ps i) [ inl g ↦ a z (there g) | inr g ↦ b z g ]

near_x : (q : Point) → IsPinPoint q → IsNear q.0
near_x q at = let low = at.near in subst (λ (p : Point). IsNear p.0) (sym at.is) (near_pos at.x (omega (arith, low)))

near_y : (q : Point) → IsPinPoint q → IsNear q.1
near_y q at = let low = at.low in subst (λ (p : Point). IsNear p.1) (sym at.is) (near_pos at.y (omega (arith, low)))

riser_good : (k : ℕ) (name : Option Name) (q : Point) → IsNear (track_y k) → IsGoodLabel name → IsPinPoint q → AreGood (riser k name q)
riser_good k name q high label at =
    let x = near_x q at in
    let y = near_y q at in (
      upright_good (Alu Three) 200 q.0 q.1 (track_y k) name wire_width x y high label,
      (low_via_good q.0 q.1 name x y label, (high_via_good q.0 q.1 name x y label, (high_via_good q.0 (track_y k) name x high label, tt))),
    )

module _ (n : AbstractNetlist) (l : Library) (net : Numbering) (ports : List Name) (each : (one : Member) → In one n.instances → IsModelOf l one) (few : length n.instances ≤ 65536)
    (labels : (name : Name) → In name ports → IsGoodLabel (Some name)) where
  net_good : (k : ℕ) → k ≤ 100000 → AreGood (net_wiring n l net ports k)
  net_good k low =
      let name = slice_get ports k in
      let label : IsGoodLabel name = label_at ports labels k in
      let high = near_track k low in
      let xs = of_pins n l net k (λ (q : Point). q.0 ∷ []) in
      good_append (track_over k name (port_xs name) xs) (of_pins n l net k (riser k name))
      (track_good k name (port_xs name) xs high label
      (pins_all IsNear n l net k (λ (q : Point). q.0 ∷ []) each few (λ q at z i. all_in IsNear (q.0 ∷ []) (near_x q at, tt) z i))
      (all_in IsNear (port_xs name) (port_near name)))
      (all_by IsGood (of_pins n l net k (riser k name))
      (pins_all IsGood n l net k (riser k name) each few (λ q at one i. all_in IsGood (riser k name q) (riser_good k name q high label at) one i)))

  pub nets_good : (many : ℕ) → many ≤ 100000 → AreGood (flat_map (net_wiring n l net ports) (count_to many))
  nets_good zero low = tt
  nets_good (suc many) low =
      subst (λ (items : List Item). AreGood items) (sym (flat_map-append (net_wiring n l net ports) (count_to many) (many ∷ [])))
      (good_append (flat_map (net_wiring n l net ports) (count_to many)) (flat_map (net_wiring n l net ports) (many ∷ [])) (nets_good many (omega (arith, low)))
      (good_append (net_wiring n l net ports many) [] (net_good many (omega (arith, low))) tt))

-- ---- names of instances

pub names_listed : (items : List Item) → instance_names items ≡ map (λ (i : Instance). i.name) (instances_of items)
names_listed [] = refl
names_listed (item.Segment s ∷ rest) = names_listed rest
names_listed (item.Connector c ∷ rest) = names_listed rest
names_listed (item.Via v ∷ rest) = names_listed rest
names_listed (item.Instance i ∷ rest) = ap (λ (names : List (List ℕ)). i.name ∷ names) (names_listed rest)
names_listed (item.Reference r ∷ rest) = names_listed rest
names_listed (item.Remark text ∷ rest) = names_listed rest

pub apart : (names : List (List ℕ)) → NoneTwice names → AllPairs (λ a b. a ≢ b) names
apart names once i j d low high same =
    let first : Stands names i (get_or names i d) = slice_get-get_or names i d (omega (arith, low, high)) in
    let second : Stands names j (get_or names j d) = slice_get-get_or names j d high in
    let one : i ≡ j = once i j (get_or names j d) (subst (λ (x : List ℕ). Stands names i x) same first) second in
    omega (arith, low, one)

-- ---- the figure

-- the names of an instance can be written
pub record IsNamedWell (one : Member) : Type 0 where
  pub name : IsWord one.name
  pub model : IsWord one.model
  pub short_name : IsShort one.name
  pub short_model : IsShort one.model

-- a box with its edges in order, within the limits
pub record IsBoxWithin (b : Rect) : Type 0 where
  pub order : IsRect b
  pub x1 : IsNear b.x1
  pub y1 : IsNear b.y1
  pub x2 : IsNear b.x2
  pub y2 : IsNear b.y2

module _ (l : Library) (n : InMemory) (passed : HasPassed false l) (given : IsDrawableIn l n) (named : CanBeNamed n) (short : HasShortNames n)
    (few : HasFewPins n) (few_ports : length n.ports ≤ 8192) where
  -- the netlist of layouts that it is known by
  abbrev k : AbstractNetlist
  k = known n

  abbrev seen : IsSeenAs n k
  seen = known_seen n given.sound

  abbrev net : Numbering
  net = net_number k l

  abbrev names : List Name
  names = signal_ports k

  is_orderly : IsOrderly k l
  is_orderly = orderly l n passed given k seen

  members : k.instances ≡ map member_of n.instances
  members = seen_instances n k seen

  pub few_members : length k.instances ≤ 65536
  few_members =
      let a = ap (λ (ms : List Member). length ms) members in
      let b = length-map n.instances member_of in
      let c = few.instances in
      omega (arith, a, b, c)

  -- the pins of an instance are those of its cell, with its supplies
  pins_of_cell : (i : Node) → In i n.instances → signal_pins l (member_of i) ≤ length (filter is_signal i.pins)
  pins_of_cell i listed =
      let own = own_cell l n given i (in_place i n.instances listed) in
      let formed = All-In IsFormed l.cells passed.formed own.cell (named_cell l.cells i.model own.cell own.found).0 in
      subst (λ (o : Option Cell). cell_pins o ≤ length (filter is_signal i.pins)) (sym own.found)
      (subst (λ (pins : List Name). length (pin_ports own.cell) ≤ length (filter is_signal pins)) (sym own.pins) (cell_signals own.cell formed))

  few_pins : sum_by (signal_pins l) k.instances ≤ 163840
  few_pins =
      let a = ap (λ (ms : List Member). sum_by (signal_pins l) ms) members in
      let b = sums_less (signal_pins l) (λ (i : Node). length (filter is_signal i.pins)) member_of n.instances pins_of_cell in
      let c = few.pins in
      omega (arith, a, b, c)

  pub models : (one : Member) → In one k.instances → IsModelOf l one
  models one listed =
      let r = is_orderly.models one listed in
      let clean = r.3 in
      let own = (named_cell l.cells one.model r.0 r.1).0 in
      let passes = All-In (λ (c : Cell). IsVerdict false c verdict.Passes) l.cells passed.passes r.0 own in
      record {
        cell = r.0;
        found = r.1;
        usable = r.2;
        clean = clean;
        narrow = elim (cases_lt 32 clean.columns) [
          | inl wide ↦ absurd (passes.1 clean.columns (record {
            mappable = usable_is_mappable r.0 r.2;
            box = record {
              wide = clean.wide;
              left = ap (λ (b : Rect). b.x1) clean.box;
              low = ap (λ (b : Rect). b.y1) clean.box;
              right = ap (λ (b : Rect). b.x2) clean.box;
              high = ap (λ (b : Rect). b.y2) clean.box;
            };
            wide = wide;
          }))
          | inr narrow ↦ narrow
        ];
      }

  -- names of ports
  label_of_port : (p : Port) → In p n.ports → IsGoodLabel (Some p.name)
  label_of_port p i =
      let word = All-In (λ (q : Port). IsIdentifier q.name.text) n.ports named.ports.words p i in
      let small = All-In (λ (q : Port). (length q.name.text ≤ 64) × IfSome q.name.bit (λ b. b < 2 ^ 32)) n.ports short.ports p i in
      record { label = (word_of p.name.text word.0, small.1); short = small.0 }

  pub labels : (name : Name) → In name names → IsGoodLabel (Some name)
  labels name i =
      let a = (in_filter is_signal k.ports name i).0 in
      let r = In-map_back (λ (p : Port). p.name) name n.ports (subst (λ (xs : List Name). In name xs) (seen_ports n k seen) a) in
      subst (λ (x : Name). IsGoodLabel (Some x)) r.2 (label_of_port r.0 r.1)

  pub few_names : length names ≤ 8192
  few_names =
      let a = filter_less is_signal k.ports in
      let b = ap (λ (xs : List Name). length xs) (seen_ports n k seen) in
      let c = length-map n.ports (λ (p : Port). p.name) in
      omega (arith, a, b, c)

  pub named_well : (one : Member) → In one k.instances → IsNamedWell one
  named_well one i =
      let r = In-map_back member_of one n.instances (subst (λ (ms : List Member). In one ms) members i) in
      let word = All-In CanBeAnInstance n.instances named.instances r.0 r.1 in
      let small = All-In (λ (x : Node). (length x.name ≤ 64) × (length x.model ≤ 64)) n.instances short.instances r.0 r.1 in
      subst IsNamedWell r.2 (record {
        name = word_of r.0.name word.0.0;
        model = word_of r.0.model word.1.0;
        short_name = small.0;
        short_model = small.1;
      })

  instance_at : (one : Member) (b : ℕ) → In one k.instances → b ≤ 1100000000 → AllByRecursion (λ (i : Instance). IsGood (item.Instance i)) (stood NoSym (pos 0) (pos b) one)
  instance_at one b i low =
      let w = named_well one i in (
        instance_good (record { x = pos b; y = pos 0; model = one.model; name = one.name; transform = NoSym }) (near_pos b (omega (arith, low))) (near_pos 0 (omega arith)) w.model w.name
            w.short_model w.short_name,
        tt,
      )

  instances_good : AreGood (map item.Instance (standing l NoSym (pos 0) (pos 1500) k.instances))
  instances_good = all_by IsGood (map item.Instance (standing l NoSym (pos 0) (pos 1500) k.instances)) (λ one i.
      let r = In-map_back (λ (x : Instance). item.Instance x) one (standing l NoSym (pos 0) (pos 1500) k.instances) i in
      let s = spread l (stood NoSym (pos 0)) k.instances 1500 models r.0 (subst (λ (is : List Instance). In r.0 is) (standing_is l NoSym (pos 0) (pos 1500) k.instances) r.1) in
      let low = s.3 in
      let members_few = few_members in
      subst IsGood r.2 (all_in (λ (x : Instance). IsGood (item.Instance x)) (stood NoSym (pos 0) (pos s.1) s.0) (instance_at s.0 s.1 s.2 (omega (arith, low, members_few))) r.0 s.4))

  -- how many nets there are
  few_nets : net_count k ≤ length names + length k.instances
  few_nets =
      let a = nets_are_counted k l is_orderly in
      let b = length-append (port_classes k) (filter (λ class. not (is_among (port_classes k) class)) (driven k l k.instances)) in
      let c = length-map names (λ (name : Name). k.class (port name)) in
      let d = filter_less (λ class. not (is_among (port_classes k) class)) (driven k l k.instances) in
      let e = driven_few k l k.instances models in
      omega (arith, a, b, c, d, e)

  pub few_tracks : net_count k ≤ 100000
  few_tracks = let a = few_nets in let b = few_members in let c = few_names in omega (arith, a, b, c)

  row_wide : (w : ℕ) × (pos w ≡ row_width l k.instances) × (w ≤ 1100000000)
  row_wide =
      let r = row_is l k.instances models in
      let low = r.2 in
      let members_few = few_members in
      (r.0, r.1, omega (arith, low, members_few))

  module _ (f : Figure) (drawn : IsDrawnInTracks l n f) where
    items_are : f.items ≡ track_items k l net names
    items_are = drawn.lines k seen

    goods : AreGood f.items
    goods =
        subst (λ (items : List Item). AreGood items) (sym items_are)
        (good_append supply_ports (track_ports 0 names ++ (map item.Instance (standing l NoSym (pos 0) (pos 1500) k.instances) ++ (supplies l (k.instances ∷ []) ++ wiring k l net names))) supply_ports_good
        (good_append (track_ports 0 names) (map item.Instance (standing l NoSym (pos 0) (pos 1500) k.instances) ++ (supplies l (k.instances ∷ []) ++ wiring k l net names))
        (tracks_good 0 names (let a = few_names in omega (arith, a)) labels)
        (good_append (map item.Instance (standing l NoSym (pos 0) (pos 1500) k.instances)) (supplies l (k.instances ∷ []) ++ wiring k l net names) instances_good
        (good_append (supplies l (k.instances ∷ [])) (wiring k l net names)
        (subst (λ (items : List Item). AreGood items) (supplies_are l row_wide.0 k.instances row_wide.1) (supplies_good row_wide.0 row_wide.2))
        (nets_good k l net names models few_members labels (net_count k) few_tracks)))))

    -- two lines for each port, one for each instance and one for its net, four for each of its signal pins, and ten for the supplies
    few_items : length f.items ≤ 10 + (2 * length names + 2 * length k.instances + 4 * sum_by (signal_pins l) k.instances)
    few_items =
        let is = standing l NoSym (pos 0) (pos 1500) k.instances in
        let a = ap (λ (items : List Item). length items) items_are in
        let b = length-append (track_ports 0 names) (map item.Instance is ++ (supplies l (k.instances ∷ []) ++ wiring k l net names)) in
        let c = length-append (map item.Instance is) (supplies l (k.instances ∷ []) ++ wiring k l net names) in
        let d = ports_long 0 names in
        let e = length-map is (λ (x : Instance). item.Instance x) in
        let g = standing_long l NoSym (pos 0) (pos 1500) k.instances in
        let h = nets_few k l net names (net_count k) models in
        let j = few_nets in
        omega (arith, a, b, c, d, e, g, h, j)
      where
        ports_long : (j : ℕ) (xs : List Name) → length (track_ports j xs) ≡ length xs
        ports_long j [] = refl
        ports_long j (x ∷ xs) = ap suc (ports_long (suc j) xs)

    box : IsBoxWithin f.bounds
    box =
        let wide : (pos 2000 +ℤ rows_width l (k.instances ∷ [])) ≡ pos (2000 + row_wide.0) = ap (λ (z : ℤ). pos 2000 +ℤ z) (rows_are l row_wide.0 k.instances row_wide.1) in
        let low = row_wide.2 in
        subst IsBoxWithin (sym (drawn.box k seen ∙ ap (λ (z : ℤ). record { x1 = pos 0; y1 = pos 0; x2 = z; y2 = track_y (net_count k) }) wide)) (record {
          order = record { wide = omega (arith, ints); tall = omega (arith, ints) };
          x1 = near_pos 0 (omega arith);
          y1 = near_pos 0 (omega arith);
          x2 = near_pos (2000 + row_wide.0) (omega (arith, low));
          y2 = near_track (net_count k) few_tracks;
        })

    title : IsGoodLabel f.name
    title = subst IsGoodLabel (sym drawn.named) (record { label = (word_of n.name named.name.0, tt); short = short.name })

    instance_names_are : instance_names f.items ≡ map (λ (i : Node). i.name) n.instances
    instance_names_are =
        names_listed f.items
        ∙ sym (map_twice (λ (m : Member). m.name) (λ (i : Instance). record { name = i.name; model = i.model }) (instances_of f.items))
        ∙ ap (λ (ms : List Member). map (λ (m : Member). m.name) ms) (sym (drawn.shows k seen).instances)
        ∙ ap (λ (ms : List Member). map (λ (m : Member). m.name) ms) members
        ∙ map_twice (λ (m : Member). m.name) member_of n.instances

    lines : AllByRecursion IsLine f.items
    lines = all_so IsGood IsLine (λ one g. g.line) f.items goods

    within : AllByRecursion IsItemWithin f.items
    within = all_so IsGood IsItemWithin (λ one g. g.within) f.items goods

    few_bytes : length (text_of f) ≤ 268435456
    few_bytes =
        let a = length-append (head_text f.name f.bounds) (items_text f.items) in
        let b = head_brief f.name f.bounds title.label title.short box.x1 box.y1 box.x2 box.y2 in
        let c = lines_brief f.items lines within (all_so IsGood IsBrief (λ one g. g.brief) f.items goods) in
        let d = few_items in
        let e = few_names in
        let g = few_members in
        let h = few_pins in
        omega (arith, a, b, c, d, e, g, h)

    pub is_figure : IsFigure f
    is_figure = record {
      name = title.label;
      box = box.order;
      lines = all_of IsLine f.items lines;
      instances = subst (λ (xs : List (List ℕ)). AllPairs (λ a b. a ≢ b) xs) (sym instance_names_are) (apart (map (λ (i : Node). i.name) n.instances) given.sound.names);
    }

    pub is_within : IsWithinLimits f
    is_within = record {
      few = few_bytes;
      near = record {
        name = title.short;
        x1 = box.x1;
        y1 = box.y1;
        x2 = box.x2;
        y2 = box.y2;
        items = all_of IsItemWithin f.items within;
      };
    }

pub drawing_can_be_written : DrawingCanBeWritten
drawing_can_be_written l n f passed given named short few ports drawn =
    (is_figure l n passed given named short few ports f drawn, is_within l n passed given named short few ports f drawn)
