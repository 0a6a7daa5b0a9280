-- How far a row reaches, and which classes its sites have.
use Rattle.std.proofs.Common.{◌≡◌, inl, inr, ℕ, ◌<◌, ◌≤◌, List, [], ◌∷◌, map, length, Option, Some, None, false, refl, sym, ap, subst, ◌∙◌, arith, not}
use Rattle.std.specs.Prelude.{ℤ, pos, ◌+ℤ◌, ◌≤ℤ◌, filter}
use Rattle.std.proofs.lemmas.Int.{ints}
use Rattle.std.proofs.lemmas.List.{take_all}
use Rattle.std.proofs.lemmas.Option.{same_Some}
use Rattle.vlsi_base.specs.declared.name.Name.{Name}
use Rattle.vlsi_base.specs.declared.name.Port.{Port}
use Rattle.vlsi_base.specs.Member.{In, here, there}
use Rattle.machine_core.specs.Machine.{names_of, is_input}
use Rattle.sym_geom.specs.declared.grid.TheConstants.{FIRST_CELL_X}
use Rattle.cell_model.specs.Access.{Point, access_point}
use Rattle.cell_model.specs.Cell.{Cell, cell_width, pin_ports, cell_outputs}
use Rattle.cell_model.specs.Library.{Library, cell_of, IsUsable}
use Rattle.cell_model.proofs.Mapped.{usable_is_mappable}
use Rattle.cell_model.proofs.Members.{In-split, In-map, In-map_back, All-from}
use Rattle.cell_checks.specs.Checks.{StandsInRow}
use Rattle.cell_checks.specs.Checked.{IsChecked as HasPassed}
use Rattle.cell_pins.proofs.Ports.{in_filter}
use Rattle.net_meaning.specs.Netlist.{Member, AbstractNetlist, pin_of, a_pin}
use Rattle.ocp_rows.specs.Placement.{model_width, width_of, row_width}
use Rattle.ocp_place.specs.declared.row.Row.{Row}
use Rattle.ocp_place.specs.declared.row.Site.{Site as Placed}
use Rattle.ocp_place.specs.Orderly.{IsOrderly}
use Rattle.ocp_place.specs.Nets.{driven, driven_by}
use Rattle.ocp_place.specs.Sites.{Site, site_at, own_sites, row_sites, row_starts, pin_sites}
use Rattle.ocp_place.specs.Reaches.{site_of}
use Rattle.ocp_place.specs.Rows.{IsRow}
use Rattle.ocp_place.proofs.Boxed.{access_within}
use Rattle.ocp_place.proofs.Laid.{IsRowTo}
use Rattle.ocp_place.proofs.Models.{cell_row}
use Rattle.ocp_place.proofs.Points.{site, flat_back}

row_up : (l : Library) (ms : List Member) → ((m : Member) → In m ms → pos 0 ≤ℤ model_width l m.model) → pos 0 ≤ℤ row_width l ms
row_up l [] each = omega (arith, ints)
row_up l (one ∷ rest) each =
    let a = each one here in let b = row_up l rest (λ m i. each m (there i)) in
    sum (model_width l one.model) (row_width l rest) a b
  where
    sum : (a b : ℤ) → pos 0 ≤ℤ a → pos 0 ≤ℤ b → pos 0 ≤ℤ (a +ℤ b)
    sum a b h g = omega (arith, ints)

-- the pin of a site
pub record IsOwn (k : AbstractNetlist) (l : Library) (end : ℤ) (ms : List Member) (s : Site) : Type 0 where
  pub owner : Member
  pub cell : Cell
  pub pin : Name
  pub start : ℤ
  pub reached : Point
  pub listed : In owner ms
  pub found : cell_of l owner.model ≡ Some cell
  pub is_pin : In pin (names_of (pin_ports cell))
  pub access : access_point cell pin ≡ Some reached
  pub is : s ≡ site (k.class (pin_of owner.name pin)) (reached.0 +ℤ start, reached.1)
  pub upto : (start +ℤ cell_width cell) ≤ℤ end

own_here : (k : AbstractNetlist) (l : Library) (x : ℤ) (one : Member) (rest : List Member) (s : Site) → ((m : Member) → In m rest → pos 0 ≤ℤ model_width l m.model)
    → (o : Option Cell) → cell_of l one.model ≡ o → In s (own_sites k x one.name o) → IsOwn k l (x +ℤ row_width l (one ∷ rest)) (one ∷ rest) s
own_here k l x one rest s each None found i = elim i [ ]
own_here k l x one rest s each (Some c) found i =
    let r = flat_back (λ pin. site_at (k.class (pin_of one.name pin)) x (access_point c pin)) (names_of (pin_ports c)) s i in
    by r.0 r.1 (access_point c r.0) refl r.2
  where
    head : (t : Site) → In s (t ∷ []) → s ≡ t
    head t here = refl
    head t (there j) = elim j [ ]

    up : (x v w r : ℤ) → v ≡ w → pos 0 ≤ℤ r → (x +ℤ v) ≤ℤ (x +ℤ (w +ℤ r))
    up x v w r e h = omega (arith, ints)

    by : (pin : Name) → In pin (names_of (pin_ports c)) → (o : Option Point) → access_point c pin ≡ o → In s (site_at (k.class (pin_of one.name pin)) x o)
        → IsOwn k l (x +ℤ row_width l (one ∷ rest)) (one ∷ rest) s
    by pin h None f j = elim j [ ]
    by pin h (Some a) f j = record {
      owner = one;
      cell = c;
      pin = pin;
      start = x;
      reached = a;
      listed = here;
      found = found;
      is_pin = h;
      access = f;
      is = head (k.class (pin_of one.name pin), (a.0 +ℤ x, a.1)) j;
      upto = up x (cell_width c) (model_width l one.model) (row_width l rest) (ap width_of (sym found)) (row_up l rest each);
    }

pub own_back : (k : AbstractNetlist) (l : Library) (x : ℤ) (ms : List Member) (s : Site) → ((m : Member) → In m ms → pos 0 ≤ℤ model_width l m.model) → In s (row_sites k l x ms)
    → IsOwn k l (x +ℤ row_width l ms) ms s
own_back k l x [] s each i = elim i [ ]
own_back k l x (one ∷ rest) s each i =
    elim (In-split s (own_sites k x one.name (cell_of l one.model)) (row_sites k l (x +ℤ model_width l one.model) rest) i) [
      | inl a ↦ own_here k l x one rest s (λ m j. each m (there j)) (cell_of l one.model) refl a
      | inr b ↦ later (own_back k l (x +ℤ model_width l one.model) rest s (λ m j. each m (there j)) b)
    ]
  where
    shift : (x v r : ℤ) → (x +ℤ v) +ℤ r ≡ x +ℤ (v +ℤ r)
    shift x v r = omega (arith, ints)

    later : IsOwn k l ((x +ℤ model_width l one.model) +ℤ row_width l rest) rest s → IsOwn k l (x +ℤ row_width l (one ∷ rest)) (one ∷ rest) s
    later o = record {
      owner = o.owner;
      cell = o.cell;
      pin = o.pin;
      start = o.start;
      reached = o.reached;
      listed = there o.listed;
      found = o.found;
      is_pin = o.is_pin;
      access = o.access;
      is = o.is;
      upto = subst (λ (z : ℤ). (o.start +ℤ cell_width o.cell) ≤ℤ z) (shift x (model_width l one.model) (row_width l rest)) o.upto;
    }

starts_low : (l : Library) (x : ℤ) (ms : List Member) → ((m : Member) → In m ms → pos 0 ≤ℤ model_width l m.model) → (z : ℤ) → In z (row_starts l x ms) → z ≤ℤ (x +ℤ row_width l ms)
starts_low l x [] each z i = elim i [ ]
starts_low l x (one ∷ rest) each z i = by z i (starts_low l (x +ℤ model_width l one.model) rest (λ m h. each m (there h))) where
  up : (x r : ℤ) → pos 0 ≤ℤ r → x ≤ℤ (x +ℤ r)
  up x r h = omega (arith, ints)

  shift : (z x v r : ℤ) → z ≤ℤ ((x +ℤ v) +ℤ r) → z ≤ℤ (x +ℤ (v +ℤ r))
  shift z x v r h = omega (arith, ints)

  by : (z : ℤ) → In z (x ∷ row_starts l (x +ℤ model_width l one.model) rest)
      → ((w : ℤ) → In w (row_starts l (x +ℤ model_width l one.model) rest) → w ≤ℤ ((x +ℤ model_width l one.model) +ℤ row_width l rest)) → z ≤ℤ (x +ℤ row_width l (one ∷ rest))
  by z here next = up x (row_width l (one ∷ rest)) (row_up l (one ∷ rest) each)
  by z (there j) next = shift z x (model_width l one.model) (row_width l rest) (next z j)

module _ (k : AbstractNetlist) (l : Library) (plain : HasPassed false l) (orderly : IsOrderly k l) where
  usable : (one : Member) (c : Cell) → In one k.instances → cell_of l one.model ≡ Some c → IsUsable c
  usable one c i found = let r = orderly.models one i in subst (λ (x : Cell). IsUsable x) (same_Some r.0 c (sym r.1 ∙ found)) r.2

  in_row : (one : Member) (c : Cell) → In one k.instances → cell_of l one.model ≡ Some c → StandsInRow c
  in_row one c i found = cell_row l one.model c plain found (usable_is_mappable c (usable one c i found))

  wide : (one : Member) → In one k.instances → pos 0 ≤ℤ model_width l one.model
  wide one i =
      let r = orderly.models one i in
      let row = in_row one r.0 i r.1 in
      subst (λ o. pos 0 ≤ℤ width_of o) (sym r.1) (up r.0 row)
    where
      up : (c : Cell) → StandsInRow c → pos 0 ≤ℤ cell_width c
      up c row = let ex = row.box.left in let er = row.box.right in omega (arith, ints)

  pub class_low : (one : Member) (c : Cell) (pin : Name) → In one k.instances → cell_of l one.model ≡ Some c → In pin (names_of (pin_ports c)) → k.class (pin_of one.name pin) < k.classes
  class_low one c pin i found h = orderly.counted.numbered (pin_of one.name pin) (a_pin one c i found (((usable one c i found).connectors pin).1 (inr (inr h))))

  module _ (width : ℕ) (width_is : pos width ≡ row_width l k.instances) (narrow : width ≤ 70000000000000) where
    pub site_low : (s : Placed) → In (site_of s) (pin_sites k l) → (s.class < k.classes) × (s.x ≤ 100000000000000) × (s.y ≤ 5000)
    site_low s i =
        let o = own_back k l (pos FIRST_CELL_X) k.instances (site_of s) wide i in
        let at = access_within o.cell o.pin o.reached (in_row o.owner o.cell o.listed o.found) o.access in
        let class : s.class ≡ k.class (pin_of o.owner.name o.pin) = ap (λ (t : Site). t.0) o.is in
        let low = class_low o.owner o.cell o.pin o.listed o.found o.is_pin in
        let across : pos s.x ≡ o.reached.0 +ℤ o.start = ap (λ (t : Site). (t.1).0) o.is in
        let upwards : pos s.y ≡ o.reached.1 = ap (λ (t : Site). (t.1).1) o.is in
        let ax : o.reached.0 ≡ pos at.x = ap (λ (q : Point). q.0) at.is in
        let ay : o.reached.1 ≡ pos at.y = ap (λ (q : Point). q.1) at.is in (
          omega (arith, class, low),
          far s.x o.reached.0 o.start (cell_width o.cell) (row_width l k.instances) across (subst (λ (z : ℤ). z ≤ℤ cell_width o.cell) (sym ax) at.wide) o.upto width_is,
          high s.y at.y (upwards ∙ ay) at.high,
        )
      where
        far : (x : ℕ) (q start v w : ℤ) → pos x ≡ q +ℤ start → q ≤ℤ v → (start +ℤ v) ≤ℤ (pos FIRST_CELL_X +ℤ w) → pos width ≡ w → x ≤ 100000000000000
        far x q start v w e a b c = omega (arith, ints, narrow)

        high : (y b : ℕ) → pos y ≡ pos b → b ≤ 5000 → y ≤ 5000
        high y b e h = omega (arith, ints)

    pub start_low : (x : ℕ) → In (pos x) (row_starts l (pos FIRST_CELL_X) k.instances) → x ≤ 100000000000000
    start_low x i = far x (row_width l k.instances) (starts_low l (pos FIRST_CELL_X) k.instances wide (pos x) i) width_is where
      far : (x : ℕ) (w : ℤ) → pos x ≤ℤ (pos FIRST_CELL_X +ℤ w) → pos width ≡ w → x ≤ 100000000000000
      far x w a c = omega (arith, ints, narrow)

  -- the whole row
  pub whole_row : (count : ℕ) (r : Row) → length k.instances ≡ count → r.width ≤ 70000000000000 → IsRowTo k l count r → IsRow k l r
  whole_row count r many narrow so_far =
      let all = take_all count k.instances (omega (arith, many)) in
      let starts : map pos r.starts.items ≡ row_starts l (pos FIRST_CELL_X) k.instances = so_far.starts ∙ ap (row_starts l (pos FIRST_CELL_X)) all in
      let sites : map site_of r.sites.items ≡ pin_sites k l = so_far.sites ∙ ap (row_sites k l (pos FIRST_CELL_X)) all in
      let width : pos r.width ≡ row_width l k.instances = so_far.width ∙ ap (row_width l) all in
      let low : (s : Placed) → In s r.sites.items → (s.class < k.classes) × (s.x ≤ 100000000000000) × (s.y ≤ 5000) = λ s i.
      site_low r.width width narrow s (subst (λ (ss : List Site). In (site_of s) ss) sites (In-map site_of s r.sites.items i)) in
      record {
        starts = starts;
        sites = sites;
        drivers = so_far.drivers ∙ ap (driven k l) all;
        width = width;
        narrow = narrow;
        classes = All-from (λ (s : Placed). s.class < k.classes) r.sites.items (λ s i. (low s i).0);
        near = All-from (λ (x : ℕ). x ≤ 100000000000000) r.starts.items
            (λ x i. start_low r.width width narrow x (subst (λ (zs : List ℤ). In (pos x) zs) starts (In-map (λ (n : ℕ). pos n) x r.starts.items i)));
        heights = All-from (λ (s : Placed). (s.x ≤ 100000000000000) × (s.y ≤ 5000)) r.sites.items (λ s i. let h = low s i in (h.1, h.2));
      }

  -- the classes of output pins
  pub driven_low : (ms : List Member) → ((one : Member) → In one ms → In one k.instances) → (class : ℕ) → In class (driven k l ms) → class < k.classes
  driven_low [] each class i = elim i [ ]
  driven_low (one ∷ rest) each class i = elim (In-split class (driven_by k one.name (cell_of l one.model)) (driven k l rest) i) [
    | inl a ↦ own (cell_of l one.model) refl a
    | inr b ↦ driven_low rest (λ m h. each m (there h)) class b
  ] where
    own : (o : Option Cell) → cell_of l one.model ≡ o → In class (driven_by k one.name o) → class < k.classes
    own None found a = elim a [ ]
    own (Some c) found a =
        let r = In-map_back (λ pin. k.class (pin_of one.name pin)) class (cell_outputs c) a in
        let p = In-map_back (λ (q : Port). q.name) r.0 (filter (λ (q : Port). not (is_input q.dir)) (pin_ports c)) r.1 in
        let whole = (in_filter (λ (q : Port). not (is_input q.dir)) (pin_ports c) p.0 p.1).0 in
        let pin : In r.0 (names_of (pin_ports c)) = subst (λ (x : Name). In x (names_of (pin_ports c))) p.2 (In-map (λ (q : Port). q.name) p.0 (pin_ports c) whole) in
        subst (λ (j : ℕ). j < k.classes) r.2 (class_low one c r.0 (each one here) found pin)
