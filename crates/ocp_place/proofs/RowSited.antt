-- The points of terminals of a netlist in rows are those of its ports and of the pins of its instances.
use Rattle.std.proofs.Common.{◌≡◌, ◌≢◌, ℕ, ◌/◌, ◌<◌, Bool, true, false, List, [], ◌∷◌, map, length, Option, Some, None, refl, sym, ap, subst, ◌∙◌, arith}
use Rattle.std.specs.Prelude.{pos, slice_get, slice_index_or, AllPairs, IsPermutation, Contains}
use Rattle.std.proofs.lemmas.Bool.{cond-true, cond-false}
use Rattle.std.proofs.lemmas.List.{length-map}
use Rattle.std.proofs.lemmas.List.Sorted.{IsPermutation-sym, Contains-permutation}
use Rattle.std.proofs.lemmas.Option.{slice_get_within, get_or_from_slice_get}
use Rattle.vlsi_base.specs.declared.name.Name.{Name}
use Rattle.vlsi_base.specs.Names.{vdd, vss}
use Rattle.vlsi_base.specs.Member.{In, here, there}
use Rattle.machine_core.specs.Machine.{names_of}
use Rattle.machine_core.specs.Named.{is_same_text}
use Rattle.sym_geom.specs.declared.grid.TheConstants.{PITCH}
use Rattle.sym_geom.specs.declared.item.Instance.{Instance}
use Rattle.cell_model.specs.Cell.{Cell, pin_ports}
use Rattle.cell_model.specs.Library.{Library, cell_of}
use Rattle.cell_model.specs.Access.{Point, access_point}
use Rattle.cell_model.proofs.Texts.{text_same, text_itself}
use Rattle.net_meaning.specs.Netlist.{Member, AbstractNetlist, port, pin_of}
use Rattle.ocp_rows.specs.Placement.{natural, standing_rows, block_columns, port_column}
use Rattle.ocp_rows.specs.Length.{instance_point, shown_point, pin_point, half_perimeter, half_box, net_points}
use Rattle.net_drawing.proofs.Coding.{In_get, get_In, get_there}
use Rattle.ocp_place.specs.Nets.{is_signal, signal_ports, port_classes}
use Rattle.ocp_place.specs.Orderly.{IsOrderly}
use Rattle.ocp_place.specs.Sites.{Site, length_of}
use Rattle.ocp_place.specs.Stood.{stood, stood_all, named_rows, point_site, shown_sites, stood_sites, grid_sites, port_grid_sites}
use Rattle.ocp_place.specs.Placed.{InRow, rows_of, stood_in, AreRowsOf}
use Rattle.ocp_place.proofs.Lists.{different_filter, different_names, first_differs, rest_differs}
use Rattle.ocp_place.proofs.Points.{flat_back, flat_there, grid_back, grid_there}
use Rattle.ocp_place.proofs.Sited.{IsPinSite, AreSited, lengths, same_boxes}

-- ---- lists

permuted_in : {A : Type 0} (xs ys : List A) (x : A) → IsPermutation xs ys → In x ys → In x xs
permuted_in xs ys x p h = contained (Contains-permutation ys xs x (IsPermutation-sym xs ys p) (containing (get_In ys x h))) where
  containing : (k : ℕ) × (slice_get ys k ≡ Some x) → Contains ys x
  containing r = (r.0, slice_get_within ys r.0 x r.1, get_or_from_slice_get ys r.0 x x r.1)

  contained : Contains xs x → In x xs
  contained c =
      let r = get_there xs c.0 c.1 in
      let f : r.0 ≡ x = sym (get_or_from_slice_get xs c.0 r.0 x r.1) ∙ c.2 in
      subst (λ v. In v xs) f (In_get xs c.0 r.0 r.1)

-- ---- instances on their spots

abbrev pub as_member : Instance → Member
as_member i = record { name = i.name; model = i.model }

pub stood_listed : (ms : List Member) (xs rows : List ℕ) → length xs ≡ length ms → length rows ≡ length ms → map as_member (stood_all ms xs rows) ≡ ms
stood_listed [] xs rows a b = refl
stood_listed (m ∷ ms) [] rows a b = absurd (omega arith)
stood_listed (m ∷ ms) (x ∷ xs) [] a b = absurd (omega arith)
stood_listed (m ∷ ms) (x ∷ xs) (r ∷ rows) a b = ap (λ (ns : List Member). m ∷ ns) (stood_listed ms xs rows (omega arith) (omega arith))

-- the instance of a member, and the member of an instance
pub stood_there : (ms : List Member) (xs rows : List ℕ) → length xs ≡ length ms → length rows ≡ length ms → (m : Member) → In m ms
    → (i : Instance) × In i (stood_all ms xs rows) × (as_member i ≡ m)
stood_there [] xs rows a b m h = elim h [ ]
stood_there (n ∷ ms) [] rows a b m h = absurd (omega arith)
stood_there (n ∷ ms) (x ∷ xs) [] a b m h = absurd (omega arith)
stood_there (n ∷ ms) (x ∷ xs) (r ∷ rows) a b m here = (stood n x r, here, refl)
stood_there (n ∷ ms) (x ∷ xs) (r ∷ rows) a b m (there h) =
    let s = stood_there ms xs rows (omega arith) (omega arith) m h in (s.0, there s.1, s.2)

pub stood_back : (ms : List Member) (xs rows : List ℕ) (i : Instance) → In i (stood_all ms xs rows) → In (as_member i) ms
stood_back [] xs rows i h = elim h [ ]
stood_back (n ∷ ms) [] rows i h = elim h [ ]
stood_back (n ∷ ms) (x ∷ xs) [] i h = elim h [ ]
stood_back (n ∷ ms) (x ∷ xs) (r ∷ rows) i here = here
stood_back (n ∷ ms) (x ∷ xs) (r ∷ rows) i (there h) = there (stood_back ms xs rows i h)

pub stood_one : (ms : List Member) (xs rows : List ℕ) → AllPairs (λ a b. a.name ≢ b.name) ms → (i j : Instance) → In i (stood_all ms xs rows) → In j (stood_all ms xs rows)
    → i.name ≡ j.name → i ≡ j
stood_one [] xs rows d i j h g e = elim h [ ]
stood_one (n ∷ ms) [] rows d i j h g e = elim h [ ]
stood_one (n ∷ ms) (x ∷ xs) [] d i j h g e = elim h [ ]
stood_one (n ∷ ms) (x ∷ xs) (r ∷ rows) d i j here here e = refl
stood_one (n ∷ ms) (x ∷ xs) (r ∷ rows) d i j here (there g) e = absurd (first_differs n ms d (as_member j) (stood_back ms xs rows j g) e)
stood_one (n ∷ ms) (x ∷ xs) (r ∷ rows) d i j (there h) here e = absurd (first_differs n ms d (as_member i) (stood_back ms xs rows i h) (sym e))
stood_one (n ∷ ms) (x ∷ xs) (r ∷ rows) d i j (there h) (there g) e = stood_one ms xs rows (rest_differs n ms d) i j h g e

-- the point of a pin of an instance whose name no other has
point_found : (l : Library) (all : List Instance) (i : Instance) (pin : Name) → ((j : Instance) → In j all → j.name ≡ i.name → j ≡ i) → In i all
    → pin_point l all i.name pin ≡ instance_point (cell_of l i.model) i pin
point_found l [] i pin one h = elim h [ ]
point_found l (j ∷ rest) i pin one h = by (is_same_text j.name i.name) refl h (λ g. point_found l rest i pin (λ k m. one k (there m)) g) where
  later : (k : Instance) → In k (j ∷ rest) → is_same_text j.name k.name ≡ false → In k rest
  later k here e = let t : true ≡ false = sym (text_itself k.name) ∙ e in absurd (cc t)
  later k (there g) e = g

  by : (b : Bool) → is_same_text j.name i.name ≡ b → In i (j ∷ rest) → (In i rest → pin_point l rest i.name pin ≡ instance_point (cell_of l i.model) i pin)
      → pin_point l (j ∷ rest) i.name pin ≡ instance_point (cell_of l i.model) i pin
  by true e g next =
      let same : j ≡ i = one j here (text_same j.name i.name e) in
      cond-true (is_same_text j.name i.name) (instance_point (cell_of l j.model) j pin) (pin_point l rest i.name pin) e
      ∙ ap (λ (k : Instance). instance_point (cell_of l k.model) k pin) same
  by false e g next =
      cond-false (is_same_text j.name i.name) (instance_point (cell_of l j.model) j pin) (pin_point l rest i.name pin) e
      ∙ next (later i g e)

-- ---- all points

module _ (n : AbstractNetlist) (l : Library) (orderly : IsOrderly n l) (p : InRow) (are : AreRowsOf n l p) where
  abbrev standing : List Instance
  standing = standing_rows l false (pos 0) (named_rows n.instances p.rows)

  point_is : (i : Instance) (pin : Name) → In i (stood_in n p) → pin_point l standing i.name pin ≡ instance_point (cell_of l i.model) i pin
  point_is i pin h =
      point_found l standing i pin
      (λ j g e. stood_one n.instances p.starts p.row_numbers orderly.names j i (permuted_in (stood_in n p) standing j (IsPermutation-sym standing (stood_in n p) are.stands) g) h e)
      (permuted_in standing (stood_in n p) i are.stands h)

  pub columns_are : block_columns l (rows_of n p) ≡ p.width / PITCH
  columns_are = ap (λ w. natural w / PITCH) (sym are.width)

  rows_are : length (named_rows n.instances p.rows) ≡ length p.rows
  rows_are = length-map p.rows _

  ports_are : length (port_classes n) ≡ length (signal_ports n)
  ports_are = length-map (signal_ports n) _

  -- the sites of ports
  abbrev tops : List Site
  tops = port_grid_sites (p.width / PITCH) (length p.rows) (port_classes n)

  tops_are : grid_sites (port_column (length (signal_ports n)) (block_columns l (rows_of n p))) (length (named_rows n.instances p.rows)) 0 (port_classes n) ≡ tops
  tops_are =
      ap (λ c. grid_sites (port_column c (block_columns l (rows_of n p))) (length (named_rows n.instances p.rows)) 0 (port_classes n)) (sym ports_are)
      ∙ ap (λ c. grid_sites (port_column (length (port_classes n)) c) (length (named_rows n.instances p.rows)) 0 (port_classes n)) columns_are
      ∙ ap (λ r. grid_sites (port_column (length (port_classes n)) (p.width / PITCH)) r 0 (port_classes n)) rows_are

  abbrev pins : List Site
  pins = stood_sites n l (stood_in n p)

  pin_back : (m : Member) (c : Cell) (pin : Name) (q : Point) → In m n.instances → cell_of l m.model ≡ Some c → In pin (names_of (pin_ports c))
      → pin_point l standing m.name pin ≡ Some q → In (n.class (pin_of m.name pin), q) pins
  pin_back m c pin q h found signal e =
      let s = stood_there n.instances p.starts p.row_numbers are.starts are.row_numbers m h in
      let i = s.0 in
      let name : i.name ≡ m.name = ap (λ (x : Member). x.name) s.2 in
      let cell : cell_of l i.model ≡ Some c = ap (λ (x : Member). cell_of l x.model) s.2 ∙ found in
      let at : shown_point c i (access_point c pin) ≡ Some q =
      ap (λ (o : Option Cell). instance_point o i pin) (sym cell) ∙ sym (point_is i pin s.1) ∙ ap (λ (x : List ℕ). pin_point l standing x pin) name ∙ e in
      let own : In (n.class (pin_of i.name pin), q) (shown_sites n i (Some c)) =
      flat_there (λ pin. point_site (n.class (pin_of i.name pin)) (shown_point c i (access_point c pin))) (names_of (pin_ports c)) pin (n.class (pin_of i.name pin), q) signal
      (subst (λ (o : Option Point). In (n.class (pin_of i.name pin), q) (point_site (n.class (pin_of i.name pin)) o)) (sym at) here) in
      subst (λ (x : List ℕ). In (n.class (pin_of x pin), q) pins) name
      (flat_there (λ (j : Instance). shown_sites n j (cell_of l j.model)) (stood_in n p) i (n.class (pin_of i.name pin), q) s.1
      (subst (λ (o : Option Cell). In (n.class (pin_of i.name pin), q) (shown_sites n i o)) (sym cell) own))

  pin_there : (class : ℕ) (q : Point) → In (class, q) pins → IsPinSite n l (rows_of n p) class q
  pin_there class q h =
      let r = flat_back (λ (j : Instance). shown_sites n j (cell_of l j.model)) (stood_in n p) (class, q) h in
      own r.0 r.1 (cell_of l r.0.model) refl r.2
    where
      head : (s t : Site) → In s (t ∷ []) → s ≡ t
      head s t here = refl
      head s t (there j) = elim j [ ]

      at : (i : Instance) → In i (stood_in n p) → (c : Cell) → cell_of l i.model ≡ Some c → (pin : Name) → In pin (names_of (pin_ports c))
          → (o : Option Point) → shown_point c i (access_point c pin) ≡ o → In (class, q) (point_site (n.class (pin_of i.name pin)) o) → IsPinSite n l (rows_of n p) class q
      at i g c found pin signal None e k = elim k [ ]
      at i g c found pin signal (Some a) e k =
          let same = head (class, q) (n.class (pin_of i.name pin), a) k in
          record {
            owner = as_member i;
            cell = c;
            pin = pin;
            listed = stood_back n.instances p.starts p.row_numbers i g;
            found = found;
            is_pin = signal;
            class_is = sym (ap (λ (s : Site). s.0) same);
            at = point_is i pin g ∙ ap (λ (o : Option Cell). instance_point o i pin) found ∙ e ∙ ap (λ (s : Site). Some s.1) (sym same);
          }

      own : (i : Instance) → In i (stood_in n p) → (o : Option Cell) → cell_of l i.model ≡ o → In (class, q) (shown_sites n i o) → IsPinSite n l (rows_of n p) class q
      own i g None found k = elim k [ ]
      own i g (Some c) found k =
          let r = flat_back (λ pin. point_site (n.class (pin_of i.name pin)) (shown_point c i (access_point c pin))) (names_of (pin_ports c)) (class, q) k in
          at i g c found r.0 r.1 (shown_point c i (access_point c r.0)) refl r.2

  sited : AreSited n l (rows_of n p) tops pins
  sited = record {
    port_back = λ name q e. subst (λ (ss : List Site). In (n.class (port name), q) ss) tops_are
        (grid_back n (port_column (length (signal_ports n)) (block_columns l (rows_of n p))) (length (named_rows n.instances p.rows)) 0 (signal_ports n) name q e);
    port_there = λ class q i.
        grid_there n (port_column (length (signal_ports n)) (block_columns l (rows_of n p))) (length (named_rows n.instances p.rows)) 0 class (signal_ports n) q
        (different_filter is_signal n.ports (different_names n.ports orderly.order)) (subst (λ (ss : List Site). In (class, q) ss) (sym tops_are) i);
    pin_back = pin_back;
    pin_there = pin_there;
  }

  -- how long the nets are
  pub row_lengths : length_of p.high p.low p.ends ≡ half_perimeter n l (rows_of n p)
  row_lengths = lengths n l orderly (rows_of n p) tops pins sited p.high p.low p.ends are.high are.low are.many are.ends

  pub row_length : (class : ℕ) → class < n.classes → class ≢ n.class (port vdd) → class ≢ n.class (port vss)
      → half_box (slice_index_or p.ends class []) ≡ half_box (net_points n l (rows_of n p) class)
  row_length class low no_vdd no_vss = ap half_box (are.ends class [] low) ∙ same_boxes n l orderly (rows_of n p) tops pins sited class no_vdd no_vss
