-- A placement in memory can be improved by number.
use Rattle.std.proofs.Common.{◌≡◌, ◌⊎◌, inl, inr, ℕ, zero, suc, ◌+◌, ◌*◌, ◌/◌, ◌^◌, ◌<◌, ◌≤◌, Bool, true, false, cond, nat_eq, All, Contains, List, [], ◌∷◌, ◌++◌, filter, length, get_or, slice_index, Option, None, Some, refl, sym, ap, subst, ◌∙◌, arith}
use Rattle.std.specs.Prelude.{pos, filter_map, IfSome, slice_index_or}
use Rattle.std.specs.List.{cons_option}
use Rattle.std.specs.Option.{option_map}
use Rattle.std.proofs.lemmas.Bool.{cases_lt}
use Rattle.std.proofs.lemmas.Int.{ints, int_max_is}
use Rattle.std.proofs.lemmas.List.{length-map, length-append, get_or_default}
use Rattle.std.proofs.lemmas.List.Elements.{All-nil, All-cons, All-map, All-contains}
use Rattle.std.proofs.lemmas.List.Sums.{length-filter, count_by-le-length}
use Rattle.vlsi_base.specs.declared.name.Name.{Name}
use Rattle.sym_geom.specs.declared.grid.TheConstants.{FIRST_CELL_X, PITCH}
use Rattle.cell_model.specs.Access.{Point, count_to, access_point}
use Rattle.cell_model.specs.Cell.{Cell, cell_width}
use Rattle.cell_model.specs.Library.{Library, cell_of}
use Rattle.cell_checks.specs.Checked.{IsChecked as HasPassed}
use Rattle.net_meaning.specs.Netlist.{Member, AbstractNetlist}
use Rattle.ocp_rows.specs.Placement.{Placement, natural, width_of, model_width, rows_width}
use Rattle.ocp_rows.specs.Length.{point_of, terminals, is_net}
use Rattle.ocp_place.specs.Nets.{signal_ports}
use Rattle.ocp_place.specs.Orderly.{IsOrderly}
use Rattle.ocp_place.specs.Placed.{InRow, rows_of, AreRowsOf}
use Rattle.ocp_place.specs.Stood.{member, named_rows, instance_widths}
use Rattle.ocp_place.proofs.Boxed.{access_within}
use Rattle.ocp_place.proofs.Seen.{orderly}
use Rattle.ocp_place.proofs.Turned.{widest_is}
use Rattle.ocp_place.proofs.Widths.{member_in, wide}
use Rattle.row_fill.proofs.Once.{at_most_once, inside}
use Rattle.row_meaning.specs.declared.Pin.{Pin}
use Rattle.row_meaning.specs.Rows.{row_at, row_width}
use Rattle.row_meaning.specs.Rows as number
use Rattle.row_descent.specs.Spans.{limit}
use Rattle.row_descent.specs.Tables.{IsPinOf, IsBlock}
use Rattle.row_bridge.specs.Improved.{above}
use Rattle.row_bridge.specs.Numbered.{number_of, pin_at, cell_pin, own_pin, terminal_pin, net_pins, ports_width, numbered}
use Rattle.row_bridge.specs.Law.{CanBeImproved, PlacedCanBeImproved, AlikeCanBeImproved}
use Rattle.row_bridge.proofs.Cells.{in_row, width_at, own_width, last_width}
use Rattle.row_bridge.proofs.Names.{number_found}
use Rattle.row_bridge.proofs.Ports.{port_up_to}

-- ---- lists

each_kept : {T X : Type 0} (P : X → Type 0) (g : T → Option X) (ts : List T) → ((t : T) → IfSome (g t) P) → All P (filter_map g ts)
each_kept {T} {X} P g [] h = All-nil P
each_kept {T} {X} P g (t ∷ ts) h = by (g t) (h t) (each_kept P g ts h) where
  by : (o : Option X) → IfSome o P → All P (filter_map g ts) → All P (cons_option o (filter_map g ts))
  by None e rest = rest
  by (Some x) e rest = All-cons P x (filter_map g ts) e rest

counted : (n : ℕ) → length (count_to n) ≡ n
counted zero = refl
counted (suc n) = let a = length-append (count_to n) (n ∷ []) in let b = counted n in omega arith

-- no row is wider than the widest
row_low : (w : List ℕ) (rows : List (List ℕ)) (r : ℕ) → row_width w (row_at rows r) ≤ number.rows_width w rows
row_low w [] r = omega arith
row_low w (row ∷ rows) zero = omega arith
row_low w (row ∷ rows) (suc r) = let a = row_low w rows r in omega arith

-- ---- the block

module _ (n : AbstractNetlist) (l : Library) (ports : List Name) (rows : List (List Member)) (orderly : IsOrderly n l) where
  abbrev ms : List Member
  ms = n.instances

  abbrev p : Placement
  p = above ports rows

  abbrev w : List ℕ
  w = instance_widths l ms ++ ports_width l p ∷ []

  many : length w ≡ suc (length ms)
  many =
      let a = length-append (instance_widths l ms) (ports_width l p ∷ []) in
      let b = length-map ms (λ m. natural (model_width l m.model)) in
      omega arith

  own_is : (i : ℕ) (pin : Name) → i < length ms → IfSome (own_pin l ms (Some i) pin) (IsPinOf w)
  own_is i pin low = by (cell_of l (member ms i).model) refl where
    by : (o : Option Cell) → cell_of l (member ms i).model ≡ o → IfSome (cell_pin i o pin) (IsPinOf w)
    by None e = tt
    by (Some c) e = at (access_point c pin) refl where
      at : (o : Option Point) → access_point c pin ≡ o → IfSome (option_map (pin_at i) o) (IsPinOf w)
      at None f = tt
      at (Some q) f =
          let r = access_within c pin q (in_row n l orderly (member ms i) c (member_in ms i low) e) f in
          let own : cell_width c ≡ pos (slice_index w i) = sym (ap width_of e) ∙ width_at n l orderly (ports_width l p) i low in
          let x : natural q.0 ≡ r.x = ap (λ (a : Point). natural a.0) r.is in
          let right = r.wide in
          (let a = many in omega arith, omega (arith, ints))

  pin_is : (owner : Option (List ℕ)) (pin : Name) → IfSome (terminal_pin n l p owner pin) (IsPinOf w)
  pin_is None name = by (point_of l p None name) refl where
    by : (o : Option Point) → point_of l p None name ≡ o → IfSome (option_map (pin_at (length ms)) o) (IsPinOf w)
    by None e = tt
    by (Some q) e =
        let r = port_up_to l ports rows name q e in
        let x : natural q.0 ≡ r.x = ap (λ (a : Point). natural a.0) r.is in
        let last = last_width l ms (ports_width l p) in
        let right = r.right in
        (let a = many in omega arith, omega arith)
  pin_is (Some owner) pin = by (number_of 0 ms owner) refl where
    by : (o : Option ℕ) → number_of 0 ms owner ≡ o → IfSome (own_pin l ms o pin) (IsPinOf w)
    by None e = tt
    by (Some i) e = let r = number_found 0 ms owner i e in own_is i pin (let a = r.1 in let m = r.2.inside in omega arith)

  if_is : (t : Bool) (owner : Option (List ℕ)) (pin : Name) → IfSome (cond t (terminal_pin n l p owner pin) None) (IsPinOf w)
  if_is true owner pin = pin_is owner pin
  if_is false owner pin = tt

  net_is : (k : ℕ) → All (IsPinOf w) (net_pins n l p k)
  net_is k =
      each_kept (IsPinOf w) (λ t. cond (nat_eq (n.class t) k) (terminal_pin n l p t.instance t.pin) None) (terminals n l)
      (λ t. if_is (nat_eq (n.class t) k) t.instance t.pin)

  block : n.classes < 2 ^ 32 → IsBlock (numbered n l p)
  block few = record {
    few =
        (let nets = filter (is_net n) (count_to n.classes) in
        let a = length-map nets (net_pins n l p) in
        let b = length-filter (is_net n) (count_to n.classes) in
        let c = count_by-le-length (is_net n) (count_to n.classes) in
        let d = counted n.classes in
        omega arith);
    pins = All-map (λ net. All (IsPinOf w) net) (net_pins n l p) (filter (is_net n) (count_to n.classes))
        (λ k d m. net_is (get_or (filter (is_net n) (count_to n.classes)) k d));
  }

-- ---- the rows

-- how wide the cell of the ports is, as it is kept in memory
pub ports_width_is : (n : AbstractNetlist) (l : Library) (p : InRow) → AreRowsOf n l p → ports_width l (rows_of n p) ≡ FIRST_CELL_X + PITCH * (p.width / PITCH + 1)
ports_width_is n l p are = ap (λ (x : ℕ). FIRST_CELL_X + PITCH * (x / PITCH + 1)) (ap natural (sym are.width))

module _ (n : AbstractNetlist) (l : Library) (passed : HasPassed false l) (ordered : IsOrderly n l) (p : InRow) (are : AreRowsOf n l p) (small : p.width ≤ 70000000000000) where
  abbrev all : List Member
  all = n.instances

  abbrev widths : List ℕ
  widths = instance_widths l all ++ ports_width l (rows_of n p) ∷ []

  -- the widest row is no wider than the block
  widest_low : number.rows_width widths p.rows ≤ p.width
  widest_low =
      let a = widest_is l all widths p.rows are.each_once (λ c low. width_at n l ordered (ports_width l (rows_of n p)) c low) in
      let b = are.width in
      let m = int_max_is (rows_width l (named_rows all p.rows)) (pos (PITCH * (length (signal_ports n) + 1))) in
      omega (arith, ints)

  ports_low : ports_width l (rows_of n p) ≤ limit
  ports_low = let e = ports_width_is n l p are in omega arith

  widths_low : All (λ x. x ≤ limit) widths
  widths_low k d low = by (cases_lt k (length all)) where
    is : get_or widths k d ≡ slice_index widths k
    is = get_or_default widths k d 0 low

    by : (k < length all) ⊎ (length all ≤ k) → get_or widths k d ≤ limit
    by (inl less) =
        let own = own_width l all (ports_width l (rows_of n p)) k less in
        let r = wide n l passed ordered (member all k) (member_in all k less) in
        let value : natural (model_width l (member all k).model) ≡ 500 * r.columns = ap natural r.is in
        let few = r.few in
        let at = is in
        omega arith
    by (inr more) =
        let a = length-append (instance_widths l all) (ports_width l (rows_of n p) ∷ []) in
        let b = length-map all (λ m. natural (model_width l m.model)) in
        let same : k ≡ length all = omega arith in
        let last : slice_index widths k ≡ ports_width l (rows_of n p) = ap (slice_index widths) same ∙ last_width l all (ports_width l (rows_of n p)) in
        let e = ports_low in
        let at = is in
        omega arith

  can : n.classes < 2 ^ 32 → CanBeImproved (numbered n l (rows_of n p)) p.rows
  can few = record {
    block = block n l (signal_ports n) (named_rows all p.rows) ordered few;
    rows_are = record {
      cells = λ r k low.
          let a = inside p.rows (length all) are.each_once r k low in
          let b = length-append (instance_widths l all) (ports_width l (rows_of n p) ∷ []) in
          let c = length-map all (λ m. natural (model_width l m.model)) in
          omega arith;
      once = λ c. at_most_once p.rows (length all) are.each_once c;
    };
    narrow = record {
      wide = widths_low;
      narrow = λ r d low.
          let a = row_low widths p.rows r in
          let b = widest_low in
          let is : get_or p.rows r d ≡ row_at p.rows r = get_or_default p.rows r d [] low in
          let e : row_width widths (get_or p.rows r d) ≡ row_width widths (row_at p.rows r) = ap (row_width widths) is in
          omega arith;
    };
  }

pub placed_can_be_improved : PlacedCanBeImproved
placed_can_be_improved l n p k placed seen narrow few =
    can k l placed.passed (orderly l n placed.passed placed.drawable k seen) p (placed.rows k seen) narrow few

-- ---- other nets

pub alike_can_be_improved : AlikeCanBeImproved
alike_can_be_improved left widths nets others rows same h = record {
  block = record {
    few = (let a = same.many in let b = h.block.few in omega arith);
    pins = λ k d low.
        let is : get_or nets k d ≡ slice_index_or nets k [] = get_or_default nets k d [] low in
        subst (λ (net : List Pin). All (IsPinOf widths) net) (sym is)
        (among (IsPinOf widths) (slice_index_or nets k []) (slice_index_or others k []) (same.there k low) (h.block.pins k [] (let a = same.many in omega arith)));
  };
  rows_are = record { cells = h.rows_are.cells; once = h.rows_are.once };
  narrow = record { wide = h.narrow.wide; narrow = h.narrow.narrow };
} where
  among : (P : Pin → Type 0) (xs ys : List Pin) → All (Contains ys) xs → All P ys → All P xs
  among P xs ys in_ys each = λ k d low. All-contains P ys (get_or xs k d) each (in_ys k d low)
