-- The nets that are made of a netlist in rows have the pins of its placement.
use Rattle.std.proofs.Common.{◌≡◌, inl, inr, ℕ, ◌+◌, nat_eq, List, filter, length, sym, ap, subst, ◌∙◌, arith}
use Rattle.std.proofs.lemmas.Bool.{eqb-true, eq-eqb}
use Rattle.vlsi_base.specs.Member.{In}
use Rattle.cell_model.specs.Library.{Library}
use Rattle.cell_model.proofs.Members.{In-split, In-left, In-right, In-map, In-map_back}
use Rattle.cell_pins.proofs.Ports.{in_filter}
use Rattle.net_meaning.specs.Netlist.{Member, AbstractNetlist, port, pin_of}
use Rattle.net_right.proofs.Lists.{filter_in}
use Rattle.row_meaning.specs.declared.Pin.{Pin}
use Rattle.row_meaning.specs.Length.{HaveSamePins}
use Rattle.ocp_rows.specs.Placement.{natural}
use Rattle.ocp_place.specs.Orderly.{IsOrderly}
use Rattle.ocp_place.specs.Placed.{InRow, rows_of, AreRowsOf}
use Rattle.ocp_place.specs.Stood.{member}
use Rattle.row_bridge.specs.Nets.{IsOwnPin, IsNetPin}
use Rattle.row_bridge.specs.Law.{NetsAreAlike}
use Rattle.row_bridge.specs.Numbered.{numbered, pin_at}
use Rattle.ocp_anneal.specs.declared.cells.Tied.{Tied}
use Rattle.ocp_anneal.specs.Cells.{tied, cell_pins, top_pins, all_pins, pins_in, signal_nets}
use Rattle.ocp_anneal.proofs.Numbers.{IsCellPin, cell_there, cell_back}
use Rattle.ocp_anneal.proofs.Tops.{port_back, port_there}

-- the pins of a class
pub in_back : (class : ℕ) (ts : List Tied) (q : Pin) → In q (pins_in class ts) → (t : Tied) × In t ts × (t.class ≡ class) × (t.pin ≡ q)
in_back class ts q h =
    let r = In-map_back (λ (t : Tied). t.pin) q (filter (λ t. nat_eq t.class class) ts) h in
    let s = in_filter (λ (t : Tied). nat_eq t.class class) ts r.0 r.1 in
    (r.0, s.0, eqb-true (r.0).class class s.1, r.2)

pub in_there : (class : ℕ) (ts : List Tied) (t : Tied) (q : Pin) → In t ts → t.class ≡ class → t.pin ≡ q → In q (pins_in class ts)
in_there class ts t q h e f =
    subst (λ (x : Pin). In x (pins_in class ts)) f
    (In-map (λ (u : Tied). u.pin) t (filter (λ u. nat_eq u.class class) ts) (filter_in (λ (u : Tied). nat_eq u.class class) ts t h (eq-eqb t.class class e)))

module _ (n : AbstractNetlist) (l : Library) (orderly : IsOrderly n l) (p : InRow) (are : AreRowsOf n l p) where
  abbrev ms : List Member
  ms = n.instances

  -- what was made is a pin of the placement
  pub is_pin : (t : Tied) → In t (all_pins n l p) → IsNetPin n l (rows_of n p) t.class t.pin
  is_pin t h = elim (In-split t (cell_pins n l 0 ms) (top_pins n p) h) [ inl a ↦ inr (own (cell_there n l 0 ms t a)) | inr b ↦ inl (port_there n l orderly p are t b) ] where
    own : IsCellPin n l 0 ms t → IsOwnPin n l t.class t.pin
    own s = record {
      number = s.place;
      cell = s.cell;
      pin = s.pin;
      place = s.point;
      inside = s.inside;
      found = s.found;
      is_pin = s.is_pin;
      class_is = sym (ap (λ (u : Tied). u.class) s.is);
      at = s.reached;
      is = ap (λ (u : Tied). u.pin) s.is ∙ ap (λ (x : ℕ). pin_at x s.point) (let e : 0 + s.place ≡ s.place = omega arith in e);
    }

  there : (class : ℕ) (q : Pin) → In q (pins_in class (all_pins n l p)) → IsNetPin n l (rows_of n p) class q
  there class q h =
      let r = in_back class (all_pins n l p) q h in
      subst (λ (c : ℕ). IsNetPin n l (rows_of n p) c q) r.2 (subst (λ (x : Pin). IsNetPin n l (rows_of n p) (r.0).class x) r.3 (is_pin r.0 r.1))

  -- and nothing was forgotten
  back : (class : ℕ) (q : Pin) → IsNetPin n l (rows_of n p) class q → In q (pins_in class (all_pins n l p))
  back class q (inl s) =
      let t = tied (n.class (port s.name)) (length ms) (natural s.place.0) (natural s.place.1) in
      in_there class (all_pins n l p) t q (In-right t (cell_pins n l 0 ms) (top_pins n p) (port_back n l orderly p are s.name s.place s.at)) s.class_is (sym s.is)
  back class q (inr s) =
      let t = tied (n.class (pin_of (member ms s.number).name s.pin)) (0 + s.number) (natural s.place.0) (natural s.place.1) in
      in_there class (all_pins n l p) t q
      (In-left t (cell_pins n l 0 ms) (top_pins n p) (cell_back n l 0 ms s.number s.cell s.pin s.place s.inside s.found s.is_pin s.at))
      s.class_is (ap (λ (x : ℕ). pin_at x s.place) (let e : 0 + s.number ≡ s.number = omega arith in e) ∙ sym s.is)

  pub same_pins : NetsAreAlike → HaveSamePins (signal_nets n (all_pins n l p)) (numbered n l (rows_of n p)).nets
  same_pins alike = alike n l (rows_of n p) (λ class. pins_in class (all_pins n l p)) orderly (λ class q low free. (there class q, back class q))
