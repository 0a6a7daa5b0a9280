-- Pins of different names that aren't joined.
use Rattle.std.proofs.Common.{◌≡◌, ◌≢◌, ℕ, zero, suc, inl, inr, true, false, IsTrue, List, [], ◌∷◌, get_or, Option, None, Some, AllPairs, refl, sym, ap, subst, ◌∙◌, arith, ⊎_elim}
use Rattle.std.specs.Prelude.{codes}
use Rattle.std.proofs.lemmas.Bool.{cases_lt}
use Rattle.std.specs.Cmp.Lexicographic.{bytes_decides}
use Rattle.std.specs.Ordering.{is_lt, ordering_reverse}
use Rattle.std.specs.declared.cmp.Ordering.{Ordering}
use Rattle.std.specs.declared.cmp.Ordering.TheVariants.{Less, Equal, Greater}
use Rattle.vlsi_base.specs.declared.name.Name.{Name}
use Rattle.vlsi_base.specs.Member.{In, here, there}
use Rattle.vlsi_base.specs.Name.{name_cmp}
use Rattle.vlsi_base.specs.Names.{vdd, vss, comes_before}
use Rattle.vlsi_base.proofs.NameOrder.{name_total}
use Rattle.machine_core.specs.Machine.{names_of}
use Rattle.sym_geom.specs.declared.rect.Rect.{Rect}
use Rattle.sym_geom.specs.Metal.{metal_of}
use Rattle.sym_geom.specs.Items.{via_pads}
use Rattle.sym_geom.specs.declared.item.Item.{Item}
use Rattle.sym_geom.specs.declared.item.Item.TheVariants as item
use Rattle.sym_shapes.specs.Shape.{Shape, on_metal, pad_shapes, label, wire_name, item_shapes, drawn_from, drawn, connector_name, connector_names}
use Rattle.sym_shapes.specs.Joined.{Linked, touching, one_line, one_name, Joined, itself, through}
use Rattle.sym_shapes.proofs.Labels.{first_In, last_In}
use Rattle.sym_shapes.proofs.Paths.{Joined_trans}
use Rattle.cell_model.specs.Cell.{Cell, pin_ports}
use Rattle.cell_model.specs.Usable.{IsFormed}
use Rattle.cell_model.specs.Connectors.{PinsAreConnectors}
use Rattle.cell_model.proofs.Members.{In-at, place-In, In-split, In-left, In-right, In-map_back}
use Rattle.cell_checks.specs.Checks.{PinsAreApart}
use Rattle.cell_checks.specs.Shapes.{AreApart, wanted}
use Rattle.cell_checks.proofs.Among.{one_way}

Linked_sym : (a b : Shape) → Linked a b → Linked b a
Linked_sym a b (touching e h) = touching (sym e) (record { left = h.right; right = h.left; low = h.high; high = h.low })
Linked_sym a b (one_line e f) = one_line (sym e) (sym f)
Linked_sym a b (one_name e n f g) = one_name (sym e) n g f

pub Joined_sym : {all : List Shape} {a b : Shape} → Joined all a b → Joined all b a
Joined_sym (itself h) = itself h
Joined_sym (through {a = a} {b = b} h link rest) = Joined_trans (Joined_sym rest) (through (first_In rest) (Linked_sym a b link) (itself h))

-- no name comes before itself
reversed : (o : Ordering) → o ≡ ordering_reverse o → is_lt o ≡ false
reversed Less h = absurd cc
reversed Equal h = refl
reversed Greater h = refl

pub before_differs : (a b : Name) → IsTrue (comes_before a b) → a ≢ b
before_differs a b h e =
    let f : comes_before a a ≡ true = subst (λ (n : Name). comes_before a n ≡ true) (sym e) h in
    let g : is_lt (name_cmp a a) ≡ false = reversed (name_cmp a a) (name_total.antisymm a a) in
    let k : true ≡ false = sym f ∙ g in cc

supplies_differ : vdd ≢ vss
supplies_differ e = let h : false ≡ true = (bytes_decides (codes "vdd") (codes "vss")).1 (ap (λ (n : Name). n.text) e) in cc

-- the names of the supplies and of the pins are different
wanted_differ : (c : Cell) → IsFormed c → AllPairs (λ m n. m ≢ n) (wanted c)
wanted_differ c formed zero zero d before within = absurd (omega arith)
wanted_differ c formed zero (suc zero) d before within = supplies_differ
wanted_differ c formed zero (suc (suc j)) d before within = λ e.
    (formed.signals (get_or (names_of (pin_ports c)) j d) (In-at (names_of (pin_ports c)) j d (omega arith))).0 (sym e)
wanted_differ c formed (suc zero) zero d before within = absurd (omega arith)
wanted_differ c formed (suc zero) (suc zero) d before within = absurd (omega arith)
wanted_differ c formed (suc zero) (suc (suc j)) d before within = λ e.
    (formed.signals (get_or (names_of (pin_ports c)) j d) (In-at (names_of (pin_ports c)) j d (omega arith))).1 (sym e)
wanted_differ c formed (suc (suc i)) zero d before within = absurd (omega arith)
wanted_differ c formed (suc (suc i)) (suc zero) d before within = absurd (omega arith)
wanted_differ c formed (suc (suc i)) (suc (suc j)) d before within =
    before_differs (get_or (names_of (pin_ports c)) i d) (get_or (names_of (pin_ports c)) j d) (formed.order i j d (omega arith) (omega arith))

labelled : (m : Option ℕ) (line : ℕ) (r : Rect) (name : Option Name) (s : Shape) (n : Name) → In s (on_metal m line r name) → s.name ≡ Some n → In n (label name)
labelled None line r name s n h e = elim h [ ]
labelled (Some k) line r None s n here e = absurd cc
labelled (Some k) line r (Some x) s n here e = let f : x ≡ n = cc in subst (λ (y : Name). In y (x ∷ [])) f here
labelled (Some k) line r name s n (there h) e = elim h [ ]

unlabelled : (line : ℕ) (pads : Option (List (ℕ × Rect))) (s : Shape) (n : Name) → In s (pad_shapes line pads) → s.name ≡ Some n → ⊥
unlabelled line None s n h e = elim h [ ]
unlabelled line (Some pads) s n h e =
    let r = In-map_back (λ (p : ℕ × Rect). record { metal = p.0; rect = p.1; owner = None; line = line; name = None }) s pads h in
    let f : None ≡ Some n = ap (λ (x : Shape). x.name) r.2 ∙ e in cc

item_named : (line : ℕ) (one : Item) (s : Shape) (n : Name) → In s (item_shapes line one) → s.name ≡ Some n → In n (connector_name one)
item_named line (item.Segment w) s n h e = labelled (metal_of w.layer) line _ (wire_name w.layer w.name) s n h e
item_named line (item.Connector w) s n h e = labelled (metal_of w.layer) line _ w.name s n h e
item_named line (item.Via v) s n h e = absurd (unlabelled line (via_pads v) s n h e)
item_named line (item.Instance i) s n h e = elim h [ ]
item_named line (item.Reference r) s n h e = elim h [ ]
item_named line (item.Remark text) s n h e = elim h [ ]

-- the name of a drawn connector is among the connectors' names
drawn_named : (line : ℕ) (items : List Item) (s : Shape) (n : Name) → In s (drawn_from line items) → s.name ≡ Some n → In n (connector_names items)
drawn_named line [] s n h e = elim h [ ]
drawn_named line (one ∷ rest) s n h e =
    ⊎_elim (λ a. In-left n (connector_name one) (connector_names rest) (item_named line one s n a e))
    (λ b. In-right n (connector_name one) (connector_names rest) (drawn_named (suc line) rest s n b e))
    (In-split s (item_shapes line one) (drawn_from (suc line) rest) h)

pub apart_pins : (c : Cell) (shapes : List Shape) (names : List Name) → IsFormed c → PinsAreConnectors c → shapes ≡ drawn c.items → names ≡ wanted c
    → AllPairs (AreApart shapes) names → PinsAreApart c
apart_pins c shapes names formed connectors is same all = record {
  same = λ a b m n is_m is_n j.
      let each : AllPairs (AreApart (drawn c.items)) (wanted c) =
      subst (λ (ns : List Name). AllPairs (AreApart (drawn c.items)) ns) same (subst (λ (xs : List Shape). AllPairs (AreApart xs) names) is all) in
      let p = place-In m (wanted c) (one_way c connectors m (drawn_named 0 c.items a m (first_In j) is_m)) in
      let q = place-In n (wanted c) (one_way c connectors n (drawn_named 0 c.items b n (last_In j) is_n)) in
      elim (cases_lt p.0 q.0) [
        | inl lt ↦ absurd (each p.0 q.0 m lt q.1 a b (is_m ∙ ap Some (sym (p.2 m))) (is_n ∙ ap Some (sym (q.2 m))) j)
        | inr ge ↦ elim (cases_lt q.0 p.0) [
          | inl lt ↦ absurd (each q.0 p.0 m lt p.1 b a (is_n ∙ ap Some (sym (q.2 m))) (is_m ∙ ap Some (sym (p.2 m))) (Joined_sym j))
          | inr le ↦ let e : p.0 ≡ q.0 = omega arith in sym (p.2 m) ∙ ap (λ (k : ℕ). get_or (wanted c) k m) e ∙ q.2 m
        ]
      ];
}

pub pins_apart : (c : Cell) (shapes : List Shape) (names : List Name) → IsFormed c → shapes ≡ drawn c.items → names ≡ wanted c → PinsAreApart c
    → AllPairs (AreApart shapes) names
pins_apart c shapes names formed is same apart =
    let each : AllPairs (AreApart (drawn c.items)) (wanted c) = λ i j d before within a b is_m is_n chain.
    wanted_differ c formed i j d before within (apart.same a b (get_or (wanted c) i d) (get_or (wanted c) j d) is_m is_n chain) in
    subst (λ (xs : List Shape). AllPairs (AreApart xs) names) (sym is) (subst (λ (ns : List Name). AllPairs (AreApart (drawn c.items)) ns) (sym same) each)
