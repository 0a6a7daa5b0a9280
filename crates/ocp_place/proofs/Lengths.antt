-- How long nets are in one row, by the points of classes.
use Rattle.std.proofs.Common.{◌≡◌, ◌≢◌, inl, inr, ℕ, Bool, true, false, cond, List, [], ◌∷◌, Option, Some, None, refl, sym, ap, subst, ◌∙◌, arith, append-nil}
use Rattle.std.specs.Prelude.{ℤ, pos, ◌+ℤ◌, ◌-ℤ◌, AllPairs}
use Rattle.std.proofs.lemmas.Int.{ints}
use Rattle.std.proofs.lemmas.Bool.{cond-true, cond-false}
use Rattle.std.proofs.lemmas.Option.{same_Some}
use Rattle.vlsi_base.specs.declared.name.Name.{Name}
use Rattle.vlsi_base.specs.Member.{In, here, there}
use Rattle.machine_core.specs.Machine.{names_of}
use Rattle.machine_core.specs.Named.{is_same_text}
use Rattle.sym_geom.specs.declared.grid.TheConstants.{FIRST_CELL_X}
use Rattle.sym_geom.specs.declared.rect.Transform.TheVariants.{NoSym}
use Rattle.cell_model.specs.Cell.{Cell, pin_ports}
use Rattle.cell_model.specs.Library.{Library, cell_of}
use Rattle.cell_model.specs.Access.{Point, access_point}
use Rattle.cell_model.proofs.Members.{In-split, In-left, In-right}
use Rattle.cell_model.proofs.Texts.{text_same, text_itself, text_differs}
use Rattle.net_meaning.specs.Netlist.{Member, AbstractNetlist, pin_of}
use Rattle.ocp_rows.specs.Placement.{model_width, standing}
use Rattle.ocp_rows.specs.Length.{shown_point, instance_point, pin_point, point_of, half_perimeter}
use Rattle.ocp_place.specs.Nets.{is_signal, signal_ports, port_classes}
use Rattle.ocp_place.specs.Orderly.{IsOrderly}
use Rattle.ocp_place.specs.Sites.{Site, site_at, own_sites, row_sites, pin_sites, port_sites, length_of}
use Rattle.ocp_place.specs.Placed.{InRow, IsRowOf}
use Rattle.ocp_place.specs.Law.{row_of, LengthsAreRight}
use Rattle.ocp_place.proofs.Lists.{different_filter, different_names, first_differs, rest_differs}
use Rattle.ocp_place.proofs.Sited.{AreSited, lengths}
use Rattle.ocp_place.proofs.Points.{site, flat_back, flat_there, port_back, port_there}

-- the point of a cell as an instance at x, y 0 shows it
shown : (c : Cell) (x : ℤ) (model name : List ℕ) (a : Point)
    → shown_point c (record { x = x; y = pos 0; model = model; name = name; transform = NoSym }) (Some a) ≡ Some (a.0 +ℤ x, a.1)
shown c x model name a =
    let e : (a.0 -ℤ pos 0) +ℤ x ≡ a.0 +ℤ x = omega (arith, ints) in
    let f : (a.1 -ℤ pos 0) +ℤ pos 0 ≡ a.1 = omega (arith, ints) in
    ap (λ (z : ℤ). Some (z, (a.1 -ℤ pos 0) +ℤ pos 0)) e ∙ ap (λ (z : ℤ). Some (a.0 +ℤ x, z)) f

-- the signal pins of the cell of an instance of this name
abbrev HasPin : Library → List Member → List ℕ → Name → Type 0
HasPin l ms owner name = (i : Member) (c : Cell) → In i ms → i.name ≡ owner → cell_of l i.model ≡ Some c → In name (names_of (pin_ports c))

module _ (n : AbstractNetlist) (l : Library) where
  -- a pin's point is that of a site
  shown_back : (x : ℤ) (one : Member) (rest : List Member) (name : Name) (q : Point) (o : Option Cell) → cell_of l one.model ≡ o
      → ((c : Cell) → o ≡ Some c → In name (names_of (pin_ports c)))
      → instance_point o (record { x = x; y = pos 0; model = one.model; name = one.name; transform = NoSym }) name ≡ Some q
      → In (n.class (pin_of one.name name), q) (own_sites n x one.name o)
  shown_back x one rest name q None found has e = absurd (cc e)
  shown_back x one rest name q (Some c) found has e = by (access_point c name) refl e where
    by : (o : Option Point) → access_point c name ≡ o → shown_point c (record { x = x; y = pos 0; model = one.model; name = one.name; transform = NoSym }) o ≡ Some q
        → In (n.class (pin_of one.name name), q) (own_sites n x one.name (Some c))
    by None f g = absurd (cc g)
    by (Some a) f g =
        let at : (a.0 +ℤ x, a.1) ≡ q = same_Some (a.0 +ℤ x, a.1) q (sym (shown c x one.model one.name a) ∙ g) in
        flat_there (λ pin. site_at (n.class (pin_of one.name pin)) x (access_point c pin)) (names_of (pin_ports c)) name (n.class (pin_of one.name name), q) (has c refl)
        (subst (λ (r : Option Point). In (n.class (pin_of one.name name), q) (site_at (n.class (pin_of one.name name)) x r)) (sym f)
        (subst (λ (r : Point). In (site (n.class (pin_of one.name name)) r) (site (n.class (pin_of one.name name)) (a.0 +ℤ x, a.1) ∷ [])) at here))

  pin_back : (x : ℤ) (ms : List Member) (owner : List ℕ) (name : Name) (q : Point) → HasPin l ms owner name
      → pin_point l (standing l NoSym (pos 0) x ms) owner name ≡ Some q → In (n.class (pin_of owner name), q) (row_sites n l x ms)
  pin_back x [] owner name q has e = absurd (cc e)
  pin_back x (one ∷ rest) owner name q has e =
      by (is_same_text one.name owner) refl e (pin_back (x +ℤ model_width l one.model) rest owner name q (λ i c j. has i c (there j))) where
        by : (b : Bool) → is_same_text one.name owner ≡ b
            → cond b (instance_point (cell_of l one.model) (record { x = x; y = pos 0; model = one.model; name = one.name; transform = NoSym }) name)
            (pin_point l (standing l NoSym (pos 0) (x +ℤ model_width l one.model) rest) owner name) ≡ Some q
            → (pin_point l (standing l NoSym (pos 0) (x +ℤ model_width l one.model) rest) owner name ≡ Some q
            → In (n.class (pin_of owner name), q) (row_sites n l (x +ℤ model_width l one.model) rest))
            → In (n.class (pin_of owner name), q) (row_sites n l x (one ∷ rest))
        by true f g next =
            let named : one.name ≡ owner = text_same one.name owner f in
            In-left (n.class (pin_of owner name), q) (own_sites n x one.name (cell_of l one.model)) (row_sites n l (x +ℤ model_width l one.model) rest)
            (subst (λ (o : List ℕ). In (n.class (pin_of o name), q) (own_sites n x one.name (cell_of l one.model))) named
            (shown_back x one rest name q (cell_of l one.model) refl (λ c h. has one c here named h) g))
        by false f g next =
            In-right (n.class (pin_of owner name), q) (own_sites n x one.name (cell_of l one.model)) (row_sites n l (x +ℤ model_width l one.model) rest) (next g)

  -- and the other way round
  pub record IsShown (x : ℤ) (ms : List Member) (class : ℕ) (q : Point) : Type 0 where
    pub owner : Member
    pub cell : Cell
    pub pin : Name
    pub listed : In owner ms
    pub found : cell_of l owner.model ≡ Some cell
    pub is_pin : In pin (names_of (pin_ports cell))
    pub class_is : n.class (pin_of owner.name pin) ≡ class
    pub at : pin_point l (standing l NoSym (pos 0) x ms) owner.name pin ≡ Some q

  own_there : (x : ℤ) (one : Member) (rest : List Member) (class : ℕ) (q : Point) (o : Option Cell) → cell_of l one.model ≡ o
      → In (class, q) (own_sites n x one.name o) → IsShown x (one ∷ rest) class q
  own_there x one rest class q None found i = elim i [ ]
  own_there x one rest class q (Some c) found i =
      let r = flat_back (λ pin. site_at (n.class (pin_of one.name pin)) x (access_point c pin)) (names_of (pin_ports c)) (class, q) i in
      by r.0 r.1 (access_point c r.0) refl r.2
    where
      head : (s t : Site) → In s (t ∷ []) → s ≡ t
      head s t here = refl
      head s t (there j) = elim j [ ]

      by : (pin : Name) → In pin (names_of (pin_ports c)) → (o : Option Point) → access_point c pin ≡ o
          → In (class, q) (site_at (n.class (pin_of one.name pin)) x o) → IsShown x (one ∷ rest) class q
      by pin h None f j = elim j [ ]
      by pin h (Some a) f j =
          let e = head (class, q) (n.class (pin_of one.name pin), (a.0 +ℤ x, a.1)) j in
          let whole : instance_point (cell_of l one.model) (record { x = x; y = pos 0; model = one.model; name = one.name; transform = NoSym }) pin ≡ Some q =
          ap (λ (o : Option Cell). instance_point o (record { x = x; y = pos 0; model = one.model; name = one.name; transform = NoSym }) pin) found
          ∙ ap (λ (o : Option Point). shown_point c (record { x = x; y = pos 0; model = one.model; name = one.name; transform = NoSym }) o) f
          ∙ shown c x one.model one.name a ∙ ap (λ (s : Site). Some s.1) (sym e) in
          record {
            owner = one;
            cell = c;
            pin = pin;
            listed = here;
            found = found;
            is_pin = h;
            class_is = sym (ap (λ (s : Site). s.0) e);
            at = cond-true (is_same_text one.name one.name) (instance_point (cell_of l one.model) (record { x = x; y = pos 0; model = one.model; name = one.name; transform = NoSym }) pin)
                (pin_point l (standing l NoSym (pos 0) (x +ℤ model_width l one.model) rest) one.name pin) (text_itself one.name) ∙ whole;
          }

  shown_there : (x : ℤ) (ms : List Member) (class : ℕ) (q : Point) → AllPairs (λ a b. a.name ≢ b.name) ms → In (class, q) (row_sites n l x ms) → IsShown x ms class q
  shown_there x [] class q names i = elim i [ ]
  shown_there x (one ∷ rest) class q names i =
      elim (In-split (class, q) (own_sites n x one.name (cell_of l one.model)) (row_sites n l (x +ℤ model_width l one.model) rest) i) [
        | inl a ↦ own_there x one rest class q (cell_of l one.model) refl a
        | inr b ↦ later (shown_there (x +ℤ model_width l one.model) rest class q (rest_differs one rest names) b)
      ]
    where
      later : IsShown (x +ℤ model_width l one.model) rest class q → IsShown x (one ∷ rest) class q
      later s = record {
        owner = s.owner;
        cell = s.cell;
        pin = s.pin;
        listed = there s.listed;
        found = s.found;
        is_pin = s.is_pin;
        class_is = s.class_is;
        at = cond-false (is_same_text one.name s.owner.name) (instance_point (cell_of l one.model) (record { x = x; y = pos 0; model = one.model; name = one.name; transform = NoSym }) s.pin)
            (pin_point l (standing l NoSym (pos 0) (x +ℤ model_width l one.model) rest) s.owner.name s.pin)
            (text_differs one.name s.owner.name (first_differs one rest names s.owner s.listed)) ∙ s.at;
      }

module _ (n : AbstractNetlist) (l : Library) (orderly : IsOrderly n l) where
  -- one row is the placement's
  one_row : (owner : List ℕ) (name : Name) → point_of l (row_of n) (Some owner) name ≡ pin_point l (standing l NoSym (pos 0) (pos FIRST_CELL_X) n.instances) owner name
  one_row owner name = ap (λ is. pin_point l is owner name) (append-nil (standing l NoSym (pos 0) (pos FIRST_CELL_X) n.instances))

  same_member : (i j : Member) → In i n.instances → In j n.instances → i.name ≡ j.name → i ≡ j
  same_member i j h g e = search n.instances i j orderly.names h g e where
    search : (ms : List Member) (v w : Member) → AllPairs (λ a b. a.name ≢ b.name) ms → In v ms → In w ms → v.name ≡ w.name → v ≡ w
    search [] v w names a b f = elim a [ ]
    search (one ∷ rest) v w names here here f = refl
    search (one ∷ rest) v w names here (there b) f = absurd (first_differs one rest names w b f)
    search (one ∷ rest) v w names (there a) here f = absurd (first_differs one rest names v a (sym f))
    search (one ∷ rest) v w names (there a) (there b) f = search rest v w (rest_differs one rest names) a b f

  sited : AreSited n l (row_of n) (port_sites 0 (port_classes n)) (pin_sites n l)
  sited = record {
    port_back = λ name q e. port_back n 0 (signal_ports n) name q e;
    port_there = λ class q i. port_there n 0 class (signal_ports n) q (different_filter is_signal n.ports (different_names n.ports orderly.order)) i;
    pin_back = λ i c pin q h found signal e.
        let has : HasPin l n.instances i.name pin = λ j d a named other.
        let same : j ≡ i = same_member j i a h named in
        let cells : c ≡ d = same_Some c d (sym found ∙ sym (ap (λ (x : Member). cell_of l x.model) same) ∙ other) in
        subst (λ (x : Cell). In pin (names_of (pin_ports x))) cells signal in
        pin_back n l (pos FIRST_CELL_X) n.instances i.name pin q has (sym (one_row i.name pin) ∙ e);
    pin_there = λ class q i.
        let s = shown_there n l (pos FIRST_CELL_X) n.instances class q orderly.names i in
        record {
          owner = s.owner;
          cell = s.cell;
          pin = s.pin;
          listed = s.listed;
          found = s.found;
          is_pin = s.is_pin;
          class_is = s.class_is;
          at = one_row s.owner.name s.pin ∙ s.at;
        };
  }

  lengths_of : (p : InRow) → IsRowOf n l p → length_of p.high p.low p.ends ≡ half_perimeter n l (row_of n)
  lengths_of p row = lengths n l orderly (row_of n) (port_sites 0 (port_classes n)) (pin_sites n l) sited p.high p.low p.ends row.high row.low row.many row.ends

pub lengths_are_right : LengthsAreRight
lengths_are_right n l p orderly row = lengths_of n l orderly p row
