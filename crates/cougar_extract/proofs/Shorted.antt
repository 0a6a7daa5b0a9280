-- From ports of one class to ports of a layout that are joined.
use Rattle.std.proofs.Common.{◌≡◌, ◌≢◌, ◌⊎◌, inl, inr, ℕ, zero, suc, ◌<◌, ◌≤◌, Bool, true, false, List, [], ◌∷◌, map, length, take, get_or, None, Some, All, refl, sym, ap, subst, ◌∙◌, arith, length-append}
use Rattle.std.specs.List.{flat_map}
use Rattle.std.specs.Ordering.{is_lt, ordering_reverse}
use Rattle.std.specs.declared.cmp.Ordering.{Ordering}
use Rattle.std.specs.declared.cmp.Ordering.TheVariants.{Less, Equal, Greater}
use Rattle.std.proofs.lemmas.Option.{slice_get_within}
use Rattle.std.proofs.lemmas.Bool.{cases_lt}
use Rattle.vlsi_base.specs.declared.name.Name.{Name}
use Rattle.vlsi_base.specs.declared.name.Port.{Port}
use Rattle.vlsi_base.specs.declared.name.Terminal.{Terminal}
use Rattle.vlsi_base.specs.Member.{In}
use Rattle.vlsi_base.specs.Name.{name_cmp}
use Rattle.vlsi_base.specs.Names.{comes_before}
use Rattle.vlsi_base.proofs.NameOrder.{name_total}
use Rattle.ap_io.specs.declared.figure.Figure.{Figure}
use Rattle.sym_shapes.specs.Shape.{Shape}
use Rattle.sym_shapes.specs.Joined.{Shows}
use Rattle.sym_shapes.proofs.Labels.{first_In, last_In}
use Rattle.cell_model.specs.Connectors.{PinsAreConnectors}
use Rattle.cell_model.specs.Library.{Library}
use Rattle.cell_model.specs.Layout.{shapes}
use Rattle.net_core.specs.Places.{Stands, IsThere}
use Rattle.net_core.specs.Netlist.{Netlist, port, pins_of, terminals, HasClass, AreInOrder}
use Rattle.net_core.proofs.Frames.{mapped, unmapped, port_terminals}
use Rattle.net_core.proofs.Rings.{at_place}
use Rattle.net_core.proofs.Searching.{rises, order_none_twice, not_itself}
use Rattle.net_core.proofs.Standing.{stands_left, stands_same}
use Rattle.net_theory.proofs.Basics.{length-map}
use Rattle.net_right.proofs.Lists.{in_place}
use Rattle.cougar_extract.specs.Extracted.{IsExtracted}
use Rattle.cougar_extract.specs.Refused.{AreShorted, NoShort, IsLeastShort}
use Rattle.cougar_extract.specs.Stages.{IsLeastPair, NoPair, IsTerminalOf, of_figure, of_instance}
use Rattle.cougar_extract.proofs.Shapes.{whence, shown_terminal}

-- ---- lists

get_take : (xs : List ℕ) (m i d : ℕ) → i < m → get_or (take m xs) i d ≡ get_or xs i d
get_take xs zero i d h = absurd (omega (arith, h))
get_take [] (suc m) i d h = refl
get_take (x ∷ xs) (suc m) zero d h = refl
get_take (x ∷ xs) (suc m) (suc i) d h = get_take xs m i d (omega (arith, h))

length_take : (xs : List ℕ) (m : ℕ) → m ≤ length xs → length (take m xs) ≡ m
length_take xs zero h = refl
length_take [] (suc m) h = absurd (omega (arith, h))
length_take (x ∷ xs) (suc m) h = ap suc (length_take xs m (omega (arith, h)))

stands_class : (xs : List ℕ) (i : ℕ) → i < length xs → Stands xs i (get_or xs i 0)
stands_class [] i h = absurd (omega (arith, h))
stands_class (x ∷ xs) zero h = refl
stands_class (x ∷ xs) (suc i) h = stands_class xs i (omega (arith, h))

-- ---- the order of names

less_is : (o : Ordering) → is_lt o ≡ true → o ≡ Less
less_is Less e = refl
less_is Equal e = absurd (cc e)
less_is Greater e = absurd (cc e)

-- of two places in order the later one's name doesn't come before the earlier one's
not_before : (names : List Name) (i h : ℕ) (a c : Name) → AreInOrder names → i ≤ h → Stands names i a → Stands names h c → comes_before c a ≡ false
not_before names i h a c sorted most p q = by (comes_before c a) refl (cases_lt i h) where
  by : (b : Bool) → comes_before c a ≡ b → (i < h) ⊎ (h ≤ i) → comes_before c a ≡ false
  by false e k = e
  by true e (inl less) =
      let up : name_cmp a c ≡ Less = rises names i h a c sorted less p q in
      let down : name_cmp c a ≡ Less = less_is (name_cmp c a) e in
      let turned : name_cmp a c ≡ ordering_reverse (name_cmp c a) = name_total.antisymm a c in
      let clash : Less ≡ Greater = sym up ∙ turned ∙ ap ordering_reverse down in
      absurd cc
  by true e (inr back) =
      let same : h ≡ i = omega (arith, most, back) in
      let one : c ≡ a = stands_same names i c a (let P : ℕ → Type 0 = λ k. Stands names k c in subst P same q) p in
      absurd (not_itself a (subst (λ (x : Name). name_cmp x a ≡ Less) one (less_is (name_cmp c a) e)))

-- ---- ports and their classes

abbrev name_of : Port → Name
name_of p = p.name

module _ (f : Figure) (l : Library) (n : Netlist) (connected : All PinsAreConnectors l.cells) (is : IsExtracted f l n) where
  abbrev names : List Name
  names = map name_of n.ports

  abbrev pub classes : List ℕ
  classes = take (length n.ports) n.classes

  enough : length n.ports ≤ length n.classes
  enough =
      let each = is.sound.each in
      let sum = length-append (port_terminals n.ports) (flat_map pins_of n.instances) in
      let own : length (port_terminals n.ports) ≡ length n.ports = length-map (λ (p : Port). port p.name) n.ports in
      omega (arith, each, sum, own)

  many : length classes ≡ length n.ports
  many = length_take n.classes (length n.ports) enough

  -- a port's class stands at its place
  class_at : (i : ℕ) (name : Name) → Stands names i name → HasClass n (port name) (get_or classes i 0)
  class_at i name s =
      let u = unmapped name_of n.ports i name s in
      let low = slice_get_within n.ports i u.0 u.1 in
      let here : Stands (terminals n) i (port u.0.name) =
      stands_left (port_terminals n.ports) (flat_map pins_of n.instances) i (port u.0.name) (mapped (λ (x : Port). port x.name) n.ports i u.0 u.1) in
      let some = enough in
      let own : Stands n.classes i (get_or n.classes i 0) = stands_class n.classes i (omega (arith, low, some)) in (
        i,
        subst (λ (x : Name). Stands (terminals n) i (port x)) u.2 here,
        subst (λ (k : ℕ). Stands n.classes i k) (sym (get_take n.classes (length n.ports) i 0 low)) own,
      )

  place_low : (i : ℕ) (name : Name) → Stands names i name → i < length classes
  place_low i name s =
      let low = slice_get_within names i name s in
      let own : length names ≡ length n.ports = length-map name_of n.ports in
      let m = many in
      omega (arith, low, own, m)

  -- what is tied to a port is a port of the netlist where it is one at all
  shown_port : (name : Name) (s : Shape) → In s (shapes f.items l) → Shows (port name) s → IsThere names name
  shown_port name s h shows =
      let p = in_place s (shapes f.items l) h in
      by (shown_terminal f.items l connected s _ (port name) (whence f.items l p.0 s p.1) shows) where
        by : IsTerminalOf f.items l (port name) → IsThere names name
        by (of_figure none listed) = in_place name names ((is.ports name).1 listed)
        by (of_instance i placed owner pin) = let clash : None ≡ Some i.name = owner in absurd cc

  -- shorted ports stand at two places of one class
  pub record HasPlaces (a b : Name) : Type 0 where
    pub i : ℕ
    pub j : ℕ
    pub first : Stands names i a
    pub second : Stands names j b
    pub alike : get_or classes i 0 ≡ get_or classes j 0
    pub differ : i ≡ j → ⊥

  places_of : (a b : Name) → AreShorted f.items l a b → HasPlaces a b
  places_of a b h =
      let p = shown_port a h.tied.from (first_In h.tied.joined) h.tied.shows_from in
      let q = shown_port b h.tied.to (last_In h.tied.joined) h.tied.shows_to in
      record {
        i = p.0;
        j = q.0;
        first = p.1;
        second = q.1;
        alike = (is.classes (port a) (port b) (get_or classes p.0 0) (get_or classes q.0 0) (class_at p.0 a p.1) (class_at q.0 b q.1)).1 (inr h.tied);
        differ = λ e. h.differ (stands_same names q.0 a b (let P : ℕ → Type 0 = λ k. Stands names k a in subst P e p.1) q.1);
      }

  -- and ports at two places of one class are shorted
  shorted_at : (i j : ℕ) (a b : Name) → i < j → Stands names i a → Stands names j b → get_or classes i 0 ≡ get_or classes j 0 → AreShorted f.items l a b
  shorted_at i j a b less p q alike =
      let differ : a ≢ b = λ e. let place : i ≡ j = order_none_twice names is.sound.ports i j b (subst (λ (x : Name). Stands names i x) e p) q in omega (arith, less, place) in
      record {
        differ = differ;
        tied = elim ((is.classes (port a) (port b) (get_or classes i 0) (get_or classes j 0) (class_at i a p) (class_at j b q)).0 alike) [
          | inl e ↦ absurd (differ (ap (λ (t : Terminal). t.pin) e))
          | inr t ↦ t
        ];
      }

  pub no_short : NoPair classes 0 → NoShort f.items l
  no_short none a b h =
      let p = places_of a b h in
      elim (cases_lt p.i p.j) [
        | inl less ↦ none p.i p.j (omega arith) less (place_low p.j b p.second) p.alike
        | inr most ↦ let d = p.differ in none p.j p.i (omega arith) (omega (arith, most, d)) (place_low p.i a p.first) (sym p.alike)
      ]

  -- the port at a place
  named_at : (i : ℕ) → i < length n.ports → (p : Port) × Stands n.ports i p
  named_at i low = at_place n.ports i low

  pub least_short : (i j : ℕ) (p q : Port) → IsLeastPair classes 0 i j → Stands n.ports i p → Stands n.ports j q → IsLeastShort f.items l p.name q.name
  least_short i j p q pair at_p at_q =
      let a = mapped name_of n.ports i p at_p in
      let b = mapped name_of n.ports j q at_q in
      record {
        shorted = shorted_at i j p.name q.name pair.behind a b pair.same;
        first = λ c d h.
            let r = places_of c d h in
            not_before names i r.i p.name c is.sound.ports
            (elim (cases_lt r.i r.j) [
              | inl less ↦ pair.first r.i r.j (omega arith) less (place_low r.j d r.second) r.alike
              | inr most ↦
                  let e = r.differ in
                  let low = pair.first r.j r.i (omega arith) (omega (arith, most, e)) (place_low r.i c r.first) (sym r.alike) in
                  omega (arith, low, most)
            ]) a r.first;
        second = λ d h.
            let r = places_of p.name d h in
            let place : r.i ≡ i = order_none_twice names is.sound.ports r.i i p.name r.first a in
            let alike : get_or classes i 0 ≡ get_or classes r.j 0 = subst (λ (k : ℕ). get_or classes k 0 ≡ get_or classes r.j 0) place r.alike in
            not_before names j r.j q.name d is.sound.ports
            (elim (cases_lt i r.j) [
              | inl less ↦ pair.second r.j less (place_low r.j d r.second) alike
              | inr most ↦
                  let e = r.differ in
                  let behind = pair.behind in
                  let inside = pair.within in
                  let low = pair.first r.j i (omega arith) (omega (arith, most, e, place)) (omega (arith, behind, inside)) (sym alike) in
                  absurd (omega (arith, low, most, e, place))
            ]) b r.second;
      }
