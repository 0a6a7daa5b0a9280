-- A netlist that carries a tight cover is tight.
use Rattle.std.proofs.Common.{◌≡◌, ◌≢◌, ◌⊎◌, inl, inr, ℕ, ◌<◌, ◌≤◌, Bool, List, [], ◌∷◌, map, AllPairs, Option, Some, ap, sym, subst, ◌∙◌, arith, None, set, refl}
use Prim.Native.Nat.{suc}
use Rattle.std.proofs.lemmas.Bool.{cases_lt}
use Rattle.std.proofs.lemmas.List.{length-map}
use Rattle.vlsi_base.specs.Member.{In, here, there}
use Rattle.vlsi_base.specs.declared.name.Name.{Name}
use Rattle.bool_expr.specs.Expression.{Expression, val}
use Rattle.cell_model.specs.Cell.{Cell, cell_inputs, cell_outputs}
use Rattle.cell_model.specs.Library.{Library, cell_of}
use Rattle.net_meaning.specs.Netlist.{Member, AbstractNetlist, pin_of}
use Rattle.cell_match.specs.declared.gate.CellWord.{CellWord}
use Rattle.cell_match.specs.declared.gate.Gate.{Gate}
use Rattle.boog_tight.specs.Cover.{leaves_of, used, uses, gate_at}
use Rattle.boog_tight.proofs.Counting.{used_set, gate_there, gate_same, gate_other, leaves_at}
use Rattle.vlsi_base.specs.declared.name.Terminal.{Terminal}
use Rattle.net_meaning.specs.Well.{Has}
use Rattle.cell_match.specs.Places.{times}
use Rattle.cell_match.specs.Cells.{cell_value, gate_value}
use Rattle.cell_match.specs.Computes.{Computes}
use Rattle.boog_tight.specs.Tight.{IsPair as IsCoverPair}
use Rattle.cell_match.proofs.Numbers.{one_tells, one_same, times_place}
use Rattle.cell_match.proofs.Composing.{map_on, map_twice, put_tells}
use Rattle.cell_match.proofs.Fusing.{mapped_some, mapped_in, mapped_once}
use Rattle.net_tight.specs.Tight.{an_input_pin, IsPair, StandsFor, put, read_classes, pin_classes}
use Rattle.net_tight.specs.Carries.{IsInstance, IsCell, Carries, CarriesTight, of_port, of_register}

in_times : (x : ℕ) (xs : List ℕ) → In x xs → 0 < times x xs
in_times x [] h = elim h [ ]
in_times x (y ∷ xs) here = let o = one_same x in omega arith
in_times x (y ∷ xs) (there h) = let e = in_times x xs h in omega arith

times_in : (x : ℕ) (xs : List ℕ) → 0 < times x xs → In x xs
times_in x [] h = absurd (omega arith)
times_in x (y ∷ xs) h = elim (one_tells y x) [
  | inl is ↦ subst (λ (n : ℕ). In x (n ∷ xs)) (sym is.0) here
  | inr isnt ↦ let o = isnt.1 in there (times_in x xs (omega arith))
]

-- what names are mapped from
back_in : (f : ℕ → ℕ) (y : ℕ) (xs : List ℕ) → In y (map f xs) → (x : ℕ) × (0 < times x xs) × (f x ≡ y)
back_in f y xs h = mapped_some f y xs (in_times y (map f xs) h)

to_in : (f : ℕ → ℕ) (x : ℕ) (xs : List ℕ) → 0 < times x xs → In (f x) (map f xs)
to_in f x xs h = times_in (f x) (map f xs) (mapped_in f x xs h)

pairs_once : (xs : List ℕ) → AllPairs (λ j k. j ≢ k) xs → (z : ℕ) → times z xs ≤ 1
pairs_once [] h z = omega arith
pairs_once (x ∷ xs) h z =
    let rest = pairs_once xs (λ i j d low fits. h (suc i) (suc j) d (omega arith) (omega arith)) z in
    elim (one_tells x z) [
      | inl is ↦ elim (cases_lt 0 (times z xs)) [
        | inl some ↦
            let p = times_place z xs some in
            let low = p.1 in
            absurd (h 0 (suc p.0) 0 (omega arith) (omega arith) (is.0 ∙ sym p.2))
        | inr none ↦ let o = is.1 in omega arith
      ]
      | inr isnt ↦ let o = isnt.1 in omega arith
    ]

heads : (a b : ℕ) (xs : List ℕ) → xs ≡ a ∷ [] → xs ≡ b ∷ [] → a ≡ b
heads a b xs e f = cc

map_back : {A B : Type 0} (f : A → B) (y : B) (xs : List A) → In y (map f xs) → (x : A) × In x xs × (f x ≡ y)
map_back f y [] h = elim h [ ]
map_back f y (x ∷ xs) here = (x, here, refl)
map_back f y (x ∷ xs) (there h) = let r = map_back f y xs h in (r.0, there r.1, r.2)

some_of : (o : Option Gate) (z : ℕ) → 0 < times z (leaves_of o) → (g : Gate) × (o ≡ Some g) × (0 < times z g.leaves.items)
some_of None z h = absurd (omega arith)
some_of (Some g) z h = (g, refl, h)

used_by : (x : ℕ) (gates : List (Option Gate)) → 0 < used x gates → (b : ℕ) × (0 < times x (leaves_of (gate_at gates b)))
used_by x [] h = absurd (omega arith)
used_by x (g ∷ gates) h = elim (cases_lt 0 (times x (leaves_of g))) [
  | inl by_first ↦ (0, by_first)
  | inr none ↦ let rest = used_by x gates (omega arith) in (suc rest.0, rest.1)
]

module _ (n : AbstractNetlist) (l : Library) (cells : List CellWord) (gates : List (Option Gate)) (roots : List ℕ) (class_of node_of : ℕ → ℕ)
    (carries : Carries n l cells gates roots class_of node_of)
    (a : ℕ) (h g : Member) (c d : Cell) (e x : Expression) (cell : Cell) (y : Expression) (order : List ℕ)
    (pair : IsPair n l a h g c d e x) (stands : StandsFor n l a h g c d e x cell y order)
    (i j : ℕ) (p q : Gate) (at_i : gate_at gates i ≡ Some p) (at_j : gate_at gates j ≡ Some q)
    (is_h : IsInstance n cells class_of h c e i p) (is_g : IsInstance n cells class_of g d x j q) (k : ℕ) (is_cell : IsCell cells k cell y) where
  a_is : a ≡ class_of i
  a_is = heads a (class_of i) _ pair.shows is_h.shows

  back_i : node_of (class_of i) ≡ i
  back_i = (carries.back i p at_i).0

  back_h : (z : ℕ) → 0 < times z p.leaves.items → node_of (class_of z) ≡ z
  back_h = (carries.back i p at_i).1

  back_g : (z : ℕ) → 0 < times z q.leaves.items → node_of (class_of z) ≡ z
  back_g = (carries.back j q at_j).1

  -- a leaf of the second whose class is a is the node of the first
  is_i : (z : ℕ) → 0 < times z q.leaves.items → class_of z ≡ a → z ≡ i
  is_i z some same = sym (back_g z some) ∙ ap node_of (same ∙ a_is) ∙ back_i

  -- a pin of class a is that of the second instance
  same_name : (r : Member) (name : Name) → pin_of r.name name ≡ pin_of g.name pair.pin → r.name ≡ g.name
  same_name r name e = let f = ap (λ (t : Terminal). t.instance) e in cc

  same_cell : (r : Member) (b : Cell) → Has n l r b → r.name ≡ g.name → (r ≡ g) × (b ≡ d)
  same_cell r b has e =
      let same = carries.names r g has.listed pair.second.has.listed e in
      let one = has.found in
      let two : cell_of l r.model ≡ Some d = ap (λ (m : Member). cell_of l m.model) same ∙ pair.second.has.found in
      (same, cc)

  no_root : times i roots ≡ 0
  no_root = elim (cases_lt 0 (times i roots)) [
    | inl some ↦ elim (carries.roots_are i some) [
      | of_port name there_name same ↦ absurd (pair.no_port name there_name (same ∙ sym a_is))
      | of_register r b name has listed no_gate same ↦
          let pin = pair.alone (pin_of r.name name) (an_input_pin r b has listed) (same ∙ sym a_is) in
          let is = same_cell r b has (same_name r name pin) in
          absurd (no_gate x (ap (λ (z : Cell). z.function) is.1 ∙ pair.second.is_gate))
    ]
    | inr none ↦ omega arith
  ]

  -- no other gate reads the node
  no_other : (m : ℕ) (o : Gate) → gate_at gates m ≡ Some o → 0 < times i o.leaves.items → m ≡ j
  no_other m o at_m reads =
      let r = carries.instance_of m o at_m in
      let read : In a (read_classes n r.0 r.1) =
      subst (λ (xs : List ℕ). In a xs) (sym r.4.reads) (subst (λ (z : ℕ). In z (map class_of o.leaves.items)) (sym a_is) (to_in class_of i o.leaves.items reads)) in
      let name = map_back (λ (z : Name). n.class (pin_of r.0.name z)) a (cell_inputs r.1) read in
      let pin = pair.alone (pin_of r.0.name name.0) (an_input_pin r.0 r.1 r.3.has name.1) name.2 in
      let is = same_cell r.0 r.1 r.3.has (same_name r.0 name.0 pin) in
      let shows : pin_classes n g (cell_outputs d) ≡ class_of m ∷ [] =
      subst (λ (z : Cell). pin_classes n g (cell_outputs z) ≡ class_of m ∷ []) is.1
      (subst (λ (z : Member). pin_classes n z (cell_outputs r.1) ≡ class_of m ∷ []) is.0 r.4.shows) in
      let same = heads (class_of m) (class_of j) _ shows is_g.shows in
      sym (carries.back m o at_m).0 ∙ ap node_of same ∙ (carries.back j q at_j).0

  used_once : 0 < times i q.leaves.items → uses gates roots i ≡ 1
  used_once reads =
      let low = gate_there gates j q at_j in
      let less = used_set i gates j None low in
      let here = ap (times i) (leaves_at gates j q at_j) in
      let one = carries.once j q at_j i in
      let root = no_root in
      elim (cases_lt 0 (used i (set gates j None))) [
        | inl some ↦
            let by = used_by i (set gates j None) some in
            let other : by.0 ≢ j = λ e.
            let none = subst (λ (z : ℕ). gate_at (set gates j None) z ≡ None) (sym e) (gate_same gates j None low) in
            let f = ap (λ (o : Option Gate). times i (leaves_of o)) none in
            let b = by.1 in
            omega arith in
            let there_by = gate_other gates j by.0 None other in
            let found = some_of (gate_at gates by.0) i (subst (λ (o : Option Gate). 0 < times i (leaves_of o)) there_by by.1) in
            absurd (other (no_other by.0 found.0 found.1 found.2))
        | inr none ↦ omega arith
      ]

  cover_pair : IsCoverPair gates roots i j p q
  cover_pair =
      let reads : In a (map class_of q.leaves.items) = subst (λ (xs : List ℕ). In a xs) is_g.reads
      (subst (λ (z : ℕ). In z (read_classes n g d)) pair.reads (In-pins (cell_inputs d) pair.pin pair.listed)) in
      let leaf = back_in class_of a q.leaves.items reads in
      record {
        inner = at_i;
        outer = at_j;
        reads = subst (λ (z : ℕ). 0 < times z q.leaves.items) (is_i leaf.0 leaf.1 leaf.2) leaf.1;
        alone = used_once (subst (λ (z : ℕ). 0 < times z q.leaves.items) (is_i leaf.0 leaf.1 leaf.2) leaf.1);
      } where
        In-pins : (pins : List Name) (pin : Name) → In pin pins → In (n.class (pin_of g.name pin)) (pin_classes n g pins)
        In-pins [] pin there_none = elim there_none [ ]
        In-pins (one ∷ pins) pin here = here
        In-pins (one ∷ pins) pin (there rest) = there (In-pins pins pin rest)

  -- each class of the order is that of a leaf, to which `node_of` leads back
  leaf_of : (z : ℕ) → In z order
      → ((w : ℕ) × (0 < times w p.leaves.items) × (class_of w ≡ z) × (node_of z ≡ w))
      ⊎ ((w : ℕ) × (0 < times w q.leaves.items) × (class_of w ≡ z) × (node_of z ≡ w) × (w ≢ i))
  leaf_of z there_z = elim ((stands.members z).0 there_z) [
    | inl by_h ↦
        let w = back_in class_of z p.leaves.items (subst (λ (xs : List ℕ). In z xs) is_h.reads by_h) in
        inl (w.0, w.1, w.2, sym (ap node_of w.2) ∙ back_h w.0 w.1)
    | inr by_g ↦
        let w = back_in class_of z q.leaves.items (subst (λ (xs : List ℕ). In z xs) is_g.reads by_g.0) in
        inr (w.0, w.1, w.2, sym (ap node_of w.2) ∙ back_g w.0 w.1, λ same. by_g.1 (sym w.2 ∙ ap class_of same ∙ sym a_is))
  ]

  there_again : (z : ℕ) → In z order → class_of (node_of z) ≡ z
  there_again z there_z = elim (leaf_of z there_z) [
    | inl w ↦ ap class_of w.3 ∙ w.2
    | inr w ↦ ap class_of w.3 ∙ w.2
  ]

  from_leaves : (f : ℕ → Bool) (leaves : List ℕ) → ((z : ℕ) → 0 < times z leaves → node_of (class_of z) ≡ z)
      → map (λ z. f (node_of z)) (map class_of leaves) ≡ map f leaves
  from_leaves f leaves back = map_twice (λ z. f (node_of z)) class_of leaves ∙ map_on (λ z. f (node_of (class_of z))) f leaves (λ z some. ap f (back z some))

  put_back : (f : ℕ → Bool) (t : Bool) → map (put a t (λ z. f (node_of z))) (map class_of q.leaves.items) ≡ map (put i t f) q.leaves.items
  put_back f t = map_twice (put a t (λ z. f (node_of z))) class_of q.leaves.items
      ∙ map_on (λ z. put a t (λ w. f (node_of w)) (class_of z)) (put i t f) q.leaves.items (λ z some. elim (put_tells a t (λ w. f (node_of w)) (class_of z)) [
        | inl is_a ↦ is_a.1 ∙ elim (put_tells i t f z) [
          | inl same ↦ sym same.1
          | inr other ↦ absurd (other.0 (is_i z some is_a.0))
        ]
        | inr not_a ↦ not_a.1 ∙ ap f (back_g z some) ∙ elim (put_tells i t f z) [
          | inl same ↦ absurd (not_a.0 (ap class_of same.0 ∙ sym a_is))
          | inr other ↦ sym other.1
        ]
      ])

  computes : Computes cells k (map node_of order) p q i
  computes = record {
    there = is_cell.there;
    many = length-map order node_of ∙ stands.many ∙ sym is_cell.inputs;
    once = mapped_once node_of order (pairs_once order stands.once) (λ z w hz hw same.
        sym (there_again z (times_in z order hz)) ∙ ap class_of same ∙ there_again w (times_in w order hw));
    members = λ z. (
      λ some.
          let w = mapped_some node_of z order some in
          elim (leaf_of w.0 (times_in w.0 order w.1)) [
            | inl v ↦ inl (subst (λ (m : ℕ). 0 < times m p.leaves.items) (sym v.3 ∙ w.2) v.1)
            | inr v ↦ inr (subst (λ (m : ℕ). 0 < times m q.leaves.items) (sym v.3 ∙ w.2) v.1, λ same. v.4 (sym v.3 ∙ w.2 ∙ same))
          ],
      λ why. elim why [
        | inl by_h ↦
            let there_z = (stands.members (class_of z)).1 (inl (subst (λ (xs : List ℕ). In (class_of z) xs) (sym is_h.reads) (to_in class_of z p.leaves.items by_h))) in
            subst (λ (m : ℕ). 0 < times m (map node_of order)) (back_h z by_h) (mapped_in node_of (class_of z) order (in_times (class_of z) order there_z))
        | inr by_g ↦
            let there_z = (stands.members (class_of z)).1 (inr (
              subst (λ (xs : List ℕ). In (class_of z) xs) (sym is_g.reads) (to_in class_of z q.leaves.items by_g.0),
              λ same. by_g.1 (is_i z by_g.0 same),
            )) in
            subst (λ (m : ℕ). 0 < times m (map node_of order)) (back_g z by_g.0) (mapped_in node_of (class_of z) order (in_times (class_of z) order there_z))
      ],
    );
    value = λ f.
        let F : ℕ → Bool = λ z. f (node_of z) in
        let long = length-map order F in
        let by_h : val e (map F (read_classes n h c)) ≡ gate_value cells p f =
        ap (λ (xs : List ℕ). val e (map F xs)) is_h.reads ∙ ap (λ (bs : List Bool). val e bs) (from_leaves f p.leaves.items back_h)
        ∙ is_h.value (map f p.leaves.items) (length-map p.leaves.items f) in
        let t = gate_value cells p f in
        ap (cell_value cells k) (map_twice f node_of order)
        ∙ is_cell.value (map F order) (long ∙ stands.many ∙ sym is_cell.inputs)
        ∙ stands.value F
        ∙ ap (λ (b : Bool). val x (map (put a b F) (read_classes n g d))) by_h
        ∙ ap (λ (xs : List ℕ). val x (map (put a t F) xs)) is_g.reads
        ∙ ap (λ (bs : List Bool). val x bs) (put_back f t)
        ∙ is_g.value (map (put i t f) q.leaves.items) (length-map q.leaves.items (put i t f));
  }

pub carries_tight : CarriesTight
carries_tight n l cells gates roots class_of node_of carries tight a h g c d e x cell y order pair stands =
    let p = carries.gates_are h c e pair.first in
    let q = carries.gates_are g d x pair.second in
    let k = carries.cells_are cell y stands.listed stands.usable stands.is_gate in
    tight p.0 q.0 p.1 q.1 k.0 (map node_of order)
    (cover_pair n l cells gates roots class_of node_of carries a h g c d e x cell y order pair stands p.0 q.0 p.1 q.1 p.2 q.2 p.3 q.3 k.0 k.1)
    (computes n l cells gates roots class_of node_of carries a h g c d e x cell y order pair stands p.0 q.0 p.1 q.1 p.2 q.2 p.3 q.3 k.0 k.1)
