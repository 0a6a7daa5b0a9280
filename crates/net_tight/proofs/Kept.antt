-- Tightness is kept where cells are exchanged for drives and classes are numbered in another way.
use Rattle.std.proofs.Common.{◌≡◌, ◌≢◌, ◌⊎◌, inl, inr, ℕ, ◌<◌, Bool, List, [], ◌∷◌, ◌++◌, map, filter, not, length, get_or, AllPairs, ap, ap₂, sym, subst, ◌∙◌, arith, refl, nat_eq, if◌then◌else◌}
use Prim.Native.Nat.{zero, suc}
use Rattle.std.proofs.lemmas.Bool.Decides.{eqb_tells}
use Rattle.std.proofs.lemmas.List.{length-map}
use Rattle.vlsi_base.specs.Member.{In, here, there}
use Rattle.vlsi_base.specs.declared.name.Name.{Name}
use Rattle.vlsi_base.specs.declared.name.Port.{Port}
use Rattle.vlsi_base.specs.declared.name.Terminal.{Terminal}
use Rattle.bool_expr.specs.Expression.{Expression, val}
use Rattle.machine_core.specs.Machine.{names_of, is_input}
use Rattle.cell_model.specs.Cell.{Function, gate, flip_flop, other, opaque, Cell, pin_ports, cell_inputs, cell_outputs}
use Rattle.cell_model.specs.Library.{Library}
use Rattle.cell_model.proofs.Members.{In-at, In-split, In-left, In-right, In-map, In-map_back}
use Rattle.net_meaning.specs.Netlist.{Member, AbstractNetlist, port, pin_of}
use Rattle.net_meaning.specs.Well.{Has}
use Rattle.net_theory.specs.Exchanges.{IsSameFunction}
use Rattle.net_theory.proofs.Basics.{In-names}
use Rattle.net_tight.specs.Tight.{IsInputPin, an_input_pin, IsPair, StandsFor, put, read_classes, pin_classes}
use Rattle.net_tight.specs.Alike.{IsSignalTerminal, a_port, a_pin, HasDrive, AreAlike, TightnessIsKept}

-- ---- lists

got_mapped : (f : ℕ → ℕ) (xs : List ℕ) (i d : ℕ) → i < length xs → get_or (map f xs) i d ≡ f (get_or xs i 0)
got_mapped f [] i d low = absurd (omega arith)
got_mapped f (x ∷ xs) zero d low = refl
got_mapped f (x ∷ xs) (suc i) d low = got_mapped f xs i d (omega arith)

mapped_apart : (f : ℕ → ℕ) (xs : List ℕ) → AllPairs (λ j k. j ≢ k) xs → ((x y : ℕ) → In x xs → In y xs → f x ≡ f y → x ≡ y) → AllPairs (λ j k. j ≢ k) (map f xs)
mapped_apart f xs apart back i j d less within same =
    let long = length-map xs f in
    let low_j : j < length xs = omega arith in
    let low_i : i < length xs = omega arith in
    apart i j 0 less low_j
    (back (get_or xs i 0) (get_or xs j 0) (In-at xs i 0 low_i) (In-at xs j 0 low_j) (sym (got_mapped f xs i d low_i) ∙ same ∙ got_mapped f xs j d low_j))

mapped_twice : (f : ℕ → Bool) (g : ℕ → ℕ) (xs : List ℕ) → map f (map g xs) ≡ map (λ x. f (g x)) xs
mapped_twice f g [] = refl
mapped_twice f g (x ∷ xs) = ap (λ (bs : List Bool). f (g x) ∷ bs) (mapped_twice f g xs)

mapped_same : (f g : ℕ → Bool) (xs : List ℕ) → ((x : ℕ) → In x xs → f x ≡ g x) → map f xs ≡ map g xs
mapped_same f g [] same = refl
mapped_same f g (x ∷ xs) same = ap₂ (λ (b : Bool) (bs : List Bool). b ∷ bs) (same x here) (mapped_same f g xs (λ y at. same y (there at)))

put_tells : (a : ℕ) (v : Bool) (f : ℕ → Bool) (x : ℕ) → ((x ≡ a) × (put a v f x ≡ v)) ⊎ ((x ≢ a) × (put a v f x ≡ f x))
put_tells a v f x = elim (eqb_tells x a) [
  | inl is ↦ inl (is.1, ap (λ (b : Bool). if b then v else f x) is.0)
  | inr isnt ↦ inr (isnt.1, ap (λ (b : Bool). if b then v else f x) isnt.0)
]

-- ---- classes by another numbering

-- the second number of the first terminal that has this first number
abbrev found : (Terminal → ℕ) → (Terminal → ℕ) → List Terminal → ℕ → ℕ
found f g [] z = 0
found f g (t ∷ ts) z = if nat_eq (f t) z then g t else found f g ts z

found_is : (f g : Terminal → ℕ) (ts : List Terminal) → ((t u : Terminal) → In t ts → In u ts → f t ≡ f u → g t ≡ g u) → (u : Terminal) → In u ts
    → found f g ts (f u) ≡ g u
found_is f g [] same u at = elim at [ ]
found_is f g (t ∷ ts) same u at = elim (eqb_tells (f t) (f u)) [
  | inl is ↦ ap (λ (b : Bool). if b then g t else found f g ts (f u)) is.0 ∙ same t u here at is.1
  | inr isnt ↦
      ap (λ (b : Bool). if b then g t else found f g ts (f u)) isnt.0
      ∙ later (found_is f g ts (λ v w v_at w_at. same v w (there v_at) (there w_at))) u at isnt.1
] where
  later : ((v : Terminal) → In v ts → found f g ts (f v) ≡ g v) → (v : Terminal) → In v (t ∷ ts) → f t ≢ f v → found f g ts (f v) ≡ g v
  later rest _ here apart = absurd (apart refl)
  later rest v (there at) apart = rest v at

-- the classes of an instance's pins, by both numberings
classes_by : (f g : Terminal → ℕ) (to : ℕ → ℕ) (owner again : List ℕ) (pins : List Name) → again ≡ owner
    → ((p : Name) → In p pins → to (f (pin_of owner p)) ≡ g (pin_of owner p))
    → map (λ p. g (pin_of again p)) pins ≡ map to (map (λ p. f (pin_of owner p)) pins)
classes_by f g to owner again [] is each = refl
classes_by f g to owner again (p ∷ pins) is each =
    ap₂ (λ (x : ℕ) (xs : List ℕ). x ∷ xs) (ap (λ (o : List ℕ). g (pin_of o p)) is ∙ sym (each p here))
    (classes_by f g to owner again pins is (λ q at. each q (there at)))

-- ---- drives

-- a drive of a gate is a gate of the same values
gate_again : (f d : Function) (e : Expression) → IsSameFunction f d → f ≡ gate e → (x : Expression) × (d ≡ gate x) × ((w : List Bool) → val x w ≡ val e w)
gate_again (gate z) (gate x) e same is = let one : z ≡ e = cc is in (x, refl, λ w. same w ∙ ap (λ (y : Expression). val y w) one)
gate_again (gate z) (flip_flop b j) e same is = absurd same
gate_again (gate z) (other m) e same is = absurd same
gate_again (gate z) opaque e same is = absurd same
gate_again (flip_flop d k) g e same is = absurd (cc is)
gate_again (other m) g e same is = absurd (cc is)
gate_again opaque g e same is = absurd (cc is)

inputs_same : (c d : Cell) → pin_ports d ≡ pin_ports c → cell_inputs d ≡ cell_inputs c
inputs_same c d pins = ap (λ (ps : List Port). names_of (filter (λ p. is_input p.dir) ps)) pins

outputs_same : (c d : Cell) → pin_ports d ≡ pin_ports c → cell_outputs d ≡ cell_outputs c
outputs_same c d pins = ap (λ (ps : List Port). names_of (filter (λ p. not (is_input p.dir)) ps)) pins

module _ (l : Library) (n k : AbstractNetlist) (alike : AreAlike l n k) where
  -- a pin in the second netlist is one in the first
  signal : (i : Member) (c : Cell) → Has k l i c → (name : Name) → In name (names_of (pin_ports c)) → IsSignalTerminal n l (pin_of i.name name)
  signal i c has name at =
      let b = alike.back i c has in
      subst (λ (owner : List ℕ). IsSignalTerminal n l (pin_of owner name)) b.named
      (a_pin b.member b.cell b.has (subst (λ (ps : List Port). In name (names_of ps)) (sym b.drive.pins) at))

  module _ (a : ℕ) (h g : Member) (c d : Cell) (e x : Expression) (cell : Cell) (y : Expression) (order : List ℕ) (pair : IsPair k l a h g c d e x)
      (stands : StandsFor k l a h g c d e x cell y order) where
    p : HasDrive n l h.name c
    p = alike.back h c pair.first.has

    q : HasDrive n l g.name d
    q = alike.back g d pair.second.has

    gate_p : (z : Expression) × (p.cell.function ≡ gate z) × ((w : List Bool) → val z w ≡ val e w)
    gate_p = gate_again c.function p.cell.function e p.drive.function pair.first.is_gate

    gate_q : (z : Expression) × (q.cell.function ≡ gate z) × ((w : List Bool) → val z w ≡ val x w)
    gate_q = gate_again d.function q.cell.function x q.drive.function pair.second.is_gate

    -- the output pins of the first instance and the input pins of both
    abbrev shown : List Terminal
    shown = map (pin_of h.name) (cell_outputs c)

    abbrev read_h : List Terminal
    read_h = map (pin_of h.name) (cell_inputs c)

    abbrev read_g : List Terminal
    read_g = map (pin_of g.name) (cell_inputs d)

    abbrev pins : List Terminal
    pins = shown ++ (read_h ++ read_g)

    in_shown : (name : Name) → In name (cell_outputs c) → In (pin_of h.name name) pins
    in_shown name at = In-left (pin_of h.name name) shown (read_h ++ read_g) (In-map (pin_of h.name) name (cell_outputs c) at)

    in_h : (name : Name) → In name (cell_inputs c) → In (pin_of h.name name) pins
    in_h name at =
        In-right (pin_of h.name name) shown (read_h ++ read_g)
        (In-left (pin_of h.name name) read_h read_g (In-map (pin_of h.name) name (cell_inputs c) at))

    in_g : (name : Name) → In name (cell_inputs d) → In (pin_of g.name name) pins
    in_g name at =
        In-right (pin_of g.name name) shown (read_h ++ read_g)
        (In-right (pin_of g.name name) read_h read_g (In-map (pin_of g.name) name (cell_inputs d) at))

    named_signal : (i : Member) (b : Cell) (dir : Port → Bool) → Has k l i b → (t : Terminal) → In t (map (pin_of i.name) (names_of (filter dir (pin_ports b))))
        → IsSignalTerminal n l t
    named_signal i b dir has t at =
        let o = In-map_back (pin_of i.name) t (names_of (filter dir (pin_ports b))) at in
        subst (λ (u : Terminal). IsSignalTerminal n l u) o.2 (signal i b has o.0 (In-names dir (pin_ports b) o.0 o.1))

    is_signal : (t : Terminal) → In t pins → IsSignalTerminal n l t
    is_signal t at = elim (In-split t shown (read_h ++ read_g) at) [
      | inl by_out ↦ named_signal h c (λ p. not (is_input p.dir)) pair.first.has t by_out
      | inr by_in ↦ elim (In-split t read_h read_g by_in) [
        | inl by_h ↦ named_signal h c (λ p. is_input p.dir) pair.first.has t by_h
        | inr by_g ↦ named_signal g d (λ p. is_input p.dir) pair.second.has t by_g
      ]
    ]

    -- the number in the first netlist of a class of these pins
    abbrev to : ℕ → ℕ
    to z = found k.class n.class pins z

    to_is : (t : Terminal) → In t pins → to (k.class t) ≡ n.class t
    to_is t at = found_is k.class n.class pins (λ u v u_at v_at same. (alike.classes u v (is_signal u u_at) (is_signal v v_at)).1 same) t at

    -- a class of one of these pins
    abbrev IsClassOfPin : ℕ → Type 0
    IsClassOfPin z = (t : Terminal) × In t pins × (k.class t ≡ z)

    to_apart : (z w : ℕ) → IsClassOfPin z → IsClassOfPin w → to z ≡ to w → z ≡ w
    to_apart z w by_t by_u same =
        let t = by_t.0 in
        let u = by_u.0 in
        let one : n.class t ≡ n.class u = sym (to_is t by_t.1) ∙ ap to by_t.2 ∙ same ∙ sym (ap to by_u.2) ∙ to_is u by_u.1 in
        sym by_t.2 ∙ (alike.classes t u (is_signal t by_t.1) (is_signal u by_u.1)).0 one ∙ by_u.2

    in_read_h : (z : ℕ) → In z (read_classes k h c) → IsClassOfPin z
    in_read_h z at = let o = In-map_back (λ (name : Name). k.class (pin_of h.name name)) z (cell_inputs c) at in (pin_of h.name o.0, in_h o.0 o.1, o.2)

    in_read_g : (z : ℕ) → In z (read_classes k g d) → IsClassOfPin z
    in_read_g z at = let o = In-map_back (λ (name : Name). k.class (pin_of g.name name)) z (cell_inputs d) at in (pin_of g.name o.0, in_g o.0 o.1, o.2)

    in_order : (z : ℕ) → In z order → IsClassOfPin z
    in_order z at = elim ((stands.members z).0 at) [ inl by_h ↦ in_read_h z by_h | inr by_g ↦ in_read_g z by_g.0 ]

    a_shown : IsClassOfPin a
    a_shown =
        let o = In-map_back (λ (name : Name). k.class (pin_of h.name name)) a (cell_outputs c) (subst (λ (xs : List ℕ). In a xs) (sym pair.shows) here) in
        (pin_of h.name o.0, in_shown o.0 o.1, o.2)

    -- ---- the same classes, by their numbers in the first netlist

    shows_to : pin_classes n p.member (cell_outputs p.cell) ≡ to a ∷ []
    shows_to =
        ap (pin_classes n p.member) (outputs_same c p.cell p.drive.pins)
        ∙ classes_by k.class n.class to h.name p.member.name (cell_outputs c) p.named (λ name at. to_is (pin_of h.name name) (in_shown name at))
        ∙ ap (map to) pair.shows

    reads_h : read_classes n p.member p.cell ≡ map to (read_classes k h c)
    reads_h =
        ap (pin_classes n p.member) (inputs_same c p.cell p.drive.pins)
        ∙ classes_by k.class n.class to h.name p.member.name (cell_inputs c) p.named (λ name at. to_is (pin_of h.name name) (in_h name at))

    reads_g : read_classes n q.member q.cell ≡ map to (read_classes k g d)
    reads_g =
        ap (pin_classes n q.member) (inputs_same d q.cell q.drive.pins)
        ∙ classes_by k.class n.class to g.name q.member.name (cell_inputs d) q.named (λ name at. to_is (pin_of g.name name) (in_g name at))

    -- ---- the pair

    -- a terminal of that class in the first netlist is one of it in the second
    class_back : (t : Terminal) → IsSignalTerminal n l t → n.class t ≡ to a → k.class t ≡ a
    class_back t is same =
        let u = a_shown.0 in
        (alike.classes t u is (is_signal u a_shown.1)).0 (same ∙ sym (ap to a_shown.2) ∙ to_is u a_shown.1) ∙ a_shown.2

    alone_again : (t : Terminal) → IsInputPin n l t → n.class t ≡ to a → t ≡ pin_of q.member.name pair.pin
    alone_again _ (an_input_pin {name = name} i b has at) same =
        let r = alike.forth i b has in
        let t = pin_of i.name name in
        let input : In name (cell_inputs r.cell) = subst (λ (ns : List Name). In name ns) (sym (inputs_same b r.cell r.drive.pins)) at in
        let is : IsInputPin k l t = subst (λ (owner : List ℕ). IsInputPin k l (pin_of owner name)) r.named (an_input_pin r.member r.cell r.has input) in
        let listed = In-names (λ p. is_input p.dir) (pin_ports b) name at in
        pair.alone t is (class_back t (a_pin i b has listed) same) ∙ ap (λ (owner : List ℕ). pin_of owner pair.pin) (sym q.named)

    is_pair : IsPair n l (to a) p.member q.member p.cell q.cell gate_p.0 gate_q.0
    is_pair = record {
      first = record { has = p.has; is_gate = gate_p.1 };
      second = record { has = q.has; is_gate = gate_q.1 };
      different = λ same.
          pair.different (alike.once h g pair.first.has.listed pair.second.has.listed (sym p.named ∙ ap (λ (i : Member). i.name) same ∙ q.named));
      shows = shows_to;
      no_port = λ name at same.
          pair.no_port name (subst (λ (ns : List Name). In name ns) (sym alike.ports) at) (class_back (port name) (a_port at) same);
      pin = pair.pin;
      listed = subst (λ (ns : List Name). In pair.pin ns) (sym (inputs_same d q.cell q.drive.pins)) pair.listed;
      reads = ap (λ (owner : List ℕ). n.class (pin_of owner pair.pin)) q.named ∙ sym (to_is (pin_of g.name pair.pin) (in_g pair.pin pair.listed)) ∙ ap to pair.reads;
      alone = alone_again;
    }

    -- ---- the cell that stands for it

    put_to : (v : Bool) (f : ℕ → Bool) → map (put (to a) v f) (map to (read_classes k g d)) ≡ map (put a v (λ z. f (to z))) (read_classes k g d)
    put_to v f =
        mapped_twice (put (to a) v f) to (read_classes k g d)
        ∙ mapped_same (λ z. put (to a) v f (to z)) (put a v (λ z. f (to z))) (read_classes k g d) (λ z at. elim (put_tells a v (λ w. f (to w)) z) [
          | inl is ↦ elim (put_tells (to a) v f (to z)) [
            | inl too ↦ too.1 ∙ sym is.1
            | inr isnt ↦ absurd (isnt.0 (ap to is.0))
          ]
          | inr isnt ↦ elim (put_tells (to a) v f (to z)) [
            | inl too ↦ absurd (isnt.0 (to_apart z a (in_read_g z at) a_shown too.0))
            | inr too ↦ too.1 ∙ sym isnt.1
          ]
        ])

    back_in : (z : ℕ) (xs : List ℕ) → In z (map to xs) → (w : ℕ) × In w xs × (to w ≡ z)
    back_in z xs at = In-map_back to z xs at

    stands_for : StandsFor n l (to a) p.member q.member p.cell q.cell gate_p.0 gate_q.0 cell y (map to order)
    stands_for = record {
      listed = stands.listed;
      usable = stands.usable;
      is_gate = stands.is_gate;
      many = length-map order to ∙ stands.many;
      once = mapped_apart to order stands.once (λ z w z_at w_at same. to_apart z w (in_order z z_at) (in_order w w_at) same);
      members = λ z. (members_to z, members_back z);
      value = λ f.
          let F : ℕ → Bool = λ z. f (to z) in
          let by_h : val gate_p.0 (map f (read_classes n p.member p.cell)) ≡ val e (map F (read_classes k h c)) =
          ap (λ (xs : List ℕ). val gate_p.0 (map f xs)) reads_h
          ∙ ap (λ (bs : List Bool). val gate_p.0 bs) (mapped_twice f to (read_classes k h c))
          ∙ gate_p.2 (map F (read_classes k h c)) in
          ap (λ (bs : List Bool). val y bs) (mapped_twice f to order)
          ∙ stands.value F
          ∙ sym (gate_q.2 (map (put a (val e (map F (read_classes k h c))) F) (read_classes k g d)))
          ∙ ap (λ (bs : List Bool). val gate_q.0 bs) (sym (put_to (val e (map F (read_classes k h c))) f))
          ∙ ap (λ (v : Bool). val gate_q.0 (map (put (to a) v f) (map to (read_classes k g d)))) (sym by_h)
          ∙ ap (λ (xs : List ℕ). val gate_q.0 (map (put (to a) (val gate_p.0 (map f (read_classes n p.member p.cell))) f) xs)) (sym reads_g);
    } where
      members_to : (z : ℕ) → In z (map to order) → In z (read_classes n p.member p.cell) ⊎ (In z (read_classes n q.member q.cell) × (z ≢ to a))
      members_to z at =
          let w = back_in z order at in
          elim ((stands.members w.0).0 w.1) [
            | inl by_h ↦ inl (subst (λ (xs : List ℕ). In z xs) (sym reads_h) (subst (λ (v : ℕ). In v (map to (read_classes k h c))) w.2 (In-map to w.0 (read_classes k h c) by_h)))
            | inr by_g ↦ inr (
              subst (λ (xs : List ℕ). In z xs) (sym reads_g) (subst (λ (v : ℕ). In v (map to (read_classes k g d))) w.2 (In-map to w.0 (read_classes k g d) by_g.0)),
              λ is_a. by_g.1 (to_apart w.0 a (in_read_g w.0 by_g.0) a_shown (w.2 ∙ is_a)),
            )
          ]

      members_back : (z : ℕ) → In z (read_classes n p.member p.cell) ⊎ (In z (read_classes n q.member q.cell) × (z ≢ to a)) → In z (map to order)
      members_back z (inl by_h) =
          let w = back_in z (read_classes k h c) (subst (λ (xs : List ℕ). In z xs) reads_h by_h) in
          subst (λ (v : ℕ). In v (map to order)) w.2 (In-map to w.0 order ((stands.members w.0).1 (inl w.1)))
      members_back z (inr by_g) =
          let w = back_in z (read_classes k g d) (subst (λ (xs : List ℕ). In z xs) reads_g by_g.0) in
          subst (λ (v : ℕ). In v (map to order)) w.2
          (In-map to w.0 order ((stands.members w.0).1 (inr (w.1, λ is_a. by_g.1 (sym w.2 ∙ ap to is_a)))))

pub kept : TightnessIsKept
kept l n k alike tight a h g c d e x cell y order pair stands =
    tight (to l n k alike a h g c d e x cell y order pair stands a)
    (p l n k alike a h g c d e x cell y order pair stands).member
    (q l n k alike a h g c d e x cell y order pair stands).member
    (p l n k alike a h g c d e x cell y order pair stands).cell
    (q l n k alike a h g c d e x cell y order pair stands).cell
    (gate_p l n k alike a h g c d e x cell y order pair stands).0
    (gate_q l n k alike a h g c d e x cell y order pair stands).0
    cell y (map (to l n k alike a h g c d e x cell y order pair stands) order)
    (is_pair l n k alike a h g c d e x cell y order pair stands)
    (stands_for l n k alike a h g c d e x cell y order pair stands)
