-- A gate of one input put into a netlist that shows nodes.
use Rattle.std.proofs.Common.{◌≡◌, ◌≢◌, ◌⊎◌, inl, inr, ℕ, suc, ◌+◌, ◌<◌, Bool, false, List, [], ◌∷◌, ◌++◌, length, map, Some, refl, sym, ◌∙◌, ap, subst, arith, nat_eq, eqb-true, eq-eqb, if◌then◌else◌}
use Rattle.std.proofs.lemmas.Bool.{cases_lt}
use Rattle.std.proofs.lemmas.List.{map-append}
use Rattle.vlsi_base.specs.declared.name.Name.{Name}
use Rattle.vlsi_base.specs.declared.name.Terminal.{Terminal}
use Rattle.vlsi_base.specs.Names.{vdd, vss}
use Rattle.vlsi_base.specs.Member.{In, here, there}
use Rattle.bool_expr.specs.Expression.{val}
use Rattle.machine_core.specs.Machine.{Machine, inputs, outputs, names_of}
use Rattle.machine_core.specs.Checked.{IsChecked}
use Rattle.cell_model.specs.Cell.{Function, gate, flip_flop, other, opaque, Cell, pin_ports, cell_inputs, cell_outputs}
use Rattle.cell_model.specs.Library.{Library, cell_of, IsUsable, IsPlain}
use Rattle.cell_model.proofs.Members.{In-split, In-left, In-right, In-map_back}
use Rattle.cell_model.proofs.Texts.{text_differs}
use Rattle.net_core.specs.Netlist.{Instance}
use Rattle.net_meaning.specs.Netlist.{Member, port, pin_of, IsTerminal, a_port, a_pin}
use Rattle.net_meaning.specs.Well.{Has, named_b, buffer_instance}
use Rattle.net_theory.specs.Sources.{Source, high, low, ticking, node, Values, Seat, Sourced, source_of, pin_sources, Plays, IsSeated, ComesFrom, Shows}
use Rattle.net_theory.specs.Meaning.{Means}
use Rattle.net_theory.proofs.Basics.{number_in, In-names, In-inputs, In-held, In-pins}
use Rattle.net_theory.proofs.Seats.{In-only, seat_has, input_terminal, output_terminal}
use Rattle.net_right.specs.View.{member_of}
use Rattle.loon_fanout.specs.Sinks.{Wired, is_same_owner}
use Rattle.loon_fanout.specs.Wired.{pin_class, with_gate}
use Rattle.loon_fanout.specs.Laws.{as_netlist, sourced, gate_named}
use Rattle.loon_fanout.proofs.Picking.{is_false}
use Rattle.loon_fanout.proofs.RightPins.{own_class, input as gate_input, output as gate_output, input_is, output_is, input_class, output_class}
use Rattle.loon_fanout.proofs.RightStates.{State, IsGateCell, net, fresh, fresh_beyond, seat_low, node_low, terminal_low, load_low, output_low}

not_same : (x y : ℕ) → x < y → nat_eq x y ≡ false
not_same x y below = is_false (nat_eq x y) (λ e. let same = eqb-true x y e in absurd (omega (arith, same, below)))

In-last : {A : Type 0} (x : A) (xs : List A) → In x (xs ++ x ∷ [])
In-last x xs = In-right x xs (x ∷ []) here

In-one : {A : Type 0} (x y : A) → In y (x ∷ []) → y ≡ x
In-one x y here = refl
In-one x y (there k) = elim k [ ]

-- functions that agree on a list
map_same : (f g : ℕ → Bool) (xs : List ℕ) → ((x : ℕ) → In x xs → f x ≡ g x) → map f xs ≡ map g xs
map_same f g [] each = refl
map_same f g (x ∷ xs) each =
    ap (λ (b : Bool). b ∷ map f xs) (each x here) ∙ ap (λ (bs : List Bool). g x ∷ bs) (map_same f g xs (λ y h. each y (there h)))

module _ (l : Library) (m : Machine) (w : Wired) (s : State l m w) (c : Cell) (b : IsGateCell l c) (name : List ℕ) (j : ℕ) (named : name ≡ buffer_instance j)
    (new_name : (i : Instance) → In i w.instances → i.name ≢ name) (k a : ℕ) (low_k : k < w.count) (shows_a : s.source k ≡ node a) where
  abbrev old : Sourced
  old = net l m w s

  abbrev top : ℕ
  top = fresh l m w s

  abbrev after : Wired
  after = with_gate c w k name

  abbrev source_after : ℕ → Source
  source_after x = if nat_eq x w.count then node top else s.source x

  abbrev rank_after : ℕ → ℕ
  rank_after x = if nat_eq x top then suc (s.rank a + s.rank a) else s.rank x + s.rank x

  abbrev values_after : Values
  values_after i t x = if nat_eq x top then val b.expr (s.values i t a ∷ []) else s.values i t x

  abbrev added : Sourced
  added = sourced after source_after rank_after

  abbrev last : Seat
  last = record { member = record { name = name; model = c.name }; node = top }

  pub source_old : (x : ℕ) → x < w.count → source_after x ≡ s.source x
  source_old x below = ap (λ (e : Bool). if e then node top else s.source x) (not_same x w.count below)

  pub source_new : source_after w.count ≡ node top
  source_new = ap (λ (e : Bool). if e then node top else s.source w.count) (eq-eqb w.count w.count refl)

  pub value_old : (i t : List Bool) (y : ℕ) → y < top → values_after i t y ≡ s.values i t y
  value_old i t y below = ap (λ (e : Bool). if e then val b.expr (s.values i t a ∷ []) else s.values i t y) (not_same y top below)

  pub value_new : (i t : List Bool) → values_after i t top ≡ val b.expr (s.values i t a ∷ [])
  value_new i t = ap (λ (e : Bool). if e then val b.expr (s.values i t a ∷ []) else s.values i t top) (eq-eqb top top refl)

  pub rank_old : (y : ℕ) → y < top → rank_after y ≡ s.rank y + s.rank y
  rank_old y below = ap (λ (e : Bool). if e then suc (s.rank a + s.rank a) else s.rank y + s.rank y) (not_same y top below)

  pub rank_new : rank_after top ≡ suc (s.rank a + s.rank a)
  rank_new = ap (λ (e : Bool). if e then suc (s.rank a + s.rank a) else s.rank top + s.rank top) (eq-eqb top top refl)

  pub member : (i : Member) → In i (map member_of w.instances) → i.name ≢ name
  member i listed e = let x = In-map_back member_of i w.instances listed in new_name x.0 x.1 (ap (λ (y : Member). y.name) x.2 ∙ e)

  pub old_owner : (t : Terminal) → IsTerminal (as_netlist w) l t → is_same_owner t.instance (Some name) ≡ false
  old_owner t (a_port listed) = refl
  old_owner t (a_pin i cell listed found pin) = text_differs i.name name (member i listed)

  pub class_kept : (t : Terminal) → IsTerminal (as_netlist w) l t → after.class t ≡ w.class t
  class_kept t is = ap (λ (x : Bool). if x then pin_class w c k t.pin else w.class t) (old_owner t is)

  pub source_kept : (t : Terminal) → IsTerminal (as_netlist w) l t → source_of added t ≡ source_of old t
  source_kept t is = ap source_after (class_kept t is) ∙ source_old (w.class t) (s.shows.numbered t is)

  pub pins_kept : (owner : List ℕ) (pins : List Name) → ((p : Name) → In p pins → IsTerminal (as_netlist w) l (pin_of owner p)) → pin_sources added owner pins ≡ pin_sources old owner pins
  pins_kept owner [] each = refl
  pins_kept owner (p ∷ pins) each =
      ap (λ (x : Source). x ∷ pin_sources added owner pins) (source_kept (pin_of owner p) (each p here))
      ∙ ap (λ (xs : List Source). source_of old (pin_of owner p) ∷ xs) (pins_kept owner pins (λ q g. each q (there g)))

  pub leaves_low : (owner : List ℕ) (pins : List Name) (leaves : List ℕ) → ((p : Name) → In p pins → IsTerminal (as_netlist w) l (pin_of owner p))
      → pin_sources old owner pins ≡ map node leaves → (y : ℕ) → In y leaves → y < top
  leaves_low owner [] [] each same y h = elim h [ ]
  leaves_low owner [] (z ∷ leaves) each same y h = absurd (cc same)
  leaves_low owner (p ∷ pins) [] each same y h = absurd (cc same)
  leaves_low owner (p ∷ pins) (z ∷ leaves) each same y here = terminal_low l m w s (pin_of owner p) y (each p here) (cc same)
  leaves_low owner (p ∷ pins) (z ∷ leaves) each same y (there h) = leaves_low owner pins leaves (λ q g. each q (there g)) (cc same) y h

  pub plays : (p : Seat) (d : Cell) (u : Function) → In p s.shows.seats → Has (as_netlist w) l p.member d → IsUsable d → d.function ≡ u → IsPlain d u
      → Plays old m s.values s.roots p d u → Plays added m values_after s.roots p d u
  plays p d (gate e) g has usable is plain was =
      let each = λ (z : Name) (h : In z (cell_inputs d)). input_terminal (as_netlist w) l p.member d z has usable h in
      let lows = leaves_low p.member.name (cell_inputs d) was.leaves each was.reads in
      record {
        beyond = was.beyond;
        named = was.named;
        leaves = was.leaves;
        reads = pins_kept p.member.name (cell_inputs d) each ∙ was.reads;
        shows = pins_kept p.member.name (cell_outputs d) (λ z h. output_terminal (as_netlist w) l p.member d z has usable h) ∙ was.shows;
        value = λ i t held.
            value_old i t p.node (seat_low l m w s p g) ∙ was.value i t held
            ∙ ap (val e) (map_same (s.values i t) (values_after i t) was.leaves (λ y h. sym (value_old i t y (lows y h))));
        earlier = λ z h.
            let before = was.earlier z h in
            let one = rank_old z (lows z h) in
            let two = rank_old p.node (seat_low l m w s p g) in omega (arith, before, one, two);
      }
  plays p d (flip_flop x ck) g has usable is plain was = record {
    number = was.number;
    within = was.within;
    named = was.named;
    place = was.place;
    shows = pins_kept p.member.name (cell_outputs d) (λ z h. output_terminal (as_netlist w) l p.member d z has usable h) ∙ was.shows;
    loads = source_kept (pin_of p.member.name x) (input_terminal (as_netlist w) l p.member d x has usable plain.2) ∙ was.loads;
    clocked = source_kept (pin_of p.member.name ck) (input_terminal (as_netlist w) l p.member d ck has usable plain.3) ∙ was.clocked;
  }
  plays p d (other machine) g has usable is plain was = absurd was
  plays p d opaque g has usable is plain was = absurd was

  pub supply : (i : Member) (d : Cell) (n : Name) → Has (as_netlist w) l i d → IsUsable d → (n ≡ vdd) ⊎ (n ≡ vss) → IsTerminal (as_netlist w) l (pin_of i.name n)
  supply i d n has usable is = a_pin i d has.listed has.found ((usable.connectors n).1 (elim is [ inl x ↦ inl x | inr y ↦ inr (inl y) ]))

  pub seated_old : (p : Seat) → In p s.shows.seats → IsSeated added l m values_after s.roots p
  seated_old p g =
      let t = s.shows.seated p g in
      let has = seat_has old l m s.values s.roots s.shows p g in
      record {
        cell = t.cell;
        found = t.found;
        usable = t.usable;
        on_vdd = source_kept (pin_of p.member.name vdd) (supply p.member t.cell vdd has t.usable (inl refl)) ∙ t.on_vdd;
        on_vss = source_kept (pin_of p.member.name vss) (supply p.member t.cell vss has t.usable (inr refl)) ∙ t.on_vss;
        plays = plays p t.cell t.cell.function g has t.usable refl t.usable.function t.plays;
      }

  -- ---- the pins of the gate

  pub a_low : a < top
  a_low = node_low l m w s k a low_k shows_a

  pub new_class : (pin : Name) → after.class (pin_of name pin) ≡ pin_class w c k pin
  new_class pin = own_class c w name k pin

  abbrev pub input : Name
  input = gate_input l c b

  abbrev pub output : Name
  output = gate_output l c b

  pub read_class : after.class (pin_of name input) ≡ k
  read_class = new_class input ∙ input_class l c b w k

  pub driven_class : after.class (pin_of name output) ≡ w.count
  driven_class = new_class output ∙ output_class l c b w k

  pub vdd_low : w.class (port vdd) < w.count
  vdd_low = s.shows.numbered (port vdd) (a_port ((s.shows.ports vdd).1 (inl refl)))

  pub vss_low : w.class (port vss) < w.count
  vss_low = s.shows.numbered (port vss) (a_port ((s.shows.ports vss).1 (inr (inl refl))))

  pub seated_new : IsSeated added l m values_after s.roots last
  seated_new = record {
    cell = c;
    found = b.found;
    usable = b.usable;
    on_vdd = ap source_after (new_class vdd) ∙ source_old (w.class (port vdd)) vdd_low ∙ s.shows.on_vdd;
    on_vss = ap source_after (new_class vss) ∙ source_old (w.class (port vss)) vss_low ∙ s.shows.on_vss;
    plays = subst (λ (u : Function). Plays added m values_after s.roots last c u) (sym b.is_gate) (record {
      beyond = fresh_beyond l m w s;
      named = named_b j named b.one;
      leaves = a ∷ [];
      reads = ap (pin_sources added name) (input_is l c b)
          ∙ ap (λ (x : ℕ). source_after x ∷ []) read_class ∙ ap (λ (x : Source). x ∷ []) (source_old k low_k ∙ shows_a);
      shows = ap (pin_sources added name) (output_is l c b) ∙ ap (λ (x : ℕ). source_after x ∷ []) driven_class ∙ ap (λ (x : Source). x ∷ []) source_new;
      value = λ i t held. value_new i t ∙ ap (λ (x : Bool). val b.expr (x ∷ [])) (sym (value_old i t a a_low));
      earlier = λ z listed.
          let same = In-one a z listed in let ranks = ap rank_after same in let one = rank_old a a_low in let two = rank_new in omega (arith, ranks, one, two);
    });
  }

  -- ---- the whole

  pub kind : (p : Seat) → In p (s.shows.seats ++ last ∷ []) → In p s.shows.seats ⊎ (p ≡ last)
  kind p g = elim (In-split p s.shows.seats (last ∷ []) g) [ inl first ↦ inl first | inr new ↦ inr (In-one last p new) ]

  pub seated : (p : Seat) → In p (s.shows.seats ++ last ∷ []) → IsSeated added l m values_after s.roots p
  seated p g = elim (kind p g) [
    | inl first ↦ seated_old p first
    | inr new ↦ subst (λ (z : Seat). IsSeated added l m values_after s.roots z) (sym new) seated_new
  ]

  pub one_node : (p q : Seat) → In p s.shows.seats ⊎ (p ≡ last) → In q s.shows.seats ⊎ (q ≡ last) → p.node ≡ q.node → p ≡ q
  one_node p q (inl x) (inl y) same = s.shows.one_node p q x y same
  one_node p q (inl x) (inr y) same = let low_one = seat_low l m w s p x in let e = ap (λ (z : Seat). z.node) y in absurd (omega (arith, low_one, e, same))
  one_node p q (inr x) (inl y) same = let low_one = seat_low l m w s q y in let e = ap (λ (z : Seat). z.node) x in absurd (omega (arith, low_one, e, same))
  one_node p q (inr x) (inr y) same = x ∙ sym y

  pub one_name : (p q : Seat) → In p s.shows.seats ⊎ (p ≡ last) → In q s.shows.seats ⊎ (q ≡ last) → p.member.name ≡ q.member.name → p ≡ q
  one_name p q (inl x) (inl y) same = s.shows.one_name p q x y same
  one_name p q (inl x) (inr y) same = absurd (member p.member (seat_has old l m s.values s.roots s.shows p x).listed (same ∙ ap (λ (z : Seat). z.member.name) y))
  one_name p q (inr x) (inl y) same = absurd (member q.member (seat_has old l m s.values s.roots s.shows q y).listed (sym same ∙ ap (λ (z : Seat). z.member.name) x))
  one_name p q (inr x) (inr y) same = x ∙ sym y

  pub old_or_new : (x : ℕ) → x < suc w.count → (x < w.count) ⊎ (x ≡ w.count)
  old_or_new x below = elim (cases_lt x w.count) [ inl low_one ↦ inl low_one | inr up ↦ inr (omega (arith, below, up)) ]

  pub one_class : (x y : ℕ) → (x < w.count) ⊎ (x ≡ w.count) → (y < w.count) ⊎ (y ≡ w.count) → source_after x ≡ source_after y → x ≡ y
  one_class x y (inl d) (inl e) same = s.shows.one_class x y d e (sym (source_old x d) ∙ same ∙ source_old y e)
  one_class x y (inl d) (inr e) same =
      let low_one = node_low l m w s x top d (sym (source_old x d) ∙ same ∙ ap source_after e ∙ source_new) in absurd (omega (arith, low_one))
  one_class x y (inr d) (inl e) same =
      let low_one = node_low l m w s y top e (sym (source_old y e) ∙ sym same ∙ ap source_after d ∙ source_new) in absurd (omega (arith, low_one))
  one_class x y (inr d) (inr e) same = d ∙ sym e

  pub more : (x : Source) → ComesFrom m s.shows.seats x → ComesFrom m (s.shows.seats ++ last ∷ []) x
  more high x = tt
  more low x = tt
  more ticking x = x
  more (node y) x = elim x [ inl low_one ↦ inl low_one | inr p ↦ inr (p.0, In-left p.0 s.shows.seats (last ∷ []) p.1, p.2) ]

  pub origins : (x : ℕ) → (x < w.count) ⊎ (x ≡ w.count) → ComesFrom m (s.shows.seats ++ last ∷ []) (source_after x)
  origins x (inl below) = subst (λ (z : Source). ComesFrom m (s.shows.seats ++ last ∷ []) z) (sym (source_old x below)) (more (s.source x) (s.shows.origins x below))
  origins x (inr is) = subst (λ (z : Source). ComesFrom m (s.shows.seats ++ last ∷ []) z) (sym (ap source_after is ∙ source_new)) (inr (last, In-last last s.shows.seats, refl))

  pub port_kept : (n : Name) → (n ≡ vdd) ⊎ ((n ≡ vss) ⊎ In n (names_of m.ports)) → source_of added (port n) ≡ source_of old (port n)
  port_kept n is = source_kept (port n) (a_port ((s.shows.ports n).1 is))

  pub old_class : (t : Terminal) → IsTerminal (as_netlist w) l t → after.class t < suc w.count
  old_class t is = let e = class_kept t is in let below = s.shows.numbered t is in omega (arith, e, below)

  pub gate_class : (d : Cell) (n : Name) → c ≡ d → (n ≡ vdd) ⊎ ((n ≡ vss) ⊎ In n (names_of (pin_ports d))) → after.class (pin_of name n) < suc w.count
  gate_class d n same named_so = elim named_so [
    | inl is ↦ let e = ap (λ (z : Name). after.class (pin_of name z)) is in let v = new_class vdd in let low_one = vdd_low in omega (arith, e, v, low_one)
    | inr others ↦ elim others [
      | inl is ↦ let e = ap (λ (z : Name). after.class (pin_of name z)) is in let v = new_class vss in let low_one = vss_low in omega (arith, e, v, low_one)
      | inr pin ↦ elim (In-pins (pin_ports c) n (subst (λ (z : Cell). In n (names_of (pin_ports z))) (sym same) pin)) [
        | inl i ↦
            let e = ap (λ (z : Name). after.class (pin_of name z)) (In-only input n (cell_inputs c) (input_is l c b) i) in
            let v = read_class in omega (arith, e, v, low_k)
        | inr o ↦
            let e = ap (λ (z : Name). after.class (pin_of name z)) (In-only output n (cell_outputs c) (output_is l c b) o) in
            let v = driven_class in omega (arith, e, v)
      ]
    ]
  ]

  pub instances_after : map member_of after.instances ≡ map member_of w.instances ++ last.member ∷ []
  instances_after = map-append member_of w.instances (gate_named c name ∷ [])

  pub numbered : (t : Terminal) → IsTerminal (as_netlist after) l t → after.class t < suc w.count
  numbered t (a_port {name = n} g) = old_class (port n) (a_port g)
  numbered t (a_pin {name = n} i d listed found g) =
      elim (In-split i (map member_of w.instances) (last.member ∷ []) (subst (λ (all : List Member). In i all) instances_after listed)) [
        | inl first ↦ old_class (pin_of i.name n) (a_pin i d first found g)
        | inr new ↦
            let is = In-one last.member i new in
            let there_found : cell_of l c.name ≡ Some d = subst (λ (z : Member). cell_of l z.model ≡ Some d) is found in
            let gate_found : cell_of l c.name ≡ Some c = b.found in
            let same : c ≡ d = cc (there_found, gate_found) in
            let usable : IsUsable d = subst (λ (z : Cell). IsUsable z) same b.usable in
            subst (λ (z : Member). after.class (pin_of z.name n) < suc w.count) (sym is) (gate_class d n same ((usable.connectors n).0 g))
      ]

  abbrev pub shows_after : IsChecked m → Shows added l m values_after s.roots
  shows_after checked = record {
    seats = s.shows.seats ++ last ∷ [];
    instances = instances_after ∙ ap (λ (is : List Member). is ++ last.member ∷ []) s.shows.instances ∙ sym (map-append (λ (p : Seat). p.member) s.shows.seats (last ∷ []));
    seated = seated;
    one_node = λ p q x y same. one_node p q (kind p x) (kind q y) same;
    one_name = λ p q x y same. one_name p q (kind p x) (kind q y) same;
    all_registers = λ i within. let p = s.shows.all_registers i within in (p.0, In-left p.0 s.shows.seats (last ∷ []) p.1, p.2);
    numbered = numbered;
    one_class = λ x y d e same. one_class x y (old_or_new x d) (old_or_new y e) same;
    origins = λ x below. origins x (old_or_new x below);
    ports = s.shows.ports;
    on_vdd = port_kept vdd (inl refl) ∙ s.shows.on_vdd;
    on_vss = port_kept vss (inr (inl refl)) ∙ s.shows.on_vss;
    on_clock = λ n is. port_kept n (inr (inr (In-names _ m.ports n (In-held n _ (checked.clock n is).port)))) ∙ s.shows.on_clock n is;
    in_ports = λ i n is. port_kept n (inr (inr (In-inputs m.clock m.ports n (number_in (inputs m) i n is)))) ∙ s.shows.in_ports i n is;
    out_ports = λ i n is. port_kept n (inr (inr (In-names _ m.ports n (number_in (outputs m) i n is)))) ∙ s.shows.out_ports i n is;
    no_input = s.shows.no_input;
    different = s.shows.different;
  }

  pub means_after : Means m values_after s.roots
  means_after =
      let all = fresh_beyond l m w s in
      record {
        held_inputs = λ i t held x within. value_old i t x (omega (arith, within, all)) ∙ s.means.held_inputs i t held x within;
        held_registers = λ i t held x within. value_old i t (length (inputs m) + x) (omega (arith, within, all)) ∙ s.means.held_registers i t held x within;
        shown = λ i t v settled x within. value_old i t (s.roots.output x) (output_low l m w s x within) ∙ s.means.shown i t v settled x within;
        loaded = λ i t v settled x within. value_old i t (s.roots.load x) (load_low l m w s x within) ∙ s.means.loaded i t v settled x within;
      }

  -- the netlist with the gate
  abbrev pub gated : IsChecked m → State l m after
  gated checked = record {
    source = source_after;
    rank = rank_after;
    values = values_after;
    roots = s.roots;
    shows = shows_after checked;
    means = means_after;
  }
