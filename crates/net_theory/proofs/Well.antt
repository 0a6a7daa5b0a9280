-- A netlist that shows nodes is well formed.
use Rattle.std.proofs.Common.{◌≡◌, ◌⊎◌, inl, inr, ◌↔◌, ℕ, ◌+◌, ◌<◌, ◌≤◌, List, [], ◌∷◌, length, Some, refl, sym, ◌∙◌, ap, subst, arith}
use Rattle.vlsi_base.specs.declared.name.Name.{Name}
use Rattle.vlsi_base.specs.declared.name.Terminal.{Terminal}
use Rattle.machine_core.specs.Machine.{Machine, Register, inputs, outputs}
use Rattle.machine_core.specs.Checked.{IsChecked}
use Rattle.vlsi_base.specs.Member.{In, here}
use Rattle.cell_model.specs.Cell.{Function, gate, flip_flop, other, opaque, Cell, cell_outputs}
use Rattle.cell_model.specs.Library.{Library, cell_of, IsUsable}
use Rattle.net_meaning.specs.Netlist.{Member, port, pin_of, IsTerminal, a_port, a_pin}
use Rattle.vlsi_base.specs.Names.{vdd, vss}
use Rattle.net_meaning.specs.Agreement.{register_instance}
use Rattle.net_meaning.specs.Well.{Has, IsFlipFlop, IsClockPin, a_clock_pin, IsDriver, an_input, an_output, OneDriver, IsSpecial, of_vdd, of_vss, of_clock, IsGateName, IsWell}
use Rattle.net_theory.specs.Sources.{Source, high, low, ticking, node, IsNumber, Values, Seat, Roots, Sourced, source_of, Plays, ComesFrom, Shows}
use Rattle.net_theory.proofs.Basics.{number_of, at_number, number_below, number_once, number_in, In-map_back, In-ports, In-names, In-inputs, In-held}
use Rattle.net_theory.proofs.Seats.{only, In-only, sits, seat_has, shown, above, output_terminal, At, at_high, at_low, at_clock, at_clock_pin, at_node, at, output_at}

module _ (n : Sourced) (l : Library) (m : Machine) (f : Values) (r : Roots) (checked : IsChecked m) (h : Shows n l m f r) where
  pub vdd_port : IsTerminal n.netlist l (port vdd)
  vdd_port = a_port ((h.ports vdd).1 (inl refl))

  pub vss_port : IsTerminal n.netlist l (port vss)
  vss_port = a_port ((h.ports vss).1 (inr (inl refl)))

  pub in_port : (name : Name) → In name (inputs m) → IsTerminal n.netlist l (port name)
  in_port name g = a_port ((h.ports name).1 (inr (inr (In-inputs m.clock m.ports name g))))

  -- terminals have one class where they have one source
  pub joined : (t u : Terminal) → IsTerminal n.netlist l t → IsTerminal n.netlist l u → source_of n t ≡ source_of n u → n.netlist.class t ≡ n.netlist.class u
  joined t u is_t is_u same = h.one_class (n.netlist.class t) (n.netlist.class u) (h.numbered t is_t) (h.numbered u is_u) same

  pub one_source : (t u : Terminal) → n.netlist.class t ≡ n.netlist.class u → source_of n t ≡ source_of n u
  one_source t u same = ap n.source same

  to_vdd : (t : Terminal) → IsTerminal n.netlist l t → source_of n t ≡ high → At n l m t → t.pin ≡ vdd
  to_vdd t is s (at_high p q) = p
  to_vdd t is s (at_low p q) = absurd (cc (s, q))
  to_vdd t is s (at_clock name c p q) = absurd (cc (s, q))
  to_vdd t is s (at_clock_pin p q) = absurd (cc (s, q))
  to_vdd t is s (at_node a q) = absurd (cc (s, q))

  to_vss : (t : Terminal) → IsTerminal n.netlist l t → source_of n t ≡ low → At n l m t → t.pin ≡ vss
  to_vss t is s (at_high p q) = absurd (cc (s, q))
  to_vss t is s (at_low p q) = p
  to_vss t is s (at_clock name c p q) = absurd (cc (s, q))
  to_vss t is s (at_clock_pin p q) = absurd (cc (s, q))
  to_vss t is s (at_node a q) = absurd (cc (s, q))

  to_clock : (name : Name) → m.clock ≡ Some name → (t : Terminal) → source_of n t ≡ ticking → At n l m t → (t ≡ port name) ⊎ IsClockPin n.netlist l t
  to_clock name c t s (at_high p q) = absurd (cc (s, q))
  to_clock name c t s (at_low p q) = absurd (cc (s, q))
  to_clock name c t s (at_clock it d p q) = let same : it ≡ name = cc (c, d) in inl (p ∙ ap port same)
  to_clock name c t s (at_clock_pin p q) = inr p
  to_clock name c t s (at_node a q) = absurd (cc (s, q))

  from_vdd : (t : Terminal) → IsTerminal n.netlist l t → t.pin ≡ vdd → source_of n t ≡ high
  from_vdd t (a_port {name = name} g) is = subst (λ (x : Name). source_of n (port x) ≡ high) (sym is) h.on_vdd
  from_vdd t (a_pin {name = name} i c listed found g) is =
      subst (λ (x : Name). source_of n (pin_of i.name x) ≡ high) (sym is) (sits n l m f r h i c listed found).on_vdd

  from_vss : (t : Terminal) → IsTerminal n.netlist l t → t.pin ≡ vss → source_of n t ≡ low
  from_vss t (a_port {name = name} g) is = subst (λ (x : Name). source_of n (port x) ≡ low) (sym is) h.on_vss
  from_vss t (a_pin {name = name} i c listed found g) is =
      subst (λ (x : Name). source_of n (pin_of i.name x) ≡ low) (sym is) (sits n l m f r h i c listed found).on_vss

  clocked_by : (p : Seat) (c : Cell) (u : Function) → Plays n m f r p c u → (d k : Name) → u ≡ flip_flop d k → source_of n (pin_of p.member.name k) ≡ ticking
  clocked_by p c (gate e) plays d k is = absurd (cc is)
  clocked_by p c (flip_flop d' k') plays d k is =
      let same : k' ≡ k = cc is in subst (λ (x : Name). source_of n (pin_of p.member.name x) ≡ ticking) same plays.clocked
  clocked_by p c (other machine) plays d k is = absurd plays
  clocked_by p c opaque plays d k is = absurd plays

  from_clock_pin : (t : Terminal) → IsClockPin n.netlist l t → source_of n t ≡ ticking
  from_clock_pin t (a_clock_pin i c d k has is) =
      let s = sits n l m f r h i c has.listed has.found in
      subst (λ (x : Member). source_of n (pin_of x.name k) ≡ ticking) s.member (clocked_by s.seat c c.function s.plays d k is)

  pub clock_terminal : (name : Name) → m.clock ≡ Some name → IsTerminal n.netlist l (port name)
  clock_terminal name c =
      a_port ((h.ports name).1 (inr (inr (In-names _ m.ports name (In-held name _ (checked.clock name c).port)))))

  pin_is_terminal : (t : Terminal) → IsClockPin n.netlist l t → (u : Terminal) → IsTerminal n.netlist l u → source_of n u ≡ ticking → IsTerminal n.netlist l t → n.netlist.class t ≡ n.netlist.class u
  pin_is_terminal t pin u is_u ticks is = joined t u is is_u (from_clock_pin t pin ∙ sym ticks)

  clock_class : (name : Name) → m.clock ≡ Some name → (t : Terminal) → IsTerminal n.netlist l t → (n.netlist.class t ≡ n.netlist.class (port name)) ↔ ((t ≡ port name) ⊎ IsClockPin n.netlist l t)
  clock_class name c t is = (
    λ same. to_clock name c t (one_source t (port name) same ∙ h.on_clock name c) (at n l m f r h t is),
    λ either. elim either [
      | inl same ↦ ap n.netlist.class same
      | inr pin ↦ pin_is_terminal t pin (port name) (clock_terminal name c) (h.on_clock name c) is
    ],
  )

  -- a driver's node, and what it is the driver of
  seat_of : (i : Member) (c : Cell) (name : Name) → Has n.netlist l i c → In name (cell_outputs c)
      → (p : Seat) × In p h.seats × (p.member ≡ i) × (source_of n (pin_of i.name name) ≡ node p.node) × (length (inputs m) ≤ p.node) × IsTerminal n.netlist l (pin_of i.name name)
  seat_of i c name has out =
      let s = sits n l m f r h i c has.listed has.found in (
        s.seat,
        s.listed,
        s.member,
        subst (λ (x : Member). source_of n (pin_of x.name name) ≡ node s.seat.node) s.member (output_at n l m f r s.seat c s.plays name out),
        above n m f r s.seat c c.function s.plays,
        output_terminal n.netlist l i c name has s.usable out,
      )

  node_of : (a b : ℕ) → node a ≡ node b → a ≡ b
  node_of a b same = cc same

  -- an input's class is driven by its port alone
  by_input : (t : Terminal) (is : IsTerminal n.netlist l t) (a : ℕ) → source_of n t ≡ node a → a < length (inputs m) → OneDriver n.netlist l m t
  by_input t is a s below =
      let one = at_number (inputs m) a below in
      let listed = number_in (inputs m) a one.0 one.1 in
      record {
        driver = port one.0;
        drives = an_input listed;
        joined = joined (port one.0) t (in_port one.0 listed) is (h.in_ports a one.0 one.1 ∙ sym s);
        alone = λ another is_driver same. alone one.0 one.1 another is_driver (one_source another t same ∙ s);
      } where
        alone : (name : Name) → IsNumber (inputs m) a name → (another : Terminal) → IsDriver n.netlist l m another → source_of n another ≡ node a → another ≡ port name
        alone name number another (an_input {name = x} g) same =
            let k = number_of x (inputs m) g in
            let k_is : k.0 ≡ a = node_of k.0 a (sym (h.in_ports k.0 x k.1) ∙ same) in
            ap port (number_once (inputs m) a x name (subst (λ (j : ℕ). IsNumber (inputs m) j x) k_is k.1) number)
        alone name number another (an_output {name = x} i c has out) same =
            let p = seat_of i c x has out in
            let is_a : p.0.node ≡ a = node_of p.0.node a (sym p.3 ∙ same) in
            let high_enough = p.4 in
            absurd (omega (arith, is_a, high_enough, below))

  -- an instance's class is driven by its output alone
  by_seat : (t : Terminal) (is : IsTerminal n.netlist l t) (p : Seat) (g : In p h.seats) → source_of n t ≡ node p.node → OneDriver n.netlist l m t
  by_seat t is p g s =
      let seated = h.seated p g in
      let c = seated.cell in
      let has = seat_has n l m f r h p g in
      let one = only (λ (q : Name). source_of n (pin_of p.member.name q)) (cell_outputs c) (node p.node) (shown n m f r p c c.function seated.plays) in
      let listed : In one.0 (cell_outputs c) = subst (λ (all : List Name). In one.0 all) (sym one.1) here in
      let is_out = output_terminal n.netlist l p.member c one.0 has seated.usable listed in
      record {
        driver = pin_of p.member.name one.0;
        drives = an_output p.member c has listed;
        joined = joined (pin_of p.member.name one.0) t is_out is (one.2 ∙ sym s);
        alone = λ another is_driver same. alone p g has one.0 one.1 (above n m f r p c c.function seated.plays) another is_driver (one_source another t same ∙ s);
      } where
        alone : (p : Seat) (g : In p h.seats) → Has n.netlist l p.member (h.seated p g).cell → (name : Name) → cell_outputs (h.seated p g).cell ≡ name ∷ []
            → length (inputs m) ≤ p.node → (another : Terminal) → IsDriver n.netlist l m another → source_of n another ≡ node p.node → another ≡ pin_of p.member.name name
        alone p g has_p name single enough another (an_input {name = x} q) same =
            let k = number_of x (inputs m) q in
            let k_is : k.0 ≡ p.node = node_of k.0 p.node (sym (h.in_ports k.0 x k.1) ∙ same) in
            let below = number_below (inputs m) k.0 x k.1 in
            absurd (omega (arith, k_is, enough, below))
        alone p g has_p name single enough another (an_output {name = x} i c has out) same =
            let q = seat_of i c x has out in
            let is_p : q.0 ≡ p = h.one_node q.0 p q.1 g (node_of q.0.node p.node (sym q.3 ∙ same)) in
            let is_i : i ≡ p.member = sym q.2 ∙ ap (λ (z : Seat). z.member) is_p in
            let named : cell_of l p.member.model ≡ Some c = subst (λ (z : Member). cell_of l z.model ≡ Some c) is_i has.found in
            let found : cell_of l p.member.model ≡ Some (h.seated p g).cell = has_p.found in
            let is_c : c ≡ (h.seated p g).cell = cc (named, found) in
            let is_x : x ≡ name = In-only name x (cell_outputs (h.seated p g).cell) single (subst (λ (z : Cell). In x (cell_outputs z)) is_c out) in
            ap (λ (z : Member). pin_of z.name x) is_i ∙ ap (pin_of p.member.name) is_x

  driver : (t : Terminal) → IsTerminal n.netlist l t → (IsSpecial n.netlist m t → ⊥) → (s : Source) → source_of n t ≡ s → ComesFrom m h.seats s → OneDriver n.netlist l m t
  driver t is free high s from = absurd (free (of_vdd (joined t (port vdd) is vdd_port (s ∙ sym h.on_vdd))))
  driver t is free low s from = absurd (free (of_vss (joined t (port vss) is vss_port (s ∙ sym h.on_vss))))
  driver t is free ticking s from =
      absurd (free (of_clock from.0 from.1 (joined t (port from.0) is (clock_terminal from.0 from.1) (s ∙ sym (h.on_clock from.0 from.1)))))
  driver t is free (node a) s from = elim from [
    | inl below ↦ by_input t is a s below
    | inr p ↦ by_seat t is p.0 p.1 (s ∙ ap node (sym p.2))
  ]

  -- what is known of an instance by its function
  a_register : (p : Seat) (c : Cell) (u : Function) → Plays n m f r p c u → IsFlipFlop u → (k : ℕ) × (k < length m.registers) × (p.member.name ≡ register_instance k)
  a_register p c (gate e) plays is = absurd is
  a_register p c (flip_flop d k) plays is = (plays.number, plays.within, plays.named)
  a_register p c (other machine) plays is = absurd is
  a_register p c opaque plays is = absurd is

  a_gate : (p : Seat) (c : Cell) (u : Function) → Plays n m f r p c u → (IsFlipFlop u → ⊥) → IsGateName p.member c
  a_gate p c (gate e) plays no_register = plays.named
  a_gate p c (flip_flop d k) plays no_register = absurd (no_register tt)
  a_gate p c (other machine) plays no_register = absurd plays
  a_gate p c opaque plays no_register = absurd plays

  pub at_place : (p : Seat) (c : Cell) (u : Function) → Plays n m f r p c u → (k : ℕ) → k < length m.registers → p.node ≡ length (inputs m) + k
      → IsFlipFlop u × (p.member.name ≡ register_instance k)
  at_place p c (gate e) plays k within is = let b = plays.beyond in absurd (omega (arith, b, is, within))
  at_place p c (flip_flop d q) plays k within is =
      let place = plays.place in
      let same : plays.number ≡ k = omega (arith, place, is) in (tt, plays.named ∙ ap register_instance same)
  at_place p c (other machine) plays k within is = absurd plays
  at_place p c opaque plays k within is = absurd plays

  no_less : (all : List Register) → all ≡ [] → (k : ℕ) → k < length all → ⊥
  no_less [] is k h = omega arith
  no_less (x ∷ xs) is k h = cc is

  registers : (i : Member) (c : Cell) → Has n.netlist l i c → IsFlipFlop c.function → (k : ℕ) × (k < length m.registers) × (i.name ≡ register_instance k)
  registers i c has is =
      let s = sits n l m f r h i c has.listed has.found in
      let k = a_register s.seat c c.function s.plays is in
      (k.0, k.1, ap (λ (z : Member). z.name) (sym s.member) ∙ k.2)

  -- what a port is
  data PortAt (name : Name) : Type 0 where
    port_high : name ≡ vdd → PortAt name
    port_low : name ≡ vss → PortAt name
    port_clock : m.clock ≡ Some name → PortAt name
    port_in : (k : ℕ) → IsNumber (inputs m) k name → PortAt name
    port_out : (k : ℕ) → IsNumber (outputs m) k name → PortAt name

  port_at : (name : Name) → In name n.netlist.ports → PortAt name
  port_at name listed = elim ((h.ports name).0 listed) [
    | inl is_vdd ↦ port_high is_vdd
    | inr rest ↦ elim rest [
      | inl is_vss ↦ port_low is_vss
      | inr named ↦ elim (In-ports m.clock m.ports name named) [
        | inl x ↦ elim x [ inl y ↦ let k = number_of name (inputs m) y in port_in k.0 k.1 | inr y ↦ port_clock y ]
        | inr z ↦ let k = number_of name (outputs m) z in port_out k.0 k.1
      ]
    ]
  ]

  abbrev source_at : (name : Name) → PortAt name → Source
  source_at name (port_high p) = high
  source_at name (port_low p) = low
  source_at name (port_clock p) = ticking
  source_at name (port_in k p) = node k
  source_at name (port_out k p) = node (r.output k)

  shows_at : (name : Name) (p : PortAt name) → source_of n (port name) ≡ source_at name p
  shows_at name (port_high p) = ap (λ (x : Name). source_of n (port x)) p ∙ h.on_vdd
  shows_at name (port_low p) = ap (λ (x : Name). source_of n (port x)) p ∙ h.on_vss
  shows_at name (port_clock p) = h.on_clock name p
  shows_at name (port_in k p) = h.in_ports k name p
  shows_at name (port_out k p) = h.out_ports k name p

  -- two ports of one source are one
  apart_by : (a b : Name) (p : PortAt a) (q : PortAt b) → source_at a p ≡ source_at b q → a ≡ b
  apart_by a b (port_high p) (port_high q) same = p ∙ sym q
  apart_by a b (port_high p) (port_low q) same = absurd (cc same)
  apart_by a b (port_high p) (port_clock q) same = absurd (cc same)
  apart_by a b (port_high p) (port_in k q) same = absurd (cc same)
  apart_by a b (port_high p) (port_out k q) same = absurd (cc same)
  apart_by a b (port_low p) (port_high q) same = absurd (cc same)
  apart_by a b (port_low p) (port_low q) same = p ∙ sym q
  apart_by a b (port_low p) (port_clock q) same = absurd (cc same)
  apart_by a b (port_low p) (port_in k q) same = absurd (cc same)
  apart_by a b (port_low p) (port_out k q) same = absurd (cc same)
  apart_by a b (port_clock p) (port_high q) same = absurd (cc same)
  apart_by a b (port_clock p) (port_low q) same = absurd (cc same)
  apart_by a b (port_clock p) (port_clock q) same = cc (p, q)
  apart_by a b (port_clock p) (port_in k q) same = absurd (cc same)
  apart_by a b (port_clock p) (port_out k q) same = absurd (cc same)
  apart_by a b (port_in j p) (port_high q) same = absurd (cc same)
  apart_by a b (port_in j p) (port_low q) same = absurd (cc same)
  apart_by a b (port_in j p) (port_clock q) same = absurd (cc same)
  apart_by a b (port_in j p) (port_in k q) same =
      number_once (inputs m) j a b p (subst (λ (x : ℕ). IsNumber (inputs m) x b) (sym (node_of j k same)) q)
  apart_by a b (port_in j p) (port_out k q) same =
      let is = node_of j (r.output k) same in
      let first = number_below (inputs m) j a p in
      let second = h.no_input k (number_below (outputs m) k b q) in
      absurd (omega (arith, is, first, second))
  apart_by a b (port_out j p) (port_high q) same = absurd (cc same)
  apart_by a b (port_out j p) (port_low q) same = absurd (cc same)
  apart_by a b (port_out j p) (port_clock q) same = absurd (cc same)
  apart_by a b (port_out j p) (port_in k q) same =
      let is = node_of (r.output j) k same in
      let first = number_below (inputs m) k b q in
      let second = h.no_input j (number_below (outputs m) j a p) in
      absurd (omega (arith, is, first, second))
  apart_by a b (port_out j p) (port_out k q) same =
      let is = h.different j k (number_below (outputs m) j a p) (number_below (outputs m) k b q) (node_of (r.output j) (r.output k) same) in
      number_once (outputs m) j a b p (subst (λ (x : ℕ). IsNumber (outputs m) x b) (sym is) q)

  pub is_well : IsWell n.netlist l m
  is_well = record {
    models = λ i listed. model i listed;
    ports = h.ports;
    apart = λ a b is_a is_b same. let p = port_at a is_a in let q = port_at b is_b in apart_by a b p q (sym (shows_at a p) ∙ one_source (port a) (port b) same ∙ shows_at b q);
    high = λ t is. (λ same. to_vdd t is (one_source t (port vdd) same ∙ h.on_vdd) (at n l m f r h t is), λ same. joined t (port vdd) is vdd_port (from_vdd t is same ∙ sym h.on_vdd));
    low = λ t is. (λ same. to_vss t is (one_source t (port vss) same ∙ h.on_vss) (at n l m f r h t is), λ same. joined t (port vss) is vss_port (from_vss t is same ∙ sym h.on_vss));
    clock = clock_class;
    unclocked = λ none i c has is. let k = registers i c has is in no_less m.registers (checked.clocked none) k.0 k.1;
    drivers = λ t is free. driver t is free (source_of n t) refl (h.origins (n.netlist.class t) (h.numbered t is));
    registers = registers;
    all_registers = λ k within.
        let p = h.all_registers k within in
        let s = h.seated p.0 p.1 in
        let place = at_place p.0 s.cell s.cell.function s.plays k within p.2 in
        (p.0.member, s.cell, seat_has n l m f r h p.0 p.1, place.0, place.1);
    gates = λ i c has no_register.
        let s = sits n l m f r h i c has.listed has.found in
        subst (λ (z : Member). IsGateName z c) s.member (a_gate s.seat c c.function s.plays no_register);
  } where
    model : (i : Member) → In i n.netlist.instances → (c : Cell) × (cell_of l i.model ≡ Some c) × IsUsable c
    model i listed =
        let back = In-map_back (λ (p : Seat). p.member) i h.seats (subst (λ (all : List Member). In i all) h.instances listed) in
        let s = h.seated back.0 back.1 in
        (s.cell, subst (λ (z : Member). cell_of l z.model ≡ Some s.cell) back.2 s.found, s.usable)
