-- Exchanged cells, and nodes that stand for others.
use Rattle.std.proofs.Common.{◌≡◌, ◌⊎◌, inl, inr, ℕ, ◌+◌, List, [], ◌∷◌, length, map, filter, not, Some, refl, sym, ◌∙◌, ap, subst, arith}
use Rattle.vlsi_base.specs.declared.name.Name.{Name}
use Rattle.vlsi_base.specs.declared.name.Port.{Port}
use Rattle.vlsi_base.specs.declared.name.Terminal.{Terminal}
use Rattle.machine_core.specs.Machine.{Machine, inputs, is_input, names_of}
use Rattle.vlsi_base.specs.Member.{In}
use Rattle.cell_model.specs.Cell.{Function, gate, flip_flop, other, opaque, Cell, pin_ports, cell_inputs, cell_outputs}
use Rattle.cell_model.specs.Library.{Library, cell_of, IsUsable}
use Rattle.net_meaning.specs.Netlist.{Member, AbstractNetlist, port, pin_of, IsTerminal, a_port, a_pin}
use Rattle.vlsi_base.specs.Names.{vdd, vss}
use Rattle.net_meaning.specs.Well.{IsGateName, named_g, named_b}
use Rattle.net_theory.specs.Sources.{Source, high, low, ticking, node, Values, Seat, Roots, Sourced, source_of, pin_sources, Plays, IsSeated, ComesFrom, Shows}
use Rattle.net_theory.specs.Exchanges.{IsSameFunction, IsExchanged, ShownExchanged, MeansBehind}
use Rattle.net_theory.proofs.Basics.{In-map, In-map_back}
use Rattle.net_theory.proofs.Seats.{seat_has}

pub means_behind : MeansBehind
means_behind m f r q origin means held output load = record {
  held_inputs = λ i s h k within. ap (f i s) (held k (omega (arith, within))) ∙ means.held_inputs i s h k within;
  held_registers = λ i s h k within. ap (f i s) (held (length (inputs m) + k) (omega (arith, within))) ∙ means.held_registers i s h k within;
  shown = λ i s w settled k within. ap (f i s) (output k within) ∙ means.shown i s w settled k within;
  loaded = λ i s w settled k within. ap (f i s) (load k within) ∙ means.loaded i s w settled k within;
}

module _ (n : Sourced) (k : AbstractNetlist) (l : Library) (m : Machine) (f : Values) (r : Roots) (h : Shows n l m f r) (x : IsExchanged l n.netlist k) where
  abbrev there : Sourced
  there = record { netlist = k; source = n.source; rank = n.rank }

  abbrev changed : Seat → Seat
  changed p = record { member = x.drive p.member; node = p.node }

  source_same : (t : Terminal) → source_of there t ≡ source_of n t
  source_same t = ap (λ (c : Terminal → ℕ). n.source (c t)) x.class

  pins_same : (owner other_owner : List ℕ) (pins : List Name) → owner ≡ other_owner → pin_sources there owner pins ≡ pin_sources n other_owner pins
  pins_same owner other_owner pins is = ap (λ (c : Terminal → ℕ). map (λ (p : Name). n.source (c (pin_of owner p))) pins) x.class ∙ ap (λ (o : List ℕ). pin_sources n o pins) is

  gate_name : (p : Seat) (c d : Cell) → pin_ports d ≡ pin_ports c → IsGateName p.member c → IsGateName (x.drive p.member) d
  gate_name p c d pins (named_g j is) = named_g j (x.named p.member ∙ is)
  gate_name p c d pins (named_b j is one) =
      named_b j (x.named p.member ∙ is) (ap (λ (ps : List Port). length (names_of (filter (λ q. is_input q.dir) ps))) pins ∙ one)

  plays : (p : Seat) (c d : Cell) (u v : Function) → pin_ports d ≡ pin_ports c → IsSameFunction u v → Plays n m f r p c u → Plays there m f r (changed p) d v
  plays p c d (gate e) (gate y) pins alike old = record {
    beyond = old.beyond;
    named = gate_name p c d pins old.named;
    leaves = old.leaves;
    reads = pins_same (x.drive p.member).name p.member.name (cell_inputs d) (x.named p.member)
        ∙ ap (λ (ps : List Port). pin_sources n p.member.name (names_of (filter (λ q. is_input q.dir) ps))) pins ∙ old.reads;
    shows = pins_same (x.drive p.member).name p.member.name (cell_outputs d) (x.named p.member)
        ∙ ap (λ (ps : List Port). pin_sources n p.member.name (names_of (filter (λ q. not (is_input q.dir)) ps))) pins ∙ old.shows;
    value = λ i s held. old.value i s held ∙ sym (alike (map (f i s) old.leaves));
    earlier = old.earlier;
  }
  plays p c d (flip_flop a q) (flip_flop b j) pins alike old = record {
    number = old.number;
    within = old.within;
    named = x.named p.member ∙ old.named;
    place = old.place;
    shows = pins_same (x.drive p.member).name p.member.name (cell_outputs d) (x.named p.member)
        ∙ ap (λ (ps : List Port). pin_sources n p.member.name (names_of (filter (λ q. not (is_input q.dir)) ps))) pins ∙ old.shows;
    loads = source_same (pin_of (x.drive p.member).name b) ∙ ap (λ (o : List ℕ). source_of n (pin_of o b)) (x.named p.member)
        ∙ ap (λ (z : Name). source_of n (pin_of p.member.name z)) alike.0 ∙ old.loads;
    clocked = source_same (pin_of (x.drive p.member).name j) ∙ ap (λ (o : List ℕ). source_of n (pin_of o j)) (x.named p.member)
        ∙ ap (λ (z : Name). source_of n (pin_of p.member.name z)) alike.1 ∙ old.clocked;
  }
  plays p c d (gate e) (flip_flop b j) pins alike old = absurd alike
  plays p c d (gate e) (other machine) pins alike old = absurd alike
  plays p c d (gate e) opaque pins alike old = absurd alike
  plays p c d (flip_flop a q) (gate y) pins alike old = absurd alike
  plays p c d (flip_flop a q) (other machine) pins alike old = absurd alike
  plays p c d (flip_flop a q) opaque pins alike old = absurd alike
  plays p c d (other machine) v pins alike old = absurd old
  plays p c d opaque v pins alike old = absurd old

  seated : (p : Seat) → In p h.seats → IsSeated there l m f r (changed p)
  seated p g =
      let s = h.seated p g in
      let has = seat_has n l m f r h p g in
      let d = x.each p.member s.cell has.listed has.found in
      record {
        cell = d.0;
        found = d.1;
        usable = d.2;
        on_vdd = source_same (pin_of (x.drive p.member).name vdd) ∙ ap (λ (o : List ℕ). source_of n (pin_of o vdd)) (x.named p.member) ∙ s.on_vdd;
        on_vss = source_same (pin_of (x.drive p.member).name vss) ∙ ap (λ (o : List ℕ). source_of n (pin_of o vss)) (x.named p.member) ∙ s.on_vss;
        plays = plays p s.cell d.0 s.cell.function d.0.function d.3.pins d.3.function s.plays;
      }

  back : (p : Seat) → In p (map changed h.seats) → (q : Seat) × In q h.seats × (changed q ≡ p)
  back p g = In-map_back changed p h.seats g

  terminal : (t : Terminal) → IsTerminal k l t → IsTerminal n.netlist l t
  terminal t (a_port {name = name} g) = a_port (subst (λ (all : List Name). In name all) x.ports g)
  terminal t (a_pin {name = name} i d listed found named) =
      let j = In-map_back x.drive i n.netlist.instances (subst (λ (all : List Member). In i all) x.instances listed) in
      of_old j.0 j.1 j.2 where
        of_old : (j : Member) → In j n.netlist.instances → x.drive j ≡ i → IsTerminal n.netlist l (pin_of i.name name)
        of_old j old is =
            let p = In-map_back (λ (q : Seat). q.member) j h.seats (subst (λ (all : List Member). In j all) h.instances old) in
            let s = h.seated p.0 p.1 in
            let found_c : cell_of l j.model ≡ Some s.cell = subst (λ (z : Member). cell_of l z.model ≡ Some s.cell) p.2 s.found in
            let e = x.each j s.cell old found_c in
            let found_d : cell_of l i.model ≡ Some e.0 = subst (λ (z : Member). cell_of l z.model ≡ Some e.0) is e.1 in
            let same : e.0 ≡ d = cc (found, found_d) in
            let usable : IsUsable d = subst (λ (z : Cell). IsUsable z) same e.2 in
            let pins : pin_ports d ≡ pin_ports s.cell = ap pin_ports (sym same) ∙ e.3.pins in
            let into : In name _ = (s.usable.connectors name).1 (subst (λ (ps : List Port). (name ≡ vdd) ⊎ ((name ≡ vss) ⊎ In name (names_of ps))) pins ((usable.connectors name).0 named)) in
            subst (λ (o : List ℕ). IsTerminal n.netlist l (pin_of o name)) (sym (x.named j) ∙ ap (λ (z : Member). z.name) is) (a_pin j s.cell old found_c into)

  from : (s : Source) → ComesFrom m h.seats s → ComesFrom m (map changed h.seats) s
  from high c = tt
  from low c = tt
  from ticking c = c
  from (node a) c = elim c [ inl low_one ↦ inl low_one | inr p ↦ inr (changed p.0, In-map changed p.0 h.seats p.1, p.2) ]

  pub shows_exchanged : Shows there l m f r
  shows_exchanged = record {
    seats = map changed h.seats;
    instances = x.instances ∙ ap (map x.drive) h.instances ∙ both_maps h.seats;
    seated = λ p g. let q = back p g in subst (λ (z : Seat). IsSeated there l m f r z) q.2 (seated q.0 q.1);
    one_node = λ p q a b same.
        let c = back p a in
        let d = back q b in
        sym c.2 ∙ ap changed (h.one_node c.0 d.0 c.1 d.1 (ap (λ (z : Seat). z.node) c.2 ∙ same ∙ sym (ap (λ (z : Seat). z.node) d.2))) ∙ d.2;
    one_name = λ p q a b same.
        let c = back p a in
        let d = back q b in
        sym c.2 ∙ ap changed (h.one_name c.0 d.0 c.1 d.1 (sym (x.named c.0.member) ∙ ap (λ (z : Seat). z.member.name) c.2 ∙ same ∙ sym (ap (λ (z : Seat). z.member.name) d.2) ∙ x.named d.0.member)) ∙ d.2;
    all_registers = λ j within. let p = h.all_registers j within in (changed p.0, In-map changed p.0 h.seats p.1, p.2);
    numbered = λ t is.
        let a = h.numbered t (terminal t is) in let b = ap (λ (c : Terminal → ℕ). c t) x.class in let c = x.classes in omega (arith, a, b, c);
    one_class = λ j c a b is. let e = x.classes in h.one_class j c (omega (arith, a, e)) (omega (arith, b, e)) is;
    origins = λ j below. from (n.source j) (h.origins j (let e = x.classes in omega (arith, below, e)));
    ports = λ name.
        (λ g. (h.ports name).0 (subst (λ (all : List Name). In name all) x.ports g), λ g. subst (λ (all : List Name). In name all) (sym x.ports) ((h.ports name).1 g));
    on_vdd = source_same (port vdd) ∙ h.on_vdd;
    on_vss = source_same (port vss) ∙ h.on_vss;
    on_clock = λ name is. source_same (port name) ∙ h.on_clock name is;
    in_ports = λ j name is. source_same (port name) ∙ h.in_ports j name is;
    out_ports = λ j name is. source_same (port name) ∙ h.out_ports j name is;
    no_input = h.no_input;
    different = h.different;
  } where
    both_maps : (ps : List Seat) → map x.drive (map (λ p. p.member) ps) ≡ map (λ p. p.member) (map changed ps)
    both_maps [] = refl
    both_maps (p ∷ ps) = ap (λ (is : List Member). x.drive p.member ∷ is) (both_maps ps)

pub exchanged : ShownExchanged
exchanged n k l m f r h x = shows_exchanged n k l m f r h x
