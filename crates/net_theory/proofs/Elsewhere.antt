-- Netlists that tie the same terminals show the same nodes.
use Rattle.std.proofs.Common.{◌≡◌, ◌⊎◌, inl, inr, ℕ, ◌<◌, ◌≤◌, List, [], ◌∷◌, map, refl, sym, ◌∙◌, ap, arith}
use Rattle.std.proofs.lemmas.Bool.{cases_lt}
use Rattle.vlsi_base.specs.declared.name.Name.{Name}
use Rattle.vlsi_base.specs.declared.name.Terminal.{Terminal}
use Rattle.machine_core.specs.Machine.{Machine, inputs, outputs}
use Rattle.vlsi_base.specs.Member.{In, here, there}
use Rattle.cell_model.specs.Cell.{Function, gate, flip_flop, other, opaque, Cell, cell_inputs, cell_outputs}
use Rattle.cell_model.specs.Library.{Library, IsUsable, IsPlain}
use Rattle.net_meaning.specs.Netlist.{AbstractNetlist, port, pin_of, IsTerminal, a_port, a_pin}
use Rattle.vlsi_base.specs.Names.{vdd, vss}
use Rattle.net_meaning.specs.Laws.{AreSame}
use Rattle.net_meaning.specs.Well.{Has}
use Rattle.net_theory.specs.Sources.{Source, high, Values, Seat, Roots, Sourced, source_of, pin_sources, Plays, IsSeated, ComesFrom, Shows}
use Rattle.net_theory.specs.Laws.{IsCounted}
use Rattle.net_theory.proofs.Basics.{number_in, In-names, In-inputs}
use Rattle.machine_core.specs.Checked.{IsChecked}
use Rattle.net_theory.proofs.Well.{clock_terminal}
use Rattle.net_theory.proofs.Seats.{seat_has, input_terminal, output_terminal}

module _ (n : Sourced) (k : AbstractNetlist) (l : Library) (m : Machine) (f : Values) (r : Roots) (checked : IsChecked m) (h : Shows n l m f r) (same : AreSame l n.netlist k) (counted : IsCounted l k) where
  abbrev source_at : (c : ℕ) → (c < k.classes) ⊎ (k.classes ≤ c) → Source
  source_at c (inl below) = n.source (n.netlist.class (counted.used c below).0)
  source_at c (inr past) = high

  abbrev pub moved_source : ℕ → Source
  moved_source c = source_at c (cases_lt c k.classes)

  abbrev renumbered : Sourced
  renumbered = record { netlist = k; source = moved_source; rank = n.rank }

  source_by : (t : Terminal) → IsTerminal n.netlist l t → (e : (k.class t < k.classes) ⊎ (k.classes ≤ k.class t)) → source_at (k.class t) e ≡ source_of n t
  source_by t is (inl below) =
      let u = counted.used (k.class t) below in
      let is_u : IsTerminal n.netlist l u.0 = (same.terminals u.0).1 u.1 in
      let one : n.netlist.class u.0 ≡ n.netlist.class t = (same.classes u.0 t is_u is).1 u.2 in ap n.source one
  source_by t is (inr past) = let below = counted.numbered t ((same.terminals t).0 is) in absurd (omega (arith, below, past))

  source_same : (t : Terminal) → IsTerminal n.netlist l t → source_of renumbered t ≡ source_of n t
  source_same t is = source_by t is (cases_lt (k.class t) k.classes)

  pins_same : (owner : List ℕ) (pins : List Name) → ((p : Name) → In p pins → IsTerminal n.netlist l (pin_of owner p)) → pin_sources renumbered owner pins ≡ pin_sources n owner pins
  pins_same owner [] each = refl
  pins_same owner (p ∷ pins) each =
      ap (λ (s : Source). s ∷ pin_sources renumbered owner pins) (source_same (pin_of owner p) (each p here))
      ∙ ap (λ (ss : List Source). source_of n (pin_of owner p) ∷ ss) (pins_same owner pins (λ q g. each q (there g)))

  plays : (p : Seat) (c : Cell) (u : Function) → Has n.netlist l p.member c → IsUsable c → c.function ≡ u → IsPlain c u → Plays n m f r p c u → Plays renumbered m f r p c u
  plays p c (gate e) has usable is plain old = record {
    beyond = old.beyond;
    named = old.named;
    leaves = old.leaves;
    reads = pins_same p.member.name (cell_inputs c) (λ q g. input_terminal n.netlist l p.member c q has usable g) ∙ old.reads;
    shows = pins_same p.member.name (cell_outputs c) (λ q g. output_terminal n.netlist l p.member c q has usable g) ∙ old.shows;
    value = old.value;
    earlier = old.earlier;
  }
  plays p c (flip_flop d q) has usable is plain old = record {
    number = old.number;
    within = old.within;
    named = old.named;
    place = old.place;
    shows = pins_same p.member.name (cell_outputs c) (λ q g. output_terminal n.netlist l p.member c q has usable g) ∙ old.shows;
    loads = source_same (pin_of p.member.name d) (input_terminal n.netlist l p.member c d has usable plain.2) ∙ old.loads;
    clocked = source_same (pin_of p.member.name q) (input_terminal n.netlist l p.member c q has usable plain.3) ∙ old.clocked;
  }
  plays p c (other machine) has usable is plain old = absurd old
  plays p c opaque has usable is plain old = absurd old

  supply : (p : Seat) (c : Cell) (name : Name) → Has n.netlist l p.member c → IsUsable c → (name ≡ vdd) ⊎ (name ≡ vss) → IsTerminal n.netlist l (pin_of p.member.name name)
  supply p c name has usable is = a_pin p.member c has.listed has.found ((usable.connectors name).1 (elim is [ inl a ↦ inl a | inr b ↦ inr (inl b) ]))

  seated : (p : Seat) → In p h.seats → IsSeated renumbered l m f r p
  seated p g =
      let s = h.seated p g in
      let has = seat_has n l m f r h p g in
      record {
        cell = s.cell;
        found = s.found;
        usable = s.usable;
        on_vdd = source_same (pin_of p.member.name vdd) (supply p s.cell vdd has s.usable (inl refl)) ∙ s.on_vdd;
        on_vss = source_same (pin_of p.member.name vss) (supply p s.cell vss has s.usable (inr refl)) ∙ s.on_vss;
        plays = plays p s.cell s.cell.function has s.usable refl s.usable.function s.plays;
      }

  port_terminal : (name : Name) → (name ≡ vdd) ⊎ ((name ≡ vss) ⊎ In name (map (λ p. p.name) m.ports)) → IsTerminal n.netlist l (port name)
  port_terminal name is = a_port ((h.ports name).1 is)

  one_by : (j c : ℕ) → j < k.classes → c < k.classes → (d : (j < k.classes) ⊎ (k.classes ≤ j)) (e : (c < k.classes) ⊎ (k.classes ≤ c)) → source_at j d ≡ source_at c e → j ≡ c
  one_by j c low_j low_c (inl p) (inl q) is =
      let a = counted.used j p in
      let b = counted.used c q in
      let is_a : IsTerminal n.netlist l a.0 = (same.terminals a.0).1 a.1 in
      let is_b : IsTerminal n.netlist l b.0 = (same.terminals b.0).1 b.1 in
      let one = h.one_class (n.netlist.class a.0) (n.netlist.class b.0) (h.numbered a.0 is_a) (h.numbered b.0 is_b) is in
      sym a.2 ∙ (same.classes a.0 b.0 is_a is_b).0 one ∙ b.2
  one_by j c low_j low_c (inr p) e is = absurd (omega (arith, low_j, p))
  one_by j c low_j low_c (inl p) (inr q) is = absurd (omega (arith, low_c, q))

  from_by : (c : ℕ) → c < k.classes → (e : (c < k.classes) ⊎ (k.classes ≤ c)) → ComesFrom m h.seats (source_at c e)
  from_by c below (inl p) = let a = counted.used c p in h.origins (n.netlist.class a.0) (h.numbered a.0 ((same.terminals a.0).1 a.1))
  from_by c below (inr p) = absurd (omega (arith, below, p))

  pub moved : Shows renumbered l m f r
  moved = record {
    seats = h.seats;
    instances = sym same.instances ∙ h.instances;
    seated = seated;
    one_node = h.one_node;
    one_name = h.one_name;
    all_registers = h.all_registers;
    numbered = counted.numbered;
    one_class = λ j c a b is. one_by j c a b (cases_lt j k.classes) (cases_lt c k.classes) is;
    origins = λ c below. from_by c below (cases_lt c k.classes);
    ports = λ name. (λ g. (h.ports name).0 ((same.ports name).1 g), λ g. (same.ports name).0 ((h.ports name).1 g));
    on_vdd = source_same (port vdd) (port_terminal vdd (inl refl)) ∙ h.on_vdd;
    on_vss = source_same (port vss) (port_terminal vss (inr (inl refl))) ∙ h.on_vss;
    on_clock = λ name is. source_same (port name) (clock_terminal n l m f r checked h name is) ∙ h.on_clock name is;
    in_ports = λ j name is. source_same (port name) (port_terminal name (inr (inr (In-inputs m.clock m.ports name (number_in (inputs m) j name is))))) ∙ h.in_ports j name is;
    out_ports = λ j name is. source_same (port name) (port_terminal name (inr (inr (In-names _ m.ports name (number_in (outputs m) j name is))))) ∙ h.out_ports j name is;
    no_input = h.no_input;
    different = h.different;
  }
