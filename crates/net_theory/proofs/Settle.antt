-- A netlist that shows nodes settles once: each class has the bit of its source.
use Rattle.std.proofs.Common.{◌≡◌, inl, inr, ℕ, zero, suc, ◌+◌, ◌<◌, Bool, true, false, List, [], ◌∷◌, length, map, refl, sym, ◌∙◌, ap, subst, arith}
use Rattle.vlsi_base.specs.declared.name.Name.{Name}
use Rattle.vlsi_base.specs.declared.name.Terminal.{Terminal}
use Rattle.bool_expr.specs.Expression.{bit, val}
use Rattle.machine_core.specs.Machine.{Machine, inputs}
use Rattle.machine_core.specs.Checked.{IsChecked}
use Rattle.vlsi_base.specs.Member.{In, here, there}
use Rattle.cell_model.specs.Cell.{Function, gate, flip_flop, other, opaque, Cell, cell_inputs, cell_outputs}
use Rattle.cell_model.specs.Library.{Library, IsUsable}
use Rattle.net_meaning.specs.Netlist.{Member, port, pin_of, IsTerminal}
use Rattle.vlsi_base.specs.Names.{vdd, vss}
use Rattle.net_meaning.specs.Behaviour.{Contents, Valuation, bit_of, pin_bits, Drives, NetSettles}
use Rattle.net_meaning.specs.Agreement.{register_instance}
use Rattle.net_meaning.specs.Well.{Has}
use Rattle.net_theory.specs.Sources.{Source, high, low, ticking, node, IsNumber, Values, AreHeld, Seat, Roots, Sourced, source_of, pin_sources, Plays, ComesFrom, Shows}
use Rattle.net_theory.specs.Meaning.{Means}
use Rattle.net_theory.proofs.Basics.{listed, length-listed, bit-listed, is_listed, at_number, number_below, number_in, bit-map, map_is}
use Rattle.net_theory.proofs.Seats.{only, sits, seat_has, shown, input_terminal, output_terminal}
use Rattle.net_theory.proofs.Well.{vdd_port, vss_port, in_port, clock_terminal}

-- the bit of a source
abbrev pub bit_from : (ℕ → Bool) → Source → Bool
bit_from g high = true
bit_from g low = false
bit_from g ticking = false
bit_from g (node a) = g a

-- the bits of the registers, by the contents of their instances
abbrev pub held_bits : Machine → Contents → List Bool
held_bits m t = listed (length m.registers) (λ k. bit (t (register_instance k)) 0)

node_bits : (g : ℕ → Bool) (leaves : List ℕ) → map (bit_from g) (map node leaves) ≡ map g leaves
node_bits g [] = refl
node_bits g (x ∷ leaves) = ap (λ (ys : List Bool). g x ∷ ys) (node_bits g leaves)

-- the bits of pins are those of their sources
pins_from : (n : Sourced) (g : ℕ → Bool) (w : List Bool) (owner : List ℕ) (pins : List Name)
    → ((p : Name) → In p pins → bit_of n.netlist w (pin_of owner p) ≡ bit_from g (source_of n (pin_of owner p)))
    → pin_bits n.netlist w owner pins ≡ map (bit_from g) (pin_sources n owner pins)
pins_from n g w owner [] each = refl
pins_from n g w owner (p ∷ pins) each =
    ap (λ (b : Bool). b ∷ pin_bits n.netlist w owner pins) (each p here)
    ∙ ap (λ (bs : List Bool). bit_from g (source_of n (pin_of owner p)) ∷ bs) (pins_from n g w owner pins (λ q h. each q (there h)))

-- the bits of pins, where their sources are nodes
pins_are : (n : Sourced) (g : ℕ → Bool) (w : List Bool) (owner : List ℕ) (pins : List Name) (leaves : List ℕ) → pin_sources n owner pins ≡ map node leaves
    → ((p : Name) (x : ℕ) → In p pins → In x leaves → source_of n (pin_of owner p) ≡ node x → bit_of n.netlist w (pin_of owner p) ≡ g x)
    → pin_bits n.netlist w owner pins ≡ map g leaves
pins_are n g w owner [] [] same each = refl
pins_are n g w owner [] (x ∷ leaves) same each = absurd (cc same)
pins_are n g w owner (p ∷ pins) [] same each = absurd (cc same)
pins_are n g w owner (p ∷ pins) (x ∷ leaves) same each =
    let first : source_of n (pin_of owner p) ≡ node x = cc same in
    let rest : pin_sources n owner pins ≡ map node leaves = cc same in
    ap (λ (b : Bool). b ∷ pin_bits n.netlist w owner pins) (each p x here here first)
    ∙ ap (λ (bs : List Bool). g x ∷ bs) (pins_are n g w owner pins leaves rest (λ q y a b. each q y (there a) (there b)))

module _ (n : Sourced) (l : Library) (m : Machine) (f : Values) (r : Roots) (checked : IsChecked m) (h : Shows n l m f r) (means : Means m f r) (t : Contents) (i : List Bool) (counts : length i ≡ length (inputs m)) where
  abbrev pub bits : ℕ → Bool
  bits = f i (held_bits m t)

  held : AreHeld m i (held_bits m t)
  held = record { for_inputs = counts; for_registers = length-listed (length m.registers) (λ k. bit (t (register_instance k)) 0) }

  -- each class has the bit of its source
  abbrev pub valuation : List Bool
  valuation = listed n.netlist.classes (λ k. bit_from bits (n.source k))

  -- and no instance has anything within
  abbrev pub whole : Valuation
  whole = record { classes = valuation; inner = λ owner. [] }

  pub bit_at : (u : Terminal) → IsTerminal n.netlist l u → bit_of n.netlist valuation u ≡ bit_from bits (source_of n u)
  bit_at u is = bit-listed n.netlist.classes (λ k. bit_from bits (n.source k)) (n.netlist.class u) (h.numbered u is)

  input_bit : (k : ℕ) (name : Name) → IsNumber (inputs m) k name → bit_of n.netlist valuation (port name) ≡ bit i k
  input_bit k name is =
      bit_at (port name) (in_port n l m f r checked h name (number_in (inputs m) k name is))
      ∙ ap (bit_from bits) (h.in_ports k name is) ∙ means.held_inputs i (held_bits m t) held k (number_below (inputs m) k name is)

  register_bit : (p : Seat) (number : ℕ) → number < length m.registers → p.member.name ≡ register_instance number → p.node ≡ length (inputs m) + number → bits p.node ≡ bit (t p.member.name) 0
  register_bit p number within named place =
      ap bits place ∙ means.held_registers i (held_bits m t) held number within
      ∙ bit-listed (length m.registers) (λ k. bit (t (register_instance k)) 0) number within ∙ ap (λ (x : List ℕ). bit (t x) 0) (sym named)

  drives : (p : Seat) (c : Cell) (u : Function) → Plays n m f r p c u → Has n.netlist l p.member c → IsUsable c → Drives n.netlist whole t p.member.name c u
  drives p c (gate e) plays has usable =
      let ins : pin_bits n.netlist valuation p.member.name (cell_inputs c) ≡ map bits plays.leaves =
      pins_from n bits valuation p.member.name (cell_inputs c) (λ q g. bit_at (pin_of p.member.name q) (input_terminal n.netlist l p.member c q has usable g))
      ∙ ap (map (bit_from bits)) plays.reads ∙ node_bits bits plays.leaves in
      let outs : pin_bits n.netlist valuation p.member.name (cell_outputs c) ≡ bits p.node ∷ [] =
      pins_from n bits valuation p.member.name (cell_outputs c) (λ q g. bit_at (pin_of p.member.name q) (output_terminal n.netlist l p.member c q has usable g))
      ∙ ap (map (bit_from bits)) plays.shows in
      outs ∙ ap (λ (b : Bool). b ∷ []) (plays.value i (held_bits m t) held ∙ ap (val e) (sym ins))
  drives p c (flip_flop d k) plays has usable =
      let outs : pin_bits n.netlist valuation p.member.name (cell_outputs c) ≡ bits p.node ∷ [] =
      pins_from n bits valuation p.member.name (cell_outputs c) (λ q g. bit_at (pin_of p.member.name q) (output_terminal n.netlist l p.member c q has usable g))
      ∙ ap (map (bit_from bits)) plays.shows in
      outs ∙ ap (λ (b : Bool). b ∷ []) (register_bit p plays.number plays.within plays.named plays.place)
  drives p c (other machine) plays has usable = absurd plays
  drives p c opaque plays has usable = absurd plays

  pub settles : NetSettles n.netlist l (inputs m) m.clock t i whole
  settles = record {
    each = length-listed n.netlist.classes (λ k. bit_from bits (n.source k));
    high = λ _. bit_at (port vdd) (vdd_port n l m f r checked h) ∙ ap (bit_from bits) h.on_vdd;
    low = λ _. bit_at (port vss) (vss_port n l m f r checked h) ∙ ap (bit_from bits) h.on_vss;
    still = λ name is. bit_at (port name) (clock_terminal n l m f r checked h name is) ∙ ap (bit_from bits) (h.on_clock name is);
    inputs = map_is (λ name. bit_of n.netlist valuation (port name)) (inputs m) i counts input_bit;
    instances = λ one c listed found.
        let s = sits n l m f r h one c listed found in
        let has : Has n.netlist l s.seat.member c = subst (λ (x : Member). Has n.netlist l x c) (sym s.member) (record { listed = listed; found = found }) in
        subst (λ (x : Member). Drives n.netlist whole t x.name c c.function) s.member (drives s.seat c c.function s.plays has s.usable);
  }

  module _ (w : Valuation) (settled : NetSettles n.netlist l (inputs m) m.clock t i w) where
    -- each instance shows its node's bit, where the nodes that it reads have theirs
    shows_bit : (p : Seat) (c : Cell) (u : Function) → Plays n m f r p c u → Has n.netlist l p.member c → IsUsable c → Drives n.netlist w t p.member.name c u
        → ((k a : ℕ) → k < n.netlist.classes → n.source k ≡ node a → n.rank a < n.rank p.node → bit w.classes k ≡ bits a)
        → pin_bits n.netlist w.classes p.member.name (cell_outputs c) ≡ bits p.node ∷ []
    shows_bit p c (gate e) plays has usable drives before =
        let ins : pin_bits n.netlist w.classes p.member.name (cell_inputs c) ≡ map bits plays.leaves =
        pins_are n bits w.classes p.member.name (cell_inputs c) plays.leaves plays.reads
        (λ q x g is_leaf same. before (n.netlist.class (pin_of p.member.name q)) x (h.numbered (pin_of p.member.name q) (input_terminal n.netlist l p.member c q has usable g)) same (plays.earlier x is_leaf)) in
        drives ∙ ap (λ (bs : List Bool). val e bs ∷ []) ins ∙ ap (λ (b : Bool). b ∷ []) (sym (plays.value i (held_bits m t) held))
    shows_bit p c (flip_flop d k) plays has usable drives before =
        drives ∙ ap (λ (b : Bool). b ∷ []) (sym (register_bit p plays.number plays.within plays.named plays.place))
    shows_bit p c (other machine) plays has usable drives before = absurd plays
    shows_bit p c opaque plays has usable drives before = absurd plays

    seat_bit : (p : Seat) (g : In p h.seats) (k : ℕ) → k < n.netlist.classes → n.source k ≡ node p.node
        → ((j a : ℕ) → j < n.netlist.classes → n.source j ≡ node a → n.rank a < n.rank p.node → bit w.classes j ≡ bits a) → bit w.classes k ≡ bits p.node
    seat_bit p g k below is before =
        let seated = h.seated p g in
        let c = seated.cell in
        let has = seat_has n l m f r h p g in
        let one = only (λ (q : Name). source_of n (pin_of p.member.name q)) (cell_outputs c) (node p.node) (shown n m f r p c c.function seated.plays) in
        let listed : In one.0 (cell_outputs c) = subst (λ (all : List Name). In one.0 all) (sym one.1) here in
        let place : n.netlist.class (pin_of p.member.name one.0) ≡ k =
        h.one_class (n.netlist.class (pin_of p.member.name one.0)) k (h.numbered (pin_of p.member.name one.0) (output_terminal n.netlist l p.member c one.0 has seated.usable listed)) below (one.2 ∙ sym is) in
        let drives = settled.instances p.member c has.listed has.found in
        let all : pin_bits n.netlist w.classes p.member.name (cell_outputs c) ≡ bits p.node ∷ [] = shows_bit p c c.function seated.plays has seated.usable drives before in
        let alone : bit w.classes (n.netlist.class (pin_of p.member.name one.0)) ∷ [] ≡ bits p.node ∷ [] =
        subst (λ (pins : List Name). pin_bits n.netlist w.classes p.member.name pins ≡ bits p.node ∷ []) one.1 all in
        let first : bit w.classes (n.netlist.class (pin_of p.member.name one.0)) ≡ bits p.node = cc alone in
        ap (bit w.classes) (sym place) ∙ first

    in_bit : (a k : ℕ) → k < n.netlist.classes → n.source k ≡ node a → a < length (inputs m) → bit w.classes k ≡ bits a
    in_bit a k below is low_one =
        let one = at_number (inputs m) a low_one in
        let listed = number_in (inputs m) a one.0 one.1 in
        let place : n.netlist.class (port one.0) ≡ k =
        h.one_class (n.netlist.class (port one.0)) k (h.numbered (port one.0) (in_port n l m f r checked h one.0 listed)) below (h.in_ports a one.0 one.1 ∙ sym is) in
        let seen : bit i a ≡ bit_of n.netlist w.classes (port one.0) =
        ap (λ (bs : List Bool). bit bs a) (sym settled.inputs) ∙ bit-map (λ name. bit_of n.netlist w.classes (port name)) (inputs m) a one.0 one.1 in
        ap (bit w.classes) (sym place) ∙ sym seen ∙ sym (means.held_inputs i (held_bits m t) held a low_one)

    node_bit : (limit a k : ℕ) → k < n.netlist.classes → n.source k ≡ node a → n.rank a < limit → bit w.classes k ≡ bits a
    node_bit zero a k below is within = absurd (omega (arith, within))
    node_bit (suc limit) a k below is within =
        elim (subst (λ (s : Source). ComesFrom m h.seats s) is (h.origins k below)) [
          | inl low_one ↦ in_bit a k below is low_one
          | inr p ↦
              seat_bit p.0 p.1 k below (is ∙ ap node (sym p.2))
              (λ j b j_below j_is lower. node_bit limit b j j_below j_is (let same = ap n.rank p.2 in omega (arith, lower, same, within)))
              ∙ ap bits p.2
        ]

    class_bit : (k : ℕ) → k < n.netlist.classes → (s : Source) → n.source k ≡ s → ComesFrom m h.seats s → bit w.classes k ≡ bit_from bits s
    class_bit k below high is from =
        let place = h.one_class k (n.netlist.class (port vdd)) below (h.numbered (port vdd) (vdd_port n l m f r checked h)) (is ∙ sym h.on_vdd) in
        ap (bit w.classes) place ∙ settled.high ((h.ports vdd).1 (inl refl))
    class_bit k below low is from =
        let place = h.one_class k (n.netlist.class (port vss)) below (h.numbered (port vss) (vss_port n l m f r checked h)) (is ∙ sym h.on_vss) in
        ap (bit w.classes) place ∙ settled.low ((h.ports vss).1 (inr (inl refl)))
    class_bit k below ticking is from =
        let place = h.one_class k (n.netlist.class (port from.0)) below (h.numbered (port from.0) (clock_terminal n l m f r checked h from.0 from.1)) (is ∙ sym (h.on_clock from.0 from.1)) in
        ap (bit w.classes) place ∙ settled.still from.0 from.1
    class_bit k below (node a) is from = node_bit (suc (n.rank a)) a k below is (omega arith)

    pub alone : w.classes ≡ valuation
    alone = is_listed n.netlist.classes (λ k. bit_from bits (n.source k)) w.classes settled.each (λ k below. class_bit k below (n.source k) refl (h.origins k below))
