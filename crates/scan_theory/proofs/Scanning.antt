-- What a netlist with a scan path does: by a bit for each class that is told.
use Rattle.std.proofs.Common.{◌≡◌, ◌≢◌, ◌↔◌, inl, inr, ℕ, suc, ◌+◌, ◌*◌, ◌<◌, Bool, true, false, not, ◌&&◌, List, [], ◌∷◌, length, map, filter, Option, Some, refl, sym, ap, ◌∙◌, subst, arith, if◌then◌else◌}
use Rattle.std.specs.List.{list_any}
use Rattle.std.proofs.lemmas.Bool.{cond-true, cond-false}
use Rattle.std.proofs.lemmas.Option.{same_Some}
use Rattle.vlsi_base.specs.declared.name.Name.{Name}
use Rattle.vlsi_base.specs.declared.name.Port.{Port}
use Rattle.vlsi_base.specs.declared.name.Terminal.{Terminal}
use Rattle.vlsi_base.specs.Names.{vdd, vss}
use Rattle.vlsi_base.specs.Member.{In, here, there, AllDifferent}
use Rattle.bool_expr.specs.Expression.{bit, val}
use Rattle.machine_core.specs.Machine.{is_input}
use Rattle.machine_core.specs.Named.{is_same_name, is_same_text}
use Rattle.machine_core.proofs.Names.{same_name-true}
use Rattle.cell_model.specs.Cell.{Function, gate, flip_flop, other, opaque, Cell, pin_ports, cell_inputs, cell_outputs}
use Rattle.cell_model.specs.Library.{Library, cell_of}
use Rattle.cell_model.proofs.Members.{In-map, In-map_back, In-left, In-right}
use Rattle.cell_model.proofs.Texts.{text_same, text_itself, text_differs}
use Rattle.cell_pins.proofs.Ports.{sorted_of, sorted_filter, sorted_different}
use Rattle.net_core.specs.declared.pins.ModelPins.{ModelPins}
use Rattle.net_core.specs.declared.tally.Role.TheVariants as role
use Rattle.net_core.specs.Netlist.{Instance, Netlist, port, pin_of, terminals, HasClass}
use Rattle.net_core.specs.Checks.{pins_named}
use Rattle.net_core.proofs.Rings.{class_below}
use Rattle.net_meaning.specs.Netlist.{AbstractNetlist}
use Rattle.net_meaning.specs.Behaviour.{Contents, Valuation, NetSettles, net_next}
use Rattle.net_theory.proofs.Basics.{In-names, listed, length-listed, bit-listed}
use Rattle.net_right.specs.View.{netlist_by}
use Rattle.net_right.proofs.Lists.{in_place, map_twice, filter_in}
use Rattle.net_right.proofs.Places.{Does, does_pin}
use Rattle.loon_fanout.specs.Sinks.{is_same_terminal}
use Rattle.loon_fanout.proofs.Picking.{is_false, any_in}
use Rattle.loon_fanout.proofs.Terminals.{terminal_same, terminal_itself}
use Rattle.loon_fanout.proofs.OneClass.{one_instance}
use Rattle.scan_theory.specs.Gates.{Gate, gate_instance, read_class}
use Rattle.scan_theory.specs.Scan.{scin, test, scout, in_port, out_port, scan_ports, class_in, on_scin, on_test, shown, on_supply, on_vdd, on_vss, Stage, loads, gives, inverts, nands, chain, first_gate, fed, AreStages, ended, next}
use Rattle.scan_theory.specs.Path.{is_flip_flop, holds_bit, is_register, register_names}
use Rattle.scan_theory.specs.Meaning.{IsShifted, last_bit, ArePorts, IsScanCycle, Scans}
use Rattle.scan_theory.specs.Laws.{IsScanOf, ScannedScans}
use Rattle.net_bits.proofs.Lists.{IsMadeOf, named_in}
use Rattle.net_bits.proofs.Numbers.{IsByClass, renumbered, renumbered_bit}
use Rattle.net_bits.proofs.Bits.{pins_by, Gives, Cycle, AreBits, AreAmong, bits_of, bits_same, valuation_of, bits_shown, settles_by}
use Rattle.net_bits.proofs.Held.{loaded_by, cell_holds, held_by, next_is, held_same, HoldNothing, held_before}
use Rattle.scan_theory.proofs.Wired.{in_its}
use Rattle.scan_theory.proofs.Cells.{Celled, output_role, inverter, nand}
use Rattle.scan_theory.proofs.Chain.{class_signal}
use Rattle.scan_theory.proofs.Ports.{scout_in, test_in, scin_in}
use Rattle.scan_theory.proofs.Filling.{value_by, filled, filled_low, filled_value, reads_are, twice_not, multiplexed, start, start_old, start_scin, start_test, start_vdd, start_vss}
use Rattle.scan_theory.proofs.Scene.{stage_named, gs, told, cell_at, gate_is, out_class, split_instance, names_before, seated, signal_pin, told_pin, told_port, told_gate, kept_pin, kept_gate, old_port, port_kept, old_in, gate_in, climbs}
use Rattle.scan_theory.proofs.Meets.{celled_after, fits_after}

map_same : {A B : Type 0} (f g : A → B) (xs : List A) → ((x : A) → In x xs → f x ≡ g x) → map f xs ≡ map g xs
map_same f g [] each = refl
map_same {A} {B} f g (x ∷ xs) each =
    ap (λ (y : B). y ∷ map f xs) (each x here) ∙ ap (λ (ys : List B). g x ∷ ys) (map_same f g xs (λ y h. each y (there h)))

terminal_differs : (t u : Terminal) → t ≢ u → is_same_terminal t u ≡ false
terminal_differs t u apart = is_false (is_same_terminal t u) (λ e. absurd (apart (terminal_same t u e)))

-- the first instance of a name is the one
held_at : (l : Library) (g : Terminal → Bool) (is : List Instance) → AllDifferent (map (λ (i : Instance). i.name) is) → (i : Instance) → In i is
    → held_by l g is i.name ≡ cell_holds g i.name (cell_of l i.model)
held_at l g [] d i h = elim h [ ]
held_at l g (i ∷ is) d _ here = cond-true (is_same_text i.name i.name) (cell_holds g i.name (cell_of l i.model)) (held_by l g is i.name) (text_itself i.name)
held_at l g (x ∷ is) d i (there h) =
    cond-false (is_same_text x.name i.name) (cell_holds g i.name (cell_of l x.model)) (held_by l g is i.name)
    (text_differs x.name i.name (λ e. d.0 (subst (λ (t : List ℕ). In t (map (λ (y : Instance). y.name) is)) (sym e) (In-map (λ (y : Instance). y.name) i is h))))
    ∙ held_at l g is d.1 i h

module _ (l : Library) (table : List ModelPins) (n : Netlist) (path : List (List ℕ)) (r : Netlist) (h : IsScanOf l table n path r) where
  abbrev class : Terminal → ℕ
  class t = told l table n path r h t

  abbrev all : List Gate
  all = gs l table n path r h

  made_n : (i : Instance) → In i n.instances → IsMadeOf l i
  made_n i i_in = let k = cell_at l table n path r h i i_in in (k.cell, k.found, k.usable, k.pins)

  made_r : (i : Instance) → In i r.instances → IsMadeOf l i
  made_r i i_in = let k = celled_after l table n path r h i i_in in (k.cell, k.found, k.usable, k.pins)

  named_old : (name : Name) → In name (map (λ (p : Port). p.name) n.ports) → class (port name) ≡ class_in n (port name)
  named_old name name_in =
      let p = In-map_back (λ (x : Port). x.name) name n.ports name_in in
      subst (λ (x : Name). class (port x) ≡ class_in n (port x)) p.2 (old_port l table n path r h p.0 p.1)

  named_kept : (name : Name) → In name (map (λ (p : Port). p.name) n.ports) → In name (map (λ (p : Port). p.name) r.ports)
  named_kept name name_in =
      let p = In-map_back (λ (x : Port). x.name) name n.ports name_in in
      subst (λ (x : Name). In x (map (λ (q : Port). q.name) r.ports)) p.2 (In-map (λ (q : Port). q.name) p.0 r.ports (port_kept l table n path r h p.0 p.1))

  -- ---- by a bit for each class

  module _ (bits : ℕ → Bool) where
    abbrev before : Terminal → Bool
    before t = bits (class_in n t)

    abbrev after : Terminal → Bool
    after t = bits (class t)

    -- each gate gives what its cell does
    abbrev Values : Type 0
    Values = (g : Gate) → In g all → bits g.shows ≡ value_by g.cell.function (map bits g.reads)

    -- ---- instances of the given netlist

    outputs_same : (i : Instance) → In i n.instances → (c : Cell) → cell_of l i.model ≡ Some c → pins_by after i.name (cell_outputs c) ≡ pins_by before i.name (cell_outputs c)
    outputs_same i i_in c found = map_same (λ p. after (pin_of i.name p)) (λ p. before (pin_of i.name p)) (cell_outputs c) (λ p p_in. ap bits (kept p p_in)) where
      kept : (p : Name) → In p (cell_outputs c) → class (pin_of i.name p) ≡ class_in n (pin_of i.name p)
      kept p p_in =
          let k = cell_at l table n path r h i i_in in
          let q = signal_pin l table n path r h i i_in c found p (inr p_in) in
          let same : c ≡ k.cell = same_Some c k.cell (sym found ∙ k.found) in
          let mine : In q.0.name (cell_outputs k.cell) =
          subst (λ (x : Name). In x (cell_outputs k.cell)) (sym q.2) (subst (λ (x : Cell). In p (cell_outputs x)) same p_in) in
          let is_output = output_role l table i k q.0 q.1 mine in
          let doing : Does table n (pin_of i.name q.0.name) role.OutputPin =
          subst (λ x. Does table n (pin_of i.name q.0.name) x) is_output (does_pin i q.0 (in_place i n.instances i_in) (in_place q.0 (pins_named table i.model) q.1) refl refl) in
          kept_pin l table n path r h i i_in p role.OutputPin (subst (λ (x : Name). Does table n (pin_of i.name x) role.OutputPin) q.2 doing) (λ e. cc e)

    inputs_same : (i : Instance) → In i n.instances → (c : Cell) → cell_of l i.model ≡ Some c → ((d k : Name) → c.function ≡ flip_flop d k → ⊥)
        → pins_by after i.name (cell_inputs c) ≡ pins_by before i.name (cell_inputs c)
    inputs_same i i_in c found plain = map_same (λ p. after (pin_of i.name p)) (λ p. before (pin_of i.name p)) (cell_inputs c)
        (λ p p_in. ap bits (kept_gate l table n path r h i i_in c found plain p))

    old_forth : (t : Contents) (i : Instance) → In i n.instances → (c : Cell) → cell_of l i.model ≡ Some c → Gives before t i.name c c.function → Gives after t i.name c c.function
    old_forth t i i_in c found given = by c.function refl given where
      by : (f : Function) → c.function ≡ f → Gives before t i.name c f → Gives after t i.name c f
      by (gate e) is g =
          outputs_same i i_in c found ∙ g
          ∙ ap (λ (bs : List Bool). val e bs ∷ []) (sym (inputs_same i i_in c found (λ d k f. let never : gate e ≡ flip_flop d k = sym is ∙ f in absurd cc)))
      by (flip_flop d k) is g = outputs_same i i_in c found ∙ g
      by (other m) is g = tt
      by opaque is g = tt

    old_back : (t : Contents) (i : Instance) → In i n.instances → (c : Cell) → cell_of l i.model ≡ Some c → Gives after t i.name c c.function → Gives before t i.name c c.function
    old_back t i i_in c found given = by c.function refl given where
      by : (f : Function) → c.function ≡ f → Gives after t i.name c f → Gives before t i.name c f
      by (gate e) is g =
          sym (outputs_same i i_in c found) ∙ g
          ∙ ap (λ (bs : List Bool). val e bs ∷ []) (inputs_same i i_in c found (λ d k f. let never : gate e ≡ flip_flop d k = sym is ∙ f in absurd cc))
      by (flip_flop d k) is g = sym (outputs_same i i_in c found) ∙ g
      by (other m) is g = tt
      by opaque is g = tt

    -- ---- gates

    gate_inputs : (g : Gate) → In g all → pins_by after g.name (cell_inputs g.cell) ≡ map bits g.reads
    gate_inputs g g_in =
        let b = gate_is l table n path r h g g_in in
        map_same (λ p. after (pin_of g.name p)) (λ p. bits (read_class (cell_inputs g.cell) g.reads g.shows p)) (cell_inputs g.cell) (λ p p_in.
        let signal = b.0.signals p (In-names (λ (x : Port). is_input x.dir) (pin_ports g.cell) p p_in) in
        ap bits (told_gate l table n path r h g g_in p ∙ class_signal (on_vdd n) (on_vss n) g p signal.0 signal.1))
        ∙ sym (map_twice bits (λ p. read_class (cell_inputs g.cell) g.reads g.shows p) (cell_inputs g.cell))
        ∙ ap (map bits) (reads_are (cell_inputs g.cell) g.reads g.shows
        (sorted_different (filter (λ p. is_input p.dir) (pin_ports g.cell)) (sorted_filter (λ p. is_input p.dir) (pin_ports g.cell) (sorted_of (pin_ports g.cell) b.0.usable.order))) b.1)

    gate_outputs : (g : Gate) → In g all → pins_by after g.name (cell_outputs g.cell) ≡ bits g.shows ∷ []
    gate_outputs g g_in =
        let b = (gate_is l table n path r h g g_in).0 in
        ap (λ (ps : List Name). pins_by after g.name ps) b.single
        ∙ ap (λ (k : ℕ). bits k ∷ []) (told_gate l table n path r h g g_in b.out ∙ out_class l table n path r h g g_in)

    gate_forth : (t : Contents) (g : Gate) → In g all → bits g.shows ≡ value_by g.cell.function (map bits g.reads) → Gives after t g.name g.cell g.cell.function
    gate_forth t g g_in v =
        let b = (gate_is l table n path r h g g_in).0 in
        subst (λ (f : Function). Gives after t g.name g.cell f) (sym b.is)
        (gate_outputs g g_in ∙ ap (λ (x : Bool). x ∷ []) (v ∙ ap (λ (f : Function). value_by f (map bits g.reads)) b.is)
        ∙ ap (λ (bs : List Bool). val b.expr bs ∷ []) (sym (gate_inputs g g_in)))

    gate_back : (t : Contents) (g : Gate) → In g all → Gives after t g.name g.cell g.cell.function → bits g.shows ≡ value_by g.cell.function (map bits g.reads)
    gate_back t g g_in given =
        let b = (gate_is l table n path r h g g_in).0 in
        let own : pins_by after g.name (cell_outputs g.cell) ≡ val b.expr (pins_by after g.name (cell_inputs g.cell)) ∷ [] =
        subst (λ (f : Function). Gives after t g.name g.cell f) b.is given in
        let lists : bits g.shows ∷ [] ≡ val b.expr (map bits g.reads) ∷ [] = sym (gate_outputs g g_in) ∙ own ∙ ap (λ (bs : List Bool). val b.expr bs ∷ []) (gate_inputs g g_in) in
        let one : bits g.shows ≡ val b.expr (map bits g.reads) = cc lists in
        one ∙ ap (λ (f : Function). value_by f (map bits g.reads)) (sym b.is)

    -- ---- all terminals

    module _ (inputs : List Name) (clock : Option Name) (held : Contents) (i : List Bool) (a b : Bool)
        (inputs_in : (name : Name) → In name inputs → In name (map (λ (p : Port). p.name) n.ports))
        (clock_in : (name : Name) → clock ≡ Some name → In name (map (λ (p : Port). p.name) n.ports)) where
      abbrev old_cycle : Cycle
      old_cycle = record { inputs = inputs; clock = clock; contents = held; vector = i }

      abbrev new_cycle : Cycle
      new_cycle = record { inputs = scin ∷ test ∷ inputs; clock = clock; contents = held; vector = a ∷ b ∷ i }

      inputs_kept : map (λ name. after (port name)) inputs ≡ map (λ name. before (port name)) inputs
      inputs_kept = map_same (λ name. after (port name)) (λ name. before (port name)) inputs (λ name name_in. ap bits (named_old name (inputs_in name name_in)))

      at_scin : after (port scin) ≡ bits (on_scin n)
      at_scin = ap bits (told_port l table n path r h scin)

      at_test : after (port test) ≡ bits (on_test n)
      at_test = ap bits (told_port l table n path r h test)

      to_after : AreBits l old_cycle n.ports n.instances before → Values → bits (on_scin n) ≡ a → bits (on_test n) ≡ b → bits (on_vdd n) ≡ true → bits (on_vss n) ≡ false
          → AreBits l new_cycle r.ports r.instances after
      to_after old values sc te high low = record {
        high = λ x. ap bits (told_port l table n path r h vdd) ∙ high;
        low = λ x. ap bits (told_port l table n path r h vss) ∙ low;
        still = λ name is. ap bits (named_old name (clock_in name is)) ∙ old.still name is;
        inputs =
            ap (λ (x : Bool). x ∷ after (port test) ∷ map (λ name. after (port name)) inputs) (at_scin ∙ sc)
            ∙ ap (λ (x : Bool). a ∷ x ∷ map (λ name. after (port name)) inputs) (at_test ∙ te)
            ∙ ap (λ (xs : List Bool). a ∷ b ∷ xs) (inputs_kept ∙ old.inputs);
        each = λ j c j_in found. elim (split_instance l table n path r h j j_in) [
          | inl old_in ↦ old_forth held j old_in c found (old.each j c old_in found)
          | inr g ↦
              let mine : cell_of l g.0.cell.name ≡ Some c = subst (λ (x : Instance). cell_of l x.model ≡ Some c) (sym g.2) found in
              let same : g.0.cell ≡ c = same_Some g.0.cell c (sym (gate_is l table n path r h g.0 g.1).0.found ∙ mine) in
              subst (λ (x : Instance). Gives after held x.name c c.function) g.2
              (subst (λ (x : Cell). Gives after held g.0.name x x.function) same (gate_forth held g.0 g.1 (values g.0 g.1)))
        ];
      }

      values_of : AreBits l new_cycle r.ports r.instances after → Values
      values_of new g g_in =
          gate_back held g g_in (new.each (gate_instance g) g.cell (gate_in l table n path r h g g_in) (gate_is l table n path r h g g_in).0.found)

      to_before : AreBits l new_cycle r.ports r.instances after → AreBits l old_cycle n.ports n.instances before
      to_before new = record {
        high = λ x. ap bits (sym (named_old vdd x)) ∙ new.high (named_kept vdd x);
        low = λ x. ap bits (sym (named_old vss x)) ∙ new.low (named_kept vss x);
        still = λ name is. ap bits (sym (named_old name (clock_in name is))) ∙ new.still name is;
        inputs = sym inputs_kept ∙ rest new.inputs;
        each = λ j c j_in found. old_back held j j_in c found (new.each j c (old_in l table n path r h j j_in) found);
      } where
        rest : map (λ name. after (port name)) (scin ∷ test ∷ inputs) ≡ a ∷ b ∷ i → map (λ name. after (port name)) inputs ≡ i
        rest e = let lists : after (port scin) ∷ after (port test) ∷ map (λ name. after (port name)) inputs ≡ a ∷ b ∷ i = e in cc lists

      -- ---- what registers give and take

      given_bit : AreBits l old_cycle n.ports n.instances before → (s : Stage) → In s h.scanned.stages → bits (gives n s) ≡ bit (held s.name) 0
      given_bit old s s_in =
          let k = seated l table n path r h s s_in in
          let gave : pins_by before k.instance.name (cell_outputs k.cell) ≡ bit (held k.instance.name) 0 ∷ [] =
          subst (λ (f : Function). Gives before held k.instance.name k.cell f) k.is (old.each k.instance k.cell k.listed k.found) in
          let lists : before (pin_of k.instance.name s.output) ∷ [] ≡ bit (held k.instance.name) 0 ∷ [] =
          ap (λ (ps : List Name). pins_by before k.instance.name ps) (sym k.out) ∙ gave in
          let one : before (pin_of k.instance.name s.output) ≡ bit (held k.instance.name) 0 = cc lists in
          ap (λ (o : List ℕ). before (pin_of o s.output)) (sym k.named) ∙ one ∙ ap (λ (o : List ℕ). bit (held o) 0) k.named

      -- ---- along the path

      module _ (values : Values) (te : bits (on_test n) ≡ b) where
        nand_bit : (m x y : ℕ) → In (nands n h.scanned.cells m x y) all → bits (shown n m) ≡ not (bits x && bits y)
        nand_bit m x y g_in =
            let k = nand l h.scanned.cells.nand h.scanned.nand_is in
            values (nands n h.scanned.cells m x y) g_in ∙ ap (λ (f : Function). value_by f (bits x ∷ bits y ∷ [])) k.is ∙ k.value (bits x) (bits y)

        inverse_bit : (m x : ℕ) → In (inverts n h.scanned.cells m x) all → bits (shown n m) ≡ not (bits x)
        inverse_bit m x g_in =
            let k = inverter l h.scanned.cells.inverter h.scanned.inverter_is in
            values (inverts n h.scanned.cells m x) g_in ∙ ap (λ (f : Function). value_by f (bits x ∷ [])) k.is ∙ k.value (bits x)

        first_bit : (stages : List Stage) → ((g : Gate) → In g (first_gate n h.scanned.cells stages) → In g all) → (s : Stage) → In s stages → bits (shown n 0) ≡ not b
        first_bit [] inside s s_in = elim s_in [ ]
        first_bit (x ∷ stages) inside s s_in = inverse_bit 0 (on_test n) (inside (inverts n h.scanned.cells 0 (on_test n)) here) ∙ ap not te

        -- what the multiplexer of register j gives
        chosen_bit : (j before_class : ℕ) (s : Stage) (stages : List Stage) → bits (shown n 0) ≡ not b
            → ((g : Gate) → In g (chain n h.scanned.cells j before_class (s ∷ stages)) → In g all)
            → bits (shown n (3 * j + 3)) ≡ (if b then bits before_class else bits (loads n s))
        chosen_bit j p s stages zero inside =
            let c = h.scanned.cells in
            let one = nand_bit (3 * j + 1) (on_test n) p (inside (nands n c (3 * j + 1) (on_test n) p) here) in
            let two = nand_bit (3 * j + 2) (shown n 0) (loads n s) (inside (nands n c (3 * j + 2) (shown n 0) (loads n s)) (there here)) in
            let three = nand_bit (3 * j + 3) (shown n (3 * j + 1)) (shown n (3 * j + 2)) (inside (nands n c (3 * j + 3) (shown n (3 * j + 1)) (shown n (3 * j + 2))) (there (there here))) in
            three
            ∙ ap (λ (x : Bool). not (x && bits (shown n (3 * j + 2)))) (one ∙ ap (λ (x : Bool). not (x && bits p)) te)
            ∙ ap (λ (x : Bool). not (not (b && bits p) && x)) (two ∙ ap (λ (x : Bool). not (x && bits (loads n s))) zero)
            ∙ multiplexed b (bits p) (bits (loads n s))

        -- scout has what the last register gives
        scout_bit : (names : List (List ℕ)) (stages : List Stage) (j p : ℕ) → AreStages n l names stages → ((s : Stage) → In s stages → bits (gives n s) ≡ bit (held s.name) 0)
            → ((g : Gate) → In g (chain n h.scanned.cells j p stages) → In g all) → bits (shown n (3 * (j + length stages) + 2)) ≡ last_bit (bits p) held names
        scout_bit _ _ j p ended out inside =
            let c = h.scanned.cells in
            let none : 3 * (j + 0) + 2 ≡ 3 * j + 2 = omega arith in
            ap (λ (m : ℕ). bits (shown n m)) none
            ∙ inverse_bit (3 * j + 2) (shown n (3 * j + 1)) (inside (inverts n c (3 * j + 2) (shown n (3 * j + 1))) (there here))
            ∙ ap not (inverse_bit (3 * j + 1) p (inside (inverts n c (3 * j + 1) p) here))
            ∙ twice_not (bits p)
        scout_bit _ _ j p (next {name = name} {s = s} {path = names} {stages = stages} one rest) out inside =
            let more : 3 * (j + suc (length stages)) + 2 ≡ 3 * (suc j + length stages) + 2 = omega arith in
            ap (λ (m : ℕ). bits (shown n m)) more
            ∙ scout_bit names stages (suc j) (gives n s) rest (λ x x_in. out x (there x_in)) (λ g g_in. inside g (there (there (there g_in))))
            ∙ ap (λ (x : Bool). last_bit x held names) (out s here ∙ ap (λ (o : List ℕ). bit (held o) 0) one.same)

        -- what is fed to the registers of the path
        record AreFed (names : List (List ℕ)) (p : ℕ) (stages : List Stage) : Type 0 where
          shifted : b ≡ true → (to : Contents) → ((s : Stage) → In s stages → to s.name ≡ after (pin_of s.name s.load) ∷ []) → IsShifted (bits p) held to names
          stayed : b ≡ false → (s : Stage) → In s stages → after (pin_of s.name s.load) ≡ bits (loads n s)

        stage_name : (names : List (List ℕ)) (stages : List Stage) → AreStages n l names stages → (s : Stage) → In s stages → In s.name names
        stage_name _ _ ended s s_in = elim s_in [ ]
        stage_name _ _ (next {name = name} {path = names} one rest) s here = subst (λ (x : List ℕ). In x (name ∷ names)) (sym one.same) here
        stage_name _ _ (next {path = names} {stages = stages} one rest) s (there s_in) = there (stage_name names stages rest s s_in)

        fed_all : (names : List (List ℕ)) (stages : List Stage) (j p : ℕ) → AreStages n l names stages → AllDifferent names
            → ((s : Stage) → In s stages → bits (gives n s) ≡ bit (held s.name) 0) → ((s : Stage) → In s stages → bits (shown n 0) ≡ not b)
            → ((s : Stage) → In s stages → class (pin_of s.name s.load) ≡ fed n j stages (pin_of s.name s.load))
            → ((g : Gate) → In g (chain n h.scanned.cells j p stages) → In g all) → AreFed names p stages
        fed_all _ _ j p ended d out zero at inside = record { shifted = λ is to takes. tt; stayed = λ is s s_in. elim s_in [ ] }
        fed_all _ _ j p (next {name = name} {s = s} {path = names} {stages = stages} one rest) d out zero at inside =
            fed_more (fed_all names stages (suc j) (gives n s) rest d.1 (λ x x_in. out x (there x_in)) (λ x x_in. zero x (there x_in))
            (λ x x_in. at x (there x_in) ∙ cond-false (is_same_terminal (pin_of s.name s.load) (pin_of x.name x.load)) (shown n (3 * j + 3)) (fed n (suc j) stages (pin_of x.name x.load))
            (terminal_differs (pin_of s.name s.load) (pin_of x.name x.load) (apart x x_in)))
            (λ g g_in. inside g (there (there (there g_in))))) where
              own : after (pin_of s.name s.load) ≡ (if b then bits p else bits (loads n s))
              own =
                  ap bits (at s here ∙ cond-true (is_same_terminal (pin_of s.name s.load) (pin_of s.name s.load)) (shown n (3 * j + 3)) (fed n (suc j) stages (pin_of s.name s.load))
                  (terminal_itself (pin_of s.name s.load)))
                  ∙ chosen_bit j p s stages (zero s here) inside

              apart : (x : Stage) → In x stages → pin_of s.name s.load ≢ pin_of x.name x.load
              apart x x_in e =
                  let owners : Some s.name ≡ Some x.name = ap (λ (t : Terminal). t.instance) e in
                  let same : name ≡ x.name = sym one.same ∙ same_Some s.name x.name owners in
                  d.0 (subst (λ (o : List ℕ). In o names) (sym same) (stage_name names stages rest x x_in))

              shifted : AreFed names (gives n s) stages → b ≡ true → (to : Contents) → ((x : Stage) → In x (s ∷ stages) → to x.name ≡ after (pin_of x.name x.load) ∷ []) → IsShifted (bits p) held to (name ∷ names)
              shifted later is to takes = (
                ap to (sym one.same) ∙ takes s here ∙ ap (λ (x : Bool). x ∷ []) (own ∙ ap (λ (x : Bool). if x then bits p else bits (loads n s)) is),
                subst (λ (x : Bool). IsShifted x held to names) (out s here ∙ ap (λ (o : List ℕ). bit (held o) 0) one.same) (later.shifted is to (λ x x_in. takes x (there x_in))),
              )

              stayed : AreFed names (gives n s) stages → b ≡ false → (x : Stage) → In x (s ∷ stages) → after (pin_of x.name x.load) ≡ bits (loads n x)
              stayed later is x here = own ∙ ap (λ (y : Bool). if y then bits p else bits (loads n s)) is
              stayed later is x (there x_in) = later.stayed is x x_in

              fed_more : AreFed names (gives n s) stages → AreFed (name ∷ names) p (s ∷ stages)
              fed_more later = record { shifted = shifted later; stayed = stayed later }

        -- all of the path
        fed_path : ((s : Stage) → In s h.scanned.stages → bits (gives n s) ≡ bit (held s.name) 0) → AreFed path (on_scin n) h.scanned.stages
        fed_path out =
            fed_all path h.scanned.stages 0 (on_scin n) h.scanned.are h.through.once out
            (first_bit h.scanned.stages (λ g g_in. In-left g (first_gate n h.scanned.cells h.scanned.stages) (chain n h.scanned.cells 0 (on_scin n) h.scanned.stages) g_in))
            (λ s s_in. let k = seated l table n path r h s s_in in
            subst (λ (o : List ℕ). class (pin_of o s.load) ≡ fed n 0 h.scanned.stages (pin_of o s.load)) k.named (told_pin l table n path r h k.instance k.listed s.load))
            (λ g g_in. In-right g (first_gate n h.scanned.cells h.scanned.stages) (chain n h.scanned.cells 0 (on_scin n) h.scanned.stages) g_in)

      -- ---- what instances hold afterwards

      gates_hold_nothing : HoldNothing l (map gate_instance all)
      gates_hold_nothing j c j_in found g owner =
          let x = In-map_back gate_instance j all j_in in
          let b = (gate_is l table n path r h x.0 x.1).0 in
          let mine : cell_of l x.0.cell.name ≡ Some c = subst (λ (y : Instance). cell_of l y.model ≡ Some c) (sym x.2) found in
          let same : x.0.cell ≡ c = same_Some x.0.cell c (sym b.found ∙ mine) in
          subst (λ (y : Cell). loaded_by g owner y.function ≡ []) same (ap (loaded_by g owner) b.is)

      held_r : (owner : List ℕ) → held_by l after r.instances owner ≡ held_by l after n.instances owner
      held_r owner =
          ap (λ (is : List Instance). held_by l after is owner) h.scanned.instances
          ∙ held_before l after owner n.instances (map gate_instance all) gates_hold_nothing

      -- a register of the path takes what it is fed
      takes_fed : (s : Stage) → In s h.scanned.stages → held_by l after n.instances s.name ≡ after (pin_of s.name s.load) ∷ []
      takes_fed s s_in =
          let k = seated l table n path r h s s_in in
          subst (λ (o : List ℕ). held_by l after n.instances o ≡ after (pin_of o s.load) ∷ []) k.named
          (held_at l after n.instances (names_before l table n path r h) k.instance k.listed
          ∙ ap (cell_holds after k.instance.name) k.found ∙ ap (loaded_by after k.instance.name) k.is)

      -- where the data pins have the bits of their old classes, all take what they took
      held_stay : ((s : Stage) → In s h.scanned.stages → after (pin_of s.name s.load) ≡ bits (loads n s)) → (owner : List ℕ) (is : List Instance) → ((j : Instance) → In j is → In j n.instances)
          → held_by l after is owner ≡ held_by l before is owner
      held_stay stays owner [] inside = refl
      held_stay stays owner (j ∷ is) inside = by (is_same_text j.name owner) refl (held_stay stays owner is (λ x x_in. inside x (there x_in))) where
        k : Celled l table j
        k = cell_at l table n path r h j (inside j here)

        of_register : (d c : Name) → k.cell.function ≡ flip_flop d c → j.name ≡ owner → after (pin_of owner d) ≡ before (pin_of owner d)
        of_register d c is named =
            let holds : is_register l j ≡ true = ap holds_bit k.found ∙ ap is_flip_flop is in
            let listed : In j.name (register_names l n) = In-map (λ (i : Instance). i.name) j (filter (is_register l) n.instances) (filter_in (is_register l) n.instances j (inside j here) holds) in
            let s = stage_named n l path h.scanned.stages h.scanned.are j.name (h.through.complete j.name listed) in
            let x = seated l table n path r h s.0 s.1 in
            let same : x.instance ≡ j = one_instance n.instances (names_before l table n path r h) x.instance j x.listed (inside j here) (x.named ∙ s.2.same) in
            let cells_same : x.cell ≡ k.cell = same_Some x.cell k.cell (sym x.found ∙ ap (λ (i : Instance). cell_of l i.model) same ∙ k.found) in
            let functions : flip_flop s.0.load x.clock ≡ flip_flop d c = sym x.is ∙ ap (λ (y : Cell). y.function) cells_same ∙ is in
            let datas : s.0.load ≡ d = cc functions in
            let owners : s.0.name ≡ owner = s.2.same ∙ named in
            let stayed = stays s.0 s.1 in
            subst (λ (o : List ℕ). after (pin_of o d) ≡ before (pin_of o d)) owners
            (subst (λ (p : Name). after (pin_of s.0.name p) ≡ before (pin_of s.0.name p)) datas stayed)

        cell_stays : j.name ≡ owner → cell_holds after owner (cell_of l j.model) ≡ cell_holds before owner (cell_of l j.model)
        cell_stays named = ap (cell_holds after owner) k.found ∙ of_cell k.cell.function refl ∙ sym (ap (cell_holds before owner) k.found) where
          of_cell : (f : Function) → k.cell.function ≡ f → loaded_by after owner f ≡ loaded_by before owner f
          of_cell (gate e) is = refl
          of_cell (flip_flop d c) is = ap (λ (x : Bool). x ∷ []) (of_register d c is named)
          of_cell (other m) is = refl
          of_cell opaque is = refl

        by : (x : Bool) → is_same_text j.name owner ≡ x → held_by l after is owner ≡ held_by l before is owner
            → (if x then cell_holds after owner (cell_of l j.model) else held_by l after is owner) ≡ (if x then cell_holds before owner (cell_of l j.model) else held_by l before is owner)
        by true e rest = cell_stays (text_same j.name owner e)
        by false e rest = rest

      -- ---- one cycle

      module _ (p q : Terminal → ℕ) (w v : Valuation) (old : AreBits l old_cycle n.ports n.instances before) (values : Values)
          (sc : bits (on_scin n) ≡ a) (te : bits (on_test n) ≡ b)
          (first : (t : Terminal) → In t (terminals n) → bits_of p w.classes t ≡ before t)
          (second : (t : Terminal) → In t (terminals r) → bits_of q v.classes t ≡ after t) where
        next_r : (owner : List ℕ) → net_next (netlist_by q r) l v owner ≡ held_by l after n.instances owner
        next_r owner =
            next_is l r q v owner r.instances made_r
            ∙ held_same l r.ports r.instances (bits_of q v.classes) after second owner r.instances (λ i i_in. i_in) made_r
            ∙ held_r owner

        next_n : (owner : List ℕ) → net_next (netlist_by p n) l w owner ≡ held_by l before n.instances owner
        next_n owner =
            next_is l n p w owner n.instances made_n
            ∙ held_same l n.ports n.instances (bits_of p w.classes) before first owner n.instances (λ i i_in. i_in) made_n

        out : (s : Stage) → In s h.scanned.stages → bits (gives n s) ≡ bit (held s.name) 0
        out s s_in = given_bit old s s_in

        scout_named : In scout (map (λ (x : Port). x.name) r.ports)
        scout_named = subst (λ (ps : List Port). In scout (map (λ (x : Port). x.name) ps)) (sym h.scanned.ports) (In-map (λ (x : Port). x.name) (out_port scout) (scan_ports n.ports) (scout_in n.ports))

        cycle : IsScanCycle l path (netlist_by p n) (netlist_by q r) a b held w v
        cycle = record {
          ports = λ name name_in.
              second (port name) (named_in r.ports r.instances name (named_kept name name_in)) ∙ ap bits (named_old name name_in) ∙ sym (first (port name) (named_in n.ports n.instances name name_in));
          normal = λ is owner. next_r owner ∙ held_stay ((fed_path values te out).stayed is) owner n.instances (λ i i_in. i_in) ∙ sym (next_n owner);
          shift = λ is.
              subst (λ (x : Bool). IsShifted x held (net_next (netlist_by q r) l v) path) sc
              ((fed_path values te out).shifted is (net_next (netlist_by q r) l v) (λ s s_in. next_r s.name ∙ takes_fed s s_in));
          out =
              second (port scout) (named_in r.ports r.instances scout scout_named)
              ∙ ap bits (told_port l table n path r h scout)
              ∙ (let none_before : 3 * length h.scanned.stages + 2 ≡ 3 * (0 + length h.scanned.stages) + 2 = omega arith in ap (λ (m : ℕ). bits (shown n m)) none_before)
              ∙ scout_bit values te path h.scanned.stages 0 (on_scin n) h.scanned.are out
              (λ g g_in. In-right g (first_gate n h.scanned.cells h.scanned.stages) (chain n h.scanned.cells 0 (on_scin n) h.scanned.stages) g_in)
              ∙ ap (λ (x : Bool). last_bit x held path) sc;
        }

  -- ---- both netlists

  module _ (p q : Terminal → ℕ) (p_is : (t : Terminal) (k : ℕ) → HasClass n t k → p t ≡ k) (q_is : (t : Terminal) (k : ℕ) → HasClass r t k → q t ≡ k)
      (inputs : List Name) (clock : Option Name) (held : Contents) (i : List Bool) (a b : Bool) (among : ArePorts (netlist_by p n) inputs clock) where
    abbrev old_y : Cycle
    old_y = old_cycle (λ k. false) inputs clock held i a b among.inputs_in among.clock_in

    abbrev new_y : Cycle
    new_y = new_cycle (λ k. false) inputs clock held i a b among.inputs_in among.clock_in

    among_n : AreAmong old_y n.ports
    among_n = record { inputs = among.inputs_in; clock = among.clock_in }

    among_r : AreAmong new_y r.ports
    among_r = record { inputs = λ name name_in. inside name name_in; clock = λ name is. named_kept name (among.clock_in name is) } where
      inside : (name : Name) → In name (scin ∷ test ∷ inputs) → In name (map (λ (x : Port). x.name) r.ports)
      inside name here = subst (λ (ps : List Port). In scin (map (λ (x : Port). x.name) ps)) (sym h.scanned.ports) (In-map (λ (x : Port). x.name) (in_port scin) (scan_ports n.ports) (scin_in n.ports))
      inside name (there here) = subst (λ (ps : List Port). In test (map (λ (x : Port). x.name) ps)) (sym h.scanned.ports) (In-map (λ (x : Port). x.name) (in_port test) (scan_ports n.ports) (test_in n.ports))
      inside name (there (there name_in)) = named_kept name (among.inputs_in name name_in)

    p_class : (t : Terminal) → In t (terminals n) → p t ≡ class_in n t
    p_class t t_in = let k = in_place t (terminals n) t_in in p_is t (class_in n t) (k.0, k.1, in_its table n h.sound h.met.fits k.0 t k.1)

    p_low : (t : Terminal) → In t (terminals n) → class_in n t < n.count
    p_low t t_in = let k = in_place t (terminals n) t_in in class_below n h.sound t (class_in n t) (k.0, k.1, in_its table n h.sound h.met.fits k.0 t k.1)

    q_has : (t : Terminal) → In t (terminals r) → HasClass r t (q t)
    q_has t t_in =
        let k = in_place t (terminals r) t_in in
        let its = in_its table r h.sound_after (fits_after l table n path r h) k.0 t k.1 in
        subst (λ (c : ℕ). HasClass r t c) (sym (q_is t (class_in r t) (k.0, k.1, its))) (k.0, k.1, its)

    q_low : (t : Terminal) → In t (terminals r) → q t < r.count
    q_low t t_in = class_below r h.sound_after t (q t) (q_has t t_in)

    q_told : (t u : Terminal) → In t (terminals r) → In u (terminals r) → (q t ≡ q u) ↔ (class t ≡ class u)
    q_told t u t_in u_in = h.scanned.classes t u (q t) (q u) (q_has t t_in) (q_has u u_in)

    -- ---- from the given netlist

    module _ (w : Valuation) (settled : NetSettles (netlist_by p n) l inputs clock held i w) where
      abbrev base : ℕ → Bool
      base = start n (bit w.classes) a b

      abbrev bits : ℕ → Bool
      bits = filled base (gs l table n path r h)

      low_bits : (k : ℕ) → k < n.count + 4 → bits k ≡ base k
      low_bits k low = filled_low n 0 (gs l table n path r h) base (climbs l table n path r h) k (omega (arith, low))

      first_forth : (t : Terminal) → In t (terminals n) → bits_of p w.classes t ≡ bits (class_in n t)
      first_forth t t_in =
          let low = p_low t t_in in
          ap (bit w.classes) (p_class t t_in) ∙ sym (start_old n (bit w.classes) a b (class_in n t) low) ∙ sym (low_bits (class_in n t) (omega (arith, low)))

      old_bits : AreBits l old_y n.ports n.instances (λ t. bits (class_in n t))
      old_bits = bits_same l old_y n.ports n.instances made_n among_n (bits_of p w.classes) (λ t. bits (class_in n t)) first_forth (bits_shown l old_y n p w settled)

      values_forth : (g : Gate) → In g (gs l table n path r h) → bits g.shows ≡ value_by g.cell.function (map bits g.reads)
      values_forth g g_in = filled_value n 0 (gs l table n path r h) base (climbs l table n path r h) g g_in

      sc_forth : bits (on_scin n) ≡ a
      sc_forth = low_bits (on_scin n) (omega arith) ∙ start_scin n (bit w.classes) a b

      te_forth : bits (on_test n) ≡ b
      te_forth = low_bits (on_test n) (omega arith) ∙ start_test n (bit w.classes) a b

      port_in : (name : Name) → list_any (λ (x : Port). is_same_name x.name name) n.ports ≡ true → In name (map (λ (x : Port). x.name) n.ports)
      port_in name e =
          let x = any_in (λ (y : Port). is_same_name y.name name) n.ports e in
          subst (λ (y : Name). In y (map (λ (z : Port). z.name) n.ports)) (same_name-true x.0.name name x.2) (In-map (λ (z : Port). z.name) x.0 n.ports x.1)

      supply_bit : (name : Name) (new : ℕ) (value : Bool) → (In name (map (λ (x : Port). x.name) n.ports) → bits (class_in n (port name)) ≡ value) → new < 4 → base (n.count + new) ≡ value
          → bits (on_supply n name new) ≡ value
      supply_bit name new value known low fresh = by (list_any (λ (x : Port). is_same_name x.name name) n.ports) refl where
        by : (x : Bool) → list_any (λ (y : Port). is_same_name y.name name) n.ports ≡ x → bits (if x then class_in n (port name) else n.count + new) ≡ value
        by true e = known (port_in name e)
        by false e = low_bits (n.count + new) (omega (arith, low)) ∙ fresh

      new_bits : AreBits l new_y r.ports r.instances (λ t. bits (class t))
      new_bits = to_after bits inputs clock held i a b among.inputs_in among.clock_in old_bits values_forth sc_forth te_forth
          (supply_bit vdd 2 true old_bits.high (omega arith) (start_vdd n (bit w.classes) a b)) (supply_bit vss 3 false old_bits.low (omega arith) (start_vss n (bit w.classes) a b))

      by_class : IsByClass (terminals r) q (λ t. bits (class t))
      by_class t u t_in u_in same = ap bits ((q_told t u t_in u_in).0 same)

      abbrev vs : List Bool
      vs = listed r.count (renumbered (terminals r) q (λ t. bits (class t)))

      second_forth : (t : Terminal) → In t (terminals r) → bits_of q vs t ≡ bits (class t)
      second_forth t t_in =
          bit-listed r.count (renumbered (terminals r) q (λ u. bits (class u))) (q t) (q_low t t_in) ∙ renumbered_bit (terminals r) q (λ u. bits (class u)) by_class t t_in

      pub forth : (v : Valuation) × NetSettles (netlist_by q r) l (scin ∷ test ∷ inputs) clock held (a ∷ b ∷ i) v × IsScanCycle l path (netlist_by p n) (netlist_by q r) a b held w v
      forth = (
        valuation_of vs,
        settles_by l new_y r q vs (length-listed r.count (renumbered (terminals r) q (λ t. bits (class t)))) made_r
            (bits_same l new_y r.ports r.instances made_r among_r (λ t. bits (class t)) (bits_of q vs) (λ t t_in. sym (second_forth t t_in)) new_bits),
        cycle bits inputs clock held i a b among.inputs_in among.clock_in p q w (valuation_of vs) old_bits values_forth sc_forth te_forth first_forth second_forth,
      )

    -- ---- and back

    module _ (v : Valuation) (settled : NetSettles (netlist_by q r) l (scin ∷ test ∷ inputs) clock held (a ∷ b ∷ i) v) where
      abbrev bits_back : ℕ → Bool
      bits_back = renumbered (terminals r) (told l table n path r h) (bits_of q v.classes)

      second_back : (t : Terminal) → In t (terminals r) → bits_of q v.classes t ≡ bits_back (class t)
      second_back t t_in =
          sym (renumbered_bit (terminals r) (told l table n path r h) (bits_of q v.classes) (λ x y x_in y_in same. ap (bit v.classes) ((q_told x y x_in y_in).1 same)) t t_in)

      new_back : AreBits l new_y r.ports r.instances (λ t. bits_back (class t))
      new_back = bits_same l new_y r.ports r.instances made_r among_r (bits_of q v.classes) (λ t. bits_back (class t)) second_back (bits_shown l new_y r q v settled)

      old_back_bits : AreBits l old_y n.ports n.instances (λ t. bits_back (class_in n t))
      old_back_bits = to_before bits_back inputs clock held i a b among.inputs_in among.clock_in new_back

      values_back : (g : Gate) → In g (gs l table n path r h) → bits_back g.shows ≡ value_by g.cell.function (map bits_back g.reads)
      values_back = values_of bits_back inputs clock held i a b among.inputs_in among.clock_in new_back

      given_inputs : bits_back (class (port scin)) ∷ bits_back (class (port test)) ∷ map (λ name. bits_back (class (port name))) inputs ≡ a ∷ b ∷ i
      given_inputs = new_back.inputs

      sc_back : bits_back (on_scin n) ≡ a
      sc_back = let one : bits_back (class (port scin)) ≡ a = cc given_inputs in ap bits_back (sym (told_port l table n path r h scin)) ∙ one

      te_back : bits_back (on_test n) ≡ b
      te_back = let one : bits_back (class (port test)) ≡ b = cc given_inputs in ap bits_back (sym (told_port l table n path r h test)) ∙ one

      abbrev ws : List Bool
      ws = listed n.count bits_back

      first_back : (t : Terminal) → In t (terminals n) → bits_of p ws t ≡ bits_back (class_in n t)
      first_back t t_in = ap (bit ws) (p_class t t_in) ∙ bit-listed n.count bits_back (class_in n t) (p_low t t_in)

      pub back : (w : Valuation) × NetSettles (netlist_by p n) l inputs clock held i w × IsScanCycle l path (netlist_by p n) (netlist_by q r) a b held w v
      back = (
        valuation_of ws,
        settles_by l old_y n p ws (length-listed n.count bits_back) made_n
            (bits_same l old_y n.ports n.instances made_n among_n (λ t. bits_back (class_in n t)) (bits_of p ws) (λ t t_in. sym (first_back t t_in)) old_back_bits),
        cycle bits_back inputs clock held i a b among.inputs_in among.clock_in p q (valuation_of ws) v old_back_bits values_back sc_back te_back first_back second_back,
      )

  pub scans : (p q : Terminal → ℕ) → ((t : Terminal) (k : ℕ) → HasClass n t k → p t ≡ k) → ((t : Terminal) (k : ℕ) → HasClass r t k → q t ≡ k)
      → Scans l path (netlist_by p n) (netlist_by q r)
  scans p q p_is q_is = record {
    forth = λ inputs clock held i a b w among settled. forth p q p_is q_is inputs clock held i a b among w settled;
    back = λ inputs clock held i a b v among settled. back p q p_is q_is inputs clock held i a b among v settled;
  }

pub scanned_scans : ScannedScans
scanned_scans l table n path r y x h seen_y seen_x =
    subst (λ (k : AbstractNetlist). Scans l path k x) (sym seen_y.is)
    (subst (λ (k : AbstractNetlist). Scans l path (netlist_by y.class n) k) (sym seen_x.is)
    (scans l table n path r h y.class x.class seen_y.classes.each seen_x.classes.each))
