-- A mapped netlist with buffers and drives stands in order, and is as lean as it was.
use Rattle.std.proofs.Common.{◌≡◌, inr, ℕ, ◌+◌, ◌<◌, ◌≤◌, not, false, List, map, filter, length, Some, sym, ◌∙◌, ap, subst, arith}
use Rattle.std.specs.Prelude.{count_by}
use Rattle.std.proofs.lemmas.Option.{same_Some}
use Rattle.vlsi_base.specs.declared.name.Name.{Name}
use Rattle.vlsi_base.specs.declared.name.Port.{Port}
use Rattle.vlsi_base.specs.Member.{In}
use Rattle.machine_core.specs.Machine.{Machine, is_input, names_of}
use Rattle.machine_core.specs.Size.{machine_size}
use Rattle.machine_core.specs.Checked.{IsChecked}
use Rattle.cell_model.specs.Cell.{Cell, pin_ports}
use Rattle.cell_model.specs.Library.{Library, cell_of}
use Rattle.cell_model.proofs.Members.{In-map_back}
use Rattle.cell_checks.specs.Checked.{IsChecked as HasPassed}
use Rattle.net_core.specs.Places.{Stands, IsThere}
use Rattle.net_core.specs.Netlist.{Instance, Netlist, IsNetlist, terminals}
use Rattle.net_core.proofs.Frames.{mapped, unmapped}
use Rattle.net_meaning.specs.Netlist.{Member, AbstractNetlist as Seen, pin_of}
use Rattle.net_meaning.specs.Well.{Has, gate_instance}
use Rattle.net_meaning.specs.Buffers.{AreOne, alike}
use Rattle.net_theory.proofs.Basics.{In-names}
use Rattle.net_right.specs.View.{member_of, IsSeenAs}
use Rattle.net_right.proofs.Lists.{in_place}
use Rattle.net_right.proofs.Places.{pin_there}
use Rattle.net_right.proofs.Ports.{names_to}
use Rattle.net_right.proofs.Terminals.{seen_instances}
use Rattle.net_right.proofs.Seen.{right_member}
use Rattle.net_meaning.specs.Order.{Reads, IsInNetlistOrder, begins_with_g, IsLean}
use Rattle.loon_buffer.specs.Drives.{IsChosenFor}
use Rattle.loon_drive.specs.Driven.{IsDrivenFrom}
use Rattle.loon_drive.specs.Laws.{IsGrown, DrivenIsGrown, DrivenIsChosen, DrivenJoinsNothing}
use Rattle.boog_run.specs.Boog.{IsNetlistFor}
use Rattle.boog_run.proofs.Naming.{same_names}
use Rattle.flow_netlist.proofs.Names.{names_by, names_behind, gate_is_old, gates_same, counted_by_name}
use Rattle.flow_netlist.proofs.Mapped.{in_order, names_are, no_buffer_names, of_cells}

names_seen : (n : Netlist) (k : Seen) → IsSeenAs n k → map (λ (i : Member). i.name) k.instances ≡ map (λ (i : Instance). i.name) n.instances
names_seen n k seen = ap (λ (ms : List Member). map (λ (i : Member). i.name) ms) (seen_instances n k seen) ∙ sym (same_names n.instances)

-- the mapped instance that a gate was, and its cell
record WasGate (l : Library) (n : Netlist) (i : Member) (c : Cell) : Type 0 where
  pub old : Instance
  pub listed : IsThere n.instances old
  pub name : old.name ≡ i.name
  pub was : Cell
  pub found : cell_of l old.model ≡ Some was
  pub same : pin_ports c ≡ pin_ports was

new_name : (new : Instance) (i : Member) (number : ℕ) → member_of new ≡ i → i.name ≡ gate_instance number → new.name ≡ gate_instance number
new_name new i number is named = ap (λ (z : Member). z.name) is ∙ named

was_by : (l : Library) (n : Netlist) (i : Member) (c : Cell) (number place : ℕ) (old new : Instance) → Stands n.instances place old → old.name ≡ gate_instance number
    → i.name ≡ gate_instance number → member_of new ≡ i → cell_of l i.model ≡ Some c → (ch : IsChosenFor l old new) → WasGate l n i c
was_by l n i c number place old new stood old_named named is found ch = record {
  old = old;
  listed = (place, stood);
  name = old_named ∙ sym named;
  was = ch.was;
  found = ch.found;
  same = subst (λ (z : Cell). pin_ports z ≡ pin_ports ch.was) now ch.drive.pins;
} where
  now : ch.now ≡ c
  now = same_Some ch.now c (sym ch.listed ∙ ap (λ (z : Member). cell_of l z.model) is ∙ found)

module _ (l : Library) (m : Machine) (n k : Netlist) (fanout delay : ℕ) (mapped_for : IsNetlistFor l m n) (made : IsDrivenFrom n l fanout k delay) (grown : DrivenIsGrown) where
  abbrev growth : IsGrown n k
  growth = grown n l fanout k delay made

  pub all_names : map (λ (i : Instance). i.name) k.instances ≡ names_by (length m.registers) (in_order l m n mapped_for).gates growth.buffers
  all_names =
      names_behind (length m.registers) (in_order l m n mapped_for).gates growth.buffers (map (λ (i : Instance). i.name) n.instances) (map (λ (i : Instance). i.name) k.instances)
      (names_are l m n mapped_for) growth.names

  module _ (y : Seen) (seen : IsSeenAs k y) where
    -- ---- it is lean

    pub is_lean : IsLean y m
    is_lean = record { gates = few } where
      known : Seen
      known = mapped_for.right.sourced.netlist

      few : count_by (λ (i : Member). begins_with_g i.name) y.instances ≤ machine_size m + 2
      few =
          let now = counted_by_name (λ (i : Member). i.name) y.instances ∙ ap (λ (ts : List (List ℕ)). count_by begins_with_g ts) (names_seen k y seen) in
          let same = gates_same (length m.registers) (in_order l m n mapped_for).gates growth.buffers (map (λ (i : Instance). i.name) n.instances)
          (map (λ (i : Instance). i.name) k.instances) (names_are l m n mapped_for) growth.names in
          let old = counted_by_name (λ (i : Member). i.name) known.instances ∙ ap (λ (ts : List (List ℕ)). count_by begins_with_g ts) (names_seen n known mapped_for.right.seen) in
          let lean = (mapped_for.lean known mapped_for.right.seen).gates in
          omega (arith, now, same, old, lean)

    -- ---- it stands in order

    module _ (passed : HasPassed false l) (checked : IsChecked m) (sound : IsNetlist k) (chosen : DrivenIsChosen) (joins : DrivenJoinsNothing) where
      was_gate : (i : Member) (c : Cell) (x : ℕ) → Has y l i c → i.name ≡ gate_instance x → WasGate l n i c
      was_gate i c x has named =
          let r = In-map_back member_of i k.instances (subst (λ (ms : List Member). In i ms) (seen_instances k y seen) has.listed) in
          let at = in_place r.0 k.instances r.1 in
          let old = stood at.0 x r.0 at.1 (new_name r.0 i x r.2 named) in
          was_by l n i c x at.0 old.0 r.0 old.1 old.2 named r.2 has.found (chosen n l fanout k delay at.0 old.0 r.0 made old.1 at.1)
        where
          -- it stood at the same place
          stood : (place number : ℕ) (new : Instance) → Stands k.instances place new → new.name ≡ gate_instance number
              → (old : Instance) × Stands n.instances place old × (old.name ≡ gate_instance number)
          stood place number new at is =
              unmapped (λ (z : Instance). z.name) n.instances place (gate_instance number)
              (gate_is_old (length m.registers) (in_order l m n mapped_for).gates growth.buffers (map (λ (z : Instance). z.name) n.instances)
              (map (λ (z : Instance). z.name) k.instances) place number (names_are l m n mapped_for) growth.names
              (subst (λ (t : List ℕ). Stands (map (λ (z : Instance). z.name) k.instances) place t) is (mapped (λ (z : Instance). z.name) k.instances place new at)))

      -- its pins were there
      pin_was : (i : Member) (c : Cell) (g : WasGate l n i c) (name : Name) → In name (names_of (pin_ports c)) → IsThere (terminals n) (pin_of g.old.name name)
      pin_was i c g name is =
          let among : In name (names_of (pin_ports g.was)) = subst (λ (ps : List Port). In name (names_of ps)) g.same is in
          pin_there n g.old name g.listed (in_place name g.old.pins
          (subst (λ (ns : List Name). In name ns) (sym (mapped_for.pins g.old g.was g.listed g.found)) (names_to (pin_ports g.was) name (inr (inr among)))))

      had : (i : Member) (c : Cell) (g : WasGate l n i c) → Has mapped_for.right.sourced.netlist l (member_of g.old) g.was
      had i c g = record { listed = right_member n l m mapped_for.right g.old g.listed; found = g.found }

      after : (a b : ℕ) → Reads y l a b → b < a
      after a b r = (in_order l m n mapped_for).after a b (record {
        reader = member_of reader.old;
        read = member_of read.old;
        reader_cell = reader.was;
        read_cell = read.was;
        has_reader = had r.reader r.reader_cell reader;
        has_read = had r.read r.read_cell read;
        reader_name = reader.name ∙ r.reader_name;
        read_name = read.name ∙ r.read_name;
        input = r.input;
        output = r.output;
        is_input = subst (λ (ps : List Port). In r.input (names_of (filter (λ p. is_input p.dir) ps))) reader.same r.is_input;
        is_output = subst (λ (ps : List Port). In r.output (names_of (filter (λ p. not (is_input p.dir)) ps))) read.same r.is_output;
        joined = subst (λ (class : ℕ). AreOne known l (known.class (pin_of reader.old.name r.input)) class) one alike;
      }) where
        known : Seen
        known = mapped_for.right.sourced.netlist

        reader : WasGate l n r.reader r.reader_cell
        reader = was_gate r.reader r.reader_cell a r.has_reader r.reader_name

        read : WasGate l n r.read r.read_cell
        read = was_gate r.read r.read_cell b r.has_read r.read_name

        tied : AreOne y l (y.class (pin_of reader.old.name r.input)) (y.class (pin_of read.old.name r.output))
        tied =
            subst (λ (t : List ℕ). AreOne y l (y.class (pin_of t r.input)) (y.class (pin_of read.old.name r.output))) (sym reader.name)
            (subst (λ (t : List ℕ). AreOne y l (y.class (pin_of r.reader.name r.input)) (y.class (pin_of t r.output))) (sym read.name) r.joined)

        one : known.class (pin_of reader.old.name r.input) ≡ known.class (pin_of read.old.name r.output)
        one =
            joins n l fanout k delay known y passed mapped_for.sound sound (of_cells l m n mapped_for checked) (no_buffer_names l m n mapped_for) made mapped_for.right.seen seen
            (pin_of reader.old.name r.input) (pin_of read.old.name r.output)
            (pin_was r.reader r.reader_cell reader r.input (In-names (λ p. is_input p.dir) (pin_ports r.reader_cell) r.input r.is_input))
            (pin_was r.read r.read_cell read r.output (In-names (λ p. not (is_input p.dir)) (pin_ports r.read_cell) r.output r.is_output))
            tied

      pub stands_in_order : (buffers : ℕ) × IsInNetlistOrder y l m buffers
      stands_in_order =
          let order : IsInNetlistOrder y l m growth.buffers =
          record { gates = (in_order l m n mapped_for).gates; names = names_seen k y seen ∙ all_names; after = after } in
          (growth.buffers, order)
