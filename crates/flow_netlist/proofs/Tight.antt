-- Where a netlist for a machine has no buffer, it is the mapped one but for drives of cells, and so it is as tight.
use Rattle.std.proofs.Common.{◌≡◌, ◌↔◌, inr, ℕ, zero, suc, ◌<◌, List, [], ◌∷◌, ◌++◌, map, length, codes, Some, refl, sym, ◌∙◌, ap, ap₂, subst, arith, append-nil, length-append}
use Rattle.std.specs.List.{All, flat_map}
use Rattle.std.proofs.lemmas.Option.{same_Some, slice_get_within}
use Rattle.vlsi_base.specs.declared.name.Name.{Name}
use Rattle.vlsi_base.specs.declared.name.Port.{Port}
use Rattle.vlsi_base.specs.declared.name.Terminal.{Terminal}
use Rattle.vlsi_base.specs.Member.{In, here}
use Rattle.machine_core.specs.Machine.{Machine}
use Rattle.cell_model.specs.Access.{count_to}
use Rattle.cell_model.specs.Cell.{Function, gate, flip_flop, other, opaque, Cell, pin_ports}
use Rattle.cell_model.specs.Library.{Library, cell_of}
use Rattle.cell_model.proofs.Members.{All-In, In-right, In-map, In-map_back}
use Rattle.cell_pins.proofs.Sound.{member_at}
use Rattle.net_core.specs.Places.{Stands, IsThere}
use Rattle.net_core.specs.Netlist.{Instance, Netlist, IsNetlist, port, pin_of, pins_of, terminals, terminals_of, HasClass}
use Rattle.net_core.proofs.Finishing.{netlist_terminals_once}
use Rattle.net_core.proofs.Frames.{mapped}
use Rattle.net_core.proofs.Rings.{at_place}
use Rattle.net_meaning.specs.Netlist.{Member, AbstractNetlist as Seen}
use Rattle.net_meaning.specs.Well.{Has, buffer_instance}
use Rattle.net_theory.specs.Exchanges.{IsSameFunction, IsDrive}
use Rattle.net_theory.proofs.Basics.{length-map}
use Rattle.net_right.specs.View.{member_of, IsSeenAs}
use Rattle.net_right.proofs.Lists.{in_place}
use Rattle.net_right.proofs.Places.{port_there, pin_there}
use Rattle.net_right.proofs.Ports.{names_to}
use Rattle.net_right.proofs.Seen.{seen_class}
use Rattle.net_right.proofs.Terminals.{seen_ports, seen_instances}
use Rattle.net_tight.specs.Tight.{IsTight}
use Rattle.net_tight.specs.Alike.{IsSignalTerminal, a_port, a_pin, HasDrive, AreAlike, TightnessIsKept}
use Rattle.text_names.specs.Free.{free_texts}
use Rattle.loon_wiring.specs.Repeaters.{Repeater, IsRepeater, buffer, inverters}
use Rattle.loon_buffer.specs.Drives.{IsChosenFor}
use Rattle.loon_fanout.specs.Sinks.{Wired, sinks, wired_of}
use Rattle.loon_fanout.specs.Limited.{AreGroups, last, next, Row, IsLimited, within, round, IsBuffered}
use Rattle.loon_fanout.specs.Laws.{gate_named, LimitedStaysBeside}
use Rattle.loon_fanout.specs.Nets.{HasNoBuffer}
use Rattle.loon_fanout.proofs.Terminals.{class_is}
use Rattle.loon_drive.specs.Driven.{most_sinks, IsDrivenFrom}
use Rattle.loon_drive.specs.Laws.{IsGrown, DrivenIsGrown, DrivenIsChosen}
use Rattle.boog_run.specs.Boog.{IsNetlistFor}
use Rattle.flow_netlist.proofs.Names.{names_by, registers_named, gates_named, buffers_named}
use Rattle.flow_netlist.proofs.Mapped.{in_order}
use Rattle.flow_netlist.proofs.Order.{all_names}

-- ---- rounds put gates in

no_groups : {A : Type 0} (size : ℕ) (xs : List A) (groups : List (List A)) → AreGroups size xs groups → groups ≡ [] → ⊥
no_groups size _ _ (last some few) none = absurd (cc none)
no_groups size _ _ (next long rest) none = absurd (cc none)

some_gates : (cells : List Cell) (b : Repeater) → IsRepeater cells b → 0 < b.gates
some_gates cells _ (buffer first) = omega arith
some_gates cells _ (inverters none first) = omega arith

put_in : (gates : ℕ) (rows : List Row) (later : List (List ℕ)) → 0 < gates → All (λ r. length r.names ≡ gates) rows → (map (λ (r : Row). r.group) rows ≡ [] → ⊥)
    → flat_map (λ (r : Row). r.names) rows ++ later ≡ [] → ⊥
put_in gates [] later some many groups none = groups refl
put_in gates (row ∷ rows) later some many groups none =
    let one : length row.names ≡ gates = All-In (λ (r : Row). length r.names ≡ gates) (row ∷ rows) many row here in
    let inner = length-append row.names (flat_map (λ (r : Row). r.names) rows) in
    let outer = length-append (row.names ++ flat_map (λ (r : Row). r.names) rows) later in
    let all = ap (λ (names : List (List ℕ)). length names) none in
    omega (arith, some, one, inner, outer, all)

nothing_put : (l : Library) (limit : ℕ) (b : Repeater) (names : List (List ℕ)) (n k : Wired) → ((class : ℕ) → limit < length (sinks l n class) → 0 < b.gates) → names ≡ []
    → IsLimited l limit b names n k → k ≡ n
nothing_put l limit b _ n _ some none (within few) = refl
nothing_put l limit b _ n k some none (round {later = later} class rows large earlier groups many rest) =
    absurd (put_in b.gates rows later (some class large) many (no_groups limit (sinks l n class) (map (λ (r : Row). r.group) rows) groups) none)

no_names : (names : List (List ℕ)) → length names ≡ 0 → names ≡ []
no_names [] e = refl
no_names (name ∷ names) e = absurd (omega (arith, e))

-- ---- instances, one by one

same_pins : (is js : List Instance) → length js ≡ length is → ((place : ℕ) (i j : Instance) → Stands is place i → Stands js place j → pins_of j ≡ pins_of i)
    → flat_map pins_of js ≡ flat_map pins_of is
same_pins [] [] many each = refl
same_pins [] (j ∷ js) many each = absurd (omega (arith, many))
same_pins (i ∷ is) [] many each = absurd (omega (arith, many))
same_pins (i ∷ is) (j ∷ js) many each =
    ap₂ (λ (a b : List Terminal). a ++ b) (each 0 i j refl refl) (same_pins is js (omega (arith, many)) (λ place a b p q. each (suc place) a b p q))

turned : (f g : Function) → IsSameFunction f g → IsSameFunction g f
turned (gate e) (gate x) same = λ w. sym (same w)
turned (gate e) (flip_flop b j) same = absurd same
turned (gate e) (other m) same = absurd same
turned (gate e) opaque same = absurd same
turned (flip_flop d k) (flip_flop b j) same = (sym same.0, sym same.1)
turned (flip_flop d k) (gate x) same = absurd same
turned (flip_flop d k) (other m) same = absurd same
turned (flip_flop d k) opaque same = absurd same
turned (other m) g same = absurd same
turned opaque g same = absurd same

drive_back : (c d : Cell) → IsDrive c d → IsDrive d c
drive_back c d drive = record { pins = sym drive.pins; function = turned c.function d.function drive.function }

-- ---- without buffers

module _ (l : Library) (m : Machine) (n k : Netlist) (fanout delay : ℕ) (mapped_for : IsNetlistFor l m n) (made : IsDrivenFrom n l fanout k delay) (sound : IsNetlist k)
    (beside : LimitedStaysBeside) (grown : DrivenIsGrown) (chosen : DrivenIsChosen) (y : Seen) (seen : IsSeenAs k y) (none : HasNoBuffer y) where
  abbrev x : Seen
  x = mapped_for.right.sourced.netlist

  abbrev seen_x : IsSeenAs n x
  seen_x = mapped_for.right.seen

  abbrev growth : IsGrown n k
  growth = grown n l fanout k delay made

  abbrev buffered : IsBuffered n l (most_sinks fanout) made.buffered
  buffered = made.is_buffered

  listed : (j : Instance) → In j k.instances → In (member_of j) y.instances
  listed j at = subst (λ (ms : List Member). In (member_of j) ms) (sym (seen_instances k y seen)) (In-map member_of j k.instances at)

  -- the last of some buffers would have such a name
  no_buffers : (many : ℕ) → map (λ (i : Instance). i.name) k.instances ≡ names_by (length m.registers) (in_order l m n mapped_for).gates many → many ≡ 0
  no_buffers zero names = refl
  no_buffers (suc many) names =
      let r = length m.registers in
      let g = (in_order l m n mapped_for).gates in
      let last_one = In-map buffer_instance many (count_to (suc many)) (In-right many (count_to many) (many ∷ []) here) in
      let named : In (buffer_instance many) (names_by r g (suc many)) =
      In-right (buffer_instance many) (registers_named r) (gates_named g ++ buffers_named (suc many))
      (In-right (buffer_instance many) (gates_named g) (buffers_named (suc many)) last_one) in
      let j = In-map_back (λ (i : Instance). i.name) (buffer_instance many) k.instances (subst (λ (ts : List (List ℕ)). In (buffer_instance many) ts) (sym names) named) in
      absurd (none (member_of j.0) many (listed j.0 j.1) j.2)

  same_many : length k.instances ≡ length n.instances
  same_many =
      let many : growth.buffers ≡ 0 = no_buffers growth.buffers (all_names l m n k fanout delay mapped_for made grown) in
      let old = map (λ (i : Instance). i.name) n.instances in
      let names : map (λ (i : Instance). i.name) k.instances ≡ old ++ [] = growth.names ∙ ap (λ (b : ℕ). old ++ free_texts (codes "b") old b) many in
      let a = length-map (λ (i : Instance). i.name) k.instances in
      let b = length-map (λ (i : Instance). i.name) n.instances in
      let c = ap (λ (ts : List (List ℕ)). length ts) (names ∙ append-nil old) in
      omega (arith, a, b, c)

  unchanged : buffered.wired ≡ wired_of n
  unchanged =
      let all = buffered.is.instances ∙ (beside l (most_sinks fanout) buffered.repeater buffered.names (wired_of n) buffered.wired buffered.limited).instances in
      let long = ap (λ (is : List Instance). length is) all in
      let sum = length-append n.instances (map (gate_named buffered.repeater.cell) buffered.names) in
      let gates = length-map (gate_named buffered.repeater.cell) buffered.names in
      let exchanged = made.exchanged.many in
      let same = same_many in
      nothing_put l (most_sinks fanout) buffered.repeater buffered.names (wired_of n) buffered.wired (λ class large. some_gates l.cells buffered.repeater (buffered.chosen (class, large)))
      (no_names buffered.names (omega (arith, long, sum, gates, exchanged, same))) buffered.limited

  -- ---- terminals and their classes

  chosen_at : (place : ℕ) (i j : Instance) → Stands n.instances place i → Stands k.instances place j → IsChosenFor l i j
  chosen_at place i j was now = chosen n l fanout k delay place i j made was now

  terminals_of_k : terminals k ≡ terminals n
  terminals_of_k =
      ap (λ (ps : List Port). terminals_of ps k.instances) growth.ports
      ∙ ap (λ (ts : List Terminal). map (λ (p : Port). port p.name) n.ports ++ ts)
      (same_pins n.instances k.instances same_many (λ place i j was now. ap pins_of (chosen_at place i j was now).same))

  terminals_of_buffered : terminals made.buffered ≡ terminals n
  terminals_of_buffered =
      ap₂ (λ (ps : List Port) (is : List Instance). terminals_of ps is) (buffered.is.ports ∙ ap (λ (w : Wired). w.ports) unchanged)
      (buffered.is.instances ∙ ap (λ (w : Wired). w.instances) unchanged)

  abbrev HasClassIn : List Terminal → List ℕ → Terminal → ℕ → Type 0
  HasClassIn ts cs t c = (place : ℕ) × Stands ts place t × Stands cs place c

  in_buffered : (t : Terminal) → IsThere (terminals n) t → HasClass made.buffered t (y.class t)
  in_buffered t at =
      let now = seen_class k y sound seen t (subst (λ (ts : List Terminal). IsThere ts t) (sym terminals_of_k) at) in
      subst (λ (ts : List Terminal). HasClassIn ts made.buffered.classes t (y.class t)) (terminals_of_k ∙ sym terminals_of_buffered)
      (subst (λ (cs : List ℕ). HasClassIn (terminals k) cs t (y.class t)) (ap (λ (z : Netlist). z.classes) made.exchanged.now) now)

  class_of_x : (t : Terminal) → IsThere (terminals n) t → (wired_of n).class t ≡ x.class t
  class_of_x t at =
      let h = seen_class n x mapped_for.sound seen_x t at in
      class_is (terminals n) n.classes t h.0 (x.class t) (netlist_terminals_once n mapped_for.sound) h.1 h.2

  same_classes : (t u : Terminal) → IsThere (terminals n) t → IsThere (terminals n) u → (x.class t ≡ x.class u) ↔ (y.class t ≡ y.class u)
  same_classes t u t_in u_in =
      let of = buffered.is.classes t u (y.class t) (y.class u) (in_buffered t t_in) (in_buffered u u_in) in
      let old : (v : Terminal) → IsThere (terminals n) v → buffered.wired.class v ≡ x.class v =
      λ v v_in. ap (λ (w : Wired). w.class v) unchanged ∙ class_of_x v v_in in (
        λ same. of.1 (old t t_in ∙ same ∙ sym (old u u_in)),
        λ same. sym (old t t_in) ∙ of.0 same ∙ old u u_in,
      )

  there_in : (t : Terminal) → IsSignalTerminal x l t → IsThere (terminals n) t
  there_in _ (a_port {name = name} at) =
      let p = In-map_back (λ (q : Port). q.name) name n.ports (subst (λ (ns : List Name). In name ns) (seen_ports n x seen_x) at) in
      subst (λ (z : Name). IsThere (terminals n) (port z)) p.2 (port_there n p.0 (in_place p.0 n.ports p.1))
  there_in _ (a_pin {name = name} i c has at) =
      let r = In-map_back member_of i n.instances (subst (λ (ms : List Member). In i ms) (seen_instances n x seen_x) has.listed) in
      let found : cell_of l r.0.model ≡ Some c = ap (λ (z : Member). cell_of l z.model) r.2 ∙ has.found in
      let is = in_place r.0 n.instances r.1 in
      let pins = mapped_for.pins r.0 c is found in
      let pin = in_place name r.0.pins (subst (λ (ns : List Name). In name ns) (sym pins) (names_to (pin_ports c) name (inr (inr at)))) in
      subst (λ (owner : List ℕ). IsThere (terminals n) (pin_of owner name)) (ap (λ (z : Member). z.name) r.2) (pin_there n r.0 name is pin)

  -- ---- instances

  forth : (i : Member) (c : Cell) → Has x l i c → HasDrive y l i.name c
  forth i c has =
      let r = In-map_back member_of i n.instances (subst (λ (ms : List Member). In i ms) (seen_instances n x seen_x) has.listed) in
      let was = in_place r.0 n.instances r.1 in
      let within_n = slice_get_within n.instances was.0 r.0 was.1 in
      let same = same_many in
      let now = at_place k.instances was.0 (omega (arith, within_n, same)) in
      let ch = chosen_at was.0 r.0 now.0 was.1 now.1 in
      let cell : ch.was ≡ c = same_Some ch.was c (sym ch.found ∙ ap (λ (z : Member). cell_of l z.model) r.2 ∙ has.found) in
      record {
        member = member_of now.0;
        cell = ch.now;
        has = record { listed = listed now.0 (member_at k.instances was.0 now.0 now.1); found = ch.listed };
        named = ap (λ (z : Instance). z.name) ch.same ∙ ap (λ (z : Member). z.name) r.2;
        drive = subst (λ (d : Cell). IsDrive d ch.now) cell ch.drive;
      }

  back : (i : Member) (c : Cell) → Has y l i c → HasDrive x l i.name c
  back i c has =
      let r = In-map_back member_of i k.instances (subst (λ (ms : List Member). In i ms) (seen_instances k y seen) has.listed) in
      let now = in_place r.0 k.instances r.1 in
      let within_k = slice_get_within k.instances now.0 r.0 now.1 in
      let same = same_many in
      let was = at_place n.instances now.0 (omega (arith, within_k, same)) in
      let ch = chosen_at now.0 was.0 r.0 was.1 now.1 in
      let cell : ch.now ≡ c = same_Some ch.now c (sym ch.listed ∙ ap (λ (z : Member). cell_of l z.model) r.2 ∙ has.found) in
      let there_x = In-map member_of was.0 n.instances (member_at n.instances now.0 was.0 was.1) in
      record {
        member = member_of was.0;
        cell = ch.was;
        has = record { listed = subst (λ (ms : List Member). In (member_of was.0) ms) (sym (seen_instances n x seen_x)) there_x; found = ch.found };
        named = sym (ap (λ (z : Instance). z.name) ch.same) ∙ ap (λ (z : Member). z.name) r.2;
        drive = subst (λ (d : Cell). IsDrive d ch.was) cell (drive_back ch.was ch.now ch.drive);
      }

  once : (i j : Member) → In i y.instances → In j y.instances → i.name ≡ j.name → i ≡ j
  once i j i_in j_in same =
      let p = In-map_back member_of i k.instances (subst (λ (ms : List Member). In i ms) (seen_instances k y seen) i_in) in
      let q = In-map_back member_of j k.instances (subst (λ (ms : List Member). In j ms) (seen_instances k y seen) j_in) in
      let at_p = in_place p.0 k.instances p.1 in
      let at_q = in_place q.0 k.instances q.1 in
      let name_of : Instance → List ℕ = λ z. z.name in
      let names : q.0.name ≡ p.0.name = ap (λ (z : Member). z.name) q.2 ∙ sym same ∙ sym (ap (λ (z : Member). z.name) p.2) in
      let place : at_p.0 ≡ at_q.0 =
      sound.names at_p.0 at_q.0 p.0.name (mapped name_of k.instances at_p.0 p.0 at_p.1)
      (subst (λ (t : List ℕ). Stands (map name_of k.instances) at_q.0 t) names (mapped name_of k.instances at_q.0 q.0 at_q.1)) in
      let one : p.0 ≡ q.0 = same_Some p.0 q.0 (sym at_p.1 ∙ subst (λ (z : ℕ). Stands k.instances z q.0) (sym place) at_q.1) in
      sym p.2 ∙ ap member_of one ∙ q.2

  alike : AreAlike l x y
  alike = record {
    ports = seen_ports k y seen ∙ ap (λ (ps : List Port). map (λ p. p.name) ps) growth.ports ∙ sym (seen_ports n x seen_x);
    forth = forth;
    back = back;
    once = once;
    classes = λ t u t_is u_is. same_classes t u (there_in t t_is) (there_in u u_is);
  }

  pub is_tight : TightnessIsKept → IsTight y l
  is_tight law = law l x y alike (mapped_for.tight x seen_x)
