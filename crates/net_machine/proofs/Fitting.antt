-- The bits of a netlist fit its ports.
use Rattle.std.proofs.Common.{◌≡◌, ◌≢◌, ◌⊎◌, inl, inr, ℕ, zero, suc, ◌+◌, ◌-◌, ◌<◌, ◌≤◌, Bool, true, false, cond, not, ◌&&◌, List, [], ◌∷◌, ◌++◌, map, length, get_or, filter, Option, None, Some, refl, sym, ap, ◌∙◌, subst, arith}
use Rattle.std.specs.Prelude.{bytes_eq, codes, ◌||◌}
use Rattle.std.specs.Ordering.{nat_cmp, ordering_then, ordering_reverse}
use Rattle.std.specs.Cmp.Lexicographic.{slice_cmp}
use Rattle.std.specs.declared.cmp.Ordering.{Ordering}
use Rattle.std.specs.declared.cmp.Ordering.TheVariants.{Less, Equal, Greater}
use Rattle.std.proofs.lemmas.List.{length-map, map-append}
use Rattle.std.proofs.lemmas.List.Kept.{AllPairs-cons}
use Rattle.std.proofs.lemmas.Bool.Decides.{nat_tests}
use Rattle.std.proofs.lemmas.Cmp.{nat_cmp_total, lists_total}
use Rattle.vlsi_base.specs.declared.name.Name.{Name}
use Rattle.vlsi_base.specs.declared.name.Port.{Port}
use Rattle.vlsi_base.specs.declared.name.Dir.{Dir}
use Rattle.vlsi_base.specs.declared.name.Dir.TheVariants as dir
use Rattle.vlsi_base.specs.Range.{rising}
use Rattle.vlsi_base.specs.Name.{name_cmp, is_supply}
use Rattle.vlsi_base.specs.Names.{vdd, vss, scalar}
use Rattle.vlsi_base.specs.Member.{In, here, there}
use Rattle.machine_core.specs.Named.{is_same_name}
use Rattle.machine_core.specs.Machine.{Register, is_input, is_clock, names_of}
use Rattle.machine_core.specs.Checked.{AreInOrder, IsNoSupply}
use Rattle.machine_core.proofs.Names.{same_name-itself, same_name-false}
use Rattle.machine_core.proofs.Values.{In-split, In-left, In-right, In-map}
use Rattle.source_bits.specs.Driven.{Numbered}
use Rattle.vlsi_model.specs.Numbered.{name_at}
use Rattle.vlsi_model.specs.Laid.{inputs_of}
use Rattle.vlsi_model.proofs.Members.{In-map_back}
use Rattle.vlsi_model.proofs.PortBits.{In-filter, filter-In}
use Rattle.vlsi_model.proofs.Sorting.{place_of_In}
use Rattle.vlsi_model.proofs.Building.{map_same}
use Rattle.vlsi_model.proofs.Assembly.{All-from_In}
use Rattle.cell_model.specs.Cell.{Function, gate, flip_flop, other, opaque, Cell, pin_ports}
use Rattle.cell_model.specs.Library.{cell_of}
use Rattle.cell_model.specs.Usable.{FitsPins}
use Rattle.cell_pins.specs.Pins.{supply, all_ports, IsClockPin}
use Rattle.cell_pins.proofs.Ports.{before_less, sorted_of, sorted_filter, sorted_pairs}
use Rattle.net_core.specs.declared.pins.ModelPin.{ModelPin}
use Rattle.net_core.specs.declared.tally.Role.{Role}
use Rattle.net_core.specs.declared.tally.Role.TheVariants as role
use Rattle.net_core.specs.Places.{IsThere}
use Rattle.net_core.specs.Netlist.{Instance, port, pin_of, HasClass}
use Rattle.net_core.specs.Checks.{pin_role}
use Rattle.net_core.proofs.Finishing.{class_once}
use Rattle.net_core.proofs.Lookups.{same_of}
use Rattle.bit_machine.specs.System.{stored_bits, driven_bits, FitsPorts}
use Rattle.net_machine.specs.Signals.{signal_ports}
use Rattle.net_machine.specs.Body.{Load, Body, body_of, body_at, width}
use Rattle.net_machine.specs.Bits.{own_name, is_signal, port_names, port_inputs, own_of, port_driven, widths, stored_from, numbers}
use Rattle.net_machine.specs.Known.{clock_pin, clock_at}
use Rattle.net_machine.specs.Gathered.{HasClockPort, HasClockOf}
use Rattle.net_machine.proofs.Drivers.{there_In, In_there, IsAt, counts_in, is_input_pin, input_pin_counts}
use Rattle.net_machine.proofs.Bodies.{clock_is_pin}
use Rattle.net_machine.proofs.Cells.{Seated, seated, pin_at, vdd_in, vss_in, sound_of, clock_at_pin, IsClockClass, clock_class}
use Rattle.net_machine.proofs.Scenes.{Scene}
use Rattle.net_machine.proofs.Systems.{Rises, rises_low}
use Rattle.net_machine.proofs.Blocks.{bits_of, all_stored, body_in, stored_rise, stored_high}
use Rattle.net_machine.proofs.Whole.{system, first, ports_part, classes_part, driven_part, held_part, ports_apart, ports_tell, PortNameIs, shown, hidden, port_name_is, IsShort, port_short, own_short, rising_count, port_names_count, driven_are}

-- ---- the names of bits

no_name : Name
no_name = record { text = []; bit = None }

at_right : (xs ys : List Name) (k : ℕ) (d : Name) → get_or (xs ++ ys) (length xs + k) d ≡ get_or ys k d
at_right [] ys k d = let e : 0 + k ≡ k = omega arith in ap (λ i. get_or ys i d) e
at_right (x ∷ xs) ys k d = let e : length (x ∷ xs) + k ≡ suc (length xs + k) = omega arith in ap (λ i. get_or (x ∷ (xs ++ ys)) i d) e ∙ at_right xs ys k d

at_left : (xs ys : List Name) (k : ℕ) (d : Name) → k < length xs → get_or (xs ++ ys) k d ≡ get_or xs k d
at_left [] ys k d l = absurd (omega arith)
at_left (x ∷ xs) ys zero d l = refl
at_left (x ∷ xs) ys (suc k) d l = at_left xs ys k d (omega arith)

own_at : (text : List ℕ) (a n k : ℕ) (d : Name) → k < n → get_or (map (own_name text) (rising a n)) k d ≡ own_name text (a + k)
own_at text a zero k d l = absurd (omega (arith, l))
own_at text a (suc n) zero d l = let e : a ≡ a + 0 = omega arith in ap (own_name text) e
own_at text a (suc n) (suc k) d l = let e : a + 1 + k ≡ a + suc k = omega arith in own_at text (a + 1) n k d (omega (arith, l)) ∙ ap (own_name text) e

port_at : (text : List ℕ) (clock : Option Name) (a k : ℕ) (ps : List Port) (p : Port) (d : Name) → k < length ps → get_or ps k p ≡ p
    → get_or (port_names text clock a ps) k d ≡ cond (is_signal clock p) p.name (own_name text (a + k))
port_at text clock a k [] p d l e = absurd (omega (arith, l))
port_at text clock a zero (q ∷ ps) p d l e = let z : a ≡ a + 0 = omega arith in ap (λ i. cond (is_signal clock q) q.name (own_name text i)) z ∙ ap (λ (x : Port). cond (is_signal clock x) x.name (own_name text (a + 0))) e
port_at text clock a (suc k) (q ∷ ps) p d l e =
    let z : a + 1 + k ≡ a + suc k = omega arith in
    port_at text clock (a + 1) k ps p d (omega (arith, l)) e ∙ ap (λ i. cond (is_signal clock p) p.name (own_name text i)) z

-- the name of a port's bit
pub name_of_port : (s : Scene) (k : ℕ) (p : Port) → k < length s.n.ports → get_or s.n.ports k p ≡ p → name_at (system s).names (s.n.count + k) ≡ cond (is_signal s.clock p) p.name (own_name s.text (s.n.count + k))
name_of_port s k p l e =
    let own = map (own_name s.text) (rising 0 s.n.count) in
    let ports = port_names s.text s.clock s.n.count s.n.ports in
    let inner = map (own_name s.text) (rising (first s) (widths s.l s.n.instances)) in
    let c : length own ≡ s.n.count = length-map (rising 0 s.n.count) (own_name s.text) ∙ rising_count 0 s.n.count in
    let n = port_names_count s.text s.clock s.n.count s.n.ports in
    ap (λ i. get_or (own ++ (ports ++ inner)) (i + k) (record { text = []; bit = None })) (sym c)
    ∙ at_right own (ports ++ inner) k (record { text = []; bit = None })
    ∙ at_left ports inner k (record { text = []; bit = None }) (omega (arith, l, n))
    ∙ port_at s.text s.clock s.n.count k s.n.ports p (record { text = []; bit = None }) l e

-- the name of an instance's bit
pub name_of_own : (s : Scene) (x : ℕ) → first s ≤ x → x < first s + widths s.l s.n.instances → name_at (system s).names x ≡ own_name s.text x
name_of_own s x l h =
    let own = map (own_name s.text) (rising 0 s.n.count) in
    let ports = port_names s.text s.clock s.n.count s.n.ports in
    let inner = map (own_name s.text) (rising (first s) (widths s.l s.n.instances)) in
    let c : length own ≡ s.n.count = length-map (rising 0 s.n.count) (own_name s.text) ∙ rising_count 0 s.n.count in
    let n = port_names_count s.text s.clock s.n.count s.n.ports in
    let k = x - first s in
    let e : x ≡ length own + (length ports + k) = omega (arith, l, c, n) in
    let z : first s + k ≡ x = omega (arith, l) in
    ap (λ i. get_or (own ++ (ports ++ inner)) i (record { text = []; bit = None })) e
    ∙ at_right own (ports ++ inner) (length ports + k) (record { text = []; bit = None })
    ∙ at_right ports inner k (record { text = []; bit = None })
    ∙ own_at s.text (first s) (widths s.l s.n.instances) k (record { text = []; bit = None }) (omega (arith, l, h))
    ∙ ap (own_name s.text) z

-- ---- orders

text_equal : (t : List ℕ) → slice_cmp nat_cmp t t ≡ Equal
text_equal t = by (slice_cmp nat_cmp t t) refl where
  by : (o : Ordering) → slice_cmp nat_cmp t t ≡ o → o ≡ Equal
  by Less e = let h : Less ≡ Greater = sym e ∙ (lists_total nat_cmp_total).antisymm t t ∙ ap ordering_reverse e in absurd cc
  by Equal e = refl
  by Greater e = let h : Greater ≡ Less = sym e ∙ (lists_total nat_cmp_total).antisymm t t ∙ ap ordering_reverse e in absurd cc

own_less : (text : List ℕ) (j k : ℕ) → j < k → name_cmp (own_name text j) (own_name text k) ≡ Less
own_less text j k l =
    let n : nat_cmp j k ≡ Less = grind (arith, nat_tests) in
    ap (λ o. ordering_then o (nat_cmp j k)) (text_equal text) ∙ n

own_order : (text : List ℕ) (k : ℕ) (xs : List ℕ) → Rises k xs → AreInOrder (map (own_name text) xs)
own_order text k [] h = λ i j d low high. absurd (omega (arith, high))
own_order text k (x ∷ xs) h =
    AllPairs-cons (λ a b. name_cmp a b ≡ Less) (own_name text x) (map (own_name text) xs)
    (All-from_In (λ n. name_cmp (own_name text x) n ≡ Less) (map (own_name text) xs)
    (λ n i.
    let r = In-map_back (own_name text) n xs i in
    let l = rises_low (x + 1) xs h.1 r.0 r.1 in
    subst (λ (m : Name). name_cmp (own_name text x) m ≡ Less) r.2 (own_less text x r.0 (omega (arith, l)))))
    (own_order text (x + 1) xs h.1)

registers_in_order : (s : Scene) → AreInOrder (map (name_at (system s).names) (stored_bits (system s)))
registers_in_order s =
    subst (λ (ns : List Name). AreInOrder ns)
    (sym (map_same (name_at (system s).names) (own_name s.text) (held_part s)
    (λ x i. name_of_own s x (rises_low (first s) (held_part s) (stored_rise s (first s) s.n.instances) x i) (stored_high s (first s) s.n.instances x i))))
    (own_order s.text (first s) (held_part s) (stored_rise s (first s) s.n.instances))

ports_in_order : (s : Scene) → AreInOrder (names_of (signal_ports s.n.ports))
ports_in_order s i j d low high =
    before_less (get_or (names_of (signal_ports s.n.ports)) i d) (get_or (names_of (signal_ports s.n.ports)) j d)
    (sorted_pairs (signal_ports s.n.ports) (sorted_filter (λ (p : Port). not (is_supply p.name.text)) s.n.ports (sorted_of s.n.ports s.ground.netlist.ports)) i j d low high)

-- ---- supplies

no_supply_text : (t : List ℕ) → is_supply t ≡ false → (t ≢ codes "vdd") × (t ≢ codes "vss")
no_supply_text t e = (
  λ same. let h : true ≡ false = ap is_supply (sym same) ∙ e in absurd cc,
  λ same. let h : true ≡ false = ap is_supply (sym same) ∙ e in absurd cc,
)

not_false : (b : Bool) → not b ≡ true → b ≡ false
not_false true e = absurd cc
not_false false e = refl

signal_parts : (a b : Bool) → (not a && not b) ≡ true → (a ≡ false) × (b ≡ false)
signal_parts false false e = (refl, refl)
signal_parts false true e = absurd cc
signal_parts true b e = absurd cc

own_no_supply : (s : Scene) (n : Name) → n.text ≡ s.text → IsNoSupply n
own_no_supply s n e = (
  λ h. let x = ap length (sym e ∙ h) in let l = s.longer.supplies in omega (arith, x, l),
  λ h. let x = ap length (sym e ∙ h) in let l = s.longer.supplies in omega (arith, x, l),
)

signal_names : (s : Scene) (name : Name) → In name (names_of (signal_ports s.n.ports) ++ (system s).names) → IsNoSupply name
signal_names s name i = elim (In-split name (names_of (signal_ports s.n.ports)) (system s).names i) [
  | inl a ↦
      let r = In-map_back (λ (p : Port). p.name) name (signal_ports s.n.ports) a in
      let f = In-filter (λ (p : Port). not (is_supply p.name.text)) s.n.ports r.0 r.1 in
      subst IsNoSupply r.2 (no_supply_text r.0.name.text (not_false (is_supply r.0.name.text) f.1))
  | inr b ↦ elim (In-split name own (ports ++ inner) b) [
    | inl c ↦ own_one (rising 0 s.n.count) c
    | inr c ↦ elim (In-split name ports inner c) [
      | inl d ↦ port_one (port_name_is s s.n.count s.n.ports name d)
      | inr d ↦ own_one (rising (first s) (widths s.l s.n.instances)) d
    ]
  ]
] where
  own : List Name
  own = map (own_name s.text) (rising 0 s.n.count)

  ports : List Name
  ports = port_names s.text s.clock s.n.count s.n.ports

  inner : List Name
  inner = map (own_name s.text) (rising (first s) (widths s.l s.n.instances))

  own_one : (xs : List ℕ) → In name (map (own_name s.text) xs) → IsNoSupply name
  own_one xs i = let r = In-map_back (own_name s.text) name xs i in own_no_supply s name (ap (λ (n : Name). n.text) (sym r.2))

  port_one : PortNameIs s s.n.count s.n.ports name → IsNoSupply name
  port_one (shown p h e f) = subst IsNoSupply (sym e) (no_supply_text p.name.text (signal_parts (is_supply p.name.text) (is_clock s.clock p.name) f).0)
  port_one (hidden j l h e) = own_no_supply s name (ap (λ (n : Name). n.text) e)

-- the name of a supply
pub supply_name : (n : Name) → n.bit ≡ None → is_supply n.text ≡ true → (n ≡ vdd) ⊎ (n ≡ vss)
supply_name n b e = by_text (bytes_eq n.text (codes "vdd")) (bytes_eq n.text (codes "vss")) refl refl e where
  made : List ℕ → Option ℕ → Name
  made t x = record { text = t; bit = x }

  named : (t : List ℕ) → n.text ≡ t → n ≡ scalar t
  named t e = ap (λ (x : List ℕ). made x n.bit) e ∙ ap (made t) b

  by_text : (p q : Bool) → bytes_eq n.text (codes "vdd") ≡ p → bytes_eq n.text (codes "vss") ≡ q → (p || q) ≡ true → (n ≡ vdd) ⊎ (n ≡ vss)
  by_text true q f g h = inl (named (codes "vdd") (same_of n.text (codes "vdd") f))
  by_text false true f g h = inr (named (codes "vss") (same_of n.text (codes "vss") g))
  by_text false false f g h = absurd cc

-- ---- the clock

pub record ClockPort (s : Scene) (name : Name) : Type 0 where
  pub p : Port
  pub listed : In p s.n.ports
  pub named : p.name ≡ name
  pub takes : p.dir ≡ dir.In
  pub signal : is_supply p.name.text ≡ false

supply_pin : (s : Scene) (i : Instance) (j : In i s.n.instances) (name : Name) → ((name ≡ vdd) ⊎ (name ≡ vss)) → IsAt s.table s.n (pin_of i.name name) role.InputPin
supply_pin s i j name which = by which where
  seat : Seated s.l s.table i
  seat = seated s.n s.l s.table s.ground i j

  no_clock : (c : Cell) (h : FitsPins c c.function) → ((x : Name) → In x (names_of (pin_ports c)) → (x ≢ vdd) × (x ≢ vss)) → (x : Name) → ((x ≡ vdd) ⊎ (x ≡ vss)) → IsClockPin c.function x → ⊥
  no_clock c h signals x w k =
      let p = clock_is_pin c c.function h x (clock_of c.function x k) in
      let q = signals x (subst (λ (y : Name). In y (names_of (pin_ports c))) p.name_is (In-map (λ (y : Port). y.name) p.port (pin_ports c) p.listed)) in
      elim w [ inl e ↦ q.0 e | inr e ↦ q.1 e ] where
        clock_of : (f : Function) (x : Name) → IsClockPin f x → clock_pin f ≡ Some x
        clock_of (gate e) x h = absurd h
        clock_of (flip_flop d k) x h = ap Some h
        clock_of (other m) x h = h
        clock_of opaque x h = absurd h

  input_of : (q : ModelPin) → q.dir ≡ dir.In → q.is_clock ≡ false → pin_role q ≡ role.InputPin
  input_of q d k = rw (d, k) refl

  made : (x : Port) → In x (all_ports seat.cell) → x.name ≡ name → x.dir ≡ dir.In → IsAt s.table s.n (pin_of i.name name) role.InputPin
  made x k e d =
      let a = pin_at s.n s.l s.table i seat j x k in
      let no : a.0.is_clock ≡ false = by_test a.0.is_clock refl (a.2.clock.0) in
      subst (λ (r : Role). IsAt s.table s.n (pin_of i.name name) r) (input_of a.0 (a.2.dir ∙ d) no) (subst (λ (y : Name). IsAt s.table s.n (pin_of i.name y) (pin_role a.0)) e a.1) where
        by_test : (b : Bool) → (pin_at s.n s.l s.table i seat j x k).0.is_clock ≡ b → ((pin_at s.n s.l s.table i seat j x k).0.is_clock ≡ true → IsClockPin seat.cell.function x.name) → b ≡ false
        by_test false f g = refl
        by_test true f g = absurd (no_clock seat.cell seat.formed.function seat.formed.signals x.name (subst (λ (y : Name). (y ≡ vdd) ⊎ (y ≡ vss)) (sym e) which) (g f))

  by : ((name ≡ vdd) ⊎ (name ≡ vss)) → IsAt s.table s.n (pin_of i.name name) role.InputPin
  by (inl e) = made (supply vdd) (vdd_in seat.cell) (sym e) refl
  by (inr e) = made (supply vss) (vss_in seat.cell) (sym e) refl

pub clock_port : (s : Scene) (name : Name) → s.clock ≡ Some name → ClockPort s name
clock_port s name e = by (subst (HasClockOf s.n s.l) e s.clock_is) where
  by : HasClockPort s.n s.l name → ClockPort s name
  by h =
      let i = there_In s.n.instances h.listed.0 h.owner h.listed.1 in
      let c = clock_at_pin s.n s.l s.table s.ground h.owner i h.pin h.clocks in
      let k = clock_class s.n s.l s.table s.ground (pin_of h.owner.name h.pin) h.class c.5 h.of_pin in
      let same : k.input.name ≡ name = s.ground.condition.apart k.input.name name h.class k.of_port h.of_port in
      record { p = k.input; listed = k.listed; named = same; takes = k.takes; signal = signal i k (is_supply k.input.name.text) refl } where
        signal : (i : In h.owner s.n.instances) (k : IsClockClass s.table s.n h.class) (b : Bool) → is_supply k.input.name.text ≡ b → b ≡ false
        signal i k false e = refl
        signal i k true e =
            let scalar_in = (s.ground.condition.supplies k.input (In_there s.n.ports k.input k.listed) e).0 in
            let which = supply_name k.input.name scalar_in e in
            let t = s.ground.condition.tied h.owner k.input.name (In_there s.n.instances h.owner i) which in
            let c : t.class ≡ h.class = class_once s.n s.ground.netlist (port k.input.name) t.class h.class t.of_port k.of_port in
            let at = supply_pin s h.owner i k.input.name which in
            let n = counts_in s.table s.n (sound_of s.n s.l s.table s.ground) (λ t. t.input_pins) is_input_pin input_pin_counts (pin_of h.owner.name k.input.name) role.InputPin h.class at
            (subst (λ x. HasClass s.n (pin_of h.owner.name k.input.name) x) c t.of_pin) in
            let z = k.no_pins in absurd (omega (arith, n, z))

-- an output port is no clock
pub output_signal : (s : Scene) (p : Port) → In p s.n.ports → p.dir ≡ dir.Out → is_clock s.clock p.name ≡ false
output_signal s p i d = by s.clock refl where
  by : (o : Option Name) → s.clock ≡ o → is_clock o p.name ≡ false
  by None e = refl
  by (Some name) e =
      same_name-false name p.name (λ same.
      let c = clock_port s name e in
      let q = ports_tell s s.n.ports (ports_apart s) c.p p c.listed i (c.named ∙ same) in
      let no : dir.In ≡ dir.Out = sym c.takes ∙ ap (λ (x : Port). x.dir) q ∙ d in absurd cc)

-- ---- outputs and inputs

output_driven : (s : Scene) (k : ℕ) (ps : List Port) (j : ℕ) (p : Port) → j < length ps → get_or ps j p ≡ p → p.dir ≡ dir.Out → In (k + j) (bits_of (port_driven s.class s.clock k ps))
output_driven s k [] j p l e d = absurd (omega (arith, l))
output_driven s k (q ∷ ps) j p l e d =
    subst (λ (xs : List ℕ). In (k + j) xs) (sym (map-append (λ (x : Numbered). x.bit) (own_of s.class s.clock k q q.dir) (port_driven s.class s.clock (k + 1) ps))) (by j l e (output_driven s (k + 1) ps)) where
      by : (j : ℕ) → j < length (q ∷ ps) → get_or (q ∷ ps) j p ≡ p → ((i : ℕ) (r : Port) → i < length ps → get_or ps i r ≡ r → r.dir ≡ dir.Out → In (k + 1 + i) (bits_of (port_driven s.class s.clock (k + 1) ps)))
          → In (k + j) (bits_of (own_of s.class s.clock k q q.dir) ++ bits_of (port_driven s.class s.clock (k + 1) ps))
      by zero l e rest =
          let z : k + 0 ≡ k = omega arith in
          let at : bits_of (own_of s.class s.clock k q q.dir) ≡ k ∷ [] = ap (λ (x : Port). bits_of (own_of s.class s.clock k x x.dir)) e ∙ ap (λ (x : Dir). bits_of (own_of s.class s.clock k p x)) d in
          In-left (k + 0) (bits_of (own_of s.class s.clock k q q.dir)) (bits_of (port_driven s.class s.clock (k + 1) ps)) (subst (λ (xs : List ℕ). In (k + 0) xs) (sym at) (subst (λ x. In x (k ∷ [])) (sym z) here))
      by (suc i) l e rest =
          let z : k + 1 + i ≡ k + suc i = omega arith in
          In-right (k + suc i) (bits_of (own_of s.class s.clock k q q.dir)) (bits_of (port_driven s.class s.clock (k + 1) ps)) (subst (λ x. In x (bits_of (port_driven s.class s.clock (k + 1) ps))) z (rest i p (omega (arith, l)) e d))

outputs_driven : (s : Scene) (p : Port) → In p (signal_ports s.n.ports) → p.dir ≡ dir.Out → In p.name (map (name_at (system s).names) (driven_bits (system s)))
outputs_driven s p i d =
    let f = In-filter (λ (p : Port). not (is_supply p.name.text)) s.n.ports p i in
    let r = place_of_In s.n.ports p f.0 in
    let signal : is_signal s.clock p ≡ true = rw (not_false (is_supply p.name.text) f.1, output_signal s p f.0 d) refl in
    let n : name_at (system s).names (s.n.count + r.0) ≡ p.name = name_of_port s r.0 p r.1 (r.2 p) ∙ ap (λ b. cond b p.name (own_name s.text (s.n.count + r.0))) signal in
    let bit : In (s.n.count + r.0) (driven_bits (system s)) =
    subst (λ (xs : List ℕ). In (s.n.count + r.0) xs) (sym (driven_are s)) (In-left (s.n.count + r.0) (ports_part s) (classes_part s ++ driven_part s) (output_driven s s.n.count s.n.ports r.0 p r.1 (r.2 p) d)) in
    subst (λ (x : Name). In x (map (name_at (system s).names) (driven_bits (system s)))) n (In-map (name_at (system s).names) (s.n.count + r.0) (driven_bits (system s)) bit)

-- what the inputs have by their numbers, and by their names
pub picked : {A : Type 0} (clock : Option Name) (f : ℕ → A) (g : Name → A) (k : ℕ) (ps : List Port)
    → ((j : ℕ) (p : Port) → j < length ps → get_or ps j p ≡ p → is_input p.dir ≡ true → is_signal clock p ≡ true → f (k + j) ≡ g p.name)
    → map f (port_inputs clock k ps) ≡ map g (inputs_of clock (signal_ports ps))
picked clock f g k [] at = refl
picked {A} clock f g k (p ∷ ps) at =
    by (is_supply p.name.text) (is_input p.dir) (is_clock clock p.name) refl refl refl
    (picked clock f g (k + 1) ps (λ j q l e d s. let z : k + 1 + j ≡ k + suc j = omega arith in ap f z ∙ at (suc j) q (omega (arith, l)) e d s)) where
      head : is_input p.dir ≡ true → is_signal clock p ≡ true → f k ≡ g p.name
      head d e = let z : k ≡ k + 0 = omega arith in ap f z ∙ at 0 p (omega arith) refl d e

      kept : Bool → List Port
      kept t = cond (not t) (p ∷ signal_ports ps) (signal_ports ps)

      taken : Bool → List Name
      taken t = filter (λ name. not (is_clock clock name)) (names_of (cond t (p ∷ filter (λ q. is_input q.dir) (signal_ports ps)) (filter (λ q. is_input q.dir) (signal_ports ps))))

      left : Bool → List Name
      left t = cond (not t) (p.name ∷ inputs_of clock (signal_ports ps)) (inputs_of clock (signal_ports ps))

      numbered : Bool → List A
      numbered t = map f (cond t (k ∷ port_inputs clock (k + 1) ps) (port_inputs clock (k + 1) ps))

      both : (b c : Bool) → (b && (not true && not c)) ≡ false
      both true c = refl
      both false c = refl

      by : (a b c : Bool) → is_supply p.name.text ≡ a → is_input p.dir ≡ b → is_clock clock p.name ≡ c → map f (port_inputs clock (k + 1) ps) ≡ map g (inputs_of clock (signal_ports ps))
          → map f (port_inputs clock k (p ∷ ps)) ≡ map g (inputs_of clock (signal_ports (p ∷ ps)))
      by true b c e d h rest =
          let x : (is_input p.dir && is_signal clock p) ≡ false = ap (λ t. is_input p.dir && (not t && not (is_clock clock p.name))) e ∙ both (is_input p.dir) (is_clock clock p.name) in
          ap numbered x ∙ rest ∙ sym (ap (λ t. map g (inputs_of clock (kept t))) e)
      by false false c e d h rest =
          let x : (is_input p.dir && is_signal clock p) ≡ false = rw d refl in
          ap numbered x ∙ rest ∙ sym (ap (λ t. map g (inputs_of clock (kept t))) e ∙ ap (λ t. map g (taken t)) d)
      by false true true e d h rest =
          let x : (is_input p.dir && is_signal clock p) ≡ false = rw (e, d, h) refl in
          ap numbered x ∙ rest ∙ sym (ap (λ t. map g (inputs_of clock (kept t))) e ∙ ap (λ t. map g (taken t)) d ∙ ap (λ t. map g (left t)) h)
      by false true false e d h rest =
          let y : is_signal clock p ≡ true = rw (e, h) refl in
          let x : (is_input p.dir && is_signal clock p) ≡ true = rw (e, d, h) refl in
          ap numbered x ∙ ap (λ z. z ∷ map f (port_inputs clock (k + 1) ps)) (head d y) ∙ ap (λ zs. g p.name ∷ zs) rest
          ∙ sym (ap (λ t. map g (inputs_of clock (kept t))) e ∙ ap (λ t. map g (taken t)) d ∙ ap (λ t. map g (left t)) h)

map_itself : (ns : List Name) → map (λ (n : Name). n) ns ≡ ns
map_itself [] = refl
map_itself (n ∷ ns) = ap (λ (x : List Name). n ∷ x) (map_itself ns)

inputs_are : (s : Scene) → map (name_at (system s).names) (port_inputs s.clock s.n.count s.n.ports) ≡ inputs_of s.clock (signal_ports s.n.ports)
inputs_are s =
    picked s.clock (name_at (system s).names) (λ (n : Name). n) s.n.count s.n.ports
    (λ j p l e d t. name_of_port s j p l e ∙ ap (λ b. cond b p.name (own_name s.text (s.n.count + j))) t)
    ∙ map_itself (inputs_of s.clock (signal_ports s.n.ports))

-- ---- without a clock nothing is held

no_loads : (c : Cell) (f : Function) → FitsPins c f → clock_pin f ≡ None → (body_of c f).loads ≡ []
no_loads c (gate e) fits h = refl
no_loads c (flip_flop d k) fits h = absurd cc
no_loads c (other m) fits h = ap (map (λ (r : Register). record { next = r.next; enable = r.enable })) (fits.1.clocked h)
no_loads c opaque fits h = refl

nothing_stored : (s : Scene) (base : ℕ) (is : List Instance) → ((i : Instance) → In i is → (body_in s i).loads ≡ []) → all_stored s base is ≡ []
nothing_stored s base [] h = refl
nothing_stored s base (i ∷ is) h =
    ap (λ (ls : List Load). stored_from (numbers s.class i.name (body_in s i) base) base ls ++ all_stored s (base + width (body_in s i)) is) (h i here)
    ∙ nothing_stored s (base + width (body_in s i)) is (λ k j. h k (there j))

pub fits_ports : (s : Scene) → FitsPorts (signal_ports s.n.ports) s.clock (system s)
fits_ports s = record {
  order = ports_in_order s;
  registers = registers_in_order s;
  signals = signal_names s;
  outputs = outputs_driven s;
  inputs = inputs_are s;
  listed = λ name e.
      let c = clock_port s name e in
      let same : c.p ≡ record { name = name; dir = dir.In } = ap (λ (n : Name). made n c.p.dir) c.named ∙ ap (made name) c.takes in
      subst (λ (p : Port). In p (signal_ports s.n.ports)) same (filter-In (λ (p : Port). not (is_supply p.name.text)) s.n.ports c.p c.listed (ap not c.signal));
  apart = apart;
  clocked = λ e. nothing_stored s (first s) s.n.instances (no_clock (subst (HasClockOf s.n s.l) e s.clock_is));
} where
  made : Name → Dir → Port
  made n d = record { name = n; dir = d }

  no_clock : ((i : Instance) → IsThere s.n.instances i → clock_at (cell_of s.l i.model) ≡ None) → (i : Instance) → In i s.n.instances → (body_in s i).loads ≡ []
  no_clock h i j =
      let m = seated s.n s.l s.table s.ground i j in
      ap (λ (b : Body). b.loads) (ap body_at m.found) ∙ no_loads m.cell m.cell.function m.formed.function (sym (ap clock_at m.found) ∙ h i (In_there s.n.instances i j))

  apart : (name : Name) → s.clock ≡ Some name → In name (system s).names → ⊥
  apart name e i = elim (In-split name (map (own_name s.text) (rising 0 s.n.count)) (port_names s.text s.clock s.n.count s.n.ports ++ map (own_name s.text) (rising (first s) (widths s.l s.n.instances))) i) [
    | inl a ↦ own_one (rising 0 s.n.count) a
    | inr b ↦ elim (In-split name (port_names s.text s.clock s.n.count s.n.ports) (map (own_name s.text) (rising (first s) (widths s.l s.n.instances))) b) [
      | inl c ↦ port_one (port_name_is s s.n.count s.n.ports name c)
      | inr c ↦ own_one (rising (first s) (widths s.l s.n.instances)) c
    ]
  ] where
    short : IsShort s name
    short = let c = clock_port s name e in subst (IsShort s) c.named (port_short s c.p c.listed)

    own_one : (xs : List ℕ) → In name (map (own_name s.text) xs) → ⊥
    own_one xs i = let r = In-map_back (own_name s.text) name xs i in own_short s r.0 (subst (IsShort s) (sym r.2) short)

    port_one : PortNameIs s s.n.count s.n.ports name → ⊥
    port_one (shown p h f t) =
        let clocked : is_clock s.clock p.name ≡ true = ap (λ (o : Option Name). is_clock o p.name) e ∙ subst (λ (x : Name). is_same_name name x ≡ true) f (same_name-itself name) in
        let no : true ≡ false = sym clocked ∙ (signal_parts (is_supply p.name.text) (is_clock s.clock p.name) t).1 in absurd cc
    port_one (hidden j l h f) = own_short s j (subst (IsShort s) f short)
