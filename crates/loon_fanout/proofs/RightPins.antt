-- The pins of a gate of one input that is put in.
use Rattle.std.proofs.Common.{◌≡◌, ◌≢◌, Bool, not, List, [], ◌∷◌, filter, refl, sym, ap, subst, ℕ, if◌then◌else◌}
use Rattle.std.specs.List.{list_any}
use Rattle.vlsi_base.specs.declared.name.Name.{Name}
use Rattle.vlsi_base.specs.declared.name.Port.{Port}
use Rattle.vlsi_base.specs.Names.{vdd, vss}
use Rattle.vlsi_base.specs.Member.{In, here}
use Rattle.machine_core.specs.Machine.{is_input, names_of}
use Rattle.machine_core.specs.Named.{is_same_name}
use Rattle.machine_core.proofs.Names.{same_name-true, same_name-itself, same_name-false}
use Rattle.cell_model.specs.Cell.{Function, gate, Cell, pin_ports, cell_inputs, cell_outputs}
use Rattle.cell_model.specs.Library.{Library, IsPlain}
use Rattle.cell_model.proofs.Members.{In-map, In-map_back}
use Rattle.cell_model.proofs.Texts.{text_itself}
use Rattle.cell_pins.proofs.Ports.{in_filter}
use Rattle.net_meaning.specs.Netlist.{pin_of}
use Rattle.loon_fanout.specs.Sinks.{Wired}
use Rattle.loon_fanout.specs.Wired.{pin_class, with_gate}
use Rattle.loon_fanout.proofs.Picking.{any_in, in_any, is_false}
use Rattle.loon_fanout.proofs.Splitting.{one_of, in_or_out}
use Rattle.loon_fanout.proofs.RightStates.{IsGateCell}

-- the class of a pin of the gate
pub own_class : (c : Cell) (w : Wired) (name : List ℕ) (k : ℕ) (pin : Name) → (with_gate c w k name).class (pin_of name pin) ≡ pin_class w c k pin
own_class c w name k pin = ap (λ (x : Bool). if x then pin_class w c k pin else w.class (pin_of name pin)) (text_itself name)

module _ (l : Library) (c : Cell) (b : IsGateCell l c) where
  abbrev pub input : Name
  input = (one_of (cell_inputs c) b.one).0

  pub input_is : cell_inputs c ≡ input ∷ []
  input_is = (one_of (cell_inputs c) b.one).1

  pub plain_gate : IsPlain c (gate b.expr)
  plain_gate = subst (λ (u : Function). IsPlain c u) b.is_gate b.usable.function

  abbrev pub output : Name
  output = (one_of (cell_outputs c) plain_gate.0).0

  pub output_is : cell_outputs c ≡ output ∷ []
  output_is = (one_of (cell_outputs c) plain_gate.0).1

  pub in_inputs : In input (cell_inputs c)
  in_inputs = subst (λ (ns : List Name). In input ns) (sym input_is) here

  pub in_outputs : In output (cell_outputs c)
  in_outputs = subst (λ (ns : List Name). In output ns) (sym output_is) here

  signal : (test : Port → Bool) (pin : Name) → In pin (names_of (filter test (pin_ports c))) → (pin ≢ vdd) × (pin ≢ vss)
  signal test pin inside =
      let p = In-map_back (λ (y : Port). y.name) pin (filter test (pin_ports c)) inside in
      let q = in_filter test (pin_ports c) p.0 p.1 in
      b.signals pin (subst (λ (n : Name). In n (names_of (pin_ports c))) p.2 (In-map (λ (y : Port). y.name) p.0 (pin_ports c) q.0))

  pub input_class : (w : Wired) (k : ℕ) → pin_class w c k input ≡ k
  input_class w k =
      let t = signal (λ p. is_input p.dir) input in_inputs in
      let among = in_any (λ (pin : Name). is_same_name pin input) (cell_inputs c) input in_inputs (same_name-itself input) in
      rw (same_name-false input vdd t.0, same_name-false input vss t.1, among) refl

  pub output_class : (w : Wired) (k : ℕ) → pin_class w c k output ≡ w.count
  output_class w k =
      let t = signal (λ p. not (is_input p.dir)) output in_outputs in
      let apart = is_false (list_any (λ pin. is_same_name pin output) (cell_inputs c)) (λ e.
      let x = any_in (λ (pin : Name). is_same_name pin output) (cell_inputs c) e in
      in_or_out c output b.usable (subst (λ (n : Name). In n (cell_inputs c)) (same_name-true x.0 output x.2) x.1) in_outputs) in
      rw (same_name-false output vdd t.0, same_name-false output vss t.1, apart) refl
