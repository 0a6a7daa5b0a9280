-- The machine of a state machine that is read can be written.
use Rattle.std.proofs.Common.{◌≡◌, ℕ, ◌+◌, ◌<◌, ◌^◌, true, false, not, List, [], ◌∷◌, map, length, codes, Option, None, Some, bytes_eq, inl, inr, refl, sym, ap, subst, ◌∙◌, arith}
use Rattle.std.specs.Ordering.{is_lt}
use Rattle.std.proofs.lemmas.Bool.{and_parts}
use Rattle.std.proofs.lemmas.List.{length-map}
use Rattle.std.proofs.lemmas.List.Elements.{All-nil}
use Rattle.std.proofs.lemmas.Slice.Eq.{bytes_eq-Decides}
use Rattle.vlsi_base.specs.declared.name.Name.{Name}
use Rattle.vlsi_base.specs.declared.name.Port.{Port}
use Rattle.vlsi_base.specs.Member.{In, here, there}
use Rattle.text_names.specs.Words.{IsIdentifier, ArePortsNamed}
use Rattle.machine_core.specs.Machine.{Machine, Register, names_of, register_names}
use Rattle.machine_core.specs.Checked.{AreInOrder}
use Rattle.machine_core.proofs.Values.{In-map}
use Rattle.text_names.specs.Free.{is_free}
use Rattle.fsm_machine.specs.Fsm.{Fsm}
use Rattle.fsm_machine.specs.Codes.{Codes}
use Rattle.fsm_machine.specs.MachineOf.{machine_of, code_names}
use Rattle.fsm_machine.proofs.Step.{register_names_are}
use Rattle.fsm_io.specs.Text.{IsFsm}
use Rattle.syf_machine.specs.Named.{port_texts, inner_names, IsMachineOf}
use Rattle.syf_machine.proofs.Naming.{free_not_in}
use Rattle.vbe_writable.specs.Laws.{InOrderCanBeWritten}
use Rattle.vbe_print.specs.Written.{as_ports}
use Rattle.vbe_print.specs.Writable.{AreDeclared, CanBeVbe}
use Rattle.fsm_laws.specs.Writable.{FsmIsNamed, MachineCanBeWritten}
use Rattle.fsm_laws.proofs.Registers.{register_word, bits_declared, code_text}

-- ports in the order of names that can be declared
declared : InOrderCanBeWritten → (ports : List Port) → ArePortsNamed ports → AreInOrder (names_of ports) → AreDeclared ports
declared law [] h order = record { words = All-nil (λ (p : Port). IsIdentifier p.name.text); runs = λ k p q e f same. absurd cc }
declared law (p ∷ ports) h order =
    let c = law (p ∷ ports) h (λ i j d low high. ap is_lt (order i j d low high)) (omega arith) in
    record { words = c.words; runs = c.runs }

some_clock : (a b : Name) → Some a ≡ Some b → a ≡ b
some_clock a b e = cc

machine_of_can : (bytes : List ℕ) (f : Fsm) (c : Codes) (m : Machine) (made : IsMachineOf f c m) → InOrderCanBeWritten → FsmIsNamed → IsFsm bytes f
    → CanBeVbe (machine_of f c made.st (inner_names f))
machine_of_can bytes f c m made law named is =
    let n = named bytes f is in
    let texts : length (port_texts f) ≡ length f.ports = length-map f.ports (λ (p : Port). p.name.text) in
    let few = made.few in
    let names = register_names_are f c made.st (inner_names f) in
    record {
      name = n.name;
      ports = declared law f.ports n.ports is.machine.ordered;
      registers = subst (λ (names : List Name). AreDeclared (as_ports names)) (sym names)
          (bits_declared made.st c.width (register_word (port_texts f) made.st made.first (omega arith)));
      apart = λ p r i j e.
          let among = subst (λ (names : List Name). In r.name names) names (In-map (λ (x : Register). x.name) r (machine_of f c made.st (inner_names f)).registers j) in
          let same : p.name.text ≡ made.st = e ∙ code_text made.st c.width r.name among in
          free_not_in (port_texts f) made.st made.first.free (subst (λ (t : List ℕ). In t (port_texts f)) same (In-map (λ (x : Port). x.name.text) p f.ports i));
      clock = λ name e. subst (λ (x : Name). x.bit ≡ None) (some_clock f.clock name e) n.clock;
    }

pub can_be_written : InOrderCanBeWritten → FsmIsNamed → MachineCanBeWritten
can_be_written law named bytes f c m is made = subst CanBeVbe (sym made.is) (machine_of_can bytes f c m made law named is)
