-- A state machine that is read has few ports and states, and its statements have few signals.
use Rattle.std.proofs.Common.{◌≡◌, ℕ, ◌≤◌, List, length, refl, ap, ◌∙◌, arith}
use Rattle.std.proofs.lemmas.List.{length-map}
use Rattle.std.proofs.lemmas.List.Sorted.{length_permutation}
use Rattle.vlsi_base.specs.declared.entity.NewName.{NewName}
use Rattle.vlsi_base.specs.declared.limits.TheConstants.{MOST_SOURCE_BYTES}
use Rattle.vlsi_base.specs.declared.name.Name.{Name}
use Rattle.machine_core.specs.Machine.{names_of}
use Rattle.source_checks.specs.Checks.{most_ports}
use Rattle.source_checks.specs.Symbols.{scalar}
use Rattle.source_checks.specs.Elaboration.{port_bits}
use Rattle.fsm_machine.specs.Fsm.{Fsm}
use Rattle.fsm_machine.specs.Encoding.{EncodingsAreCodes}
use Rattle.fsm_machine.specs.Signals.{signals}
use Rattle.fsm_io.specs.Known.{symbols}
use Rattle.fsm_io.specs.Checks.{most_states}
use Rattle.fsm_io.specs.Elaboration.{frame_of}
use Rattle.fsm_io.specs.Text.{IsFsm}
use Rattle.syf_encode.specs.Codes.{codes_by}
use Rattle.fsm_laws.specs.FewSignals.{StatementsAreFew, CodesAreFew, StylesAreFew}
use Rattle.fsm_laws.proofs.Signals.{of_body}
use Rattle.fsm_laws.proofs.Counted.{few_signals}
use Rattle.fsm_laws.proofs.Codes.{codes_are, width_low}

few_ports : (bytes : List ℕ) (f : Fsm) → IsFsm bytes f → length f.ports ≤ most_ports
few_ports bytes f is =
    let same = length_permutation f.ports (port_bits (symbols is.tree)) is.machine.ports in
    let few = is.passes.few_ports in
    omega (arith, same, few)

few_states : (bytes : List ℕ) (f : Fsm) → IsFsm bytes f → length f.states ≤ most_states
few_states bytes f is =
    let same = ap (λ (ns : List Name). length ns) is.machine.states ∙ length-map is.tree.states.states (λ (s : NewName). scalar s.text) in
    let few = is.passes.few_states in
    omega (arith, same, few)

pub statements_few : StatementsAreFew
statements_few bytes f is =
    let same = ap signals is.machine.body ∙ of_body (frame_of is.tree is.names (names_of f.ports)) is.tree.step.body in
    let few = few_signals bytes is.tree is.written in
    let read = is.written.few in
    omega (arith, same, few, read)

pub codes_few : CodesAreFew
codes_few bytes f c is are wide =
    let ports = few_ports bytes f is in
    let states = few_states bytes f is in
    let inside = statements_few bytes f is in
    let each = are.each in
    let most : MOST_SOURCE_BYTES ≡ 1048576 = refl in
    omega (arith, ports, states, inside, each, wide, most)

pub styles_few : EncodingsAreCodes → StylesAreFew
styles_few law bytes how f is = codes_few bytes f (codes_by how f) is (codes_are law how f) (width_low how f)
