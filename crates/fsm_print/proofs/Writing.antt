-- A state machine that is read can be written.
use Rattle.std.proofs.Common.{◌≡◌, ◌<◌, List, [], ◌∷◌, map, length, Option, None, Some, refl, sym, ap, subst, ◌∙◌, arith}
use Rattle.std.specs.List.{All}
use Rattle.std.specs.Ordering.{is_lt}
use Rattle.std.proofs.lemmas.List.{length-map}
use Rattle.std.proofs.lemmas.List.Sorted.{length_permutation}
use Rattle.std.proofs.lemmas.List.Elements.{All-cons, All-nil}
use Rattle.vlsi_base.specs.declared.name.Name.{Name}
use Rattle.vlsi_base.specs.declared.fault.ReadError.{ReadError}
use Rattle.vlsi_base.specs.declared.entity.NewName.{NewName}
use Rattle.vlsi_base.specs.Member.{In, here, there}
use Rattle.machine_core.specs.Machine.{names_of}
use Rattle.text_names.specs.Words.{IsIdentifier}
use Rattle.source_checks.specs.declared.symbol_table.Symbol.{Symbol}
use Rattle.source_checks.specs.Symbols.{scalar}
use Rattle.source_checks.specs.Checks.{if_symbol, first_repeated}
use Rattle.source_checks.specs.Elaboration.{port_bits}
use Rattle.vlsi_model.proofs.Bits.{different_texts}
use Rattle.vbe_writable.specs.Laws.{InOrderCanBeWritten}
use Rattle.vbe_writable.proofs.Saying.{Every}
use Rattle.fsm_io.specs.Known.{symbols}
use Rattle.fsm_io.specs.Elaboration.{frame_of}
use Rattle.fsm_io.specs.Laws.{FsmIsChecked}
use Rattle.fsm_laws.specs.Writable.{FsmIsNamed}
use Rattle.fsm_print.specs.Writable.{IsPlainBody}
use Rattle.fsm_print.specs.Spelled.{FsmCanBeWritten}
use Rattle.fsm_print.proofs.Plain.{plain_body}
use Rattle.fsm_print.proofs.StatesSpelled.{IsNewWord, state_words, state_apart}

once : (o : Option Symbol) (later : Option ReadError) → if_symbol o later ≡ None → o ≡ None
once None later e = refl
once (Some s) later e = absurd cc

abbrev IsStateName : Name → Type 0
IsStateName s = IsIdentifier s.text × (s.bit ≡ None)

named_states : (ns : List NewName) → Every IsNewWord ns → All IsStateName (map (λ (n : NewName). scalar n.text) ns)
named_states [] h = All-nil IsStateName
named_states (n ∷ ns) h = All-cons IsStateName (scalar n.text) (map (λ (n : NewName). scalar n.text) ns) (h.0.0, refl) (named_states ns h.1)

state_of : (ns : List NewName) (s : Name) → In s (map (λ (n : NewName). scalar n.text) ns) → (n : NewName) × In n ns × (s.text ≡ n.text)
state_of [] s i = elim i [ ]
state_of (n ∷ ns) s here = (n, here, refl)
state_of (n ∷ ns) s (there i) = let r = state_of ns s i in (r.0, there r.1, r.2)

pub can_be_written : FsmIsNamed → FsmIsChecked → InOrderCanBeWritten → FsmCanBeWritten
can_be_written is_named is_checked in_order bytes f is =
    let m = is.tree in
    let n = is_named bytes f is in
    let c = is_checked bytes f is in
    let machine = is.machine in
    let different = different_texts (symbols m) (once (first_repeated [] (symbols m)) _ is.passes.no_fault) in
    let clock = c.clock in
    let many : length (names_of f.ports) ≡ length f.ports = length-map f.ports (λ p. p.name) in
    let some : 0 < length f.ports = let l = clock.1 in omega (arith, l, many) in
    let as_many : length (port_bits (symbols m)) ≡ length f.ports = length_permutation f.ports (port_bits (symbols m)) machine.ports in
    let few = is.passes.few_ports in (
      record {
        name = n.name;
        ports = in_order f.ports n.ports (λ i j d l k. ap is_lt (machine.ordered i j d l k)) some;
        states = subst (λ (ns : List Name). All IsStateName ns) (sym machine.states) (named_states m.states.states (state_words bytes m is.written));
        apart = λ p s i j e.
            let r = state_of m.states.states s (subst (λ (ns : List Name). In s ns) machine.states j) in
            state_apart m f.ports different machine.ports p r.0 i r.1 (e ∙ r.2);
        plain = subst IsPlainBody (sym machine.body) (plain_body (frame_of m is.names (names_of f.ports)) m.step.body);
      },
      omega (arith, as_many, few),
    )
