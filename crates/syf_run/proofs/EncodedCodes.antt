-- A text of a state machine is made a machine by each style.
use Rattle.std.proofs.Common.{◌≡◌, length, codes, refl, arith}
use Rattle.std.proofs.lemmas.List.{length-map}
use Rattle.vlsi_base.specs.declared.name.Port.{Port}
use Rattle.text_names.specs.Laws.{TextsAreFree}
use Rattle.fsm_machine.specs.Encoding.{EncodingsAreCodes}
use Rattle.fsm_machine.specs.MachineOf.{machine_of}
use Rattle.fsm_machine.specs.Meaning.{MachineIsOrdered}
use Rattle.fsm_io.specs.Laws.{FsmIsChecked}
use Rattle.fsm_laws.specs.FewSignals.{StylesAreFew}
use Rattle.fsm_laws.proofs.Codes.{codes_are}
use Rattle.syf_encode.specs.Codes.{codes_by}
use Rattle.syf_machine.specs.Law.{MachineDoesAs}
use Rattle.syf_machine.specs.Named.{port_texts, inner_names, HasFewSignals, IsMachineOf}
use Rattle.syf_machine.proofs.Encoded.{is_checked}
use Rattle.syf_machine.proofs.Whole.{few, vars_few}
use Rattle.syf_run.specs.EachMachine.{EncodedExists}
use Rattle.syf_run.proofs.Free.{first_free}

pub encoded : FsmIsChecked → StylesAreFew → EncodingsAreCodes → TextsAreFree → MachineIsOrdered → MachineDoesAs → EncodedExists
encoded checks small law free ordered does source how f is =
    let c = codes_by how f in
    let are = codes_are law how f in
    let checked = checks source f is in
    let room : HasFewSignals f c = small source how f is in
    let texts : length (port_texts f) ≡ length f.ports = length-map f.ports (λ (p : Port). p.name.text) in
    let st = first_free (codes "st") (port_texts f) (omega (arith, texts, room)) in
    let m = machine_of f c st.0 (inner_names f) in
    let made : IsMachineOf f c m = record { few = few f c are room; st = st.0; first = st.1; is = refl } in (
      c,
      m,
      record {
        machine = is;
        codes_are = refl;
        different = are;
        made = made;
        does = does f c m checked are made;
        checked = is_checked f c st.0 free ordered checked are st.1 (few f c are room);
        few = vars_few f c st.0 free are room;
      },
    )
