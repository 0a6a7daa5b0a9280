use Rattle.std.proofs.Common.{◌≡◌, ◌+◌, ◌-◌, ◌<◌, ◌^◌, List, length, map, sym, ap, subst, ◌∙◌, arith}
use Rattle.vlsi_base.specs.declared.name.Port.{Port}
use Rattle.machine_core.specs.Checked.{AreInOrder}
use Rattle.machine_core.specs.Machine.{Machine, names_of}
use Rattle.machine_core.specs.View.{equation_view, register_view}
use Rattle.fsm_machine.specs.Signals.{signals}
use Rattle.fsm_code.specs.View.{body_view}
use Rattle.syf_machine.specs.Named.{IsMachineOf}
use Rattle.syf_machine.proofs.Whole.{room_for, gathered, over_numbers, made_checked, made_of, made_few}
use Rattle.syf_machine.proofs.machine.machine_of.Goals as goal

pub overflow_cast-base : goal.overflow_cast-base
overflow_cast-base c =
    let room = room_for c.args.machine.now c.args.codes.now c.as_slice-ports.result.now c.clock.result.now c.in_ok-inputs.inputs.items c.requires.few
    (c.as_slice-ports.ensures ∙ c.ports.ensures.value) c.in_ok-inputs.ensures in
    omega (arith, room, c.len-base.ensures, c.in_ok-inputs.inputs.ok.0)

pub overflow_add-body : goal.overflow_add-body
overflow_add-body c =
    let room = room_for c.args.machine.now c.args.codes.now c.as_slice-ports.result.now c.clock.result.now c.in_ok-inputs.inputs.items c.requires.few
    (c.as_slice-ports.ensures ∙ c.ports.ensures.value) c.in_ok-inputs.ensures in
    omega (arith, room, c.len-base.ensures, c.in_ok-inputs.inputs.ok.0, c.width.ensures)

pub overflow_add-body-2 : goal.overflow_add-body-2
overflow_add-body-2 c =
    let room = room_for c.args.machine.now c.args.codes.now c.as_slice-ports.result.now c.clock.result.now c.in_ok-inputs.inputs.items c.requires.few
    (c.as_slice-ports.ensures ∙ c.ports.ensures.value) c.in_ok-inputs.ensures in
    let states : length c.as_slice.result.now ≡ length c.args.codes.now.codes = ap (λ codes. length codes) c.as_slice.ensures in
    omega (arith, room, c.len-base.ensures, c.in_ok-inputs.inputs.ok.0, c.width.ensures, states)

pub equations-requires-clause-ports : goal.equations-requires-clause-ports
equations-requires-clause-ports c =
    subst (λ (ports : List Port). AreInOrder (names_of ports)) (sym (c.as_slice-ports.ensures ∙ c.ports.ensures.value)) c.ports.ensures.checked.ports

pub equations-requires-clause-over : goal.equations-requires-clause-over
equations-requires-clause-over c =
    over_numbers c.args.machine.now c.as_slice-ports.result.now c.clock-2.result.now c.deref.result.now (body_view c.body.result.now) c.ports.ensures.checked
    (c.as_slice-ports.ensures ∙ c.ports.ensures.value) c.clock-2.ensures.value c.body.ensures.value (c.deref.ensures.value ∙ c.in_ok-numbers.ensures)

pub equations-requires-clause-room : goal.equations-requires-clause-room
equations-requires-clause-room c =
    let room = room_for c.args.machine.now c.args.codes.now c.as_slice-ports.result.now c.clock.result.now c.in_ok-inputs.inputs.items c.requires.few
    (c.as_slice-ports.ensures ∙ c.ports.ensures.value) c.in_ok-inputs.ensures in
    let states : length c.as_slice.result.now ≡ length c.args.codes.now.codes = ap (λ codes. length codes) c.as_slice.ensures in
    let body : signals (body_view c.body.result.now) ≡ signals c.args.machine.now.body = ap signals c.body.ensures.value in
    omega (arith, room, c.len-base.ensures, c.in_ok-inputs.inputs.ok.0, c.width.ensures, states, body)

pub registers-requires-clause-over : goal.registers-requires-clause-over
registers-requires-clause-over c =
    over_numbers c.args.machine.now c.as_slice-ports.result.now c.clock-2.result.now c.deref.result.now (body_view c.body.result.now) c.ports.ensures.checked
    (c.as_slice-ports.ensures ∙ c.ports.ensures.value) c.clock-2.ensures.value c.body.ensures.value (c.deref.ensures.value ∙ c.in_ok-numbers.ensures)

pub registers-requires-clause-room : goal.registers-requires-clause-room
registers-requires-clause-room c =
    let room = room_for c.args.machine.now c.args.codes.now c.as_slice-ports.result.now c.clock.result.now c.in_ok-inputs.inputs.items c.requires.few
    (c.as_slice-ports.ensures ∙ c.ports.ensures.value) c.in_ok-inputs.ensures in
    let states : length c.as_slice.result.now ≡ length c.args.codes.now.codes = ap (λ codes. length codes) c.as_slice.ensures in
    let body : signals (body_view c.body.result.now) ≡ signals c.args.machine.now.body = ap signals c.body.ensures.value in
    omega (arith, room, c.len-base.ensures, c.in_ok-inputs.inputs.ok.0, c.width.ensures, states, body)

pub machine_with-requires : goal.machine_with-requires
machine_with-requires c =
    made_checked c.args.machine.now c.args.codes.now c.in_ok-register_text.field-0 c.in_ok-inputs.inputs.items (map equation_view c.in_ok-equations.equations.items)
    (map register_view c.in_ok-registers.registers.items) c.texts_are_free.ensures.free c.machine_is_ordered.ensures
    (gathered c.args.machine.now c.args.codes.now c.in_ok-register_text.field-0 c.in_ok-inputs.inputs.items (map equation_view c.in_ok-equations.equations.items)
    (map register_view c.in_ok-registers.registers.items)
    c.as_slice-ports.result.now c.clock.result.now c.clock-2.result.now c.deref.result.now (body_view c.body.result.now) c.len-base.result c.width.result
    (length c.as_slice.result.now) c.ports.ensures.checked c.requires.codes c.requires.few (c.as_slice-ports.ensures ∙ c.ports.ensures.value)
    c.clock.ensures.value c.clock-2.ensures.value c.body.ensures.value (omega (arith, c.len-base.ensures, c.in_ok-inputs.inputs.ok.0)) c.width.ensures
    (ap (λ codes. length codes) c.as_slice.ensures) c.in_ok-register_text.ensures c.in_ok-inputs.ensures (c.deref.ensures.value ∙ c.in_ok-numbers.ensures) c.in_ok-equations.ensures
    c.in_ok-registers.ensures)

pub returns-clause-made : goal.returns-clause-made
returns-clause-made c =
    subst (IsMachineOf c.args.machine.now c.args.codes.now) (sym c.in_ok-made.ensures)
    (made_of c.args.machine.now c.args.codes.now c.in_ok-register_text.field-0 c.in_ok-inputs.inputs.items (map equation_view c.in_ok-equations.equations.items)
    (map register_view c.in_ok-registers.registers.items) c.texts_are_free.ensures.free
    (gathered c.args.machine.now c.args.codes.now c.in_ok-register_text.field-0 c.in_ok-inputs.inputs.items (map equation_view c.in_ok-equations.equations.items)
    (map register_view c.in_ok-registers.registers.items)
    c.as_slice-ports.result.now c.clock.result.now c.clock-2.result.now c.deref.result.now (body_view c.body.result.now) c.len-base.result c.width.result
    (length c.as_slice.result.now) c.ports.ensures.checked c.requires.codes c.requires.few (c.as_slice-ports.ensures ∙ c.ports.ensures.value)
    c.clock.ensures.value c.clock-2.ensures.value c.body.ensures.value (omega (arith, c.len-base.ensures, c.in_ok-inputs.inputs.ok.0)) c.width.ensures
    (ap (λ codes. length codes) c.as_slice.ensures) c.in_ok-register_text.ensures c.in_ok-inputs.ensures (c.deref.ensures.value ∙ c.in_ok-numbers.ensures) c.in_ok-equations.ensures
    c.in_ok-registers.ensures))

pub returns-clause-does : goal.returns-clause-does
returns-clause-does c =
    c.machine_does_as.ensures c.args.machine.now c.args.codes.now c.in_ok-made.made c.ports.ensures.checked c.requires.codes
    (subst (IsMachineOf c.args.machine.now c.args.codes.now) (sym c.in_ok-made.ensures)
    (made_of c.args.machine.now c.args.codes.now c.in_ok-register_text.field-0 c.in_ok-inputs.inputs.items (map equation_view c.in_ok-equations.equations.items)
    (map register_view c.in_ok-registers.registers.items) c.texts_are_free.ensures.free
    (gathered c.args.machine.now c.args.codes.now c.in_ok-register_text.field-0 c.in_ok-inputs.inputs.items (map equation_view c.in_ok-equations.equations.items)
    (map register_view c.in_ok-registers.registers.items)
    c.as_slice-ports.result.now c.clock.result.now c.clock-2.result.now c.deref.result.now (body_view c.body.result.now) c.len-base.result c.width.result
    (length c.as_slice.result.now) c.ports.ensures.checked c.requires.codes c.requires.few (c.as_slice-ports.ensures ∙ c.ports.ensures.value)
    c.clock.ensures.value c.clock-2.ensures.value c.body.ensures.value (omega (arith, c.len-base.ensures, c.in_ok-inputs.inputs.ok.0)) c.width.ensures
    (ap (λ codes. length codes) c.as_slice.ensures) c.in_ok-register_text.ensures c.in_ok-inputs.ensures (c.deref.ensures.value ∙ c.in_ok-numbers.ensures) c.in_ok-equations.ensures
    c.in_ok-registers.ensures)))

pub returns-clause-few : goal.returns-clause-few
returns-clause-few c =
    subst (λ (m : Machine). length m.vars + length m.ports < 2 ^ 32 - 2 ^ 16) (sym c.in_ok-made.ensures)
    (made_few c.args.machine.now c.args.codes.now c.in_ok-register_text.field-0 c.in_ok-inputs.inputs.items (map equation_view c.in_ok-equations.equations.items)
    (map register_view c.in_ok-registers.registers.items) c.texts_are_free.ensures.free
    (gathered c.args.machine.now c.args.codes.now c.in_ok-register_text.field-0 c.in_ok-inputs.inputs.items (map equation_view c.in_ok-equations.equations.items)
    (map register_view c.in_ok-registers.registers.items)
    c.as_slice-ports.result.now c.clock.result.now c.clock-2.result.now c.deref.result.now (body_view c.body.result.now) c.len-base.result c.width.result
    (length c.as_slice.result.now) c.ports.ensures.checked c.requires.codes c.requires.few (c.as_slice-ports.ensures ∙ c.ports.ensures.value)
    c.clock.ensures.value c.clock-2.ensures.value c.body.ensures.value (omega (arith, c.len-base.ensures, c.in_ok-inputs.inputs.ok.0)) c.width.ensures
    (ap (λ codes. length codes) c.as_slice.ensures) c.in_ok-register_text.ensures c.in_ok-inputs.ensures (c.deref.ensures.value ∙ c.in_ok-numbers.ensures) c.in_ok-equations.ensures
    c.in_ok-registers.ensures))
