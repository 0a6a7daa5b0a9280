use Rattle.std.proofs.Common.{◌∙◌, Bool, List, length, ap, sym, subst}
use Rattle.pat_meaning.specs.Circuit.{of_machine}
use Rattle.pat_meaning.specs.Simulation.{rises, Takes}
use Rattle.asimut_sim.specs.Program.{bits_of}
use Rattle.asimut_sim.specs.Flat.{IsArray}
use Rattle.asimut_sim.proofs.SimLemmas.{sees-from, inputs_many, written}
use Rattle.asimut_sim.proofs.simulation.see.Goals as goal

pub observe-requires-clause-inputs : goal.observe-requires-clause-inputs
observe-requires-clause-inputs c =
    inputs_many c.args.flat.now.machine.now c.args.columns.now c.args.plan.now.listed.items c.args.plan.now.inputs.items c.deref-2.result.now c.args.plan.now.clock
    c.args.plan.now.seen.items c.deref.result.now c.in_ok-inputs.inputs.items c.deref-4.result.now c.requires.plan c.deref-2.ensures.value c.in_ok-inputs.ensures c.deref-4.ensures.value

pub observe-requires-clause-bits : goal.observe-requires-clause-bits
observe-requires-clause-bits c = subst (IsArray c.args.flat.now) (sym c.deref_mut-2.ensures.value) c.requires.state.array

pub returns-clause-sees : goal.returns-clause-sees
returns-clause-sees c =
    let contents = written c.observe.new.contents c.args.state.now.contents.items c.args.state.now.contents.len (c.observe.auto.contents ∙ c.deref_mut.ensures.len) in
    let bits = written c.observe.new.bits c.args.state.now.bits.items c.args.state.now.bits.len (c.observe.auto.bits ∙ c.deref_mut-2.ensures.len) in
    let takes : Takes (rises c.args.state.now.clock c.bit_at-clock.result) (of_machine c.args.flat.now.machine.now) c.deref-4.result.now c.args.state.now.contents.items
    (bits_of c.observe.new.bits c.args.flat.now.vars.items) c.observe.new.contents = rw (← c.is_rise-is_rising.ensures, ← c.deref_mut.ensures.value) c.observe.ensures.takes in
    rw (contents, bits)
    (sees-from c.args.flat.now.machine.now c.args.columns.now c.args.pattern.now c.args.plan.now.listed.items c.args.plan.now.inputs.items c.deref-2.result.now
    c.args.plan.now.clock c.args.plan.now.seen.items c.as_slice.result.now c.in_ok-bits.bits.items c.deref.result.now c.deref-3.result.now
    c.in_ok-inputs.inputs.items c.deref-4.result.now _ _ _ c.args.state.now.clock c.bit_at-clock.result
    c.requires.plan c.as_slice.ensures c.in_ok-bits.ensures c.deref.ensures.value c.deref-3.ensures.value c.deref-2.ensures.value
    c.in_ok-inputs.ensures c.deref-4.ensures.value c.bit_at-clock.ensures takes)

pub returns-clause-state : goal.returns-clause-state
returns-clause-state c =
    let contents = written c.observe.new.contents c.args.state.now.contents.items c.args.state.now.contents.len (c.observe.auto.contents ∙ c.deref_mut.ensures.len) in
    let bits = written c.observe.new.bits c.args.state.now.bits.items c.args.state.now.bits.len (c.observe.auto.bits ∙ c.deref_mut-2.ensures.len) in
    rw (contents, bits)
    (record {
      held = c.observe.auto.contents ∙ ap (λ (x : List Bool). length x) c.deref_mut.ensures.value ∙ c.requires.state.held;
      array = c.observe.ensures.bits;
    })
