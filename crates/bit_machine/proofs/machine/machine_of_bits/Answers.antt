use Rattle.std.proofs.Common.{◌≤◌, ℕ, List, length, map, sym, ap, ◌∙◌, subst}
use Rattle.vlsi_base.specs.declared.name.Name.{Name}
use Rattle.machine_core.specs.Machine.{Machine}
use Rattle.vlsi_model.specs.Numbered.{name_at}
use Rattle.bit_machine.specs.System.{system_of, IsMachineOfBits}
use Rattle.bit_machine.specs.Laid.{IsLaid, var_bits, ArePartsOf}
use Rattle.bit_machine.proofs.Reaching.{bits_below, finished, vars_few}
use Rattle.bit_machine.proofs.machine.machine_of_bits.Goals as goal

pub names_of-requires : goal.names_of-requires
names_of-requires c =
    let s = system_of c.args.system.now in
    bits_below s c.deref.result.now c.deref-2.result.now (length c.as_slice.result.now) c.requires.system
    (subst (λ (places : List ℕ). IsLaid s places) (sym c.deref.ensures.value) c.in_ok-order.ensures) (c.deref-2.ensures.value ∙ c.in_ok-bits.ensures) (ap length c.as_slice.ensures)

pub new-requires-2 : goal.new-requires-2
new-requires-2 c =
    let s = system_of c.args.system.now in
    let order = c.in_ok-order.order.items in
    (finished s c.args.name c.args.ports c.args.clock order c.new.result c.in_ok-equations.equations c.in_ok-equations.registers c.requires.system c.in_ok-order.ensures c.requires.ports
    (subst (λ (places : List ℕ). ArePartsOf s places c.in_ok-equations.equations c.in_ok-equations.registers) c.deref-3.ensures.value c.in_ok-equations.ensures)
    (c.new.ensures ∙ c.in_ok-vars.ensures ∙ ap (λ (ns : List Name). map (name_at ns) c.deref-2.result.now) c.as_slice.ensures
    ∙ ap (map (name_at c.args.system.now.names)) (c.deref-2.ensures.value ∙ c.in_ok-bits.ensures ∙ ap (var_bits s) c.deref.ensures.value))).0

pub returns-clause-machine : goal.returns-clause-machine
returns-clause-machine c =
    let s = system_of c.args.system.now in
    let order = c.in_ok-order.order.items in
    subst (λ (m : Machine). IsMachineOfBits c.args.name c.args.ports c.args.clock s m) (sym c.new-2.ensures)
    (finished s c.args.name c.args.ports c.args.clock order c.new.result c.in_ok-equations.equations c.in_ok-equations.registers c.requires.system c.in_ok-order.ensures c.requires.ports
    (subst (λ (places : List ℕ). ArePartsOf s places c.in_ok-equations.equations c.in_ok-equations.registers) c.deref-3.ensures.value c.in_ok-equations.ensures)
    (c.new.ensures ∙ c.in_ok-vars.ensures ∙ ap (λ (ns : List Name). map (name_at ns) c.deref-2.result.now) c.as_slice.ensures
    ∙ ap (map (name_at c.args.system.now.names)) (c.deref-2.ensures.value ∙ c.in_ok-bits.ensures ∙ ap (var_bits s) c.deref.ensures.value))).1

pub returns-clause-few : goal.returns-clause-few
returns-clause-few c =
    let s = system_of c.args.system.now in
    let order = c.in_ok-order.order.items in
    subst (λ (m : Machine). length m.vars ≤ length s.names) (sym c.new-2.ensures)
    (vars_few s order c.new.result c.requires.system c.in_ok-order.ensures
    (c.new.ensures ∙ c.in_ok-vars.ensures ∙ ap (λ (ns : List Name). map (name_at ns) c.deref-2.result.now) c.as_slice.ensures
    ∙ ap (map (name_at c.args.system.now.names)) (c.deref-2.ensures.value ∙ c.in_ok-bits.ensures ∙ ap (var_bits s) c.deref.ensures.value)))
