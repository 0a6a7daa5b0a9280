use Rattle.std.proofs.Common.{◌≡◌, ◌++◌, ◌-◌, ℕ, List, length, map, refl, arith, sym, ap, subst, ◌∙◌}
use Rattle.std.specs.Option.{option_copied}
use Rattle.vlsi_base.specs.declared.name.Name.{Name}
use Rattle.machine_core.specs.Machine.{Machine, names_of}
use Rattle.machine_core.specs.View.{equation_view, register_view, machine_of}
use Rattle.boom_muxes.specs.Names.{IsFreshText}
use Rattle.boom_muxes.specs.Building.{equations_said, registers_said, mux_equations, IsBuilt}
use Rattle.boom_muxes.proofs.Sound.{built_checked}
use Rattle.boom_muxes.proofs.Parts.{equations_over, nexts_over, enables_over, held_is, built_of, put_together}
use Rattle.boom_muxes.proofs.Numbered.{length-numbers}
use Rattle.boom_muxes.proofs.building.build.Goals as goal

pub push_equations-requires-clause-over : goal.push_equations-requires-clause-over
push_equations-requires-clause-over c =
    let given : c.as_slice-given.result.now ≡ c.args.m.now.vars = c.as_slice-given.ensures ∙ c.vars.ensures.value in
    equations_over c.args.m.now (length c.deref.result.now) c.as_slice-equations.result.now c.requires.parts.checked (ap (map equation_view) c.as_slice-equations.ensures ∙ c.equations.ensures.value)
    (ap length (c.deref.ensures.value ∙ c.in_ok-numbers.ensures) ∙ length-numbers _ _ _ ∙ ap length given)

pub registers-requires-2-clause-next : goal.registers-requires-2-clause-next
registers-requires-2-clause-next c =
    let given : c.as_slice-given.result.now ≡ c.args.m.now.vars = c.as_slice-given.ensures ∙ c.vars.ensures.value in
    nexts_over c.args.m.now (length c.deref-2.result.now) c.as_slice-2.result.now c.requires.parts.checked (ap (map register_view) c.as_slice-2.ensures ∙ c.registers.ensures.value)
    (ap length (c.deref-2.ensures.value ∙ c.in_ok-numbers.ensures) ∙ length-numbers _ _ _ ∙ ap length given)

pub registers-requires-2-clause-enable : goal.registers-requires-2-clause-enable
registers-requires-2-clause-enable c =
    let given : c.as_slice-given.result.now ≡ c.args.m.now.vars = c.as_slice-given.ensures ∙ c.vars.ensures.value in
    enables_over c.args.m.now (length c.deref-2.result.now) c.as_slice-2.result.now c.requires.parts.checked (ap (map register_view) c.as_slice-2.ensures ∙ c.registers.ensures.value)
    (ap length (c.deref-2.ensures.value ∙ c.in_ok-numbers.ensures) ∙ length-numbers _ _ _ ∙ ap length given)

pub new-requires-5 : goal.new-requires-5
new-requires-5 c =
    let m : Machine = c.args.m.now in
    let given : c.as_slice-given.result.now ≡ c.args.m.now.vars = c.as_slice-given.ensures ∙ c.vars.ensures.value in
    let ports : c.as_slice.result.now ≡ c.args.m.now.ports = c.as_slice.ensures ∙ c.ports.ensures.value in
    let es : map equation_view c.as_slice-equations.result.now ≡ c.args.m.now.equations = ap (map equation_view) c.as_slice-equations.ensures ∙ c.equations.ensures.value in
    let rs : map register_view c.as_slice-2.result.now ≡ c.args.m.now.registers = ap (map register_view) c.as_slice-2.ensures ∙ c.registers.ensures.value in
    let long = ap length given in
    let few = c.requires.few in
    let built : IsBuilt c.args.m.now c.args.muxes.now (option_copied c.args.plan) (machine_of c.in_ok-copy.field-0 c.new.result c.in_ok-copied.field-0 c.new-2.result c.new-3.result c.new-4.result) =
    built_of c.args.m.now c.args.muxes.now (option_copied c.args.plan) c.in_ok-text.text (length c.as_slice-given.result.now - length c.as_slice-equations.result.now) (length c.args.muxes.now)
    (length c.as_slice-given.result.now) c.in_ok-numbers.numbers.items c.in_ok-copy.field-0 c.new.result c.in_ok-copied.field-0 c.new-2.result c.as_slice-given.result.now c.new-3.result c.as_slice-equations.result.now
    c.new-4.result c.as_slice-2.result.now c.requires.parts.checked
    (ap (λ (g : List Name). length g - length c.as_slice-equations.result.now) given ∙ held_is c.args.m.now c.as_slice-equations.result.now c.requires.parts.checked es)
    refl (ap length given) given
    (subst (λ (ns : List Name). IsFreshText ns c.in_ok-text.text) (λ j. names_of (ports j) ++ given j) c.in_ok-text.ensures)
    (omega (arith, long, few)) (c.in_ok-copy.ensures ∙ c.name.ensures.value) (c.new.ensures ∙ c.in_ok-copied_ports.ensures ∙ c.as_slice-3.ensures ∙ c.ports-2.ensures.value)
    (c.in_ok-copied.ensures ∙ c.clock.ensures.value) (c.new-2.ensures ∙ c.in_ok-vars.ensures) c.in_ok-numbers.ensures es rs
    (put_together c.new-made.result.items c.push_muxes.new.out.items c.push_equations.new.out.items c.new-3.result (mux_equations c.in_ok-text.text 0 c.args.muxes.now)
    (equations_said c.deref.result.now (option_copied c.args.plan) 0 (map equation_view c.as_slice-equations.result.now)) c.new-3.ensures c.in_ok-push_equations.ensures c.in_ok-push_muxes.ensures c.new-made.ensures.items
    ∙ ap (λ (n : List ℕ). mux_equations c.in_ok-text.text 0 c.args.muxes.now ++ equations_said n (option_copied c.args.plan) 0 (map equation_view c.as_slice-equations.result.now)) c.deref.ensures.value)
    (ap (map register_view) c.new-4.ensures ∙ c.in_ok-registers.ensures ∙ ap (λ (n : List ℕ). registers_said n (option_copied c.args.plan) 0 (map register_view c.as_slice-2.result.now)) c.deref-2.ensures.value) in
    built_checked c.args.m.now c.args.muxes.now (option_copied c.args.plan) c.requires.parts (machine_of c.in_ok-copy.field-0 c.new.result c.in_ok-copied.field-0 c.new-2.result c.new-3.result c.new-4.result) built

pub returns : goal.returns
returns c =
    let m : Machine = c.args.m.now in
    let given : c.as_slice-given.result.now ≡ c.args.m.now.vars = c.as_slice-given.ensures ∙ c.vars.ensures.value in
    let ports : c.as_slice.result.now ≡ c.args.m.now.ports = c.as_slice.ensures ∙ c.ports.ensures.value in
    let es : map equation_view c.as_slice-equations.result.now ≡ c.args.m.now.equations = ap (map equation_view) c.as_slice-equations.ensures ∙ c.equations.ensures.value in
    let rs : map register_view c.as_slice-2.result.now ≡ c.args.m.now.registers = ap (map register_view) c.as_slice-2.ensures ∙ c.registers.ensures.value in
    let long = ap length given in
    let few = c.requires.few in
    let built : IsBuilt c.args.m.now c.args.muxes.now (option_copied c.args.plan) (machine_of c.in_ok-copy.field-0 c.new.result c.in_ok-copied.field-0 c.new-2.result c.new-3.result c.new-4.result) =
    built_of c.args.m.now c.args.muxes.now (option_copied c.args.plan) c.in_ok-text.text (length c.as_slice-given.result.now - length c.as_slice-equations.result.now) (length c.args.muxes.now)
    (length c.as_slice-given.result.now) c.in_ok-numbers.numbers.items c.in_ok-copy.field-0 c.new.result c.in_ok-copied.field-0 c.new-2.result c.as_slice-given.result.now c.new-3.result c.as_slice-equations.result.now
    c.new-4.result c.as_slice-2.result.now c.requires.parts.checked
    (ap (λ (g : List Name). length g - length c.as_slice-equations.result.now) given ∙ held_is c.args.m.now c.as_slice-equations.result.now c.requires.parts.checked es)
    refl (ap length given) given
    (subst (λ (ns : List Name). IsFreshText ns c.in_ok-text.text) (λ j. names_of (ports j) ++ given j) c.in_ok-text.ensures)
    (omega (arith, long, few)) (c.in_ok-copy.ensures ∙ c.name.ensures.value) (c.new.ensures ∙ c.in_ok-copied_ports.ensures ∙ c.as_slice-3.ensures ∙ c.ports-2.ensures.value)
    (c.in_ok-copied.ensures ∙ c.clock.ensures.value) (c.new-2.ensures ∙ c.in_ok-vars.ensures) c.in_ok-numbers.ensures es rs
    (put_together c.new-made.result.items c.push_muxes.new.out.items c.push_equations.new.out.items c.new-3.result (mux_equations c.in_ok-text.text 0 c.args.muxes.now)
    (equations_said c.deref.result.now (option_copied c.args.plan) 0 (map equation_view c.as_slice-equations.result.now)) c.new-3.ensures c.in_ok-push_equations.ensures c.in_ok-push_muxes.ensures c.new-made.ensures.items
    ∙ ap (λ (n : List ℕ). mux_equations c.in_ok-text.text 0 c.args.muxes.now ++ equations_said n (option_copied c.args.plan) 0 (map equation_view c.as_slice-equations.result.now)) c.deref.ensures.value)
    (ap (map register_view) c.new-4.ensures ∙ c.in_ok-registers.ensures ∙ ap (λ (n : List ℕ). registers_said n (option_copied c.args.plan) 0 (map register_view c.as_slice-2.result.now)) c.deref-2.ensures.value) in
    subst (λ (o : Machine). IsBuilt c.args.m.now c.args.muxes.now (option_copied c.args.plan) o) (sym c.new-5.ensures) built
