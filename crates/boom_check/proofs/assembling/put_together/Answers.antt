use Rattle.std.proofs.Common.{◌≡◌, ◌-◌, ◌++◌, ℕ, List, length, map, arith, ap, subst, ◌∙◌}
use Rattle.std.specs.List.{AllZip}
use Rattle.vlsi_base.specs.declared.name.Name.{Name}
use Rattle.machine_core.specs.Machine.{names_of}
use Rattle.machine_core.specs.View.{equation_view, register_view}
use Rattle.boom_muxes.specs.Names.{IsFreshText, new_names}
use Rattle.boom_muxes.proofs.Parts.{equations_over, nexts_over, enables_over, held_is}
use Rattle.boom_muxes.proofs.Numbered.{length-numbers}
use Rattle.boom_check.specs.Assembling.{IsSaidEquation, IsSaidRegister}
use Rattle.boom_check.proofs.Together.{parts_of}
use Rattle.boom_check.proofs.assembling.put_together.Goals as goal

pub said_equations-requires : goal.said_equations-requires
said_equations-requires c =
    let given : c.as_slice-given.result.now ≡ c.args.m.now.vars = c.as_slice-given.ensures ∙ c.vars.ensures.value in
    equations_over c.args.m.now (length c.deref-3.result.now) c.as_slice-equations.result.now c.requires.checked (ap (map equation_view) c.as_slice-equations.ensures ∙ c.equations.ensures.value)
    (ap length (c.deref-3.ensures.value ∙ c.in_ok-numbers.ensures) ∙ length-numbers _ _ _ ∙ ap length given)

pub said_registers-requires-clause-next : goal.said_registers-requires-clause-next
said_registers-requires-clause-next c =
    let given : c.as_slice-given.result.now ≡ c.args.m.now.vars = c.as_slice-given.ensures ∙ c.vars.ensures.value in
    nexts_over c.args.m.now (length c.deref-5.result.now) c.as_slice-2.result.now c.requires.checked (ap (map register_view) c.as_slice-2.ensures ∙ c.registers.ensures.value)
    (ap length (c.deref-5.ensures.value ∙ c.in_ok-numbers.ensures) ∙ length-numbers _ _ _ ∙ ap length given)

pub said_registers-requires-clause-enable : goal.said_registers-requires-clause-enable
said_registers-requires-clause-enable c =
    let given : c.as_slice-given.result.now ≡ c.args.m.now.vars = c.as_slice-given.ensures ∙ c.vars.ensures.value in
    enables_over c.args.m.now (length c.deref-5.result.now) c.as_slice-2.result.now c.requires.checked (ap (map register_view) c.as_slice-2.ensures ∙ c.registers.ensures.value)
    (ap length (c.deref-5.ensures.value ∙ c.in_ok-numbers.ensures) ∙ length-numbers _ _ _ ∙ ap length given)

pub returns : goal.returns
returns c =
    let given : c.as_slice-given.result.now ≡ c.args.m.now.vars = c.as_slice-given.ensures ∙ c.vars.ensures.value in
    let ports : c.as_slice.result.now ≡ c.args.m.now.ports = c.as_slice.ensures ∙ c.ports.ensures.value in
    let es : map equation_view c.as_slice-equations.result.now ≡ c.args.m.now.equations = ap (map equation_view) c.as_slice-equations.ensures ∙ c.equations.ensures.value in
    let rs : map register_view c.as_slice-2.result.now ≡ c.args.m.now.registers = ap (map register_view) c.as_slice-2.ensures ∙ c.registers.ensures.value in
    let inner = c.requires.inner in
    let count = c.len-count.ensures in
    parts_of c.args.m.now c.requires.checked
    (record { text = c.in_ok-text.text; vars = c.in_ok-vars.vars; equations = c.put_behind.new.out; registers = c.in_ok-registers.registers })
    (length c.as_slice-given.result.now - length c.as_slice-equations.result.now) c.len-count.result (length c.as_slice-given.result.now) c.in_ok-numbers.numbers.items
    c.as_slice-given.result.now c.as_slice-equations.result.now c.in_ok-made.made.items c.in_ok-kept.kept.items c.as_slice-2.result.now
    (ap (λ (g : List Name). length g - length c.as_slice-equations.result.now) given ∙ held_is c.args.m.now c.as_slice-equations.result.now c.requires.checked es)
    (ap length given) given c.in_ok-numbers.ensures (omega (arith, inner, count))
    (subst (λ (ns : List Name). IsFreshText ns c.in_ok-text.text) (λ j. names_of (ports j) ++ given j) c.in_ok-text.ensures)
    c.in_ok-vars.ensures es rs
    (c.in_ok-made.ensures ∙ ap (new_names c.in_ok-text.text) (let d = c.deref.ensures in omega (arith, d, count)))
    (subst (λ (ns : List ℕ). AllZip (IsSaidEquation ns) (map equation_view c.as_slice-equations.result.now) (map equation_view c.in_ok-kept.kept.items)) c.deref-3.ensures.value c.in_ok-kept.ensures)
    c.in_ok-put_behind.ensures
    (subst (λ (ns : List ℕ). AllZip (IsSaidRegister ns) (map register_view c.as_slice-2.result.now) (map register_view c.in_ok-registers.registers.items)) c.deref-5.ensures.value
    c.in_ok-registers.ensures)
