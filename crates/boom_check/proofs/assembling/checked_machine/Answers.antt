use Rattle.std.proofs.Common.{◌≡◌, ◌-◌, List, length, map, arith, sym, ap, subst, ◌∙◌}
use Rattle.std.specs.List.{All}
use Rattle.std.proofs.lemmas.List.{length-map}
use Rattle.bool_expr.specs.Expression.{IsOver}
use Rattle.bool_expr.specs.View.{view}
use Rattle.machine_core.specs.declared.equation.Equation.{Equation as EquationParts}
use Rattle.machine_core.specs.declared.equation.Register.{Register as RegisterParts}
use Rattle.machine_core.specs.Machine.{Machine}
use Rattle.machine_core.specs.Order.{EachReadsBelow}
use Rattle.machine_core.specs.View.{equation_view, register_view, machine_of}
use Rattle.machine_walk.proofs.Stacks.{frame}
use Rattle.boom_muxes.proofs.Anew.{anew_checked}
use Rattle.boom_check.specs.Assembling.{IsAssembled}
use Rattle.boom_check.proofs.Together.{names_long, equations_long, is_assembled, is_anew}
use Rattle.boom_check.proofs.assembling.checked_machine.Goals as goal

pub overflow_cast-total : goal.overflow_cast-total
overflow_cast-total c =
    let long = names_long c.args.m.now c.requires.checked c.args.parts c.requires.parts in
    let count = c.requires.parts.few in
    omega (arith, long, count, c.len-total.ensures, c.requires.few)

pub reads_below-requires : goal.reads_below-requires
reads_below-requires c =
    let long = equations_long c.args.m.now c.args.parts c.requires.parts in
    let count = c.requires.parts.few in
    let es : map equation_view c.as_slice-2.result.now ≡ c.args.m.now.equations = ap (map equation_view) c.as_slice-2.ensures ∙ c.equations.ensures.value in
    let f = frame c.args.m.now c.requires.checked.ordered c.as_slice.result.now c.as_slice-2.result.now (c.as_slice.ensures ∙ c.vars.ensures.value) es in
    let many : length c.as_slice-2.result.now ≡ length c.args.m.now.equations = sym (length-map c.as_slice-2.result.now equation_view) ∙ ap length es in
    let d = c.deref.ensures in
    let few = c.requires.few in
    omega (arith, long, count, f, many, d, few)

pub new-requires-5 : goal.new-requires-5
new-requires-5 c =
    let es : map equation_view c.as_slice-2.result.now ≡ c.args.m.now.equations = ap (map equation_view) c.as_slice-2.ensures ∙ c.equations.ensures.value in
    let f = frame c.args.m.now c.requires.checked.ordered c.as_slice.result.now c.as_slice-2.result.now (c.as_slice.ensures ∙ c.vars.ensures.value) es in
    anew_checked c.args.m.now c.requires.checked (machine_of c.in_ok-copy.field-0 c.new.result c.in_ok-copied.field-0 c.new-2.result c.new-3.result c.new-4.result)
    (is_anew c.args.m.now c.args.parts c.requires.parts (machine_of c.in_ok-copy.field-0 c.new.result c.in_ok-copied.field-0 c.new-2.result c.new-3.result c.new-4.result)
    (c.in_ok-copy.ensures ∙ c.name.ensures.value) (c.new.ensures ∙ c.in_ok-copied_ports.ensures ∙ c.as_slice-3.ensures ∙ c.ports.ensures.value) (c.in_ok-copied.ensures ∙ c.clock.ensures.value)
    c.new-2.ensures (ap (map equation_view) c.new-3.ensures) (ap (map register_view) c.new-4.ensures)
    (length c.as_slice.result.now - length c.as_slice-2.result.now) c.len-total.result f.1 (omega (arith, c.len-total.ensures))
    (subst (λ (l : List EquationParts). EachReadsBelow (length c.as_slice.result.now - length c.as_slice-2.result.now) (map equation_view l)) c.deref.ensures.value
    (c.reads_below.ensures c.if-not-reads_below.false))
    (subst (λ (l : List RegisterParts). All (λ (r : RegisterParts). IsOver (view r.next) c.len-total.result × IsOver (view r.enable) c.len-total.result) l) c.deref-else-not-reads_below.ensures.value
    (c.loads_below.ensures c.if-not-loads_below.false)))

pub returns : goal.returns
returns c =
    subst (λ (o : Machine). IsAssembled c.args.m.now o) (sym c.new-5.ensures)
    (is_assembled c.args.m.now c.args.parts c.requires.parts (machine_of c.in_ok-copy.field-0 c.new.result c.in_ok-copied.field-0 c.new-2.result c.new-3.result c.new-4.result)
    (c.in_ok-copy.ensures ∙ c.name.ensures.value) (c.new.ensures ∙ c.in_ok-copied_ports.ensures ∙ c.as_slice-3.ensures ∙ c.ports.ensures.value) (c.in_ok-copied.ensures ∙ c.clock.ensures.value)
    c.new-2.ensures (ap (map equation_view) c.new-3.ensures) (ap (map register_view) c.new-4.ensures))
