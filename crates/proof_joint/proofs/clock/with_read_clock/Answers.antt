use Rattle.std.proofs.Common.{◌≡◌, length, map, None, sym, ap, subst, ◌∙◌}
use Rattle.machine_core.specs.Machine.{Equation, input_ports}
use Rattle.machine_core.specs.View.{equation_view, machine_of}
use Rattle.machine_core.specs.Checked.{IsChecked}
use Rattle.proof_joint.specs.Clock.{name_place, numbers_without, with_read_clock}
use Rattle.proof_joint.proofs.Clocks.{read_checked, equations_fit, length_numbers, vars_made, built_as}
use Rattle.proof_joint.proofs.clock.with_read_clock.Goals.{After-new-5}
use Rattle.proof_joint.proofs.clock.with_read_clock.Goals as goal

pub equations_over-requires : goal.equations_over-requires
equations_over-requires c =
    equations_fit c.args.m.now c.equations.ensures.checked c.as_slice-equations.result.now (ap (map equation_view) c.as_slice-equations.ensures ∙ c.equations.ensures.value)
    (length c.deref-3.result.now)
    (ap length (c.deref-3.ensures.value ∙ c.in_ok-numbers.ensures) ∙ length_numbers _ _ ∙ ap length (c.as_slice.ensures ∙ c.vars.ensures.value))

-- the parts that are put together are those of the machine that is asked for
together : (c : After-new-5) → machine_of c.in_ok-copy.field-0 c.new.result None c.new-2.result c.new-3.result c.new-5.result ≡ with_read_clock c.args.m.now c.args.clock.now
together c =
    let given : map equation_view c.as_slice-equations.result.now ≡ c.args.m.now.equations = ap (map equation_view) c.as_slice-equations.ensures ∙ c.equations.ensures.value in
    let inputs = c.in_ok-inputs.ensures.names in
    let place : c.name_place.result ≡ name_place c.args.clock.now (input_ports c.args.m.now) =
    c.name_place.ensures ∙ ap (name_place c.args.clock.now) (ap (map (λ n. n.now)) c.deref-2.ensures.value ∙ inputs) in
    let count = ap length (c.as_slice.ensures ∙ c.vars.ensures.value) in
    built_as c.args.m.now c.args.clock.now c.in_ok-copy.field-0 c.new.result c.new-2.result c.new-3.result c.as_slice-equations.result.now c.new-5.result c.deref-3.result.now
    (c.in_ok-copy.ensures ∙ c.name.ensures.value) (c.new.ensures ∙ c.in_ok-copied_ports.ensures ∙ c.as_slice-2.ensures ∙ c.ports.ensures.value)
    (c.new-2.ensures ∙ vars_made c.args.m.now c.new-vars.result.items c.push_copies.new.out.items c.push_equated.new.out.items (map (λ n. n.now) c.deref.result.now)
    (map (λ (e : Equation). e.name) (map equation_view c.as_slice-equations.result.now)) c.new-vars.ensures.items c.in_ok-push_copies.ensures
    (ap (map (λ n. n.now)) c.deref.ensures.value ∙ inputs) c.in_ok-push_equated.ensures (ap (map (λ (e : Equation). e.name)) given))
    given (ap (map equation_view) c.new-3.ensures ∙ c.in_ok-made.ensures)
    (c.deref-3.ensures.value ∙ c.in_ok-numbers.ensures ∙ (λ j. numbers_without (place j) (count j))) (c.new-5.ensures ∙ c.new-4.ensures.items)

pub new-requires-6 : goal.new-requires-6
new-requires-6 c =
    subst IsChecked (sym (together (goal.at.new-requires-6 c).After-new-5)) (read_checked c.args.m.now c.args.clock.now c.equations.ensures.checked c.requires.bare c.requires.clock)

pub returns : goal.returns
returns c = c.new-6.ensures ∙ together (goal.at.returns c).After-new-5
