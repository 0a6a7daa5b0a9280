use Rattle.std.proofs.Common.{◌≡◌, ◌∙◌, sym, ap, subst, List, map, not, filter, ◌++◌, arith}
use Rattle.std.proofs.lemmas.List.{drop_all, length-map}
use Rattle.vlsi_base.specs.declared.name.Name.{Name}
use Rattle.vlsi_base.specs.declared.name.Port.{Port}
use Rattle.vlsi_base.specs.Member.{In, AllDifferent}
use Rattle.machine_core.specs.Machine.{Equation, is_input, names_of}
use Rattle.machine_core.specs.Order.{held_names}
use Rattle.machine_core.specs.View.{equation_view, register_view}
use Rattle.machine_roots.specs.Listing.{AreOutputRoots}
use Rattle.machine_roots.proofs.Outputs.{names_again}
use Rattle.machine_roots.proofs.Loaded.{loading, loads_more, loaded}
use Rattle.machine_roots.proofs.listing.roots.Goals as goal

pub output_roots-requires-clause-ends : goal.output_roots-requires-clause-ends
output_roots-requires-clause-ends c =
    let es : map equation_view c.as_slice-equations.result.now ≡ c.args.m.now.equations = ap (map equation_view) c.as_slice-equations.ensures ∙ c.equations.ensures.value in (
      held_names c.args.m.now,
      c.as_slice-names.ensures ∙ c.vars.ensures.value ∙ c.equations.ensures.checked.ordered.vars
          ∙ ap (λ (ns : List Name). held_names c.args.m.now ++ ns) (ap (map (λ (e : Equation). e.name)) (sym es) ∙ names_again c.as_slice-equations.result.now),
    )

pub output_roots-requires-clause-driven : goal.output_roots-requires-clause-driven
output_roots-requires-clause-driven c =
    let es : map equation_view c.as_slice-equations.result.now ≡ c.args.m.now.equations = ap (map equation_view) c.as_slice-equations.ensures ∙ c.equations.ensures.value in
    let names : map (λ (e : Equation). e.name) c.args.m.now.equations ≡ map (λ e. e.name) c.as_slice-equations.result.now = ap (map (λ (e : Equation). e.name)) (sym es) ∙ names_again c.as_slice-equations.result.now in
    let ports = c.as_slice.ensures ∙ c.ports.ensures.value in (
      subst AllDifferent (sym (c.as_slice-names.ensures ∙ c.vars.ensures.value)) c.equations.ensures.checked.ordered.different,
      λ name h. subst (λ (ns : List Name). In name ns) names
          (c.equations.ensures.checked.driven name (subst (λ (ps : List Port). In name (names_of (filter (λ p. not (is_input p.dir)) ps))) ports h)),
    )

pub loop-register-init : goal.loop-register-init
loop-register-init c =
    let es : map equation_view c.as_slice-equations.result.now ≡ c.args.m.now.equations = ap (map equation_view) c.as_slice-equations.ensures ∙ c.equations.ensures.value in
    let ports = c.as_slice.ensures ∙ c.ports.ensures.value in
    let first : AreOutputRoots c.args.m.now.equations (names_of (filter (λ p. not (is_input p.dir)) c.as_slice.result.now)) c.in_ok-out.out.items =
    subst (λ (xs : List Equation). AreOutputRoots xs (names_of (filter (λ p. not (is_input p.dir)) c.as_slice.result.now)) c.in_ok-out.out.items) es c.in_ok-out.ensures in
    loading c.args.m.now c.as_slice-register-items.result.now c.in_ok-out.out.items (ap (map register_view) c.as_slice-register-items.ensures ∙ c.registers.ensures.value)
    (subst (λ (ps : List Port). AreOutputRoots c.args.m.now.equations (names_of (filter (λ p. not (is_input p.dir)) ps)) c.in_ok-out.out.items) ports first)

pub loop-register-preserved : goal.loop-register-preserved
loop-register-preserved c =
    loads_more c.args.m.now c.as_slice-register-items.result.now c.loop-register.register-index c.loop-register.out.items c.push_register.new.out.items c.register-item.result
    c.loop-register-test.true c.register-item.is c.in_ok-push_register.ensures.views c.in_ok-push_register.ensures.none c.in_ok-push_register.ensures.placed c.loop-register.invariant

pub returns : goal.returns
returns c =
    loaded c.args.m.now c.as_slice-register-items.result.now c.loop-register.register-index c.loop-register.out.items
    (drop_all c.loop-register.register-index (map register_view c.as_slice-register-items.result.now) (omega (arith, c.loop-register-test.false, length-map c.as_slice-register-items.result.now register_view)))
    c.loop-register.invariant
