use Rattle.std.proofs.Common.{◌≡◌, ℕ, List, map, sym, ap, ◌∙◌, subst, Ok, Err, IfOk, Result}
use Rattle.std.specs.List.{All}
use Rattle.vlsi_base.specs.declared.name.Name.{Name}
use Rattle.machine_core.specs.Machine.{Equation}
use Rattle.machine_core.specs.Order.{In, AllDifferent}
use Rattle.machine_core.specs.View.{equation_view}
use Rattle.machine_core.specs.declared.equation.Equation.{Equation as EquationParts}
use Rattle.source_checks.specs.Symbols.{all_names}
use Rattle.source_checks.specs.Elaboration.{definitions}
use Rattle.source_bits.specs.Driven.{driven_view}
use Rattle.vlsi_model.specs.Laid.{names_defined}
use Rattle.vlsi_model.specs.Numbered.{HasVars}
use Rattle.vbe_free.specs.Second.{AreOver, AreOnes, equation_for}
use Rattle.vbe_free.proofs.Tables.{tables}
use Rattle.vbe_free.proofs.Ending.{ok_ones}
use Rattle.vbe_free.proofs.second.equations_of.Goals as goal

pub driven_names-requires : goal.driven_names-requires
driven_names-requires c = (tables c.args.low.now c.args.design.now c.requires.first c.args.driven.now c.args.numbers.now c.requires.known c.requires.driven).inside

pub var_numbers-requires-clause-texts : goal.var_numbers-requires-clause-texts
var_numbers-requires-clause-texts c = (tables c.args.low.now c.args.design.now c.requires.first c.args.driven.now c.args.numbers.now c.requires.known c.requires.driven).texts

pub var_numbers-requires-clause-declared : goal.var_numbers-requires-clause-declared
var_numbers-requires-clause-declared c =
    let t = tables c.args.low.now c.args.design.now c.requires.first c.args.driven.now c.args.numbers.now c.requires.known c.requires.driven in
    subst (λ (l : List Name). All (λ n. In n (all_names c.args.numbers.now)) l) (sym (c.deref.ensures.value ∙ c.in_ok-names.ensures ∙ t.names)) t.declared

pub var_numbers-requires-clause-different : goal.var_numbers-requires-clause-different
var_numbers-requires-clause-different c =
    let t = tables c.args.low.now c.args.design.now c.requires.first c.args.driven.now c.args.numbers.now c.requires.known c.requires.driven in
    subst (λ (l : List Name). AllDifferent l) (sym (c.deref.ensures.value ∙ c.in_ok-names.ensures ∙ t.names)) t.different

pub var_numbers-requires-2-clause-texts : goal.var_numbers-requires-2-clause-texts
var_numbers-requires-2-clause-texts c = (tables c.args.low.now c.args.design.now c.requires.first c.args.driven.now c.args.numbers.now c.requires.known c.requires.driven).texts

pub var_numbers-requires-2-clause-declared : goal.var_numbers-requires-2-clause-declared
var_numbers-requires-2-clause-declared c =
    let t = tables c.args.low.now c.args.design.now c.requires.first c.args.driven.now c.args.numbers.now c.requires.known c.requires.driven in
    subst (λ (l : List Name). All (λ n. In n (all_names c.args.numbers.now)) l) (sym (c.as_slice.ensures ∙ c.vars.ensures.value)) t.vars

pub equations_for-requires-clause-texts : goal.equations_for-requires-clause-texts
equations_for-requires-clause-texts c = (tables c.args.low.now c.args.design.now c.requires.first c.args.driven.now c.args.numbers.now c.requires.known c.requires.driven).texts

pub equations_for-requires-clause-over : goal.equations_for-requires-clause-over
equations_for-requires-clause-over c =
    let t = tables c.args.low.now c.args.design.now c.requires.first c.args.driven.now c.args.numbers.now c.requires.known c.requires.driven in
    let all = all_names c.args.numbers.now in
    let places : HasVars all (names_defined (definitions c.args.design.now)) c.in_ok-places.places.items =
    subst (λ (l : List Name). HasVars all l c.in_ok-places.places.items) (c.deref.ensures.value ∙ c.in_ok-names.ensures ∙ t.names) c.in_ok-places.ensures in
    let vars : HasVars all c.args.low.now.vars c.in_ok-vars.vars.items =
    subst (λ (l : List Name). HasVars all l c.in_ok-vars.vars.items) (c.as_slice.ensures ∙ c.vars.ensures.value) c.in_ok-vars.ensures in
    subst (λ (l : List ℕ). AreOver (map driven_view c.args.driven.now) l) (sym c.deref-3.ensures.value) (t.over c.in_ok-places.places.items c.in_ok-vars.vars.items places vars)

pub equations_for-requires-clause-found : goal.equations_for-requires-clause-found
equations_for-requires-clause-found c =
    let t = tables c.args.low.now c.args.design.now c.requires.first c.args.driven.now c.args.numbers.now c.requires.known c.requires.driven in
    let all = all_names c.args.numbers.now in
    let places : HasVars all (names_defined (definitions c.args.design.now)) c.deref-2.result.now =
    subst (λ (l : List ℕ). HasVars all (names_defined (definitions c.args.design.now)) l) (sym c.deref-2.ensures.value)
    (subst (λ (l : List Name). HasVars all l c.in_ok-places.places.items) (c.deref.ensures.value ∙ c.in_ok-names.ensures ∙ t.names) c.in_ok-places.ensures) in
    let vars : HasVars all c.args.low.now.vars c.in_ok-vars.vars.items =
    subst (λ (l : List Name). HasVars all l c.in_ok-vars.vars.items) (c.as_slice.ensures ∙ c.vars.ensures.value) c.in_ok-vars.ensures in
    t.found c.deref-2.result.now c.in_ok-vars.vars.items places vars c.as_slice-2.result.now (ap (map equation_view) c.as_slice-2.ensures ∙ c.equations.ensures.value)

pub returns : goal.returns
returns c =
    let t = tables c.args.low.now c.args.design.now c.requires.first c.args.driven.now c.args.numbers.now c.requires.known c.requires.driven in
    let all = all_names c.args.numbers.now in
    let places : HasVars all (names_defined (definitions c.args.design.now)) c.deref-2.result.now =
    subst (λ (l : List ℕ). HasVars all (names_defined (definitions c.args.design.now)) l) (sym c.deref-2.ensures.value)
    (subst (λ (l : List Name). HasVars all l c.in_ok-places.places.items) (c.deref.ensures.value ∙ c.in_ok-names.ensures ∙ t.names) c.in_ok-places.ensures) in
    let vars : HasVars all c.args.low.now.vars c.deref-3.result.now =
    subst (λ (l : List ℕ). HasVars all c.args.low.now.vars l) (sym c.deref-3.ensures.value)
    (subst (λ (l : List Name). HasVars all l c.in_ok-vars.vars.items) (c.as_slice.ensures ∙ c.vars.ensures.value) c.in_ok-vars.ensures) in
    ok_ones (λ v. v.items) c.args.low.now c.args.design.now
    (map (λ (e : EquationParts). equation_for all (map driven_view c.args.driven.now) c.deref-2.result.now c.deref-3.result.now e.name) c.as_slice-2.result.now)
    c.equations_for.result c.equations_for.ensures
    (t.ones c.deref-2.result.now c.deref-3.result.now places vars c.as_slice-2.result.now (ap (map equation_view) c.as_slice-2.ensures ∙ c.equations.ensures.value))
