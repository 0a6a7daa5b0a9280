use Rattle.std.proofs.Common.{ℕ, Option, None, length, map, arith, refl, sym, ap, ◌∙◌, false}
use Rattle.std.specs.Prelude.{replicate}
use Rattle.machine_core.specs.View.{equation_view}
use Rattle.boom_literal.specs.declared.literal.Literal.{Literal}
use Rattle.std.proofs.lemmas.List.{length-map}
use Rattle.boom_opt.proofs.Finishing.{rebuilt_none}
use Rattle.boom_muxes.proofs.Numbered.{all_names}
use Rattle.boom_opt.proofs.optimising.Rebuilt.begin.Goals as goal

pub new-requires : goal.new-requires
new-requires c =
    let es = ap (map equation_view) c.as_slice-equations.ensures ∙ c.equations.ensures.value in
    let long = ap length es in
    let many = length-map c.as_slice-equations.result.now equation_view in
    let names = all_names c.args.m.now c.equations.ensures.checked in
    let vars = ap length (c.as_slice.ensures ∙ c.vars.ensures.value) in
    let given = c.given_weight.ensures in
    let few = c.requires in
    omega (arith, long, many, names, vars, given, few)

pub returns : goal.returns
returns c =
    let es = ap (map equation_view) c.as_slice-equations.ensures ∙ c.equations.ensures.value in
    let long = ap length es in
    let many = length-map c.as_slice-equations.result.now equation_view in
    let names = all_names c.args.m.now c.equations.ensures.checked in
    let vars = ap length (c.as_slice.ensures ∙ c.vars.ensures.value) in
    rebuilt_none c.args.m.now (record { muxes = c.new.result; plan = c.in_ok-new.field-0; is_large = false; nodes = 0; diagram_nodes = 0 }) c.new.ensures.table
    (let held = c.new.ensures.held in omega (arith, held, long, many, names, vars)) (c.new.ensures.given ∙ c.given_weight.ensures) c.new.ensures.empty refl refl refl
    (c.in_ok-new.ensures.equations ∙ ap (λ (n : ℕ). replicate {A = Option Literal} n None) (sym many ∙ long)) c.in_ok-new.ensures.loads
