use Rattle.std.proofs.Common.{◌≡◌, ◌∙◌, ◌++◌, ℕ, List, map, length, ap}
use Rattle.machine_core.specs.View.{equation_view, register_view}
use Rattle.machine_core.specs.Order.{held_names}
use Rattle.machine_core.specs.Machine.{outputs}
use Rattle.vlsi_base.specs.Names.{scalar}
use Rattle.vbe_print.specs.Written.{renamed, taken_texts}
use Rattle.vbe_print.proofs.Naming.{keeps, Knows, knows_outputs, texts_are, few_taken, signals_are, vars_made, held_are, behind_are, within_all}
use Rattle.vbe_print.proofs.names.spelling_of.Goals as goal

pub inner_texts-requires : goal.inner_texts-requires
inner_texts-requires c =
    let m = c.args.machine.now in
    let ports : c.as_slice-ports.result.now ≡ m.ports = c.as_slice-ports.ensures ∙ c.ports.ensures.value in
    let stated : map equation_view c.as_slice-equations.result.now ≡ m.equations = ap (map equation_view) c.as_slice-equations.ensures ∙ c.equations.ensures.value in
    let stored : map register_view c.as_slice.result.now ≡ m.registers = ap (map register_view) c.as_slice.ensures ∙ c.registers.ensures.value in
    let texts : c.deref-2.result.now ≡ taken_texts m = texts_are m c.as_slice-ports.result.now c.as_slice.result.now c.deref-2.result.now ports stored (c.deref-2.ensures.value ∙ c.in_ok-texts.ensures) in
    few_taken m c.as_slice-equations.result.now c.deref-2.result.now c.ports.ensures.checked stated texts c.requires

pub push_renamed-requires : goal.push_renamed-requires
push_renamed-requires c = ap (λ (ts : List (List ℕ)). length ts) c.deref-3.ensures.value ∙ c.in_ok-signals.ensures.each

pub returns-clause-signals : goal.returns-clause-signals
returns-clause-signals c =
    let m = c.args.machine.now in
    let ports : c.as_slice-ports.result.now ≡ m.ports = c.as_slice-ports.ensures ∙ c.ports.ensures.value in
    let stated : map equation_view c.as_slice-equations.result.now ≡ m.equations = ap (map equation_view) c.as_slice-equations.ensures ∙ c.equations.ensures.value in
    let stored : map register_view c.as_slice.result.now ≡ m.registers = ap (map register_view) c.as_slice.ensures ∙ c.registers.ensures.value in
    let texts : c.deref-2.result.now ≡ taken_texts m = texts_are m c.as_slice-ports.result.now c.as_slice.result.now c.deref-2.result.now ports stored (c.deref-2.ensures.value ∙ c.in_ok-texts.ensures) in
    let knows : Knows c.in_ok-outputs.outputs (outputs m) =
    knows_outputs m c.in_ok-outputs.outputs c.as_slice-ports.result.now c.deref.result.now ports (c.deref.ensures.value ∙ c.in_ok-named.ensures) c.in_ok-outputs.ensures in
    signals_are c.args.stem.now m c.in_ok-outputs.outputs c.as_slice-equations.result.now c.deref-2.result.now c.in_ok-signals.signals.items stated knows texts c.in_ok-signals.ensures.are

pub returns-clause-vars : goal.returns-clause-vars
returns-clause-vars c =
    let m = c.args.machine.now in
    let ports : c.as_slice-ports.result.now ≡ m.ports = c.as_slice-ports.ensures ∙ c.ports.ensures.value in
    let stated : map equation_view c.as_slice-equations.result.now ≡ m.equations = ap (map equation_view) c.as_slice-equations.ensures ∙ c.equations.ensures.value in
    let stored : map register_view c.as_slice.result.now ≡ m.registers = ap (map register_view) c.as_slice.ensures ∙ c.registers.ensures.value in
    let texts : c.deref-2.result.now ≡ taken_texts m = texts_are m c.as_slice-ports.result.now c.as_slice.result.now c.deref-2.result.now ports stored (c.deref-2.ensures.value ∙ c.in_ok-texts.ensures) in
    let knows : Knows c.in_ok-outputs.outputs (outputs m) =
    knows_outputs m c.in_ok-outputs.outputs c.as_slice-ports.result.now c.deref.result.now ports (c.deref.ensures.value ∙ c.in_ok-named.ensures) c.in_ok-outputs.ensures in
    let held : c.in_ok-vars.vars.items ≡ held_names m =
    held_are m c.as_slice-3.result.now c.as_slice-2.result.now c.in_ok-vars.vars.items c.as_slice-equations.result.now c.ports.ensures.checked (c.as_slice-3.ensures ∙ c.vars-2.ensures.value) (c.as_slice-2.ensures ∙ c.vars.ensures.value) stated c.in_ok-vars.ensures in
    vars_made c.args.stem.now m c.in_ok-outputs.outputs c.as_slice-equations.result.now c.deref-2.result.now c.in_ok-vars.vars.items c.push_renamed.new.vars.items stated knows texts held
    (c.in_ok-push_renamed.ensures
    ∙ ap (λ (ts : List (List ℕ)). c.in_ok-vars.vars.items ++ renamed (keeps c.in_ok-outputs.outputs) (map (λ e. e.name) c.as_slice-equations.result.now) (map scalar ts))
    (c.deref-3.ensures.value ∙ c.in_ok-signals.ensures.are))

pub returns-clause-held : goal.returns-clause-held
returns-clause-held c =
    let m = c.args.machine.now in
    let stated : map equation_view c.as_slice-equations.result.now ≡ m.equations = ap (map equation_view) c.as_slice-equations.ensures ∙ c.equations.ensures.value in
    behind_are c.args.stem.now m c.as_slice-2.result.now c.push_renamed.new.vars.items c.as_slice-equations.result.now c.ports.ensures.checked (c.as_slice-2.ensures ∙ c.vars.ensures.value) stated (returns-clause-vars c)

pub returns-clause-within : goal.returns-clause-within
returns-clause-within c =
    let m = c.args.machine.now in
    within_all c.args.stem.now m c.as_slice-2.result.now c.push_renamed.new.vars.items (length c.as_slice-equations.result.now) c.ports.ensures.checked (c.as_slice-2.ensures ∙ c.vars.ensures.value) (returns-clause-vars c)
