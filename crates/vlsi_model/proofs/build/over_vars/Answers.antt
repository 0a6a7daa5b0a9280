use Rattle.std.proofs.Common.{◌≡◌, ◌<◌, List, ℕ, map, length, sym, ap, ◌∙◌, subst, refl}
use Rattle.std.specs.List.{All}
use Rattle.vlsi_base.specs.declared.name.Name.{Name}
use Rattle.bool_expr.specs.Expression.{IsOver}
use Rattle.bool_expr.specs.View.{view}
use Rattle.machine_core.specs.Order.{AllDifferent}
use Rattle.source_checks.specs.declared.symbol_table.Symbol.{Symbol}
use Rattle.source_checks.specs.Symbols.{symbols, all_names}
use Rattle.source_checks.specs.Elaboration.{definitions, storage}
use Rattle.source_bits.specs.declared.driven.DrivenBit.{DrivenBit}
use Rattle.source_bits.specs.declared.driven.StoredBit.{StoredBit}
use Rattle.source_bits.specs.Driven.{driven_view, stored_view}
use Rattle.vlsi_model.specs.Numbered.{HasVars, driven_at, stored_at, equation_from, register_from}
use Rattle.vlsi_model.specs.Laid.{laid_vars}
use Rattle.vlsi_model.proofs.Bits.{texts}
use Rattle.vlsi_model.proofs.Building.{equations_are, registers_are, built}
use Rattle.vlsi_model.proofs.SourceBits.{sound, driven_inside, driven_over, stored_inside, next_over, enable_over}
use Rattle.vlsi_model.proofs.BuildGoals.{over_numbers, places_in, driven_count, stored_count, all_declared, all_vars_different}
use Rattle.vlsi_model.proofs.build.over_vars.Goals as goal

pub var_numbers-requires-clause-texts : goal.var_numbers-requires-clause-texts
var_numbers-requires-clause-texts c = over_numbers (λ (known : List Symbol). AllDifferent (texts known)) c.args.design.now c.args.source.now c.requires.source (sound c.args.design.now c.requires.sound).different

pub var_numbers-requires-clause-declared : goal.var_numbers-requires-clause-declared
var_numbers-requires-clause-declared c =
    all_declared c.args.design.now c.args.source.now c.args.ports.items c.args.order.now c.args.nodes.now c.deref.result.now (sound c.args.design.now c.requires.sound) c.requires.source c.requires.laid (c.deref.ensures.value ∙ c.requires.vars)

pub var_numbers-requires-clause-different : goal.var_numbers-requires-clause-different
var_numbers-requires-clause-different c =
    all_vars_different c.args.design.now c.args.ports.items c.args.order.now c.args.nodes.now c.deref.result.now (sound c.args.design.now c.requires.sound) c.requires.laid (c.deref.ensures.value ∙ c.requires.vars)

pub equations-requires-clause-places : goal.equations-requires-clause-places
equations-requires-clause-places c =
    places_in (length (definitions c.args.design.now)) (length c.deref-2.result.now) c.args.nodes.now (ap (λ (xs : List DrivenBit). length xs) c.deref-2.ensures.value ∙ driven_count c.args.design.now c.args.source.now c.requires.source) c.requires.laid.nodes

pub equations-requires-clause-inside : goal.equations-requires-clause-inside
equations-requires-clause-inside c =
    subst (λ (xs : List DrivenBit). All (λ (d : DrivenBit). d.bit < length (all_names c.args.source.now.numbers)) xs) (sym c.deref-2.ensures.value)
    (over_numbers (λ (known : List Symbol). All (λ (d : DrivenBit). d.bit < length (all_names known)) c.args.source.now.driven.items) c.args.design.now c.args.source.now c.requires.source (driven_inside c.args.design.now c.args.source.now (sound c.args.design.now c.requires.sound) c.requires.source))

pub equations-requires-clause-over : goal.equations-requires-clause-over
equations-requires-clause-over c =
    let long : length c.deref-3.result.now ≡ length (all_names (symbols c.args.design.now)) = ap (λ (xs : List ℕ). length xs) c.deref-3.ensures.value ∙ c.in_ok-table.ensures.each ∙ ap (λ (known : List Symbol). length (all_names known)) c.requires.source.numbers in
    subst (λ (xs : List DrivenBit). All (λ (d : DrivenBit). IsOver (view d.expr) (length c.deref-3.result.now)) xs) (sym c.deref-2.ensures.value)
    (subst (λ n. All (λ (d : DrivenBit). IsOver (view d.expr) n) c.args.source.now.driven.items) (sym long) (driven_over c.args.design.now c.args.source.now (sound c.args.design.now c.requires.sound) c.requires.source))

pub registers-requires-clause-places : goal.registers-requires-clause-places
registers-requires-clause-places c =
    places_in (length (storage c.args.design.now)) (length c.deref-4.result.now) c.args.order.now (ap (λ (xs : List StoredBit). length xs) c.deref-4.ensures.value ∙ stored_count c.args.design.now c.args.source.now c.requires.source) c.requires.laid.order

pub registers-requires-clause-inside : goal.registers-requires-clause-inside
registers-requires-clause-inside c =
    subst (λ (xs : List StoredBit). All (λ (d : StoredBit). d.bit < length (all_names c.args.source.now.numbers)) xs) (sym c.deref-4.ensures.value)
    (over_numbers (λ (known : List Symbol). All (λ (d : StoredBit). d.bit < length (all_names known)) c.args.source.now.stored.items) c.args.design.now c.args.source.now c.requires.source (stored_inside c.args.design.now c.args.source.now (sound c.args.design.now c.requires.sound) c.requires.source))

pub registers-requires-clause-next : goal.registers-requires-clause-next
registers-requires-clause-next c =
    let long : length c.deref-5.result.now ≡ length (all_names (symbols c.args.design.now)) = ap (λ (xs : List ℕ). length xs) c.deref-5.ensures.value ∙ c.in_ok-table.ensures.each ∙ ap (λ (known : List Symbol). length (all_names known)) c.requires.source.numbers in
    subst (λ (xs : List StoredBit). All (λ (d : StoredBit). IsOver (view d.next) (length c.deref-5.result.now)) xs) (sym c.deref-4.ensures.value)
    (subst (λ n. All (λ (d : StoredBit). IsOver (view d.next) n) c.args.source.now.stored.items) (sym long) (next_over c.args.design.now c.args.source.now (sound c.args.design.now c.requires.sound) c.requires.source))

pub registers-requires-clause-enable : goal.registers-requires-clause-enable
registers-requires-clause-enable c =
    let long : length c.deref-5.result.now ≡ length (all_names (symbols c.args.design.now)) = ap (λ (xs : List ℕ). length xs) c.deref-5.ensures.value ∙ c.in_ok-table.ensures.each ∙ ap (λ (known : List Symbol). length (all_names known)) c.requires.source.numbers in
    subst (λ (xs : List StoredBit). All (λ (d : StoredBit). IsOver (view d.enable) (length c.deref-5.result.now)) xs) (sym c.deref-4.ensures.value)
    (subst (λ n. All (λ (d : StoredBit). IsOver (view d.enable) n) c.args.source.now.stored.items) (sym long) (enable_over c.args.design.now c.args.source.now (sound c.args.design.now c.requires.sound) c.requires.source))

pub finished-requires : goal.finished-requires
finished-requires c =
    let design = c.args.design.now in
    let s = c.args.source.now in
    let ps = c.args.ports.items in
    let order = c.args.order.now in
    let nodes = c.args.nodes.now in
    let f = sound design c.requires.sound in
    let table = c.in_ok-table.table.items in
    let vars_is = c.deref.ensures.value ∙ c.requires.vars in
    let has : HasVars (all_names (symbols design)) (laid_vars design ps order nodes) table =
    subst (λ (known : List Symbol). HasVars (all_names known) (laid_vars design ps order nodes) table) c.requires.source.numbers (subst (λ (vs : List Name). HasVars (all_names s.numbers) vs table) vars_is c.in_ok-table.ensures) in
    built design ps order nodes f c.requires.laid _ refl refl (c.as_ref-clock.ensures.value ∙ c.requires.source.clock) c.requires.vars
    (c.in_ok-equations.ensures
    ∙ ap (λ (known : List Symbol). map (λ k. equation_from (all_names known) c.deref-3.result.now (driven_at (map driven_view c.deref-2.result.now) k)) nodes) c.requires.source.numbers
    ∙ ap (λ (t : List ℕ). map (λ k. equation_from (all_names (symbols design)) t (driven_at (map driven_view c.deref-2.result.now) k)) nodes) c.deref-3.ensures.value
    ∙ equations_are design ps order nodes table (map driven_view c.deref-2.result.now) f c.requires.laid (ap (map driven_view) c.deref-2.ensures.value ∙ c.requires.source.driven) has)
    (c.in_ok-registers.ensures
    ∙ ap (λ (known : List Symbol). map (λ k. register_from (all_names known) c.deref-5.result.now (stored_at (map stored_view c.deref-4.result.now) k)) order) c.requires.source.numbers
    ∙ ap (λ (t : List ℕ). map (λ k. register_from (all_names (symbols design)) t (stored_at (map stored_view c.deref-4.result.now) k)) order) c.deref-5.ensures.value
    ∙ registers_are design ps order nodes table (map stored_view c.deref-4.result.now) f c.requires.laid (ap (map stored_view) c.deref-4.ensures.value ∙ c.requires.source.stored) has)
