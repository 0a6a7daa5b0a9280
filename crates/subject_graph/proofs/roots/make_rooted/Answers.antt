use Rattle.std.proofs.Common.{◌∙◌, sym, ap, subst, List, ℕ, length, map, filter, not}
use Rattle.vlsi_base.specs.declared.name.Name.{Name}
use Rattle.vlsi_base.specs.declared.name.Port.{Port}
use Rattle.vlsi_base.specs.Member.{In}
use Rattle.machine_core.specs.Machine.{is_input, names_of}
use Rattle.machine_core.specs.View.{register_view}
use Rattle.subject_graph.proofs.Rooted.{rooted_from}
use Rattle.subject_graph.proofs.Solving.{as_many, loads_fit, outputs_named, over_names}
use Rattle.subject_graph.proofs.roots.make_rooted.Goals as goal

pub output_numbers-requires-clause-count : goal.output_numbers-requires-clause-count
output_numbers-requires-clause-count c =
    let names = c.as_slice-names.ensures ∙ c.vars.ensures.value in
    ap (λ (xs : List ℕ). length xs) c.deref.ensures.value ∙ as_many c.args.m.now c.in_ok-table.table c.in_ok-table.numbers.items c.vars.ensures.checked c.in_ok-table.ensures
    ∙ sym (ap (λ (xs : List Name). length xs) names)

pub output_numbers-requires-clause-driven : goal.output_numbers-requires-clause-driven
output_numbers-requires-clause-driven c name h =
    let names = c.as_slice-names.ensures ∙ c.vars.ensures.value in
    let ports = c.as_slice.ensures ∙ c.ports.ensures.value in
    subst (λ (xs : List Name). In name xs) (sym names)
    (outputs_named c.args.m.now name c.vars.ensures.checked (subst (λ (ps : List Port). In name (names_of (filter (λ p. not (is_input p.dir)) ps))) ports h))

pub load_numbers-requires-clause-over : goal.load_numbers-requires-clause-over
load_numbers-requires-clause-over c =
    let registers = ap (map register_view) c.as_slice-2.ensures ∙ c.registers.ensures.value in
    let size =
    ap (λ (xs : List ℕ). length xs) c.deref-2.ensures.value ∙ as_many c.args.m.now c.in_ok-table.table c.in_ok-table.numbers.items c.vars.ensures.checked c.in_ok-table.ensures in
    over_names c.args.m.now c.as_slice-2.result.now (length c.deref-2.result.now) c.vars.ensures.checked registers size

pub load_numbers-requires-clause-room : goal.load_numbers-requires-clause-room
load_numbers-requires-clause-room c =
    let registers = ap (map register_view) c.as_slice-2.ensures ∙ c.registers.ensures.value in
    loads_fit c.args.m.now c.in_ok-table.table c.in_ok-table.numbers.items c.as_slice-2.result.now c.requires c.in_ok-table.ensures registers

pub returns : goal.returns
returns c =
    let names = c.as_slice-names.ensures ∙ c.vars.ensures.value in
    let ports = c.as_slice.ensures ∙ c.ports.ensures.value in
    let registers = ap (map register_view) c.as_slice-2.ensures ∙ c.registers.ensures.value in
    rooted_from c.args.m.now c.in_ok-table.table c.load_numbers.new.table c.in_ok-table.numbers.items c.deref.result.now c.deref-2.result.now c.in_ok-outputs.outputs.items c.in_ok-loads.loads.items
    c.as_slice-names.result.now c.as_slice.result.now c.as_slice-2.result.now c.vars.ensures.checked c.in_ok-table.ensures c.deref.ensures.value c.deref-2.ensures.value names ports registers
    c.in_ok-outputs.ensures c.in_ok-loads.ensures.value c.in_ok-loads.ensures.made
