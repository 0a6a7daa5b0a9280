use Rattle.std.proofs.Common.{◌≡◌, ◌∙◌, ◌-◌, map, length, ap, arith}
use Rattle.machine_core.specs.Order.{held_names}
use Rattle.machine_core.specs.View.{equation_view, register_view}
use Rattle.asimut_sim.proofs.FlatLemmas.{vars_many, first_below, first_reads, places_many, registers_over, loading_below, flat_from}
use Rattle.asimut_sim.proofs.flat.flatten.Goals as goal

pub overflow_sub-held : goal.overflow_sub-held
overflow_sub-held c =
    let equations = ap (map equation_view) c.as_slice-equations.ensures ∙ c.equations.ensures.value in
    let vars = c.as_slice.ensures ∙ c.vars.ensures.value in
    let many = vars_many c.args.machine.now c.as_slice.result.now c.as_slice-equations.result.now c.equations.ensures.checked vars equations in
    omega (arith, many)

pub lay_equations-requires-clause-program : goal.lay_equations-requires-clause-program
lay_equations-requires-clause-program c = c.new-settling.ensures.program

pub lay_equations-requires-clause-vars : goal.lay_equations-requires-clause-vars
lay_equations-requires-clause-vars c =
    first_below c.new-settling.result c.in_ok-vars.vars.items (length c.as_slice.result.now - length c.as_slice-equations.result.now)
    (c.new-settling.ensures.start ∙ c.in_ok-place_behind.ensures) c.new-settling.ensures.none c.in_ok-vars.ensures

pub lay_equations-requires-clause-reads : goal.lay_equations-requires-clause-reads
lay_equations-requires-clause-reads c =
    let equations = ap (map equation_view) c.as_slice-equations.ensures ∙ c.equations.ensures.value in
    let vars = c.as_slice.ensures ∙ c.vars.ensures.value in
    let many = vars_many c.args.machine.now c.as_slice.result.now c.as_slice-equations.result.now c.equations.ensures.checked vars equations in
    first_reads c.args.machine.now c.in_ok-vars.vars.items (length c.as_slice.result.now - length c.as_slice-equations.result.now) c.as_slice-equations.result.now
    c.equations.ensures.checked equations (omega (arith, many)) c.in_ok-vars.ensures

pub lay_registers-requires-clause-program : goal.lay_registers-requires-clause-program
lay_registers-requires-clause-program c = c.new-loading.ensures.program

pub lay_registers-requires-clause-vars : goal.lay_registers-requires-clause-vars
lay_registers-requires-clause-vars c =
    loading_below c.lay_equations.new.program c.new-loading.result c.lay_equations.new.vars.items c.deref.result.now (c.new-loading.ensures.start ∙ c.in_ok-end.ensures)
    c.deref.ensures.value c.in_ok-lay_equations.ensures.within

pub lay_registers-requires-clause-over : goal.lay_registers-requires-clause-over
lay_registers-requires-clause-over c =
    let equations = ap (map equation_view) c.as_slice-equations.ensures ∙ c.equations.ensures.value in
    let vars = c.as_slice.ensures ∙ c.vars.ensures.value in
    let many = vars_many c.args.machine.now c.as_slice.result.now c.as_slice-equations.result.now c.equations.ensures.checked vars equations in
    registers_over c.args.machine.now (length c.deref.result.now) c.as_slice-registers.result.now c.equations.ensures.checked
    (ap (map register_view) c.as_slice-registers.ensures ∙ c.registers.ensures.value)
    (ap length c.deref.ensures.value
    ∙ places_many c.args.machine.now c.new-settling.result c.lay_equations.new.program c.in_ok-vars.vars.items c.lay_equations.new.vars.items
    (length c.as_slice.result.now - length c.as_slice-equations.result.now) c.as_slice-equations.result.now c.equations.ensures.checked equations (omega (arith, many))
    c.in_ok-vars.ensures c.in_ok-lay_equations.ensures)

pub returns-clause-flat : goal.returns-clause-flat
returns-clause-flat c =
    let equations = ap (map equation_view) c.as_slice-equations.ensures ∙ c.equations.ensures.value in
    let vars = c.as_slice.ensures ∙ c.vars.ensures.value in
    let many = vars_many c.args.machine.now c.as_slice.result.now c.as_slice-equations.result.now c.equations.ensures.checked vars equations in
    let held : length c.as_slice.result.now - length c.as_slice-equations.result.now ≡ length (held_names c.args.machine.now) = omega (arith, many) in
    flat_from _ c.new-settling.result c.new-loading.result c.in_ok-vars.vars.items c.deref.result.now
    (length c.as_slice.result.now - length c.as_slice-equations.result.now) c.as_slice-equations.result.now c.as_slice-registers.result.now
    c.equations.ensures.checked equations (ap (map register_view) c.as_slice-registers.ensures ∙ c.registers.ensures.value) held c.in_ok-vars.ensures
    (c.new-settling.ensures.start ∙ c.in_ok-place_behind.ensures) (c.new-loading.ensures.start ∙ c.in_ok-end.ensures)
    c.in_ok-lay_equations.ensures c.deref.ensures.value c.in_ok-loads.ensures
