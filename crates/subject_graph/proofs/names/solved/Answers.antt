use Rattle.std.proofs.Common.{◌∙◌, ◌-◌, ap, arith, length, map, subst, List, ℕ}
use Rattle.vlsi_base.specs.Member.{In}
use Rattle.machine_core.specs.View.{equation_view}
use Rattle.subject_graph.proofs.Solving.{equations_fit, held_is, reads_below, solved_from, count_below}
use Rattle.subject_graph.proofs.names.solved.Goals as goal

pub equations-requires-2-clause-known : goal.equations-requires-2-clause-known
equations-requires-2-clause-known c a h =
    let n = length c.as_slice.result.now - length c.as_slice-equations.result.now in
    let low = count_below n a (subst (λ (xs : List ℕ). In a xs) c.in_ok-numbers.ensures h) in
    let held = c.new-table.ensures.held in
    omega (arith, low, held)

pub equations-requires-2-clause-below : goal.equations-requires-2-clause-below
equations-requires-2-clause-below c =
    let m = c.args.m.now in
    let es = ap (map equation_view) c.as_slice-equations.ensures ∙ c.equations.ensures.value in
    let vars = c.as_slice.ensures ∙ c.vars.ensures.value in
    let held = held_is m c.as_slice.result.now c.as_slice-equations.result.now c.equations.ensures.checked vars es in
    reads_below m c.as_slice-equations.result.now (length c.as_slice.result.now - length c.as_slice-equations.result.now) c.in_ok-numbers.numbers.items c.equations.ensures.checked es held.1
    c.in_ok-numbers.ensures

pub equations-requires-2-clause-room : goal.equations-requires-2-clause-room
equations-requires-2-clause-room c =
    let m = c.args.m.now in
    let es = ap (map equation_view) c.as_slice-equations.ensures ∙ c.equations.ensures.value in
    let vars = c.as_slice.ensures ∙ c.vars.ensures.value in
    let held = held_is m c.as_slice.result.now c.as_slice-equations.result.now c.equations.ensures.checked vars es in
    equations_fit m c.new-table.result c.as_slice-equations.result.now (length c.as_slice.result.now - length c.as_slice-equations.result.now) c.requires held.1 c.new-table.ensures.held
    c.new-table.ensures.nodes es

pub returns : goal.returns
returns c =
    let m = c.args.m.now in
    let es = ap (map equation_view) c.as_slice-equations.ensures ∙ c.equations.ensures.value in
    let vars = c.as_slice.ensures ∙ c.vars.ensures.value in
    let held = held_is m c.as_slice.result.now c.as_slice-equations.result.now c.equations.ensures.checked vars es in
    solved_from m c.new-table.result c.equations-2.new.self c.in_ok-numbers.numbers.items c.equations-2.new.numbers.items c.as_slice-equations.result.now
    (length c.as_slice.result.now - length c.as_slice-equations.result.now) held.1 c.new-table.ensures.held c.new-table.ensures.nodes c.in_ok-numbers.ensures es c.in_ok-equations.ensures.value c.in_ok-equations.ensures.made
