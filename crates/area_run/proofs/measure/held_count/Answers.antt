use Rattle.std.proofs.Common.{◌∙◌, ap, map, arith}
use Rattle.machine_core.specs.View.{equation_view}
use Rattle.subject_graph.proofs.Solving.{held_is}
use Rattle.area_run.proofs.measure.held_count.Goals as goal

pub overflow_cast-result : goal.overflow_cast-result
overflow_cast-result c =
    let es = ap (map equation_view) c.as_slice-2.ensures ∙ c.equations.ensures.value in
    let vars = c.as_slice.ensures ∙ c.vars.ensures.value in
    let held = (held_is c.args.machine.now c.as_slice.result.now c.as_slice-2.result.now c.vars.ensures.checked vars es).1 in
    let room = c.requires in
    omega (arith, held, room)

pub returns : goal.returns
returns c =
    let es = ap (map equation_view) c.as_slice-2.ensures ∙ c.equations.ensures.value in
    let vars = c.as_slice.ensures ∙ c.vars.ensures.value in
    (held_is c.args.machine.now c.as_slice.result.now c.as_slice-2.result.now c.vars.ensures.checked vars es).1
