use Rattle.std.proofs.Common.{length, Option, ap, ◌∙◌, arith}
use Rattle.cell_match.specs.declared.gate.Gate.{Gate}
use Rattle.boog_tight.specs.Cover.{leaves_of}
use Rattle.boog_cover.proofs.Counting.{pins_more, pins_whole, gate_there_at}
use Rattle.boog_cover.proofs.graph_cover.leaf_count.Goals as goal
use Rattle.boog_cover.proofs.graph_cover.leaf_count.Goals.{in-Some, in_default}

pub overflow_add-count : goal.overflow_add-count
overflow_add-count c =
    let most = c.loop-gate.invariant.most in
    let few = c.len-count.ensures.fits in
    let low = c.loop-gate-test.true in
    let room = c.requires in
    record { fits = omega (arith, most, few, low, room) }

pub loop-gate-preserved : goal.loop-gate-preserved
loop-gate-preserved c =
    let gates = c.args.gates.now in
    let i = c.loop-gate.gate-index in
    let more = pins_more gates i c.loop-gate-test.true in
    let counted = c.loop-gate.invariant.counted in
    let most = c.loop-gate.invariant.most in
    let at = gate_there_at gates i c.gate-item.result c.loop-gate-test.true c.gate-item.is in
    elim c.match-gate.branch [
      | in-Some w ↦
          let here = ap (λ (o : Option Gate). length (leaves_of o)) (at ∙ w.in-Some.is) in
          let value = w.len-count.ensures.value in
          let fits = w.len-count.ensures.fits in
          let is = w.count-is in
          record { counted = omega (arith, more, counted, here, value, is); most = omega (arith, most, fits, is) }
      | in_default w ↦
          let here = ap (λ (o : Option Gate). length (leaves_of o)) (at ∙ w.in_default.is) in
          let is = w.count-is in
          record { counted = omega (arith, more, counted, here, is); most = omega (arith, most, is) }
    ]

pub returns : goal.returns
returns c = let whole = pins_whole c.args.gates.now c.loop-gate.gate-index c.loop-gate-test.false in c.loop-gate.invariant.counted ∙ whole
