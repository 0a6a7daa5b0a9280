use Rattle.std.proofs.Common.{◌+◌, ◌-◌, map, arith}
use Rattle.rand_pcg.specs.Pcg.{pcg32}
use Rattle.machine_core.specs.View.{equation_view}
use Rattle.gen_circuit.specs.Generated.{gates, words_of}
use Rattle.gen_circuit.proofs.Made.{gates_more, gates_done}
use Rattle.gen_circuit.proofs.making.gates.Goals as goal

pub loop-gate-preserved : goal.loop-gate-preserved
loop-gate-preserved c =
    gates_more pcg32 c.loop-gate.gate (c.args.size - c.loop-gate.gate) (c.args.size - (c.loop-gate.gate + 1)) c.next_word.result c.loop-gate.generator c.next_word.new.self
    c.loop-gate.made.items c.push.new.self.items c.in_ok-gate_by.field-0 (gates 0 (words_of c.args.seed c.args.size)) (omega (arith, c.loop-gate-test.true)) c.next_word.ensures
    c.in_ok-push.ensures.items c.in_ok-gate_by.ensures c.loop-gate.invariant

pub returns : goal.returns
returns c =
    gates_done pcg32 c.loop-gate.gate (c.args.size - c.loop-gate.gate) c.loop-gate.generator (map equation_view c.loop-gate.made.items) (gates 0 (words_of c.args.seed c.args.size))
    (omega (arith, c.loop-gate-test.false)) c.loop-gate.invariant
