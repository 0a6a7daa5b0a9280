use Rattle.std.proofs.Common.{arith}
use Rattle.ap_io.proofs.Cutting.{at_start, at_more, at_end}
use Rattle.ap_io.proofs.fields.Fields.at.Goals as goal

pub loop-init : goal.loop-init
loop-init c = at_start c.self.inside.text.now c.args.self.now c.args.number c.self.view_is

pub loop-preserved : goal.loop-preserved
loop-preserved c = at_more c.loop.rest.now c.behind_comma-rest.result.now _ c.args.number c.loop.counter c.loop-test.true c.behind_comma-rest.ensures c.loop.invariant

pub returns : goal.returns
returns c = at_end c.loop.rest.now _ c.args.number c.loop.counter c.field_length.result (omega (arith, c.loop-test.false)) c.field_length.ensures.count c.loop.invariant
