use Rattle.std.proofs.Common.{arith, refl}
use Rattle.real_table.specs.Fields.{fields_of}
use Rattle.real_table.proofs.Cutting.{at_start, at_more, at_end}
use Rattle.real_table.proofs.fields.field.Goals as goal

pub loop-init : goal.loop-init
loop-init c = at_start c.args.line.now (fields_of c.args.line.now) c.args.number refl

pub loop-preserved : goal.loop-preserved
loop-preserved c = at_more c.loop.rest.now c.behind_blank-rest.result.now _ c.args.number c.loop.counter c.loop-test.true c.behind_blank-rest.ensures c.loop.invariant

pub returns : goal.returns
returns c = at_end c.loop.rest.now _ c.args.number c.loop.counter c.field_length.result (omega (arith, c.loop-test.false)) c.field_length.ensures.count c.loop.invariant
