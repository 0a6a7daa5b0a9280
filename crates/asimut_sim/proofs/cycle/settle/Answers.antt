use Rattle.std.proofs.Common.{◌∙◌, ◌+◌, length, arith}
use Rattle.asimut_sim.proofs.CycleLemmas.{held_many, settling_fits, constants_kept, settled}
use Rattle.asimut_sim.proofs.cycle.settle.Goals as goal

pub write-requires : goal.write-requires
write-requires c =
    let many = held_many c.args.flat.now c.requires.flat c.args.inputs.now c.args.contents.now c.requires.inputs c.requires.contents in
    let room = settling_fits c.args.flat.now c.requires.flat c.args.bits.now c.requires.bits in
    omega (arith, many, room)

pub write-requires-2 : goal.write-requires-2
write-requires-2 c =
    let many = held_many c.args.flat.now c.requires.flat c.args.inputs.now c.args.contents.now c.requires.inputs c.requires.contents in
    let room = settling_fits c.args.flat.now c.requires.flat c.args.bits.now c.requires.bits in
    let size = c.write.auto.bits in
    omega (arith, many, room, size)

pub run-requires-clause-program : goal.run-requires-clause-program
run-requires-clause-program c = c.requires.flat.settling

pub run-requires-clause-room : goal.run-requires-clause-room
run-requires-clause-room c =
    let room = settling_fits c.args.flat.now c.requires.flat c.args.bits.now c.requires.bits in
    let size = c.write.auto.bits in
    let more = c.write-2.auto.bits in
    omega (arith, room, size, more)

pub run-requires-clause-constants : goal.run-requires-clause-constants
run-requires-clause-constants c = constants_kept c.args.bits.now c.write.new.bits c.write-2.new.bits (2 + length c.args.inputs.now) (omega arith) c.requires.bits.constants c.write.ensures.before c.write-2.ensures.before

pub returns-clause-settles : goal.returns-clause-settles
returns-clause-settles c =
    settled c.built_settles.ensures c.args.flat.now c.requires.flat c.write.new.bits c.write-2.new.bits c.run.new.bits c.args.inputs.now c.args.contents.now
    c.requires.inputs c.requires.contents c.write.ensures.written c.write-2.ensures.before c.write-2.ensures.written c.run.ensures.before c.run.ensures.obeys

pub returns-clause-bits : goal.returns-clause-bits
returns-clause-bits c = record { size = c.run.auto.bits ∙ c.write-2.auto.bits ∙ c.write.auto.bits ∙ c.requires.bits.size; constants = c.run.ensures.obeys.constants }
