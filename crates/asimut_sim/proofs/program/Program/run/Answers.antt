use Rattle.std.proofs.Common.{refl, arith}
use Rattle.std.proofs.lemmas.List.{get_or_default}
use Rattle.asimut_sim.proofs.ProgramLemmas.{ran_next}
use Rattle.asimut_sim.proofs.program.Program.run.Goals as goal

pub loop-k-preserved : goal.loop-k-preserved
loop-k-preserved c =
    let room = c.requires.room in
    let size = c.loop-k.auto.bits in
    ran_next c.args.self.now c.deref-operator-items.result.now c.args.bits.now c.loop-k.bits c.loop-k.k _ _ c.value.result c.requires.program c.deref-operator-items.ensures.value
    (omega (arith, room, size)) c.loop-k-test.true refl (get_or_default _ c.loop-k.k _ _ c.loop-k-test.true) c.value.ensures c.loop-k.invariant
