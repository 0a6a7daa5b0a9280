use Rattle.std.proofs.Common.{◌∙◌, Bool, refl, ap, sym, subst, length}
use Rattle.pat_meaning.specs.Circuit.{of_machine}
use Rattle.pat_meaning.specs.Simulation.{Takes}
use Rattle.asimut_sim.specs.Program.{bits_of}
use Rattle.asimut_sim.proofs.Once.{length-next}
use Rattle.asimut_sim.proofs.cycle.observe.Goals as goal

pub load-requires-clause-held : goal.load-requires-clause-held
load-requires-clause-held c = c.settle.ensures.settles.registers

pub settle-requires-2-clause-contents : goal.settle-requires-2-clause-contents
settle-requires-2-clause-contents c = ap length c.load.ensures.loads ∙ length-next c.args.flat.now.machine.now (bits_of c.settle.new.bits c.args.flat.now.vars.items)

pub returns-then-not-is_rising-clause-takes : goal.returns-then-not-is_rising-clause-takes
returns-then-not-is_rising-clause-takes c =
    let P : Bool → Type 0 =
    λ b. Takes b (of_machine c.args.flat.now.machine.now) c.args.inputs.now c.args.contents.now (bits_of c.settle.new.bits c.args.flat.now.vars.items) c.args.contents.now in
    subst P (sym c.if-not-is_rising.true) (c.settle.ensures.settles, refl)

pub returns-clause-takes : goal.returns-clause-takes
returns-clause-takes c =
    let P : Bool → Type 0 =
    λ b. Takes b (of_machine c.args.flat.now.machine.now) c.args.inputs.now c.args.contents.now (bits_of c.settle-2.new.bits c.args.flat.now.vars.items) c.load.new.contents in
    subst P (sym c.if-not-is_rising.false)
    (bits_of c.settle.new.bits c.args.flat.now.vars.items, c.settle.ensures.settles, c.load.ensures.loads, c.settle-2.ensures.settles)
