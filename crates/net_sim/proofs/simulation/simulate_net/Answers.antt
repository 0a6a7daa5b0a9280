use Rattle.std.proofs.Common.{ap, ◌∙◌, sym, subst}
use Rattle.asimut_sim.specs.declared.refusal.SimError.{SimError}
use Rattle.asimut_sim.specs.Answers.{IsRefusal}
use Rattle.net_machine.specs.Answers.{IsMachineRefusal}
use Rattle.net_machine.specs.declared.error.NetMachineError.{NetMachineError}
use Rattle.net_machine.specs.declared.error.NetMachineError.TheVariants as error
use Rattle.net_sim.proofs.Simulated.{filled_with, differs_with}
use Rattle.net_sim.proofs.simulation.simulate_net.Goals as goal

pub returns-in-Ok-simulate-clause-filled : goal.returns-in-Ok-simulate-clause-filled
returns-in-Ok-simulate-clause-filled c =
    filled_with c.args.netlist.now c.args.library.now c.in-Ok.machine c.args.patterns.now c.in-Ok-simulate.filled c.simulates_alike.ensures c.in-Ok.ensures.machine c.requires.patterns c.in-Ok-simulate.ensures.filled

pub returns-in-Err-TooManyBits-clause-refused : goal.returns-in-Err-TooManyBits-clause-refused
returns-in-Err-TooManyBits-clause-refused c =
    subst (λ (e : NetMachineError). IsMachineRefusal c.args.netlist.now c.args.library.now e)
    (c.in-Err-TooManyBits.field-0-is ∙ ap error.TooManyBits (sym c.in-Err-TooManyBits.bits-is)) c.in-Err-TooManyBits.ensures.refused

pub returns-clause-refused : goal.returns-clause-refused
returns-clause-refused c = (
  c.in-Ok.ensures.known,
  c.in-Ok.ensures.few,
  differs_with c.args.netlist.now c.args.library.now c.in-Ok.machine c.args.patterns.now c.in-Err-Differs.pattern c.in-Err-Differs.name c.simulates_alike.ensures c.in-Ok.ensures.machine c.requires.patterns
      (subst (λ (e : SimError). IsRefusal c.in-Ok.machine c.args.patterns.now e) c.in-Err-Differs.field-0-is c.in-Err-Differs.ensures.differs),
)
