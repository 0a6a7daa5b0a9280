use Rattle.asimut_sim.specs.Flat.{IsState}
use Rattle.asimut_sim.proofs.Leads.{Leads}
use Rattle.asimut_sim.proofs.simulation.fill.Given as goal

abbrev pub invariant-loop-number : goal.invariant-loop-number
invariant-loop-number l = record {
  state : IsState l.flat l.state.contents.items l.state.bits.items;
  leads : Leads l.flat.machine.now l.columns l.patterns l.number l.state.contents.items l.state.clock l.made;
}
