use Rattle.std.proofs.Common.{◌≤◌, List, length, sym, subst, arith}
use Rattle.vlsi_base.specs.declared.name.Port.{Port}
use Rattle.source_checks.specs.Checks.{most_ports}
use Rattle.flow_run.proofs.Netlists.{covers_alike}
use Rattle.flow_run.proofs.flow.netlist_within.Goals as goal

pub driven_netlist_of-requires-clause-ports : goal.driven_netlist_of-requires-clause-ports
driven_netlist_of-requires-clause-ports c = subst (λ (ports : List Port). length ports ≤ most_ports) (sym c.in-Ok.ensures.made.optimised.alike.ports) c.requires.ports

pub driven_netlist_of-requires-clause-small : goal.driven_netlist_of-requires-clause-small
driven_netlist_of-requires-clause-small c =
    let given = c.requires.small in
    let smaller = c.in-Ok.ensures.made.optimised.small.size in
    omega (arith, given, smaller)

pub driven_netlist_of-requires-clause-covered : goal.driven_netlist_of-requires-clause-covered
driven_netlist_of-requires-clause-covered c =
    covers_alike c.args.library.now c.args.machine.now c.in-Ok.made.machine c.in-Ok.ensures.made.optimised.alike c.requires.covered

pub returns-clause-mapped : goal.returns-clause-mapped
returns-clause-mapped c = record {
  o = c.in-Ok.made.machine;
  made = c.in-Ok.ensures.made;
  ordered = c.name.ensures.checked;
  netlist = c.in-Ok-driven_netlist_of.ensures;
  counted = c.in-Ok.ensures.nodes;
}
