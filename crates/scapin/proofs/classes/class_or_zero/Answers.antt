use Rattle.net_core.specs.Netlist.{port}
use Rattle.scapin.proofs.Supplied.{found_class, found_none}
use Rattle.scapin.proofs.classes.class_or_zero.Goals as goal

pub returns-in-Some : goal.returns-in-Some
returns-in-Some c = found_class c.args.netlist.now c.port_class.ensures.sound (port c.args.name.now) c.in_ok-class.field-0 c.in-Some.class c.in_ok-class.ensures.class c.in-Some.is

pub returns-in-None : goal.returns-in-None
returns-in-None c = found_none c.args.netlist.now (port c.args.name.now) c.in_ok-class.field-0 c.in_ok-class.ensures.class c.in-None.is
