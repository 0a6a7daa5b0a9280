use Rattle.scapin.proofs.Supplied.{found_supply, found_no_supply}
use Rattle.scapin.proofs.classes.class_or_new.Goals as goal

pub returns-in-Some : goal.returns-in-Some
returns-in-Some c =
    found_supply c.args.netlist.now c.port_class.ensures.sound c.args.name.now c.args.new c.in_ok-class.field-0 c.in-Some.class c.in_ok-class.ensures.class c.in-Some.is

pub returns-in-None : goal.returns-in-None
returns-in-None c = found_no_supply c.args.netlist.now c.args.name.now c.args.new c.count.result c.in_ok-class.field-0 c.in_ok-class.ensures.class c.in-None.is c.count.ensures
