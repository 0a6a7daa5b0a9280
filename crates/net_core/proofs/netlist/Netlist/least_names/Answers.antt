use Rattle.std.proofs.Common.{◌<◌, ℕ, List, sym, subst, arith}
use Rattle.net_core.specs.Netlist.{Netlist}
use Rattle.net_core.specs.Places.{IsThere}
use Rattle.net_core.proofs.Namings.{turn_reached}
use Rattle.net_core.proofs.netlist.Netlist.least_names.Goals as goal

pub returns-in-None : goal.returns-in-None
returns-in-None c =
    let less : c.args.class < c.self.inside.count = subst (λ (n : Netlist). c.args.class < n.count) (sym c.self.view_is) c.requires in
    let there : IsThere c.self.inside.classes.items c.args.class = turn_reached 0 c.self.inside.count c.args.class c.self.inside.classes.items c.self.invariant.1 (omega arith) less in
    absurd (c.in-None.ensures (subst (λ (xs : List ℕ). IsThere xs c.args.class) (sym c.deref.ensures.value) there))
