use Rattle.std.proofs.Common.{subst}
use Rattle.net_core.specs.Netlist.{Netlist, IsNetlist}
use Rattle.net_core.proofs.Finishing.{netlist_sound}
use Rattle.net_core.proofs.netlist.Netlist.classes.Goals as goal

pub returns-clause-sound : goal.returns-clause-sound
returns-clause-sound c =
    subst (λ (n : Netlist). IsNetlist n) c.self.view_is
    (netlist_sound c.self.inside.name c.self.inside.frame c.self.inside.classes.items c.self.inside.count c.count.ensures.sound c.self.invariant.0 c.self.invariant.1)
