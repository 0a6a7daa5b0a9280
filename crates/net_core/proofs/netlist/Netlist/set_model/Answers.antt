use Rattle.std.proofs.Common.{◌∙◌, ap, sym, length}
use Rattle.net_core.proofs.Changing.{terminals_set}
use Rattle.net_core.proofs.netlist.Netlist.set_model.Goals as goal

pub invariant_of-self : goal.invariant_of-self
invariant_of-self c = (c.self.invariant.0 ∙ ap length (sym (terminals_set c.self.inside.frame c.set_model.new.self c.args.number c.args.model.now c.set_model.ensures)), c.self.invariant.1)
