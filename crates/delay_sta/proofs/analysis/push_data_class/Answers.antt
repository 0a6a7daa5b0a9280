use Rattle.std.proofs.Common.{Option, ℕ, sym, subst}
use Rattle.net_core.specs.Netlist.{pin_of, IsClassOf}
use Rattle.delay_sta.proofs.Edges.{data_some}
use Rattle.delay_sta.proofs.analysis.push_data_class.Goals as goal

pub returns-in_ok-push : goal.returns-in_ok-push
returns-in_ok-push c =
    data_some c.args.netlist.now c.requires c.args.owner.now c.args.cell.now c.in-Some.data.now c.in-Some-2.class c.args.ends.now.items c.push.new.self.items (sym c.in-Some.ensures)
    (subst (λ (o : Option ℕ). IsClassOf c.args.netlist.now (pin_of c.args.owner.now c.in-Some.data.now) o) c.in-Some-2.is c.in_ok-class.ensures) c.in_ok-push.ensures.items
