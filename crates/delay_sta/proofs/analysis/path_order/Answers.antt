use Rattle.std.specs.Global.{Vec}
use Rattle.std.proofs.Common.{ℕ}
use Rattle.net_core.specs.Links.{IsClassOrder}
use Rattle.net_core.proofs.Namings.{if_ok}
use Rattle.delay_sta.specs.Timed.{IsPathOrder}
use Rattle.delay_sta.proofs.Ordered.{fits, passes, path_order}
use Rattle.delay_sta.proofs.analysis.path_order.Goals as goal

pub class_order-requires : goal.class_order-requires
class_order-requires c = record {
  fits = fits c.args.library.now c.args.netlist.now c.requires.checked c.requires.netlist c.in_ok-table.table c.in_ok-table.ensures.table c.in_ok-table.ensures.sound;
  passes = passes c.args.library.now c.args.netlist.now c.requires.checked c.requires.netlist c.in_ok-table.table c.in_ok-table.ensures.table c.in_ok-table.ensures.sound;
}

pub returns : goal.returns
returns c =
    if_ok (λ (o : Vec ℕ). IsClassOrder c.in_ok-table.table c.args.netlist.now o.items) (λ (o : Vec ℕ). IsPathOrder c.args.netlist.now c.args.library.now o.items) c.class_order.result
    (λ o h. path_order c.args.library.now c.args.netlist.now c.requires.checked c.requires.netlist c.in_ok-table.table c.in_ok-table.ensures.table c.in_ok-table.ensures.sound o.items h) c.class_order.ensures
