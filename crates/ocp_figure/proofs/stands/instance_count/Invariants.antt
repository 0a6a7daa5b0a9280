use Rattle.std.proofs.Common.{◌≡◌, ◌≤◌, ◌+◌, length, drop}
use Rattle.cell_model.specs.Layout.{instances_of}
use Rattle.ocp_figure.proofs.stands.instance_count.Given as goal

abbrev pub invariant-loop-item : goal.invariant-loop-item
invariant-loop-item l = record {
  value : l.count + length (instances_of (drop l.item-index l.items)) ≡ length (instances_of l.items);
  few : l.count ≤ l.item-index;
}
