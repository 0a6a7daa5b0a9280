use Rattle.std.proofs.Common.{◌≡◌, ◌<◌, ◌+◌, ◌++◌, All, length, drop}
use Rattle.cell_model.specs.Layout.{instances_of}
use Rattle.ocp_figure.specs.Stands.{stands_from}
use Rattle.ocp_figure.proofs.stands.stands_of.Given as goal

abbrev pub invariant-loop-item : goal.invariant-loop-item
invariant-loop-item l = record {
  stands : l.stands.items ++ stands_from l.rows (length l.stands.items) (instances_of (drop l.item-index l.items)) ≡ stands_from l.rows 0 (instances_of l.items);
  many : length l.stands.items + length (instances_of (drop l.item-index l.items)) ≡ length (instances_of l.items);
  inside : All (λ s. s.row < l.rows) l.stands.items;
}
