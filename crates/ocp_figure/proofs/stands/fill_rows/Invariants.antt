use Rattle.std.proofs.Common.{◌≡◌, length, take}
use Rattle.ocp_figure.specs.Stands.{AreFilled}
use Rattle.ocp_figure.proofs.stands.fill_rows.Given as goal

abbrev pub invariant-loop-stand : goal.invariant-loop-stand
invariant-loop-stand l = record {
  many : length l.rows.items ≡ l.many;
  filled : AreFilled (take l.stand-index l.stands) l.rows.items;
}
