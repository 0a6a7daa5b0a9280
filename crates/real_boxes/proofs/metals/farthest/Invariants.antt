use Rattle.std.proofs.Common.{◌*◌, ◌≤◌, take, All}
use Rattle.real_table.specs.declared.table.TheConstants.{MOST_LENGTH}
use Rattle.real_boxes.specs.Metals.{IsEntryGrownWithin}
use Rattle.real_boxes.proofs.metals.farthest.Given as goal

abbrev pub invariant-loop-entry : goal.invariant-loop-entry
invariant-loop-entry l = record {
  within : All (λ e. IsEntryGrownWithin l.most e) (take l.entry-index l.entries);
  most : l.most ≤ 4 * MOST_LENGTH;
}
