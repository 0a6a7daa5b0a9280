use Rattle.std.proofs.Common.{◌≡◌}
use Rattle.cell_checks.specs.Checked.{library_of}
use Rattle.cougar_extract.proofs.Adding.{added_to}
use Rattle.cougar_extract.proofs.build.add_instances.Given as goal

abbrev pub invariant-loop-item : goal.invariant-loop-item
invariant-loop-item l = l.builder ≡ added_to l.fn.builder (library_of l.cells) l.items l.item-index
