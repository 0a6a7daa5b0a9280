use Rattle.cougar_extract.proofs.Distinct.{AreFirstNames}
use Rattle.cougar_extract.proofs.names.distinct_names.Given as goal

abbrev pub invariant-loop-item : goal.invariant-loop-item
invariant-loop-item l = AreFirstNames l.items l.item-index l.index l.names.items
