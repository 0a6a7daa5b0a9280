use Rattle.std.proofs.Common.{take}
use Rattle.vlsi_base.proofs.IndexLemmas.{HasPlaces}
use Rattle.vlsi_base.proofs.name_index.NameIndex.insert_all.Given as goal

abbrev pub invariant-loop-place : goal.invariant-loop-place
invariant-loop-place l = HasPlaces l.fn.self l.self (take l.place l.names)
