use Rattle.std.proofs.Common.{take}
use Rattle.gate_cells.specs.Entries.{AreEntries}
use Rattle.gate_cells.proofs.listed.entries.Given as goal

abbrev pub invariant-loop-place : goal.invariant-loop-place
invariant-loop-place l = AreEntries (take l.place l.cells) l.entries.items
