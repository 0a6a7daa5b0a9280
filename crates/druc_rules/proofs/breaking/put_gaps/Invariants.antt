use Rattle.std.proofs.Common.{take}
use Rattle.druc_rules.proofs.Gaps.{AddsChosen}
use Rattle.druc_rules.proofs.breaking.put_gaps.Given as goal

abbrev pub invariant-loop-pair : goal.invariant-loop-pair
invariant-loop-pair l = AddsChosen l.layout.shapes.now (take l.pair-index l.near) l.fn.found.items l.found.items
