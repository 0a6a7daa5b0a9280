use Rattle.std.proofs.Common.{Some, take}
use Rattle.std.specs.List.{list_any}
use Rattle.pat_io.specs.Known.{lists}
use Rattle.pat_io.specs.FirstBit.{FirstOf}
use Rattle.pat_io.proofs.first_bit.first_in_any.Given as goal

abbrev pub invariant-loop-column : goal.invariant-loop-column
invariant-loop-column l = FirstOf (λ k. list_any (lists (record { text = l.name; bit = Some k })) (take l.column-index l.columns)) l.range l.first
