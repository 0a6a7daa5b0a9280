use Rattle.std.proofs.Common.{◌≡◌, ◌++◌, map, drop, false}
use Rattle.cell_pins.proofs.follows.push_unmarked.Given as goal

abbrev pub invariant-loop : goal.invariant-loop
invariant-loop l = l.marks.items ++ map (λ r. false) (drop l.index l.registers) ≡ l.fn.marks.items ++ map (λ r. false) l.registers
