use Rattle.loon_buffer.proofs.Passing.{Passing}
use Rattle.loon_buffer.proofs.choose.pass.Given as goal

abbrev pub invariant-loop-k : goal.invariant-loop-k
invariant-loop-k l = Passing l.library l.table.drives.items l.initial.netlist l.netlist l.delays l.helped l.k
