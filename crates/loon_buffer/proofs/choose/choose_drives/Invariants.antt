use Rattle.loon_buffer.proofs.Passing.{latest, Choosing}
use Rattle.loon_buffer.proofs.choose.choose_drives.Given as goal

abbrev pub invariant-loop : goal.invariant-loop
invariant-loop l = Choosing l.library l.initial.netlist l.netlist l.delays

abbrev pub decreases-loop : goal.decreases-loop
decreases-loop l = latest l.delays.arrivals.items l.delays.ends.items
