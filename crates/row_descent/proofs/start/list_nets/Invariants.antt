use Rattle.row_descent.specs.Tables.{rows_of, nets_in, AreListed}
use Rattle.row_descent.proofs.start.list_nets.Given as goal

abbrev pub invariant-loop-net : goal.invariant-loop-net
invariant-loop-net l = AreListed (nets_in l.nets) l.net (rows_of l.lists)
