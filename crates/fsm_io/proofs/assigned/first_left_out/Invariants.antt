use Rattle.std.proofs.Common.{◌≡◌, drop}
use Rattle.fsm_code.specs.View.{body_view}
use Rattle.fsm_io.specs.Drivers.{first_of}
use Rattle.fsm_io.specs.Assigned.{left_out_at}
use Rattle.fsm_io.proofs.assigned.first_left_out.Given as goal

abbrev pub invariant-loop-symbol : goal.invariant-loop-symbol
invariant-loop-symbol l = first_of (left_out_at l.count (body_view l.body)) (drop l.symbol-index l.symbols) ≡ first_of (left_out_at l.count (body_view l.body)) l.symbols
