use Rattle.std.proofs.Common.{◌≡◌, map}
use Rattle.vlsi_base.specs.Range.{rising}
use Rattle.net_flat.specs.Renamed.{seat_at}
use Rattle.net_flat.proofs.renaming.seats.Given as goal

abbrev pub invariant-loop-k : goal.invariant-loop-k
invariant-loop-k l = l.seats.items ≡ map (seat_at l.names) (rising 0 l.k)
