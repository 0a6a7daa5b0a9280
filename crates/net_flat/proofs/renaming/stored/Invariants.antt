use Rattle.std.proofs.Common.{◌≡◌, map, take}
use Rattle.machine_core.specs.View.{register_view}
use Rattle.source_bits.specs.Driven.{stored_view}
use Rattle.net_flat.specs.Renamed.{stored_of}
use Rattle.net_flat.proofs.renaming.stored.Given as goal

abbrev pub invariant-loop-seat : goal.invariant-loop-seat
invariant-loop-seat l = map stored_view l.made.items ≡ map (stored_of l.first (map register_view l.registers)) (take l.seat-index l.seats)
