use Rattle.std.proofs.Common.{◌≡◌, map, take}
use Rattle.asimut_sim.specs.Places.{bit_at}
use Rattle.asimut_sim.specs.Program.{bits_of}
use Rattle.asimut_sim.proofs.places.seen_bits.Given as goal

abbrev pub invariant-loop-place : goal.invariant-loop-place
invariant-loop-place l = l.seen.items ≡ map (bit_at (bits_of l.bits l.vars)) (take l.place-index l.places)
