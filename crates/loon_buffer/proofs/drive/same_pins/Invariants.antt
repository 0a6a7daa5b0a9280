use Rattle.std.proofs.Common.{◌≡◌, take}
use Rattle.loon_buffer.proofs.Listing.{ports_of}
use Rattle.loon_buffer.proofs.drive.same_pins.Given as goal

abbrev pub invariant-loop-k : goal.invariant-loop-k
invariant-loop-k l = take l.k (ports_of l.other) ≡ take l.k (ports_of l.one)
