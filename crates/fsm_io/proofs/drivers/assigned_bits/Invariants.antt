use Rattle.std.proofs.Common.{map, take}
use Rattle.std.specs.List.{flat_map}
use Rattle.fsm_io.specs.Drivers.{names_at}
use Rattle.fsm_io.specs.Pieces.{AreMarked, mention_of}
use Rattle.fsm_io.proofs.drivers.assigned_bits.Given as goal

abbrev pub invariant-loop-mention : goal.invariant-loop-mention
invariant-loop-mention l = AreMarked l.numbers (flat_map (names_at l.numbers) (map mention_of (take l.mention-index l.mentions))) l.marks.items
