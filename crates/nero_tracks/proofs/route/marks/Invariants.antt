use Rattle.std.proofs.Common.{take}
use Rattle.nero_tracks.specs.Tracks.{AreMarks}
use Rattle.nero_tracks.proofs.route.marks.Given as goal

abbrev pub invariant-loop-class : goal.invariant-loop-class
invariant-loop-class l = AreMarks (take l.class-index l.classes) l.count l.marks.items
