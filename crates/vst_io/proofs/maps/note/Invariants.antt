use Rattle.std.proofs.Common.{take}
use Rattle.vlsi_base.proofs.IndexLemmas.{HasPlaces}
use Rattle.vst_io.specs.Nets.{names}
use Rattle.vst_io.proofs.maps.note.Given as goal

abbrev pub invariant-loop-place : goal.invariant-loop-place
invariant-loop-place l = HasPlaces l.fn.mapped l.mapped (take l.place (names l.text l.bits))
