use Rattle.std.proofs.Common.{take, map}
use Rattle.std.specs.FinMap.{empty}
use Rattle.vlsi_base.specs.declared.name.Name.{Name}
use Rattle.vlsi_base.specs.declared.name.Terminal.{Terminal}
use Rattle.vlsi_base.proofs.IndexLemmas.{HasPlaces}
use Rattle.vst_io.proofs.build.places.Given as goal

abbrev pub invariant-loop-place : goal.invariant-loop-place
invariant-loop-place l = HasPlaces empty l.index (take l.place (map (λ (k : Terminal × Name). k.1) l.links))
