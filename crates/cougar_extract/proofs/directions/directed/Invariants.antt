use Rattle.std.proofs.Common.{◌≡◌, map, take}
use Rattle.cougar_extract.specs.Stages.{port_by}
use Rattle.cougar_extract.proofs.directions.directed.Given as goal

abbrev pub invariant-loop-name : goal.invariant-loop-name
invariant-loop-name l = l.ports.items ≡ map (port_by l.texts) (take l.name-index l.names)
