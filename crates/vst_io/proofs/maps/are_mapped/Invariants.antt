use Rattle.std.proofs.Common.{◌≡◌, drop}
use Rattle.std.specs.Prelude.{is_some}
use Rattle.std.specs.List.{list_all}
use Rattle.std.specs.FinMap.{get}
use Rattle.vst_io.proofs.maps.are_mapped.Given as goal

abbrev pub invariant-loop-name : goal.invariant-loop-name
invariant-loop-name l = list_all (λ n. is_some (get l.mapped n)) (drop l.name-index l.names) ≡ list_all (λ n. is_some (get l.mapped n)) l.names
