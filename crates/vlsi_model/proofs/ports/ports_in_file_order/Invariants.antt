use Rattle.std.proofs.Common.{◌≡◌, take}
use Rattle.std.specs.List.{filter_map}
use Rattle.source_checks.specs.Symbols.{all_names}
use Rattle.vlsi_model.specs.PortNames.{port_named}
use Rattle.vlsi_model.proofs.ports.ports_in_file_order.Given as goal

abbrev pub invariant-loop-k : goal.invariant-loop-k
invariant-loop-k l = l.ports.items ≡ filter_map (port_named l.numbers) (take l.k (all_names l.numbers))
