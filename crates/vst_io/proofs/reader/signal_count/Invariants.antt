use Rattle.std.proofs.Common.{◌≡◌, not, filter, take, length}
use Rattle.vlsi_base.specs.declared.name.Port.{Port}
use Rattle.vlsi_base.specs.Name.{is_supply}
use Rattle.vst_io.proofs.reader.signal_count.Given as goal

abbrev pub invariant-loop-port : goal.invariant-loop-port
invariant-loop-port l = l.count ≡ length (filter (λ (p : Port). not (is_supply p.name.text)) (take l.port-index l.ports))
