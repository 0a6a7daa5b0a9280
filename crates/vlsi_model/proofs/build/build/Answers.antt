use Rattle.std.proofs.Common.{List, sym, subst}
use Rattle.vlsi_base.specs.declared.name.Port.{Port}
use Rattle.machine_core.specs.Order.{AllDifferent}
use Rattle.machine_core.specs.Machine.{names_of}
use Rattle.vlsi_model.proofs.SourceBits.{sound, different_port_names}
use Rattle.vlsi_model.proofs.build.build.Goals as goal

pub sorted_ports-requires : goal.sorted_ports-requires
sorted_ports-requires c = subst (λ (ps : List Port). AllDifferent (names_of ps)) (sym c.requires.ports) (different_port_names c.args.design.now (sound c.args.design.now c.requires.sound))
