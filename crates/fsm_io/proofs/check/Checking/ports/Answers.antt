use Rattle.std.proofs.Common.{List, sym, subst}
use Rattle.vlsi_base.specs.declared.name.Port.{Port}
use Rattle.vlsi_base.specs.Member.{AllDifferent}
use Rattle.machine_core.specs.Machine.{names_of}
use Rattle.fsm_io.proofs.Suiting.{suits_different, ports_differ}
use Rattle.fsm_io.proofs.check.Checking.ports.Goals as goal

pub ports_in_file_order-requires : goal.ports_in_file_order-requires
ports_in_file_order-requires c = suits_different c.args.self.now c.requires

pub sorted_ports-requires : goal.sorted_ports-requires
sorted_ports-requires c =
    subst (λ (ps : List Port). AllDifferent (names_of ps)) (sym c.in_ok-ports.ensures) (ports_differ c.args.self.now.numbers.now (suits_different c.args.self.now c.requires))
