use Rattle.std.proofs.Common.{List, sym, subst}
use Rattle.vlsi_base.specs.declared.name.Port.{Port}
use Rattle.machine_core.specs.Order.{AllDifferent}
use Rattle.machine_core.specs.Machine.{names_of}
use Rattle.vbe_io.proofs.Cells.{different_pins}
use Rattle.vbe_io.proofs.cell.completed.Goals as goal

pub ports_of-requires : goal.ports_of-requires
ports_of-requires c =
    subst (λ (ps : List Port). AllDifferent (names_of ps)) (sym c.requires.pins)
    (different_pins c.args.design c.in_ok-machine.machine c.in_ok-machine.ensures.machine)
