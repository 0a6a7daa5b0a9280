use Rattle.std.proofs.Common.{sym, subst}
use Rattle.vlsi_base.specs.declared.name.Name.{Name}
use Rattle.machine_core.specs.Order.{In}
use Rattle.source_checks.specs.Elaboration.{definitions}
use Rattle.vlsi_model.specs.Laid.{names_defined}
use Rattle.vlsi_model.proofs.Turning.{first_defined}
use Rattle.vlsi_model.proofs.cycle.cycle.Goals as goal

pub driver_line-requires-clause-defined : goal.driver_line-requires-clause-defined
driver_line-requires-clause-defined c =
    let defs = definitions c.args.design.now in
    subst (λ (n : Name). In n (names_defined defs)) (sym c.index.ensures) (first_defined defs c.in_ok-names.names.items c.index.result.now c.in_ok-names.ensures)
