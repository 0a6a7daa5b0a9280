use Rattle.std.proofs.Common.{List, None, Some, ap, sym, subst}
use Rattle.std.specs.Option.{option_copied}
use Rattle.net_core.specs.Frame.{instance_of}
use Rattle.scan_checks.specs.declared.registers.Register.{Register}
use Rattle.scan_checks.specs.Registers.{PushesRegister}
use Rattle.scan_checks.proofs.Found.{cell_by, model_at, cell_known, no_cell, no_register, one_register, register_some, register_none}
use Rattle.scan_checks.proofs.registers.push_register.Goals as goal

pub returns-in_default : goal.returns-in_default
returns-in_default c =
    no_cell c.args.library.now c.args.netlist.now c.args.node.now c.args.registers.now.items
    (cell_by c.args.library.now c.cells.result.now c.index-models-node.result (instance_of c.args.netlist.now.models c.args.node.now).model None (option_copied c.cell_named.result)
    c.cells.ensures.value c.cell_named.ensures
    (model_at c.args.netlist.now.models c.models.result.now c.args.node.now.model c.index-models-node.result c.models.ensures c.requires.known c.index-models-node.is)
    (ap option_copied c.in_default.is))

pub register_of-requires : goal.register_of-requires
register_of-requires c =
    (cell_known c.args.library.now c.args.netlist.now c.cells.ensures.checked c.requires.scannable c.args.node.now c.requires.node c.in-Some.cell.now
    (cell_by c.args.library.now c.cells.result.now c.index-models-node.result (instance_of c.args.netlist.now.models c.args.node.now).model (Some c.in-Some.cell.now) (option_copied c.cell_named.result)
    c.cells.ensures.value c.cell_named.ensures
    (model_at c.args.netlist.now.models c.models.result.now c.args.node.now.model c.index-models-node.result c.models.ensures c.requires.known c.index-models-node.is)
    (ap option_copied c.in-Some.is))).0

pub returns-in_ok-push : goal.returns-in_ok-push
returns-in_ok-push c =
    let found = (cell_by c.args.library.now c.cells.result.now c.index-models-node.result (instance_of c.args.netlist.now.models c.args.node.now).model (Some c.in-Some.cell.now) (option_copied c.cell_named.result)
    c.cells.ensures.value c.cell_named.ensures
    (model_at c.args.netlist.now.models c.models.result.now c.args.node.now.model c.index-models-node.result c.models.ensures c.requires.known c.index-models-node.is)
    (ap option_copied c.in-Some.is)) in
    let known = cell_known c.args.library.now c.args.netlist.now c.cells.ensures.checked c.requires.scannable c.args.node.now c.requires.node c.in-Some.cell.now found in
    subst (λ (rs : List Register). PushesRegister c.args.netlist.now c.args.library.now c.args.node.now c.args.registers.now.items rs) (sym c.in_ok-push.ensures.items)
    (one_register c.args.library.now c.args.netlist.now c.classes.ensures.sound c.args.node.now c.requires.node c.in-Some.cell.now found known.0 known.1 c.in-Some-2.register
    (register_some c.in-Some.cell.now c.args.node.now c.classes.result.now c.args.netlist.now.classes c.in_ok-register.field-0 c.in-Some-2.register c.classes.ensures.classes c.in_ok-register.ensures.some c.in-Some-2.is)
    c.args.registers.now.items)

pub returns-in_default-2 : goal.returns-in_default-2
returns-in_default-2 c =
    let found = (cell_by c.args.library.now c.cells.result.now c.index-models-node.result (instance_of c.args.netlist.now.models c.args.node.now).model (Some c.in-Some.cell.now) (option_copied c.cell_named.result)
    c.cells.ensures.value c.cell_named.ensures
    (model_at c.args.netlist.now.models c.models.result.now c.args.node.now.model c.index-models-node.result c.models.ensures c.requires.known c.index-models-node.is)
    (ap option_copied c.in-Some.is)) in
    no_register c.args.library.now c.args.netlist.now c.args.node.now c.in-Some.cell.now c.args.registers.now.items found
    (register_none c.in-Some.cell.now c.in_ok-register.field-0 c.in_ok-register.ensures.none c.in_default-2.is)
