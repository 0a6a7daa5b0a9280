use Rattle.std.proofs.Common.{◌≡◌, ◌∙◌, List, Some, None, length, ap, sym, subst, arith}
use Rattle.vlsi_base.specs.declared.name.Name.{Name}
use Rattle.net_core.specs.Netlist.{AreInOrder}
use Rattle.cell_checks.specs.Checked.{library_of}
use Rattle.cougar_extract.proofs.Adding.{memory_left, cell_in_order, pins_found, added_instance}
use Rattle.cougar_extract.proofs.build.add_instance.Goals as goal

pub unreachable-requires : goal.unreachable-requires
unreachable-requires c = let e : Some c.requires.known.0 ≡ None = sym c.requires.known.1 ∙ sym c.in_default.ensures in cc e

pub add-requires-clause-order : goal.add-requires-clause-order
add-requires-clause-order c =
    subst (λ (ns : List Name). AreInOrder ns) (sym (c.new.ensures ∙ c.in_ok-pins.ensures))
    (cell_in_order (library_of c.args.cells.now) c.args.instance.now.model c.in-Some.cell.now c.requires.formed (sym c.in-Some.ensures))

pub add-requires-clause-room : goal.add-requires-clause-room
add-requires-clause-room c =
    let pins =
    ap (λ (ns : List Name). length ns) (c.new.ensures ∙ c.in_ok-pins.ensures ∙ pins_found (library_of c.args.cells.now) c.args.instance.now c.in-Some.cell.now (sym c.in-Some.ensures)) in
    let room = c.requires.room in
    omega (arith, pins, room)

pub only_memory-requires : goal.only_memory-requires
only_memory-requires c = memory_left c.args.builder.now.instances c.args.instance.now.name c.in-Err.error c.requires.fresh c.in-Err.ensures.refused

pub returns-in-Ok : goal.returns-in-Ok
returns-in-Ok c =
    added_instance c.args.builder.now _ (library_of c.args.cells.now) c.args.instance.now c.in-Some.cell.now c.new.result (sym c.in-Some.ensures)
    (c.new.ensures ∙ c.in_ok-pins.ensures) c.in-Ok.ensures.added
