use Rattle.std.proofs.Common.{rules}
use Rattle.cell_checks.specs.Checked.{library_of}
use Rattle.cougar_extract.proofs.Steps.{read_stands}
use Rattle.s2r_cif.proofs.Mapped.{mappable_next, refused_later}
use Rattle.s2r_cif.proofs.mapping.check_mappable.Goals as goal

pub loop-item-preserved : goal.loop-item-preserved
loop-item-preserved c =
    mappable_next c.args.items.now (library_of c.args.cells.now) c.loop-item.item-index c.item-item.result
    (read_stands c.args.items.now c.loop-item.item-index c.item-item.result c.loop-item-test.true c.item-item.is) c.loop-item.invariant c.in_ok-check_item.ensures.mappable

pub returns-in_err-check_item-clause-refused : goal.returns-in_err-check_item-clause-refused
returns-in_err-check_item-clause-refused c =
    let refused =
    refused_later c.args.items.now (library_of c.args.cells.now) c.loop-item.item-index c.item-item.result c.in_err-check_item.field-0.0
    (read_stands c.args.items.now c.loop-item.item-index c.item-item.result c.loop-item-test.true c.item-item.is) c.loop-item.invariant c.in_err-check_item.ensures.refused in
    search rules
