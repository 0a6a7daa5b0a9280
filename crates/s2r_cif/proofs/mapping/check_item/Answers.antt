use Rattle.std.proofs.Common.{sym, rules}
use Rattle.cell_checks.specs.Checked.{library_of}
use Rattle.s2r_cif.proofs.Mapped.{no_cell, mappable_cell, bad_cell}
use Rattle.s2r_cif.proofs.mapping.check_item.Goals as goal

pub returns-in_default-cell_of-clause-mappable : goal.returns-in_default-cell_of-clause-mappable
returns-in_default-cell_of-clause-mappable c =
    no_cell (library_of c.args.cells.now) c.args.item.now c.in-Instance.instance c.in-Instance.is (sym c.in_default-cell_of.ensures)

pub returns-then-is_mappable-clause-mappable : goal.returns-then-is_mappable-clause-mappable
returns-then-is_mappable-clause-mappable c =
    mappable_cell (library_of c.args.cells.now) c.args.item.now c.in-Instance.instance c.in-Instance.is c.in-Some.cell.now (sym c.in-Some.ensures)
    (c.is_mappable.ensures.0 (search (rules, c.if-is_mappable.true)))

pub returns-else-is_mappable-clause-refused : goal.returns-else-is_mappable-clause-refused
returns-else-is_mappable-clause-refused c =
    bad_cell (library_of c.args.cells.now) c.args.item.now c.in-Instance.instance c.in-Instance.is c.in-Some.cell.now c.unmappable.result (sym c.in-Some.ensures)
    (λ m. absurd (search (rules, c.if-is_mappable.false, c.is_mappable.ensures.1 m))) c.unmappable.ensures
