use Rattle.std.proofs.Common.{sym, subst}
use Rattle.vlsi_base.specs.Member.{In}
use Rattle.cell_model.specs.Cell.{Cell}
use Rattle.cell_model.proofs.Members.{In-at}
use Rattle.loon_wiring.proofs.Cells.{none_met}
use Rattle.scan_checks.proofs.Found.{IsOfKind}
use Rattle.scan_checks.proofs.cells.first_of.Goals as goal

pub returns-then-is_cell_of-clause-found : goal.returns-then-is_cell_of-clause-found
returns-then-is_cell_of-clause-found c =
    let is = c.is_cell_of.ensures.0 c.if-is_cell_of.true in
    record {
      listed = subst (λ (x : Cell). In x c.args.cells.now) (sym c.cell-item.is) (In-at c.args.cells.now c.loop-cell.cell-index c.cell-item.result c.loop-cell-test.true);
      usable = is.0;
      kind = is.1;
    }

pub returns-clause-none : goal.returns-clause-none
returns-clause-none c = λ is h. none_met (IsOfKind c.args.kind) c.args.cells.now c.loop-cell.cell-index c.loop-cell-test.false c.loop-cell.invariant h.cell h.listed (h.usable, h.kind)
