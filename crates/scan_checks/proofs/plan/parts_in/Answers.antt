use Rattle.std.proofs.Common.{List, All, ap, refl, sym, subst}
use Rattle.vlsi_base.specs.declared.kind.Kind.TheVariants as kind
use Rattle.cell_model.specs.Cell.{Cell}
use Rattle.cell_model.specs.Covering.{IsFirstMissing, first, later}
use Rattle.cell_model.specs.Library.{Library}
use Rattle.cell_model.specs.Usable.{IsFormed}
use Rattle.cell_model.specs.Connectors.{PinsAreConnectors}
use Rattle.cell_pins.proofs.Sound.{connected}
use Rattle.scan_theory.specs.Path.{needed, IsCovered}
use Rattle.scan_checks.proofs.Found.{both_covered, has_cell}
use Rattle.scan_checks.proofs.plan.parts_in.Goals as goal

pub first_of-requires-clause-formed : goal.first_of-requires-clause-formed
first_of-requires-clause-formed c =
    subst (λ (cs : List Cell). All IsFormed cs) (sym (ap (λ (l : Library). l.cells) c.cells-cells.ensures.value)) c.cells-cells.ensures.checked.formed

pub first_of-requires-clause-connectors : goal.first_of-requires-clause-connectors
first_of-requires-clause-connectors c =
    subst (λ (cs : List Cell). All PinsAreConnectors cs) (sym (ap (λ (l : Library). l.cells) c.cells-cells.ensures.value)) (connected c.args.library.now c.cells-cells.ensures.checked)

pub first_of-requires-2-clause-formed : goal.first_of-requires-2-clause-formed
first_of-requires-2-clause-formed c =
    subst (λ (cs : List Cell). All IsFormed cs) (sym (ap (λ (l : Library). l.cells) c.cells-cells.ensures.value)) c.cells-cells.ensures.checked.formed

pub first_of-requires-2-clause-connectors : goal.first_of-requires-2-clause-connectors
first_of-requires-2-clause-connectors c =
    subst (λ (cs : List Cell). All PinsAreConnectors cs) (sym (ap (λ (l : Library). l.cells) c.cells-cells.ensures.value)) (connected c.args.library.now c.cells-cells.ensures.checked)

pub returns-in_default-clause-refused : goal.returns-in_default-clause-refused
returns-in_default-clause-refused c =
    subst (λ (l : Library). IsFirstMissing l.cells kind.Inv needed) c.cells-cells.ensures.value (first (c.in_default.ensures.none refl))

pub returns-in_default-first_of-clause-refused : goal.returns-in_default-first_of-clause-refused
returns-in_default-first_of-clause-refused c =
    subst (λ (l : Library). IsFirstMissing l.cells kind.Nand2 needed) c.cells-cells.ensures.value
    (later (has_cell c.cells-cells.result.now kind.Inv c.in-Some.inverter.now c.in-Some.ensures.found) (first (c.in_default-first_of.ensures.none refl)))

pub returns-clause-covered : goal.returns-clause-covered
returns-clause-covered c =
    subst IsCovered c.cells-cells.ensures.value
    (both_covered c.cells-cells.result.now c.in-Some.inverter.now c.in-Some-first_of.nand.now c.in-Some.ensures.found c.in-Some-first_of.ensures.found)
