-- What is known of a gate of a checked library.
use Rattle.std.proofs.Common.{◌≡◌, inl, inr, ℕ, ◌≤◌, false, length, refl, sym, ◌∙◌, subst, arith}
use Rattle.std.proofs.lemmas.Bool.{cases_lt}
use Rattle.bool_expr.specs.Expression.{Expression}
use Rattle.cell_model.specs.Cell.{Function, gate, Cell, cell_inputs}
use Rattle.cell_model.specs.Library.{IsUsable, IsPlain}
use Rattle.cell_model.specs.Connectors.{PinsAreConnectors}
use Rattle.cell_model.proofs.KindLemmas.{inputs_counted}
use Rattle.cell_model.proofs.Mapped.{usable_is_mappable}
use Rattle.cell_checks.specs.declared.verdict.Check.TheVariants as check
use Rattle.cell_checks.specs.declared.verdict.CellVerdict.TheVariants as verdict
use Rattle.cell_checks.specs.declared.verdict.TheConstants.{MOST_COLUMNS}
use Rattle.cell_checks.specs.Checks.{HasColumns}
use Rattle.cell_checks.specs.Verdict.{IsVerdict}
use Rattle.cell_match.specs.declared.gate.CellWord.{CellWord}
use Rattle.cell_word.specs.Words.{input_count, IsWordOf}
use Rattle.gate_cells.specs.Listed.{IsGateCell}
use Rattle.gate_cells.specs.Entries.{HasWidth}

pub connectors_of : (c : Cell) → IsVerdict false c verdict.Passes → PinsAreConnectors c
connectors_of c passes = passes.0 check.Connectors

pub width_of : (c : Cell) → IsVerdict false c verdict.Passes → IsUsable c → HasWidth c
width_of c passes usable =
    let mappable = usable_is_mappable c usable in
    let row = passes.0 check.Box mappable in
    elim (cases_lt MOST_COLUMNS row.columns) [
      | inl wide ↦ absurd (passes.1 row.columns (record { mappable = mappable; box = row.box; wide = wide }))
      | inr few ↦ record { columns = row.columns; box = row.box; few = few }
    ]

plain_few : (c : Cell) (f : Function) (e : Expression) → f ≡ gate e → IsPlain c f → length (cell_inputs c) ≤ 6
plain_few c f e is plain = let p : IsPlain c (gate e) = subst (λ (h : Function). IsPlain c h) is plain in p.1

pub few_inputs : (c : Cell) (e : Expression) → IsUsable c → c.function ≡ gate e → input_count c.pins ≤ 6
few_inputs c e usable is_gate =
    let few = plain_few c c.function e is_gate usable.function in
    let count = inputs_counted c (input_count c.pins) refl in
    omega (arith, few, count)

pub gate_cell_is : (c : Cell) (w : CellWord) (area : ℕ) → IsUsable c → IsWordOf c w.word.word → w.inputs ≡ input_count c.pins → HasColumns c area → IsGateCell c w area
gate_cell_is c w area usable word inputs columns = record {
  usable = usable;
  expr = word.expr;
  is_gate = word.is_gate;
  inputs = inputs ∙ sym (inputs_counted c (input_count c.pins) refl);
  value = word.value;
  columns = columns;
}
