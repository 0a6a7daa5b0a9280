use Rattle.std.proofs.Common.{inl, inr}
use Rattle.cell_pins.specs.Table.{IsListed, no_models}
use Rattle.cell_pins.proofs.Listed.{model_taken, model_skipped}
use Rattle.cell_pins.proofs.table.models_of.Goals as goal
use Rattle.cell_pins.proofs.table.models_of.Goals.{then-all+in_ok-model_of+in_ok-push, then-all-via-then-all, then-all-via-else-all+then-usable, else-all+else-usable}

pub loop-cell-init : goal.loop-cell-init
loop-cell-init c = rw c.new-models.ensures.items no_models

pub loop-cell-preserved : goal.loop-cell-preserved
loop-cell-preserved c = elim c.if-all.branch [
  | then-all+in_ok-model_of+in_ok-push w ↦
      rw (w.models-is, w.in_ok-push.ensures.items)
      (model_taken (IsListed c.args.all) c.args.cells.now c.loop-cell.models.items c.cell-item.result w.in_ok-model_of.field-0 c.loop-cell.cell-index
      c.loop-cell-test.true c.cell-item.is c.loop-cell.invariant
      (elim w.then-all.branch [
        | then-all-via-then-all v ↦ inl v.if-all.true
        | then-all-via-else-all+then-usable v ↦ inr (v.usable.ensures.0 v.if-usable.true)
      ]) w.in_ok-model_of.ensures)
  | else-all+else-usable w ↦
      rw w.models-is
      (model_skipped (IsListed c.args.all) c.args.cells.now c.loop-cell.models.items c.cell-item.result c.loop-cell.cell-index c.loop-cell-test.true c.cell-item.is c.loop-cell.invariant
      (λ h. elim h [ inl t ↦ let e = w.if-all.false in absurd cc | inr u ↦ let t = w.usable.ensures.1 u in let e = w.if-usable.false in absurd cc ]))
]
