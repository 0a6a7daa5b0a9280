use Rattle.std.proofs.Common.{◌≡◌, ◌∙◌, ◌+◌, List, Vec, Global, false, ap, subst, sym, take}
use Rattle.cell_model.specs.Cell.{Cell}
use Rattle.cell_checks.specs.declared.verdict.CellVerdict.TheVariants as verdict
use Rattle.cell_checks.specs.Verdict.{IsVerdict}
use Rattle.gate_cells.specs.declared.entry.Entry.{Entry}
use Rattle.gate_cells.specs.Listed.{IsGateCell, IsNoGate}
use Rattle.gate_cells.specs.Entries.{AreEntries}
use Rattle.gate_cells.proofs.Entering.{step_more, step_same, some_is, none_is}
use Rattle.gate_cells.proofs.listed.entries.Goals as goal
use Rattle.gate_cells.proofs.listed.entries.Goals.{in-Some+in_ok-push, in_default}

pub entry_of-requires-clause-passes : goal.entry_of-requires-clause-passes
entry_of-requires-clause-passes c =
    subst (λ (x : Cell). IsVerdict false x verdict.Passes) (sym c.index-cells-place.is)
    (c.requires.passes c.loop-place.place c.index-cells-place.result c.loop-place-test.true)

pub loop-place-preserved : goal.loop-place-preserved
loop-place-preserved c =
    let cells = c.args.cells.now in
    let i = c.loop-place.place in
    let x = c.index-cells-place.result in
    let A : List Entry → Type 0 = λ es. AreEntries (take (i + 1) cells) es in
    elim c.match-entry_of.branch [
      | in-Some+in_ok-push w ↦
          let items = ap (λ (v : Vec Entry Global). v.items) w.entries-is ∙ w.in_ok-push.ensures.items in
          let one = some_is (λ e. IsGateCell x e.word e.area) c.entry_of.result w.in-Some.entry w.in-Some.is c.entry_of.ensures.gate in
          let place = some_is (λ e. e.place ≡ i) c.entry_of.result w.in-Some.entry w.in-Some.is c.entry_of.ensures.place in
          subst A (sym items) (step_more cells i x c.loop-place-test.true c.index-cells-place.is c.loop-place.entries.items c.loop-place.invariant w.in-Some.entry one place)
      | in_default w ↦
          let items = ap (λ (v : Vec Entry Global). v.items) w.entries-is in
          let none = none_is (IsNoGate x) c.entry_of.result w.in_default.is c.entry_of.ensures.none in
          subst A (sym items) (step_same cells i x c.loop-place-test.true c.index-cells-place.is c.loop-place.entries.items c.loop-place.invariant none)
    ]
