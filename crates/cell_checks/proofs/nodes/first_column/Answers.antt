use Rattle.std.proofs.Common.{◌≡◌, ◌*◌, inl, inr, ap, arith}
use Rattle.std.proofs.lemmas.Int.{ints}
use Rattle.std.proofs.lemmas.Bool.{cases_lt}
use Rattle.sym_geom.specs.declared.rect.Rect.{Rect}
use Rattle.cell_checks.proofs.nodes.first_column.Goals as goal

pub returns-then-rect-pad_end-clause-skipped : goal.returns-then-rect-pad_end-clause-skipped
returns-then-rect-pad_end-clause-skipped c b from before h =
    let x1 = ap (λ (r : Rect). r.x1) c.rect-rect.ensures in
    let x2 = ap (λ (r : Rect). r.x2) c.rect-rect.ensures in
    let left = h.left in let right = h.right in
    let product : c.from.result * c.column_above-column.result ≡ 500 * c.column_above-column.result = ap (λ k. k * c.column_above-column.result) c.from.ensures in
    elim (cases_lt b c.column_above-column.result) [
      | inl less ↦ c.column_above-column.ensures.skipped b from less (omega (arith, ints))
      | inr least ↦ omega (arith, ints)
    ]

pub returns-clause-skipped : goal.returns-clause-skipped
returns-clause-skipped c b from before h =
    let x1 = ap (λ (r : Rect). r.x1) c.rect-rect.ensures in
    let left = h.left in
    c.column_above-column.ensures.skipped b from before (omega (arith, ints))
