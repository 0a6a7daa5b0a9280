use Rattle.std.proofs.Common.{◌≡◌, ℕ, zero, suc, ◌<◌, ℤ, pos, ap, ◌∙◌, arith, w64, to_z, of_z}
use Rattle.std.proofs.lemmas.Int.{ints}
use Rattle.std.specs.Int.{int_rem_euclid}
use Rattle.cell_checks.proofs.Pads.{lies, on_line, next_line}
use Rattle.cell_checks.proofs.shapes.first_line.Goals as goal

positive : (p : ℕ) (r : ℤ) → r ≡ pos p → (of_z w64 r ≡ 0 → ⊥) → 0 < p
positive zero r e h = absurd (h (ap (of_z w64) e))
positive (suc p) r e h = omega arith

pub returns-then-past-eq0-clause-line : goal.returns-then-past-eq0-clause-line
returns-then-past-eq0-clause-line c =
    let sum = c.in_ok-least.ensures in
    let l = lies (to_z w64 (of_z w64 c.in_ok-least.least)) (omega (arith, ints)) in
    let p : to_z w64 (of_z w64 c.from-pitch.result) ≡ pos 500 = omega (arith, ints) in
    let e : c.rem_euclid-past.result ≡ pos l.past =
    c.rem_euclid-past.ensures.value ∙ ap (int_rem_euclid (to_z w64 (of_z w64 c.in_ok-least.least))) p ∙ l.remainder in
    let s = l.less in
    on_line c.args.low.now (to_z w64 (of_z w64 c.in_ok-least.least)) (omega (arith, ints)) l (omega (arith, ints))

pub returns-clause-line : goal.returns-clause-line
returns-clause-line c =
    let sum = c.in_ok-least.ensures in
    let step = c.in_ok-line.ensures in
    let l = lies (to_z w64 (of_z w64 c.in_ok-least.least)) (omega (arith, ints)) in
    let p : to_z w64 (of_z w64 c.from-pitch.result) ≡ pos 500 = omega (arith, ints) in
    let e : c.rem_euclid-past.result ≡ pos l.past =
    c.rem_euclid-past.ensures.value ∙ ap (int_rem_euclid (to_z w64 (of_z w64 c.in_ok-least.least))) p ∙ l.remainder in
    let s = l.less in
    next_line c.args.low.now (to_z w64 (of_z w64 c.in_ok-least.least)) (to_z w64 (of_z w64 c.in_ok-line.line)) (omega (arith, ints)) l
    (positive l.past c.rem_euclid-past.result e c.if-past-eq0.false) (omega (arith, ints))
