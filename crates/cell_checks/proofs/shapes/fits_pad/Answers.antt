use Rattle.std.proofs.Common.{arith, rules, w64, FitsSigned}
use Rattle.std.proofs.lemmas.Int.{ints}
use Rattle.cell_checks.proofs.Pads.{no_line, no_room, too_low}
use Rattle.cell_checks.proofs.shapes.fits_pad.Goals as goal

pub returns-in_default : goal.returns-in_default
returns-in_default c =
    let out = c.in_default.ensures in
    let f : FitsSigned w64 c.args.low.now = search rules in
    let g : FitsSigned w64 c.args.high.now = search rules in
    (λ h. absurd (search (rules, h)), λ pad. absurd (too_low c.args.low.now c.args.high.now (omega (arith, ints)) (omega (arith, ints)) pad))

pub returns-in_default-first_line : goal.returns-in_default-first_line
returns-in_default-first_line c =
    let g : FitsSigned w64 c.args.high.now = search rules in
    (λ h. absurd (search (rules, h)), λ pad. absurd (no_line c.args.low.now c.args.high.now (omega (arith, ints)) c.in_default-first_line.ensures.none pad))

pub returns-then-line-most : goal.returns-then-line-most
returns-then-line-most c =
    let sum = c.in-Some.ensures in
    let g : FitsSigned w64 c.args.high.now = search rules in
    let k : FitsSigned w64 c.in-Some-first_line.line = search rules in
    (λ h. absurd (search (rules, h)), λ pad. absurd (no_room c.args.low.now c.args.high.now c.in-Some-first_line.line c.in-Some-first_line.ensures.line (omega (arith, ints)) pad))
