use Rattle.std.proofs.Common.{◌≤◌, length, arith, Bool, not, ◌&&◌, ap, ap₂, ◌∙◌}
use Rattle.truth_tab.specs.Table.{value_of}
use Rattle.cell_match.proofs.Composing.{chosen}
use Rattle.cell_match.proofs.word.choice.Goals as goal

pub returns : goal.returns
returns c = λ v h.
    let few : length v ≤ 6 = omega arith in
    let x = value_of c.args.c.word v in
    let a = value_of c.args.a.word v in
    let b = value_of c.args.b.word v in
    let first = c.not-first.ensures v few ∙ ap not (c.and.ensures v) in
    let other = c.not.ensures v few in
    let second = c.not-second.ensures v few ∙ ap not (c.and-2.ensures v ∙ ap (λ (t : Bool). t && b) other) in
    c.not-2.ensures v few ∙ ap not (c.and-3.ensures v ∙ ap₂ (λ (s t : Bool). s && t) first second) ∙ chosen x a b
