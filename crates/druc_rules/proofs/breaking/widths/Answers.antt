use Rattle.std.proofs.Common.{◌≡◌, ◌+◌, ◌++◌, ◌∷◌, [], List, take, ◌∙◌, subst, rules, arith}
use Rattle.std.proofs.lemmas.List.{take_all}
use Rattle.sym_shapes.specs.Shape.{Shape}
use Rattle.druc_rules.specs.declared.breach.Breach.TheVariants as breach
use Rattle.druc_rules.specs.Breaches.{AreWidths}
use Rattle.druc_rules.proofs.Gaps.{widths_none, widths_more, widths_skip, taken_next}
use Rattle.druc_rules.proofs.breaking.widths.Goals.{then-is_narrow+in_ok-push, else-is_narrow}
use Rattle.druc_rules.proofs.breaking.widths.Goals as goal

pub loop-shape-init : goal.loop-shape-init
loop-shape-init c = widths_none c.args.width c.new-found.result.items c.new-found.ensures.items

pub loop-shape-preserved : goal.loop-shape-preserved
loop-shape-preserved c =
    let all : List Shape = c.args.shapes.now in
    let k = c.loop-shape.shape-index in
    let s : Shape = c.shape-item.result in
    let next : take (k + 1) all ≡ take k all ++ s ∷ [] = taken_next all k s c.loop-shape-test.true c.shape-item.is in
    let olds = c.loop-shape.found.items in
    elim c.if-is_narrow.branch [
      | then-is_narrow+in_ok-push w ↦
          rw (w.found-is, next)
          (widths_more c.args.width (take k all) s olds w.push.new.self.items c.loop-shape.invariant (c.is_narrow.ensures.0 (search (rules, w.if-is_narrow.true)))
          (w.in_ok-push.ensures.items ∙ (λ i. olds ++ breach.Width (w.metal.ensures i) (w.rect.ensures i) ∷ [])))
      | else-is_narrow w ↦
          rw (w.found-is, next)
          (widths_skip c.args.width (take k all) s olds c.loop-shape.invariant (λ h. absurd (search (rules, w.if-is_narrow.false, c.is_narrow.ensures.1 h))))
    ]

pub returns : goal.returns
returns c =
    subst (λ (xs : List Shape). AreWidths c.args.width xs c.loop-shape.found.items)
    (take_all c.loop-shape.shape-index c.args.shapes.now (omega (arith, c.loop-shape-test.false))) c.loop-shape.invariant
