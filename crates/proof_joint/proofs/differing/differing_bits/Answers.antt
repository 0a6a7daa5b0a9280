use Rattle.std.proofs.Common.{◌≡◌, ◌<◌, ◌+◌, Bool, false, true, List, ap, sym, subst, ◌∙◌, arith, if◌then◌else◌}
use Rattle.bdd_core.specs.Diagram.{function_of}
use Rattle.proof_joint.proofs.Descent.{AreApart, none_taken, half, in_halves, step, apart_in_end}
use Rattle.proof_joint.proofs.differing.differing_bits.Goals.{then-is_high, else-is_high, then-is_high-2, else-is_high-2}
use Rattle.proof_joint.proofs.differing.differing_bits.Goals as goal

pub loop-variable-init : goal.loop-variable-init
loop-variable-init c =
    let d = c.args.diagrams.now in
    subst (λ (l : List Bool). AreApart d c.args.first c.args.second c.args.first c.args.second 0 l) (sym c.new-bits.ensures.items)
    (none_taken d c.args.first c.args.second c.requires.first.1.node c.requires.second.1.node c.requires.apart)

pub halves_at-parts-requires-clause-halves : goal.halves_at-parts-requires-clause-halves
halves_at-parts-requires-clause-halves c =
    let d = c.args.diagrams.now in
    let v = c.loop-variable.variable in
    let bits = c.loop-variable.bits.items in
    let g = c.requires.first.0 in
    let less : v < d.table.vars = omega (arith, c.loop-variable-test.true, c.requires.vars) in
    (half d v bits g false, half d v bits g true, in_halves d v bits g (function_of d c.loop-variable.root) less (c.loop-variable.invariant.root_is g c.requires.first.1))

pub halves_at-others-requires-clause-halves : goal.halves_at-others-requires-clause-halves
halves_at-others-requires-clause-halves c =
    let d = c.args.diagrams.now in
    let v = c.loop-variable.variable in
    let bits = c.loop-variable.bits.items in
    let g = c.requires.second.0 in
    let less : v < d.table.vars = omega (arith, c.loop-variable-test.true, c.requires.vars) in
    (half d v bits g false, half d v bits g true, in_halves d v bits g (function_of d c.loop-variable.other) less (c.loop-variable.invariant.other_is g c.requires.second.1))

pub loop-variable-preserved : goal.loop-variable-preserved
loop-variable-preserved c =
    let d = c.args.diagrams.now in
    let v = c.loop-variable.variable in
    let less : v < d.table.vars = omega (arith, c.loop-variable-test.true, c.requires.vars) in
    let root : c.if-is_high.root ≡ (if c.same-is_high.result then c.halves_at-parts.result.high else c.halves_at-parts.result.low) = elim c.if-is_high.branch [
      | then-is_high w ↦ w.root-is ∙ sym (ap (λ (b : Bool). if b then c.halves_at-parts.result.high else c.halves_at-parts.result.low) w.if-is_high.true)
      | else-is_high w ↦ w.root-is ∙ sym (ap (λ (b : Bool). if b then c.halves_at-parts.result.high else c.halves_at-parts.result.low) w.if-is_high.false)
    ] in
    let other : c.if-is_high-2.other ≡ (if c.same-is_high.result then c.halves_at-others.result.high else c.halves_at-others.result.low) = elim c.if-is_high-2.branch [
      | then-is_high-2 w ↦ w.other-is ∙ sym (ap (λ (b : Bool). if b then c.halves_at-others.result.high else c.halves_at-others.result.low) w.if-is_high-2.true)
      | else-is_high-2 w ↦ w.other-is ∙ sym (ap (λ (b : Bool). if b then c.halves_at-others.result.high else c.halves_at-others.result.low) w.if-is_high-2.false)
    ] in
    subst (λ (l : List Bool). AreApart d c.args.first c.args.second c.if-is_high.root c.if-is_high-2.other (v + 1) l) (sym c.in_ok-push.ensures.items)
    (step d c.args.first c.args.second c.loop-variable.root c.loop-variable.other v c.loop-variable.bits.items c.loop-variable.invariant less c.requires.first.0 c.requires.second.0
    c.requires.first.1 c.requires.second.1 c.halves_at-parts.result.low c.halves_at-parts.result.high c.halves_at-others.result.low c.halves_at-others.result.high
    c.halves_at-parts.ensures.low c.halves_at-parts.ensures.high c.halves_at-others.ensures.low c.halves_at-others.ensures.high c.halves_at-parts.ensures.halves c.halves_at-others.ensures.halves
    c.same-is_high.result c.if-is_high.root c.if-is_high-2.other c.same-is_high.ensures root other)

pub returns-clause-differ : goal.returns-clause-differ
returns-clause-differ c =
    apart_in_end c.args.diagrams.now c.args.first c.args.second c.loop-variable.root c.loop-variable.other c.loop-variable.variable c.loop-variable.bits.items c.loop-variable.invariant
    (omega (arith, c.loop-variable-test.false, c.loop-variable.auto.variable-end, c.requires.vars))
