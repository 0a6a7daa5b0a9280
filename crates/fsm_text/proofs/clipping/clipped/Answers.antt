use Rattle.std.proofs.Common.{rules, ◌≡◌, ◌≤◌, arith, true, false, refl}
use Rattle.std.specs.Prelude.{min, max}
use Rattle.vlsi_base.specs.declared.range.Range.{Range}
use Rattle.fsm_text.proofs.Clipped.{falls_within, rises_within, few_fall, few_rise}
use Rattle.fsm_text.proofs.clipping.clipped.Goals as goal

pub returns-then-bits-clause-same : goal.returns-then-bits-clause-same
returns-then-bits-clause-same c =
    let made : Range = record { left = c.min.result; falls = true; right = c.max.result; line = c.args.bits.line } in
    let left : c.min.result ≡ min c.args.bits.left c.highest-high.result = search rules in
    let right : c.max.result ≡ max c.args.bits.right c.lowest-low.result = search rules in
    falls_within c.args.bits c.args.within made c.lowest-low.result c.highest-high.result c.lowest-low.ensures c.highest-high.ensures c.if-bits.true refl left right

pub returns-then-bits-clause-few : goal.returns-then-bits-clause-few
returns-then-bits-clause-few c =
    let made : Range = record { left = c.min.result; falls = true; right = c.max.result; line = c.args.bits.line } in
    let left : c.min.result ≡ min c.args.bits.left c.highest-high.result = search rules in
    let right : c.max.result ≡ max c.args.bits.right c.lowest-low.result = search rules in
    few_fall c.args.within made c.lowest-low.result c.highest-high.result c.lowest-low.ensures c.highest-high.ensures refl (omega (arith, left)) (omega (arith, right))

pub returns-else-bits-clause-same : goal.returns-else-bits-clause-same
returns-else-bits-clause-same c =
    let made : Range = record { left = c.max-else-bits.result; falls = false; right = c.min-else-bits.result; line = c.args.bits.line } in
    let left : c.max-else-bits.result ≡ max c.args.bits.left c.lowest-low.result = search rules in
    let right : c.min-else-bits.result ≡ min c.args.bits.right c.highest-high.result = search rules in
    rises_within c.args.bits c.args.within made c.lowest-low.result c.highest-high.result c.lowest-low.ensures c.highest-high.ensures c.if-bits.false refl left right

pub returns-else-bits-clause-few : goal.returns-else-bits-clause-few
returns-else-bits-clause-few c =
    let made : Range = record { left = c.max-else-bits.result; falls = false; right = c.min-else-bits.result; line = c.args.bits.line } in
    let left : c.max-else-bits.result ≡ max c.args.bits.left c.lowest-low.result = search rules in
    let right : c.min-else-bits.result ≡ min c.args.bits.right c.highest-high.result = search rules in
    few_rise c.args.within made c.lowest-low.result c.highest-high.result c.lowest-low.ensures c.highest-high.ensures refl (omega (arith, left)) (omega (arith, right))
