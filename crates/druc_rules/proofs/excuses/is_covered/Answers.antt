use Rattle.std.proofs.Common.{arith, rules}
use Rattle.std.proofs.lemmas.Bool.{false≢true}
use Rattle.druc_rules.proofs.Holding.{holder, does_not_fall, holds_at, none_more, none_at_end, over_from}
use Rattle.druc_rules.proofs.Excused.{excuses_from}
use Rattle.druc_rules.proofs.excuses.is_covered.Goals as goal

pub first_from-start-requires : goal.first_from-start-requires
first_from-start-requires c = does_not_fall c.args.layout.now.shapes.now c.args.layout.now.holders.now c.requires.known.holders

pub loop-k-preserved : goal.loop-k-preserved
loop-k-preserved c =
    let all = c.args.layout.now.shapes.now in
    let ps = c.args.layout.now.holders.now in
    let k = c.loop-k.k in
    record {
      after = omega (arith, c.loop-k.invariant.after);
      none = none_more all ps c.args.first c.args.second c.requires.known.holders k c.loop-k.invariant.none
          (λ h. absurd (search (
            rules,
            c.if-excuses.false,
            c.excuses.ensures.1
                (excuses_from all c.args.first c.args.second c.index-layout-first.result c.index-layout-second.result c.requires.first c.requires.second
                (holder ps k).second c.index-layout-third.result (holds_at all ps c.args.first c.args.second c.requires.known.holders k c.loop-k-test.true).second h),
          )));
    }

pub returns-else-layout-k : goal.returns-else-layout-k
returns-else-layout-k c =
    let all = c.args.layout.now.shapes.now in
    let ps = c.args.layout.now.holders.now in
    let are = c.requires.known.holders in (
      λ h. absurd (false≢true h),
      λ h. absurd
          (none_at_end all ps c.args.first c.args.second are c.loop-k.k c.loop-k.invariant.none
          (over_from all ps c.args.first c.args.second are c.first_from-start.result c.first_from-start.ensures c.loop-k.k c.loop-k.invariant.after c.if-layout-k.false) h),
    )

pub returns-after-loop-k : goal.returns-after-loop-k
returns-after-loop-k c = (
  λ h. absurd (false≢true h),
  λ h. absurd
      (none_at_end c.args.layout.now.shapes.now c.args.layout.now.holders.now c.args.first c.args.second c.requires.known.holders c.loop-k.k c.loop-k.invariant.none
      (λ k from low is. absurd (omega (arith, from, low, c.loop-k-test.false))) h),
)
