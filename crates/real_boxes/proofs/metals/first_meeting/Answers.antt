use Rattle.std.proofs.Common.{below_more, rules, arith}
use Rattle.real_boxes.proofs.Unlike.{related_at, unlike_at, none_of, first_of}
use Rattle.real_boxes.proofs.metals.first_meeting.Goals as goal

pub meet-requires-clause-first : goal.meet-requires-clause-first
meet-requires-clause-first c =
    let low =
    (related_at c.args.these.now c.args.others.now c.args.gap c.args.near.now c.requires.near c.requires.within c.loop-pair.pair-index c.loop-pair-test.true).first in
    let same = c.requires.same in omega (arith, low, same)

pub meet-requires-clause-second : goal.meet-requires-clause-second
meet-requires-clause-second c =
    let low =
    (related_at c.args.these.now c.args.others.now c.args.gap c.args.near.now c.requires.near c.requires.within c.loop-pair.pair-index c.loop-pair-test.true).second in
    let same = c.requires.same in omega (arith, low, same)

pub returns-then-meet : goal.returns-then-meet
returns-then-meet c =
    let k = c.loop-pair.pair-index in
    first_of c.args.these.now c.args.others.now c.args.gap c.args.near.now c.requires.near c.requires.within k c.loop-pair-test.true c.loop-pair.invariant
    (unlike_at c.args.these.now c.args.others.now c.args.gap c.args.near.now c.requires.near c.requires.within k c.loop-pair-test.true
    (c.meet.ensures.0 (search (rules, c.if-meet.true))))

pub loop-pair-preserved : goal.loop-pair-preserved
loop-pair-preserved c =
    below_more _ _ c.loop-pair.invariant (λ n. absurd (search (rules, c.if-meet.false, c.meet.ensures.1 n.meet)))

pub returns : goal.returns
returns c =
    none_of c.args.these.now c.args.others.now c.args.gap c.args.near.now c.requires.near c.requires.within
    (λ k low n. c.loop-pair.invariant k (omega (arith, low, c.loop-pair-test.false)) n)
