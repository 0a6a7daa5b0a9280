use Rattle.std.proofs.Common.{below_more, rules, arith}
use Rattle.s2r_cif.specs.Refused.{AreNear}
use Rattle.s2r_cif.proofs.Firsts.{pair_at, related_at, near_at, none_of, first_of}
use Rattle.s2r_cif.proofs.near.first_close.Goals as goal

pub grow_together-requires-clause-first : goal.grow_together-requires-clause-first
grow_together-requires-clause-first c =
    (related_at c.args.table.now c.args.shapes.now c.args.gap c.args.near.now c.requires.near c.requires.within c.loop-pair.pair-index c.loop-pair-test.true).first

pub grow_together-requires-clause-second : goal.grow_together-requires-clause-second
grow_together-requires-clause-second c =
    (related_at c.args.table.now c.args.shapes.now c.args.gap c.args.near.now c.requires.near c.requires.within c.loop-pair.pair-index c.loop-pair-test.true).second

pub returns-then-grow_together : goal.returns-then-grow_together
returns-then-grow_together c =
    let k = c.loop-pair.pair-index in
    first_of c.args.table.now c.args.shapes.now c.args.gap c.args.near.now c.requires.near c.requires.within k c.loop-pair-test.true c.loop-pair.invariant
    (near_at c.args.table.now c.args.shapes.now c.args.gap c.args.near.now c.requires.near c.requires.within k c.loop-pair-test.true
    (c.grow_together.ensures.0 (search (rules, c.if-grow_together.true))))

pub loop-pair-preserved : goal.loop-pair-preserved
loop-pair-preserved c =
    below_more _ _ c.loop-pair.invariant (λ n. absurd (search (rules, c.if-grow_together.false, c.grow_together.ensures.1 n.close)))

pub returns : goal.returns
returns c =
    none_of c.args.table.now c.args.shapes.now c.args.gap c.args.near.now c.requires.near c.requires.within
    (λ k low n. c.loop-pair.invariant k (omega (arith, low, c.loop-pair-test.false)) n)
