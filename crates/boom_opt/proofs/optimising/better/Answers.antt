use Rattle.boom_opt.proofs.Finishing.{optimised_accepted}
use Rattle.boom_opt.proofs.optimising.better.Goals as goal

pub returns-then-branch : goal.returns-then-branch
returns-then-branch c = optimised_accepted c.args.m.now c.in-Some-2.made c.args.limits.most_inner c.requires.bound (c.in_ok-may_replace.ensures c.if-branch.true)
