use Rattle.std.proofs.Common.{inl, inr, refl, arith}
use Rattle.boom_opt.proofs.Finishing.{inner_bound}
use Rattle.boom_opt.proofs.optimising.most_inner.Goals as goal

pub returns-then-made : goal.returns-then-made
returns-then-made c = inner_bound c.args.m.now c.args.made.now c.args.made.now.muxes.given c.requires (inl (c.if-made.true, refl))

pub returns-else-made : goal.returns-else-made
returns-else-made c = inner_bound c.args.m.now c.args.made.now c.saturating_mul.result c.requires (inr (let e = c.saturating_mul.ensures in omega (arith, e)))
