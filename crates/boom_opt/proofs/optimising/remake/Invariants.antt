use Rattle.boom_opt.proofs.Remade.{IsRemaking}
use Rattle.boom_opt.proofs.optimising.remake.Given as goal

abbrev pub invariant-loop-root : goal.invariant-loop-root
invariant-loop-root l = IsRemaking l.m l.budget l.root-items l.root-index l.made
