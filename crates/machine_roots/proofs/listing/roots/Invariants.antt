use Rattle.machine_roots.proofs.Loaded.{IsLoading}
use Rattle.machine_roots.proofs.listing.roots.Given as goal

abbrev pub invariant-loop-register : goal.invariant-loop-register
invariant-loop-register l = IsLoading l.m l.register-items l.register-index l.out.items
