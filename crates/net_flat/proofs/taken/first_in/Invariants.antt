use Rattle.std.proofs.Common.{◌≡◌, ℕ, ◌<◌, false}
use Rattle.std.specs.Prelude.{slice_index_or}
use Rattle.vlsi_base.specs.declared.name.Name.{Name}
use Rattle.net_flat.specs.Taken.{is_indexed}
use Rattle.net_flat.proofs.taken.first_in.Given as goal

abbrev pub invariant-loop-k : goal.invariant-loop-k
invariant-loop-k l = (j : ℕ) (d : Name) → j < l.k → is_indexed l.texts (slice_index_or l.names j d) ≡ false
