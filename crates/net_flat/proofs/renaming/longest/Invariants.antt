use Rattle.std.proofs.Common.{ℕ, ◌<◌, ◌≤◌, get_or, length}
use Rattle.vlsi_base.specs.declared.name.Name.{Name}
use Rattle.net_flat.proofs.renaming.longest.Given as goal

abbrev pub invariant-loop-name : goal.invariant-loop-name
invariant-loop-name l = record {
  least : l.least ≤ l.longest;
  each : (k : ℕ) (d : Name) → k < l.name-index → length (get_or l.names k d).text ≤ l.longest;
}
