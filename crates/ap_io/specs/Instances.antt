-- Which names the names of instances have.
use Rattle.std.specs.Prelude.{ℕ, Bool, List}
use Rattle.std.specs.BTreeSet.{contains_by}
use Rattle.std.specs.Cmp.Lexicographic.{slice_cmp}
use Rattle.std.specs.Ordering.{nat_cmp}
use Rattle.ap_io.specs.declared.instances.InstanceNames.{InstanceNames}

abbrev pub is_known : List ℕ → InstanceNames → Bool
is_known name known = contains_by (λ v. slice_cmp nat_cmp name v.items) known.names
