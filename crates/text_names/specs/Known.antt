-- Which texts are among those that are taken.
use Rattle.std.specs.Prelude.{ℕ, Bool, List}
use Rattle.std.specs.BTreeSet.{contains_by}
use Rattle.std.specs.Cmp.Lexicographic.{slice_cmp}
use Rattle.std.specs.Ordering.{nat_cmp}
use Rattle.text_names.specs.declared.taken.Taken.{Taken}

abbrev pub is_known : List ℕ → Taken → Bool
is_known text taken = contains_by (λ v. slice_cmp nat_cmp text v.items) taken.texts
