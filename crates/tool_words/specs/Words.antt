-- Words, as bytes.
use Rattle.std.specs.Prelude.{ℕ, Bool, List, nat_eq}
use Rattle.std.specs.Cmp.Lexicographic.{pointwise}

abbrev pub is_word : List ℕ → List ℕ → Bool
is_word a b = pointwise nat_eq a b
