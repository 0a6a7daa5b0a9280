-- Values by name.
use Rattle.std.specs.Prelude.{ℕ, Bool, true, false, ◌&&◌, List, [], ◌∷◌, map, Option, None, Some, nat_eq, if◌then◌else◌}
use Rattle.std.specs.Cmp.Lexicographic.{pointwise}
use Rattle.vlsi_base.specs.declared.name.Name.{Name}

abbrev pub is_same_text : List ℕ → List ℕ → Bool
is_same_text a b = pointwise nat_eq a b

abbrev pub is_same_bit : Option ℕ → Option ℕ → Bool
is_same_bit None None = true
is_same_bit (Some a) (Some b) = nat_eq a b
is_same_bit None (Some _) = false
is_same_bit (Some _) None = false

abbrev pub is_same_name : Name → Name → Bool
is_same_name a b = is_same_text a.text b.text && is_same_bit a.bit b.bit

-- the bit that stands beside a name, where the lists of names and bits go together; a name that isn't there reads as 0
abbrev pub value_at : List Name → List Bool → Name → Bool
value_at [] w name = false
value_at (n ∷ names) [] name = false
value_at (n ∷ names) (b ∷ w) name = if is_same_name n name then b else value_at names w name

abbrev pub values_at : List Name → List Bool → List Name → List Bool
values_at names w asked = map (value_at names w) asked
