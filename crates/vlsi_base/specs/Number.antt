-- What decimal digits spell.
use Rattle.std.specs.Prelude.{ℕ, ◌+◌, ◌-◌, ◌*◌, ◌≤◌, Bool, ◌&&◌, List, [], ◌∷◌, nat_le, length}
use Rattle.std.specs.List.{AllPass}

abbrev pub is_digit : ℕ → Bool
is_digit c = nat_le 48 c && nat_le c 57

-- 1 to 20 decimal digits
pub record IsNumeral (text : List ℕ) : Type 0 where
  pub least : 1 ≤ length text
  pub most : length text ≤ 20
  pub digits : AllPass is_digit text

-- the number that digits spell behind others that spell n
abbrev pub value_from : ℕ → List ℕ → ℕ
value_from n [] = n
value_from n (c ∷ cs) = value_from (n * 10 + (c - 48)) cs

abbrev pub value_of : List ℕ → ℕ
value_of text = value_from 0 text
