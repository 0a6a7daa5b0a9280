-- The decimal digits of a number spell it.
use Rattle.std.proofs.Common.{◌≡◌, ℕ, ◌+◌, ◌-◌, ◌*◌, ◌/◌, ◌%◌, ◌^◌, ◌<◌, ◌≤◌, Bool, true, ◌&&◌, List, [], ◌∷◌, ◌++◌, length, refl, ap, ◌∙◌, arith, le-leb, length-append}
use Rattle.std.specs.Prelude.{nat_le}
use Rattle.std.specs.List.{list_all}
use Rattle.std.specs.Fmt.{decimal}
use Rattle.std.proofs.lemmas.Fmt.{decimal_by_steps, length-decimal-le}
use Rattle.std.proofs.lemmas.Bool.{and_from}
use Rattle.std.proofs.lemmas.List.Folds.{list_all-append}
use Rattle.std.proofs.lemmas.List.Sums.{AllPass-from_list_all}
use Rattle.vlsi_base.specs.Number.{is_digit, IsNumeral, value_of, value_from}

-- one digit behind others
pub value_more : (m : ℕ) (ds : List ℕ) (d : ℕ) → value_from m (ds ++ (48 + d) ∷ []) ≡ value_from m ds * 10 + d
value_more m [] d = omega arith
value_more m (c ∷ cs) d = value_more (m * 10 + (c - 48)) cs d

-- digits that spell a number
pub record IsDecimal (n : ℕ) (ds : List ℕ) : Type 0 where
  pub digits : list_all is_digit ds ≡ true
  pub value : value_of ds ≡ n
  pub some : 0 < length ds

-- each digit is one
digit_of_ten : (d : ℕ) → d < 10 → is_digit (48 + d) ≡ true
digit_of_ten d h = and_from (nat_le 48 (48 + d)) (nat_le (48 + d) 57) (le-leb 48 (48 + d) (omega arith)) (le-leb (48 + d) 57 (omega arith))

pub decimal_is : (n : ℕ) → n < 2 ^ 64 → IsDecimal n (decimal n)
decimal_is n h = decimal_by_steps IsDecimal
    (λ n less. record { digits = and_from (is_digit (48 + n)) true (digit_of_ten n less) refl; value = omega arith; some = omega arith })
    (λ n ds least front. record {
      digits = list_all-append is_digit ds ((48 + n % 10) ∷ []) ∙ and_from (list_all is_digit ds) (is_digit (48 + n % 10) && true) front.digits (and_from (is_digit (48 + n % 10)) true (digit_of_ten (n % 10) (omega arith)) refl);
      value = value_more 0 ds (n % 10) ∙ ap (λ m. m * 10 + n % 10) front.value ∙ omega arith;
      some = omega (arith, length-append ds ((48 + n % 10) ∷ []));
    })
    n h

-- so they are a numeral
pub decimal_is_numeral : (n : ℕ) → n < 2 ^ 64 → IsNumeral (decimal n)
decimal_is_numeral n h = let d = decimal_is n h in record {
  least = omega (arith, d.some);
  most = length-decimal-le 20 n (omega arith) (omega (arith, h)) h;
  digits = AllPass-from_list_all is_digit (decimal n) d.digits;
}
