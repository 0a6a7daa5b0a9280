-- What is written is read again: numbers.
use Rattle.std.proofs.Common.{◌≡◌, ℕ, suc, ◌+◌, ◌-◌, ◌*◌, ◌%◌, ◌^◌, ◌<◌, ◌≤◌, Bool, true, false, not, ◌==◌, ◌&&◌, List, [], ◌∷◌, ◌++◌, length, drop, refl, sym, ap, ◌∙◌, arith, le-leb, length-append, if◌then◌else◌}
use Rattle.std.specs.Prelude.{ℤ, pos, negsuc, ◌≤ℤ◌, neg_ℤ, nat_abs, nat_le, nat_lt}
use Rattle.std.specs.List.{list_all}
use Rattle.std.specs.Char.{is_ascii_digit}
use Rattle.std.specs.Fmt.{decimal, signed_decimal}
use Rattle.std.proofs.lemmas.Fmt.{decimal_by_steps}
use Rattle.std.proofs.lemmas.Bool.Decides.{nat_tests}
use Rattle.std.proofs.lemmas.Int.{ints}
use Rattle.vlsi_base.specs.Number.{value_of, value_from}
use Rattle.ap_io.specs.declared.scale.Scale.TheVariants.{Hundred}
use Rattle.ap_io.specs.declared.limits.TheConstants.{MOST_COORDINATE}
use Rattle.ap_io.specs.Fields.{has_minus, digits_of, is_digits, is_number, signed, size_of, number_of, reach, coordinate_of, is_width, is_index}
use Rattle.ap_io.specs.ApText.{is_field_byte, IsNear}
use Rattle.ap_io.proofs.Digits.{digit_range, head_digit}
use Rattle.ap_io.proofs.Bytes.{both, all_append, all_implied, digit_in_field}

value_more : (m : ℕ) (ds : List ℕ) (d : ℕ) → value_from m (ds ++ (48 + d) ∷ []) ≡ value_from m ds * 10 + d
value_more m [] d = omega arith
value_more m (c ∷ cs) d = value_more (m * 10 + (c - 48)) cs d

-- digits that spell a number
pub record IsDecimal (n : ℕ) (ds : List ℕ) : Type 0 where
  pub digits : list_all is_ascii_digit ds ≡ true
  pub value : value_of ds ≡ n
  pub some : 0 < length ds

digit_of_ten : (d : ℕ) → d < 10 → is_ascii_digit (48 + d) ≡ true
digit_of_ten d h = both (nat_le 48 (48 + d)) (nat_le (48 + d) 57) (le-leb 48 (48 + d) (omega arith)) (le-leb (48 + d) 57 (omega arith))

pub decimal_is : (n : ℕ) → n < 2 ^ 64 → IsDecimal n (decimal n)
decimal_is n h = decimal_by_steps IsDecimal
    (λ n less. record { digits = both (is_ascii_digit (48 + n)) true (digit_of_ten n less) refl; value = omega arith; some = omega arith })
    (λ n ds least front. record {
      digits = all_append is_ascii_digit ds ((48 + n % 10) ∷ []) front.digits (both (is_ascii_digit (48 + n % 10)) true (digit_of_ten (n % 10) (omega arith)) refl);
      value = value_more 0 ds (n % 10) ∙ ap (λ m. m * 10 + n % 10) front.value ∙ omega arith;
      some = omega (arith, length-append ds ((48 + n % 10) ∷ []));
    })
    n h

no_minus : (ds : List ℕ) → list_all is_ascii_digit ds ≡ true → has_minus ds ≡ false
no_minus [] all = refl
no_minus (d ∷ ds) all = let r = digit_range d (head_digit d ds all).0 in other d r.0 where
  other : (d : ℕ) → 48 ≤ d → has_minus (d ∷ []) ≡ false
  other d h = grind (arith, nat_tests)

pub digits_some : (ds : List ℕ) → 0 < length ds → list_all is_ascii_digit ds ≡ true → is_digits ds ≡ true
digits_some [] some all = absurd (omega (arith, some))
digits_some (d ∷ ds) some all = let has : not (length (d ∷ ds) == 0) ≡ true = grind (arith, nat_tests) in both (not (length (d ∷ ds) == 0)) (list_all is_ascii_digit (d ∷ ds)) has all

-- a number as it is written is read as itself
pub record IsAgain (z : ℤ) : Type 0 where
  pub is_number : is_number (signed_decimal z) ≡ true
  pub number : number_of (signed_decimal z) ≡ z
  pub size : size_of (signed_decimal z) ≡ nat_abs z
  pub bytes : list_all is_field_byte (signed_decimal z) ≡ true

pub number_again : (z : ℤ) → nat_abs z < 2 ^ 64 → IsAgain z
unfolding is_number
number_again (pos n) less =
    let d = decimal_is n less in
    let plain = no_minus (decimal n) d.digits in
    let same : digits_of (decimal n) ≡ decimal n = ap (λ (b : Bool). if b then drop 1 (decimal n) else decimal n) plain in
    record {
      is_number = ap is_digits same ∙ digits_some (decimal n) d.some d.digits;
      number = ap (λ (b : Bool). signed b (size_of (decimal n))) plain ∙ ap (λ (t : List ℕ). pos (value_of t)) same ∙ ap pos d.value;
      size = ap value_of same ∙ d.value;
      bytes = all_implied is_ascii_digit is_field_byte digit_in_field (decimal n) d.digits;
    }
number_again (negsuc n) less =
    let d = decimal_is (suc n) less in
    record {
      is_number = digits_some (decimal (suc n)) d.some d.digits;
      number = ap (λ m. neg_ℤ (pos m)) d.value;
      size = d.value;
      bytes = both (is_field_byte 45) (list_all is_field_byte (decimal (suc n))) refl (all_implied is_ascii_digit is_field_byte digit_in_field (decimal (suc n)) d.digits);
    }

-- a coordinate or a width at scale 100
pub record IsCoordinate (z : ℤ) : Type 0 where
  pub is_number : is_number (signed_decimal z) ≡ true
  pub number : number_of (signed_decimal z) ≡ z
  pub coordinate : z ≡ coordinate_of Hundred (signed_decimal z)
  pub near : nat_lt MOST_COORDINATE (reach Hundred (signed_decimal z)) ≡ false
  pub bytes : list_all is_field_byte (signed_decimal z) ≡ true

not_over : (n : ℕ) → n ≤ MOST_COORDINATE → nat_lt MOST_COORDINATE n ≡ false
not_over n h = grind (arith, nat_tests)

pub coordinate_again : (z : ℤ) → IsNear z → IsCoordinate z
coordinate_again z near =
    let t = signed_decimal z in
    let a = number_again z (omega (arith, near)) in
    let once : reach Hundred t ≡ size_of t = omega arith in
    record {
      is_number = a.is_number;
      number = a.number;
      coordinate = sym (ap (signed (has_minus t)) once ∙ a.number);
      near = ap (nat_lt MOST_COORDINATE) (once ∙ a.size) ∙ not_over (nat_abs z) near;
      bytes = a.bytes;
    }

pub width_again : (z : ℤ) → IsNear z → pos 1 ≤ℤ z → is_width (signed_decimal z) ≡ true
width_again (pos n) near some =
    let a = number_again (pos n) (omega (arith, near)) in
    let d = decimal_is n (omega (arith, near)) in
    let plain : not (has_minus (decimal n)) ≡ true = ap not (no_minus (decimal n) d.digits) in
    let positive : nat_lt 0 (size_of (decimal n)) ≡ true = ap (nat_lt 0) a.size ∙ is_over n (omega (arith, ints, some)) in
    both (is_number (decimal n)) (not (has_minus (decimal n)) && nat_lt 0 (size_of (decimal n))) a.is_number
    (both (not (has_minus (decimal n))) (nat_lt 0 (size_of (decimal n))) plain positive) where
      is_over : (n : ℕ) → 1 ≤ n → nat_lt 0 n ≡ true
      is_over n h = grind (arith, nat_tests)
width_again (negsuc n) near some = absurd (omega (arith, ints, some))

pub index_again : (z : ℤ) → nat_abs z < 2 ^ 63 → is_index (signed_decimal z) ≡ true
index_again z small =
    let t = signed_decimal z in
    let a = number_again z (omega (arith, small)) in
    both (is_number t) (nat_lt (size_of t) (2 ^ 63)) a.is_number (ap (λ n. nat_lt n (2 ^ 63)) a.size ∙ under (nat_abs z) small) where
      under : (n : ℕ) → n < 2 ^ 63 → nat_lt n (2 ^ 63) ≡ true
      under n h = grind (arith, nat_tests)
