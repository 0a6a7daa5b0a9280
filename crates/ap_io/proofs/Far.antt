-- Going over the coordinates of a line.
use Rattle.std.proofs.Common.{◌≡◌, ℕ, suc, zero, ◌+◌, ◌-◌, ◌^◌, ◌<◌, ◌≤◌, Bool, true, false, List, [], ◌∷◌, length, take, drop, min, refl, sym, ap, ◌∙◌, arith, Option, None, Some, if◌then◌else◌}
use Rattle.std.specs.Prelude.{nat_lt}
use Rattle.std.proofs.lemmas.Bool.Decides.{nat_tests}
use Rattle.ap_io.specs.declared.scale.Scale.{Scale}
use Rattle.ap_io.specs.declared.limits.TheConstants.{MOST_COORDINATE}
use Rattle.ap_io.specs.Fields.{at, reach}
use Rattle.ap_io.specs.LineFaults.{far_coordinate}

one_more : (fields : List (List ℕ)) (n m : ℕ) → n < length fields → take (suc m) (drop n fields) ≡ at fields n ∷ take m (drop (n + 1) fields)
one_more [] n m inside = absurd (omega (arith, inside))
one_more (f ∷ fs) zero m inside = refl
one_more (f ∷ fs) (suc n) m inside =
    let e : suc (n + 1) ≡ suc n + 1 = omega arith in
    one_more fs n m (omega (arith, inside)) ∙ ap (λ k. at fs n ∷ take m (drop k (f ∷ fs))) e

-- what is left from the field n on, of the first c
from_field : (fields : List (List ℕ)) (n c : ℕ) → n < c → c ≤ length fields → take (c - n) (drop n fields) ≡ at fields n ∷ take (c - (n + 1)) (drop (n + 1) fields)
from_field fields n c less inside =
    let e : c - n ≡ suc (c - (n + 1)) = omega arith in ap (λ k. take k (drop n fields)) e ∙ one_more fields n (c - (n + 1)) (omega (arith, less, inside))

abbrev far_first : Scale → List ℕ → Option ℕ → Option ℕ
far_first scale text rest = if nat_lt MOST_COORDINATE (reach scale text) then Some (min (reach scale text) (2 ^ 64 - 1)) else rest

-- the first c fields from the field n on, of which the first is over the greatest or isn't
by_first : (scale : Scale) (text : List ℕ) (rest : Option ℕ) (reached : ℕ) → reached ≡ min (reach scale text) (2 ^ 64 - 1)
    → ((MOST_COORDINATE < reached) → far_first scale text rest ≡ Some reached) × ((reached ≤ MOST_COORDINATE) → far_first scale text rest ≡ rest)
by_first scale text rest reached is = (
  λ far. let over : nat_lt MOST_COORDINATE (reach scale text) ≡ true = lt (reach scale text) (omega arith) in
      ap (λ (b : Bool). if b then Some (min (reach scale text) (2 ^ 64 - 1)) else rest) over ∙ ap Some (sym is),
  λ near. let within : nat_lt MOST_COORDINATE (reach scale text) ≡ false = le (reach scale text) (omega arith) in
      ap (λ (b : Bool). if b then Some (min (reach scale text) (2 ^ 64 - 1)) else rest) within,
) where
  lt : (n : ℕ) → MOST_COORDINATE < n → nat_lt MOST_COORDINATE n ≡ true
  lt n h = grind (arith, nat_tests)

  le : (n : ℕ) → n ≤ MOST_COORDINATE → nat_lt MOST_COORDINATE n ≡ false
  le n h = grind (arith, nat_tests)

pub goes_on : (scale : Scale) (fields : List (List ℕ)) (n c reached : ℕ) (whole : Option ℕ) → n < c → c ≤ length fields → reached ≡ min (reach scale (at fields n)) (2 ^ 64 - 1)
    → reached ≤ MOST_COORDINATE → far_coordinate scale (take (c - n) (drop n fields)) ≡ whole → far_coordinate scale (take (c - (n + 1)) (drop (n + 1) fields)) ≡ whole
goes_on scale fields n c reached whole less inside is near so =
    sym ((by_first scale (at fields n) (far_coordinate scale (take (c - (n + 1)) (drop (n + 1) fields))) reached is).1 near)
    ∙ sym (ap (far_coordinate scale) (from_field fields n c less inside)) ∙ so

pub ends_here : (scale : Scale) (fields : List (List ℕ)) (n c reached : ℕ) (whole : Option ℕ) → n < c → c ≤ length fields → reached ≡ min (reach scale (at fields n)) (2 ^ 64 - 1)
    → MOST_COORDINATE < reached → far_coordinate scale (take (c - n) (drop n fields)) ≡ whole → Some reached ≡ whole
ends_here scale fields n c reached whole less inside is far so =
    sym ((by_first scale (at fields n) (far_coordinate scale (take (c - (n + 1)) (drop (n + 1) fields))) reached is).0 far)
    ∙ sym (ap (far_coordinate scale) (from_field fields n c less inside)) ∙ so

pub at_start : (scale : Scale) (fields : List (List ℕ)) (c : ℕ) → far_coordinate scale (take (c - 0) (drop 0 fields)) ≡ far_coordinate scale (take c fields)
at_start scale fields c = let e : c - 0 ≡ c = omega arith in ap (λ k. far_coordinate scale (take k fields)) e

pub at_end : (scale : Scale) (fields : List (List ℕ)) (n c : ℕ) (whole : Option ℕ) → c - n ≡ 0 → far_coordinate scale (take (c - n) (drop n fields)) ≡ whole → None ≡ whole
at_end scale fields n c whole none so = ap (λ k. far_coordinate scale (take k (drop n fields))) (sym none) ∙ so
