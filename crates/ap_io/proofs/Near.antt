-- Coordinates that are not too far off.
use Rattle.std.proofs.Common.{◌≡◌, ℕ, suc, zero, ◌*◌, ◌-◌, ◌^◌, ◌<◌, Bool, true, false, List, [], ◌∷◌, take, min, refl, ap, ◌∙◌, arith, Option, None, Some, if◌then◌else◌}
use Rattle.std.specs.Prelude.{ℤ, nat_lt}
use Rattle.std.proofs.lemmas.Int.{ints, clamps}
use lib.Signed.{mag}
use mir.Syntax.{w64}
use mir.Val.{to_z, of_z}
use Rattle.ap_io.proofs.Digits.{both_true}
use Rattle.ap_io.specs.declared.scale.Scale.{Scale}
use Rattle.ap_io.specs.declared.limits.TheConstants.{MOST_COORDINATE}
use Rattle.ap_io.specs.Fields.{at, reach, factor, coordinate_of, is_index, is_number, size_of, number_of}
use Rattle.ap_io.specs.LineFaults.{far_coordinate}

nothing_near : (scale : Scale) → nat_lt MOST_COORDINATE (0 * factor scale) ≡ false
nothing_near scale = let e : 0 * factor scale ≡ 0 = omega arith in ap (nat_lt MOST_COORDINATE) e

not_far : (b : Bool) (n : ℕ) (rest : Option ℕ) → (if b then Some n else rest) ≡ None → (b ≡ false) × (rest ≡ None)
not_far true n rest h = absurd (cc)
not_far false n rest h = (refl, h)

-- where none of the first c fields is over the greatest, each of them isn't
pub near_first : (scale : Scale) (fields : List (List ℕ)) (c i : ℕ) → far_coordinate scale (take c fields) ≡ None → i < c → nat_lt MOST_COORDINATE (reach scale (at fields i)) ≡ false
near_first scale [] c i none less = nothing_near scale
near_first scale (f ∷ fs) zero i none less = absurd (omega (arith, less))
near_first scale (f ∷ fs) (suc c) zero none less = (not_far (nat_lt MOST_COORDINATE (reach scale f)) (min (reach scale f) (2 ^ 64 - 1)) (far_coordinate scale (take c fs)) none).0
near_first scale (f ∷ fs) (suc c) (suc i) none less =
    near_first scale fs c i ((not_far (nat_lt MOST_COORDINATE (reach scale f)) (min (reach scale f) (2 ^ 64 - 1)) (far_coordinate scale (take c fs)) none).1) (omega (arith, less))

-- the same of a field that was read
pub near_at : (scale : Scale) (fields : List (List ℕ)) (c i : ℕ) (text : List ℕ) → far_coordinate scale (take c fields) ≡ None → i < c → text ≡ at fields i
    → nat_lt MOST_COORDINATE (reach scale text) ≡ false
near_at scale fields c i text none less is = ap (λ (t : List ℕ). nat_lt MOST_COORDINATE (reach scale t)) is ∙ near_first scale fields c i none less

kept : (z : ℤ) → mag z < 9223372036854775808 → to_z w64 (of_z w64 z) ≡ z
kept z fits = omega (arith, ints, clamps, fits)

-- a coordinate that was read of a field, as it is kept
pub read_at : (scale : Scale) (fields : List (List ℕ)) (c i : ℕ) (text : List ℕ) (z : ℤ) → far_coordinate scale (take c fields) ≡ None → i < c → text ≡ at fields i
    → mag z < 9223372036854775808 → (nat_lt MOST_COORDINATE (reach scale text) ≡ false → z ≡ coordinate_of scale text)
    → to_z w64 (of_z w64 z) ≡ coordinate_of scale (at fields i)
read_at scale fields c i text z none less is fits so =
    kept z fits ∙ so (near_at scale fields c i text none less is) ∙ ap (λ (t : List ℕ). coordinate_of scale t) is

pub index_at : (fields : List (List ℕ)) (i : ℕ) (text : List ℕ) (z : ℤ) → is_index (at fields i) ≡ true → text ≡ at fields i → mag z < 9223372036854775808
    → (nat_lt (size_of text) (2 ^ 63) ≡ true → z ≡ number_of text) → to_z w64 (of_z w64 z) ≡ number_of (at fields i)
index_at fields i text z index is fits so =
    let small : nat_lt (size_of text) (2 ^ 63) ≡ true = ap (λ (t : List ℕ). nat_lt (size_of t) (2 ^ 63)) is ∙ (both_true (is_number (at fields i)) (nat_lt (size_of (at fields i)) (2 ^ 63)) index).1 in
    kept z fits ∙ so small ∙ ap (λ (t : List ℕ). number_of t) is
