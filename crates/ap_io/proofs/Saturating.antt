-- Numbers up to the greatest of 64 bits.
use Rattle.std.proofs.Common.{◌≡◌, ℕ, ◌+◌, ◌-◌, ◌*◌, ◌^◌, ◌<◌, ◌≤◌, List, [], ◌∷◌, length, get_or, drop, min, sym, ap, ◌∙◌, ◌⊎◌, inl, inr, arith}
use Rattle.std.proofs.str.Laws.{order}
use Rattle.std.proofs.lemmas.List.{at_drop_more}
use Rattle.vlsi_base.specs.Number.{value_of, value_from}

-- further digits make no number smaller
pub value_from_grows : (n : ℕ) (ds : List ℕ) → n ≤ value_from n ds
value_from_grows n [] = omega arith
value_from_grows n (d ∷ ds) = omega (arith, value_from_grows (n * 10 + (d - 48)) ds)

-- a number that is cut to the greatest gives what the number itself gives
pub value_from_cut : (a b : ℕ) (ds : List ℕ) → b ≡ min a (2 ^ 64 - 1) → min (value_from b ds) (2 ^ 64 - 1) ≡ min (value_from a ds) (2 ^ 64 - 1)
value_from_cut a b ds cut = by_case (order a (2 ^ 64 - 1)) where
  by_case : (a < 2 ^ 64 - 1) ⊎ (2 ^ 64 - 1 ≤ a) → min (value_from b ds) (2 ^ 64 - 1) ≡ min (value_from a ds) (2 ^ 64 - 1)
  by_case (inl small) = let same : b ≡ a = omega arith in ap (λ n. min (value_from n ds) (2 ^ 64 - 1)) same
  by_case (inr large) =
      omega (arith, value_from_grows a ds, value_from_grows b ds)

-- one more digit
pub value_from_more : (digits : List ℕ) (i value value' : ℕ) → i < length digits → value' ≡ min (min (value * 10) (2 ^ 64 - 1) + (get_or digits i 0 - 48)) (2 ^ 64 - 1)
    → min (value_from value (drop i digits)) (2 ^ 64 - 1) ≡ min (value_of digits) (2 ^ 64 - 1)
    → min (value_from value' (drop (i + 1) digits)) (2 ^ 64 - 1) ≡ min (value_of digits) (2 ^ 64 - 1)
value_from_more digits i value value' within next so_far =
    let whole = value * 10 + (get_or digits i 0 - 48) in
    let cut : value' ≡ min whole (2 ^ 64 - 1) = omega arith in
    value_from_cut whole value' (drop (i + 1) digits) cut ∙ sym (ap (λ n. min n (2 ^ 64 - 1)) (at_drop_more (value_from value) digits i 0 within)) ∙ so_far
