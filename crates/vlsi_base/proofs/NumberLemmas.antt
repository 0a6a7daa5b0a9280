-- Digits behind others.
use Rattle.std.proofs.Common.{◌≡◌, ℕ, ◌+◌, ◌-◌, ◌*◌, ◌<◌, ◌≤◌, List, [], ◌∷◌, length, get_or, drop, arith, add-one, drop-cons, refl}
use Rattle.vlsi_base.specs.Number.{value_from}

-- further digits don't make the number less
pub value_from-grows : (n : ℕ) (cs : List ℕ) → n ≤ value_from n cs
value_from-grows n [] = omega arith
value_from-grows n (c ∷ cs) = omega (arith, value_from-grows (n * 10 + (c - 48)) cs)

-- one digit more is read
pub value_from-drop : (n i : ℕ) (text : List ℕ) → i < length text → value_from n (drop i text) ≡ value_from (n * 10 + (get_or text i 0 - 48)) (drop (i + 1) text)
value_from-drop n i text h = rw (add-one, drop-cons text i 0) refl

-- the digits so far, with the next one, spell no more than all of them
pub value_from-le : (n i : ℕ) (text : List ℕ) → i < length text → n * 10 + (get_or text i 0 - 48) ≤ value_from n (drop i text)
value_from-le n i text h =
    rw (value_from-drop n i text h) (value_from-grows (n * 10 + (get_or text i 0 - 48)) (drop (i + 1) text))
