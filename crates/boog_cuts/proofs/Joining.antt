-- The nodes of two lists, one by one.
use Rattle.std.proofs.Common.{◌≡◌, inl, inr, ℕ, ◌+◌, ◌<◌, ◌≤◌, Bool, List, [], ◌∷◌, ◌++◌, map, length, take, get_or, ap, refl, sym, subst, ◌∙◌, arith, length-append}
use Prim.Native.Nat.{zero, suc}
use Rattle.truth_tab.specs.Table.{bit}
use Rattle.cell_match.specs.Places.{times, place}
use Rattle.cell_match.proofs.Numbers.{one, one_tells, times_more, times_take}
use Rattle.cell_match.proofs.Pigeons.{no_longer, times_append, place_there}
use Rattle.cell_match.proofs.Composing.{map_on, map_twice}
use Rattle.boog_cuts.specs.Cuts.{IsUnion}

times_end : (x y : ℕ) (ys : List ℕ) → times x (ys ++ y ∷ []) ≡ times x ys + one y x
times_end x y ys = let e = times_append x ys (y ∷ []) in omega arith

pub union_start : (first : List ℕ) → ((x : ℕ) → times x first ≤ 1) → IsUnion first [] first
union_start first once = record {
  once = once;
  members = λ x. (
    λ h. inl h,
    λ h. elim h [
      | inl by ↦ by
      | inr none ↦ absurd (omega arith)
    ],
  );
}

module _ (first second : List ℕ) (i : ℕ) (nodes : List ℕ) (low : i < length second) (are : IsUnion first (take i second) nodes) where
  more : (x : ℕ) → times x (take (i + 1) second) ≡ times x (take i second) + one (get_or second i 0) x
  more x = times_more x second i low

  pub union_skip : 0 < times (get_or second i 0) nodes → IsUnion first (take (i + 1) second) nodes
  union_skip known = record {
    once = are.once;
    members = λ x. (
      λ some. elim ((are.members x).0 some) [
        | inl by ↦ inl by
        | inr by ↦ let e = more x in inr (omega arith)
      ],
      λ why. elim why [
        | inl by ↦ (are.members x).1 (inl by)
        | inr by ↦ elim (one_tells (get_or second i 0) x) [
          | inl is ↦ subst (λ (n : ℕ). 0 < times n nodes) is.0 known
          | inr isnt ↦ let e = more x in let o = isnt.1 in (are.members x).1 (inr (omega arith))
        ]
      ],
    );
  }

  pub union_add : times (get_or second i 0) nodes ≡ 0 → IsUnion first (take (i + 1) second) (nodes ++ get_or second i 0 ∷ [])
  union_add new = record {
    once = λ x. let e = times_end x (get_or second i 0) nodes in let f = are.once x in elim (one_tells (get_or second i 0) x) [
      | inl is ↦ let o = is.1 in let z : times x nodes ≡ 0 = ap (λ (n : ℕ). times n nodes) (sym is.0) ∙ new in omega arith
      | inr isnt ↦ let o = isnt.1 in omega arith
    ];
    members = λ x. (
      λ some. let e = times_end x (get_or second i 0) nodes in let m = more x in elim (one_tells (get_or second i 0) x) [
        | inl is ↦ let o = is.1 in inr (omega arith)
        | inr isnt ↦ let o = isnt.1 in elim ((are.members x).0 (omega arith)) [
          | inl by ↦ inl by
          | inr by ↦ inr (omega arith)
        ]
      ],
      λ why. let e = times_end x (get_or second i 0) nodes in let m = more x in elim why [
        | inl by ↦ let f = (are.members x).1 (inl by) in omega arith
        | inr by ↦ elim (one_tells (get_or second i 0) x) [
          | inl is ↦ let o = is.1 in omega arith
          | inr isnt ↦ let o = isnt.1 in let f = (are.members x).1 (inr (omega arith)) in omega arith
        ]
      ],
    );
  }

  -- no union is as short as a full list that lacks a number
  pub union_full : times (get_or second i 0) nodes ≡ 0 → (all : List ℕ) → IsUnion first second all → length nodes < length all
  union_full new all whole =
      let next = union_add new in
      let e = no_longer (nodes ++ get_or second i 0 ∷ []) all next.once (λ x some. elim ((next.members x).0 some) [
        | inl by ↦ (whole.members x).1 (inl by)
        | inr by ↦ let t = times_take x second (i + 1) in (whole.members x).1 (inr (omega arith))
      ]) in
      let l = length-append nodes (get_or second i 0 ∷ []) in
      omega arith

-- each leaf has a place among the nodes
mapped_bit : (f : ℕ → Bool) (xs : List ℕ) (i : ℕ) → i < length xs → bit (map f xs) i ≡ f (get_or xs i 0)
mapped_bit f [] i h = absurd (omega arith)
mapped_bit f (x ∷ xs) zero h = refl
mapped_bit f (x ∷ xs) (suc i) h = mapped_bit f xs i (omega arith)

-- the bits at the places of leaves are the leaves' bits
pub bits_of_leaves : (f : ℕ → Bool) (nodes leaves : List ℕ) → ((x : ℕ) → 0 < times x leaves → 0 < times x nodes)
    → map (λ p. bit (map f nodes) p) (map (λ x. place x nodes) leaves) ≡ map f leaves
bits_of_leaves f nodes leaves known =
    map_twice (λ p. bit (map f nodes) p) (λ x. place x nodes) leaves
    ∙ map_on (λ x. bit (map f nodes) (place x nodes)) f leaves (λ x some.
    let p = place_there x nodes (known x some) in mapped_bit f nodes (place x nodes) p.0 ∙ ap f p.1)
