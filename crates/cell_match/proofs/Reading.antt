-- The nodes that two gates read, one by one.
use Rattle.std.proofs.Common.{◌≡◌, ◌≢◌, ◌⊎◌, inl, inr, ℕ, ◌+◌, ◌<◌, ◌≤◌, List, [], ◌∷◌, ◌++◌, length, take, get_or, ap, sym, subst, ◌∙◌, arith, length-append}
use Rattle.std.proofs.lemmas.Bool.{cases_lt}
use Rattle.cell_match.specs.Places.{times, place, AreRead}
use Rattle.cell_match.proofs.Numbers.{one, one_tells, times_more, times_take}
use Rattle.cell_match.proofs.Pigeons.{no_longer, times_append, place_there, place_none, place_cons}

pub place_most : (x : ℕ) (ys : List ℕ) → place x ys ≤ length ys
place_most x [] = omega arith
place_most x (y ∷ ys) = elim (place_cons x y ys) [
  | inl is ↦ let e = is.1 in omega arith
  | inr isnt ↦ let e = isnt.1 in let f = place_most x ys in omega arith
]

times_end : (x y : ℕ) (ys : List ℕ) → times x (ys ++ y ∷ []) ≡ times x ys + one y x
times_end x y ys = let e = times_append x ys (y ∷ []) in omega arith

module _ (first second : List ℕ) (a i : ℕ) (nodes : List ℕ) (low : i < length second) (are : AreRead first (take i second) a nodes) where
  y : ℕ
  y = get_or second i 0

  more : (x : ℕ) → times x (take (i + 1) second) ≡ times x (take i second) + one (get_or second i 0) x
  more x = times_more x second i low

  -- it is a, or stands there already
  pub read_skip : (get_or second i 0 ≡ a) ⊎ (0 < times (get_or second i 0) nodes) → AreRead first (take (i + 1) second) a nodes
  read_skip known = record {
    once = are.once;
    members = λ x. (
      λ some. elim ((are.members x).0 some) [
        | inl by ↦ inl by
        | inr by ↦ let e = more x in let b = by.0 in inr (omega arith, by.1)
      ],
      λ why. elim why [
        | inl by ↦ (are.members x).1 (inl by)
        | inr by ↦ elim (one_tells (get_or second i 0) x) [
          | inl is ↦ elim known [
            | inl is_a ↦ absurd (by.1 (sym is.0 ∙ is_a))
            | inr there ↦ subst (λ (n : ℕ). 0 < times n nodes) is.0 there
          ]
          | inr isnt ↦ let e = more x in let o = isnt.1 in let b = by.0 in (are.members x).1 (inr (omega arith, by.1))
        ]
      ],
    );
  }

  pub read_add : get_or second i 0 ≢ a → times (get_or second i 0) nodes ≡ 0 → AreRead first (take (i + 1) second) a (nodes ++ get_or second i 0 ∷ [])
  read_add other new = record {
    once = λ x. let e = times_end x (get_or second i 0) nodes in let f = are.once x in elim (one_tells (get_or second i 0) x) [
      | inl is ↦ let o = is.1 in let z : times x nodes ≡ 0 = ap (λ (n : ℕ). times n nodes) (sym is.0) ∙ new in omega arith
      | inr isnt ↦ let o = isnt.1 in omega arith
    ];
    members = λ x. (
      λ some. let e = times_end x (get_or second i 0) nodes in let m = more x in elim (one_tells (get_or second i 0) x) [
        | inl is ↦ let o = is.1 in inr (omega arith, λ is_a. other (is.0 ∙ is_a))
        | inr isnt ↦ let o = isnt.1 in elim ((are.members x).0 (omega arith)) [
          | inl by ↦ inl by
          | inr by ↦ let b = by.0 in inr (omega arith, by.1)
        ]
      ],
      λ why. let e = times_end x (get_or second i 0) nodes in let m = more x in elim why [
        | inl by ↦ let f = (are.members x).1 (inl by) in omega arith
        | inr by ↦ elim (one_tells (get_or second i 0) x) [
          | inl is ↦ let o = is.1 in omega arith
          | inr isnt ↦ let o = isnt.1 in let b = by.0 in let f = (are.members x).1 (inr (omega arith, by.1)) in omega arith
        ]
      ],
    );
  }

  pub read_full : get_or second i 0 ≢ a → times (get_or second i 0) nodes ≡ 0 → length nodes ≡ 6 → (all : List ℕ) → AreRead first second a all → 6 < length all
  read_full other new full all whole =
      let next = read_add other new in
      let e = no_longer (nodes ++ get_or second i 0 ∷ []) all next.once (λ x some. elim ((next.members x).0 some) [
        | inl by ↦ (whole.members x).1 (inl by)
        | inr by ↦ let b = by.0 in let t = times_take x second (i + 1) in (whole.members x).1 (inr (omega arith, by.1))
      ]) in
      let l = length-append nodes (get_or second i 0 ∷ []) in
      omega arith

pub new_there : (x : ℕ) (nodes : List ℕ) → place x nodes ≡ length nodes → times x nodes ≡ 0
new_there x nodes e = elim (cases_lt 0 (times x nodes)) [
  | inl some ↦ let p = (place_there x nodes some).0 in absurd (omega arith)
  | inr none ↦ omega arith
]

pub old_there : (x : ℕ) (nodes : List ℕ) → place x nodes ≢ length nodes → 0 < times x nodes
old_there x nodes e = elim (cases_lt 0 (times x nodes)) [
  | inl some ↦ some
  | inr none ↦ absurd (e (place_none x nodes (omega arith)))
]
