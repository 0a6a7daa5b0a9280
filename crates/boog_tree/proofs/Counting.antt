-- Uses that are counted one by one.
use Rattle.std.proofs.Common.{◌≡◌, inl, inr, ℕ, ◌+◌, ◌<◌, ◌≤◌, ◌==◌, Bool, true, false, List, [], ◌∷◌, ◌++◌, length, take, drop, get_or, set, min, ap, refl, sym, subst, ◌∙◌, arith, get_or-set_same, get_or-set_other, length-set}
use Prim.Native.Nat.{suc}
use Rattle.std.proofs.lemmas.Bool.{cases_lt, eqb-true, eqb-false}
use Rattle.net_theory.specs.Sources.{IsNumber}
use Rattle.graph_theory.specs.Graph.{Node, fixed, inv, nand, ReadsBelow, EachReadsEarlier}
use Rattle.cell_match.specs.Places.{times}
use Rattle.cell_match.proofs.Numbers.{one, one_tells}
use Rattle.cell_match.proofs.Pigeons.{times_append}
use Rattle.boog_tree.specs.Trees.{pins, pin_uses}
use Rattle.boog_tree.specs.Counted.{IsRaised}
use Rattle.boog_tree.proofs.Open.{uses_part}

-- what a node reads is before it
pub pins_below : (n : ℕ) (kind : Node) → ReadsBelow n kind → (x : ℕ) → 0 < times x (pins kind) → x < n
pins_below n (fixed b) low x some = absurd (omega (arith, some))
pins_below n (inv a) low x some = elim (one_tells a x) [
  | inl is ↦ let e = is.0 in omega (arith, low, e)
  | inr isnt ↦ let o = isnt.1 in absurd (omega (arith, some, o))
]
pins_below n (nand a b) low x some =
    let la = low.0 in
    let lb = low.1 in
    elim (one_tells a x) [
      | inl is ↦ let e = is.0 in omega (arith, la, e)
      | inr isnt ↦ elim (one_tells b x) [
        | inl is ↦ let e = is.0 in omega (arith, lb, e)
        | inr nor ↦ let o = isnt.1 in let p = nor.1 in absurd (omega (arith, some, o, p))
      ]
    ]

-- and so is all that nodes read
pub uses_inside : (n : ℕ) (nodes : List Node) → EachReadsEarlier n nodes → (x : ℕ) → 0 < pin_uses x nodes → x < n + length nodes
uses_inside n [] low x some = absurd (omega (arith, some))
uses_inside n (one ∷ rest) low x some = elim (cases_lt 0 (times x (pins one))) [
  | inl here ↦ let e = pins_below n one low.0 x here in omega (arith, e)
  | inr none ↦ let e = uses_inside (n + 1) rest low.1 x (omega (arith, some, none)) in omega (arith, e)
]

pub uses_next : (x : ℕ) (nodes : List Node) (i : ℕ) (kind : Node) → IsNumber nodes i kind
    → pin_uses x (take (i + 1) nodes) ≡ pin_uses x (take i nodes) + times x (pins kind)
uses_next x nodes i kind at =
    ap (λ (n : ℕ). pin_uses x (take n nodes)) (let e : i + 1 ≡ suc i = omega arith in e) ∙ (uses_part x nodes i kind at).0

pub written : (new items : List ℕ) (n : ℕ) → length new ≡ n → take n (new ++ drop (length new) items) ≡ new
written new items n h = subst (λ (k : ℕ). take k (new ++ drop (length new) items) ≡ new) h (go new (drop (length new) items)) where
  go : (xs ys : List ℕ) → take (length xs) (xs ++ ys) ≡ xs
  go [] ys = refl
  go (x ∷ xs) ys = ap (λ (zs : List ℕ). x ∷ zs) (go xs ys)

-- two tests that say the same
pub same_test : (a n b m : ℕ) → (a ≡ n → b ≡ m) → (b ≡ m → a ≡ n) → (a == n) ≡ (b == m)
same_test a n b m forth back = go (a == n) (b == m) refl refl where
  go : (s t : Bool) → (a == n) ≡ s → (b == m) ≡ t → s ≡ t
  go true true e f = refl
  go false false e f = refl
  go true false e f = absurd (eqb-false b m f (forth (eqb-true a n e)))
  go false true e f = absurd (eqb-false a n e (back (eqb-true b m f)))

pub raised_one : (old : List ℕ) (n : ℕ) → n < length old → ((x : ℕ) → get_or old x 0 ≤ 255) → IsRaised old (n ∷ []) (set old n (min (get_or old n 0 + 1) 255))
raised_one old n inside small = record {
  long = length-set old n (min (get_or old n 0 + 1) 255);
  each = λ x. elim (one_tells n x) [
    | inl is ↦
        let o = is.1 in
        let s : get_or (set old n (min (get_or old n 0 + 1) 255)) x 0 ≡ min (get_or old n 0 + 1) 255 =
        subst (λ (k : ℕ). get_or (set old n (min (get_or old n 0 + 1) 255)) k 0 ≡ min (get_or old n 0 + 1) 255) is.0
        (get_or-set_same old n (min (get_or old n 0 + 1) 255) 0 inside) in
        let k : get_or old n 0 ≡ get_or old x 0 = ap (λ (m : ℕ). get_or old m 0) is.0 in
        s ∙ ap (λ (m : ℕ). min m 255) (omega (arith, o, k))
    | inr isnt ↦
        let o = isnt.1 in
        let s = get_or-set_other old n x (min (get_or old n 0 + 1) 255) 0 (λ e. isnt.0 (sym e)) in
        let b = small x in
        omega (arith, o, s, b)
  ];
}

pub raised_none : (old : List ℕ) → ((x : ℕ) → get_or old x 0 ≤ 255) → IsRaised old [] old
raised_none old small = record { long = refl; each = λ x. let b = small x in omega (arith, b) }

pub raised_both : (old mid new xs ys : List ℕ) → IsRaised old xs mid → IsRaised mid ys new → IsRaised old (xs ++ ys) new
raised_both old mid new xs ys first second = record {
  long = second.long ∙ first.long;
  each = λ x. let a = first.each x in let b = second.each x in let c = times_append x xs ys in omega (arith, a, b, c);
}
