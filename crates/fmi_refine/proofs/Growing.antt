-- A round has more classes, or the classes are stable.
use Rattle.std.proofs.Common.{◌≡◌, ℕ, zero, suc, ◌<◌, ◌≤◌, ◌==◌, Bool, true, false, List, length, if◌then◌else◌, refl, sym, ap, ◌∙◌, arith}
use Rattle.std.proofs.lemmas.Bool.{eqb-true, eqb-false}
use Rattle.fsm_merge.specs.Numbering.{nth, IsNumbering}
use Rattle.fsm_merge.proofs.Pigeons.{pigeons}
use Rattle.fmi_refine.specs.declared.round.Move.{Move}
use Rattle.fmi_refine.specs.Rows.{AreSame}
use Rattle.fmi_refine.specs.Refined.{IsRefined}
use Rattle.fmi_refine.proofs.Rounds.{one_same}

-- states that are kept for different classes become different classes
kept_apart : (rows : List (List Move)) (n : ℕ) (c k of kept : List ℕ) → IsNumbering n c k → IsRefined rows c n of kept → (i j : ℕ) → i < length k → j < length k
    → nth of (nth k i) ≡ nth of (nth k j) → i ≡ j
kept_apart rows n c k of kept old new i j l m e =
    let a = old.own i l in
    let b = old.own j m in
    sym a.1 ∙ (one_same rows c n of kept new (nth k i) (nth k j) a.0 b.0 e).one ∙ b.1

pub not_fewer : (rows : List (List Move)) (n : ℕ) (c k of kept : List ℕ) → IsNumbering n c k → IsRefined rows c n of kept → length k ≤ length kept
not_fewer rows n c k of kept old new =
    pigeons (length k) (length kept) (λ p. nth of (nth k p)) (λ p l. new.numbered.known (nth k p) (old.own p l).0) (kept_apart rows n c k of kept old new)

-- of all classes the new ones of their kept states, and behind them that of one state more
with_one : ℕ → List ℕ → List ℕ → ℕ → ℕ → ℕ
with_one n k of x i = if i == n then nth of x else nth of (nth k i)

-- a state that isn't in the new class of the one that is kept for it makes one class more
one_more : (rows : List (List Move)) (n : ℕ) (c k of kept : List ℕ) → IsNumbering n c k → IsRefined rows c n of kept → (x : ℕ) → x < n
    → (nth of (nth k (nth c x)) ≡ nth of x → ⊥) → suc (length k) ≤ length kept
unfolding with_one
one_more rows n c k of kept old new x l other =
    pigeons (suc (length k)) (length kept) (λ i. with_one (length k) k of x i) below apart where
      below : (i : ℕ) → i < suc (length k) → with_one (length k) k of x i < length kept
      below i m = by (i == length k) refl where
        by : (t : Bool) → (i == length k) ≡ t → (if t then nth of x else nth of (nth k i)) < length kept
        by true e = new.numbered.known x l
        by false e = let z = eqb-false i (length k) e in new.numbered.known (nth k i) (old.own i (grind (arith, z, m))).0

      -- the new class of x isn't that of a kept state
      alone : (j : ℕ) → j < length k → nth of x ≡ nth of (nth k j) → ⊥
      alone j m e =
          let b = old.own j m in
          let one = (one_same rows c n of kept new x (nth k j) l b.0 e).one in
          other (ap (λ (p : ℕ). nth of (nth k p)) (one ∙ b.1) ∙ sym e)

      apart : (i j : ℕ) → i < suc (length k) → j < suc (length k) → with_one (length k) k of x i ≡ with_one (length k) k of x j → i ≡ j
      apart i j m r = by (i == length k) refl (j == length k) refl where
        by : (t : Bool) → (i == length k) ≡ t → (u : Bool) → (j == length k) ≡ u
            → (if t then nth of x else nth of (nth k i)) ≡ (if u then nth of x else nth of (nth k j)) → i ≡ j
        by true e true f same = eqb-true i (length k) e ∙ sym (eqb-true j (length k) f)
        by true e false f same = let z = eqb-false j (length k) f in absurd (alone j (grind (arith, z, r)) same)
        by false e true f same = let z = eqb-false i (length k) e in absurd (alone i (grind (arith, z, m)) (sym same))
        by false e false f same =
            let y = eqb-false i (length k) e in
            let z = eqb-false j (length k) f in
            kept_apart rows n c k of kept old new i j (grind (arith, y, m)) (grind (arith, z, r)) same

-- where there aren't more classes, each state is in the new class of the one that is kept for it
stays : (rows : List (List Move)) (n : ℕ) (c k of kept : List ℕ) → IsNumbering n c k → IsRefined rows c n of kept → length kept ≡ length k → (x : ℕ) → x < n
    → nth of (nth k (nth c x)) ≡ nth of x
stays rows n c k of kept old new same x l = by (nth of (nth k (nth c x)) == nth of x) refl where
  by : (t : Bool) → (nth of (nth k (nth c x)) == nth of x) ≡ t → nth of (nth k (nth c x)) ≡ nth of x
  by true e = eqb-true (nth of (nth k (nth c x))) (nth of x) e
  by false e =
      let more = one_more rows n c k of kept old new x l (eqb-false (nth of (nth k (nth c x))) (nth of x) e) in
      absurd (omega arith)

pub stable : (rows : List (List Move)) (n : ℕ) (c k of kept : List ℕ) → IsNumbering n c k → IsRefined rows c n of kept → length kept ≡ length k
    → (s t : ℕ) → s < n → t < n → nth c s ≡ nth c t → AreSame rows c s t
stable rows n c k of kept old new same s t l m e =
    one_same rows c n of kept new s t l m
    (sym (stays rows n c k of kept old new same s l) ∙ ap (λ (p : ℕ). nth of (nth k p)) e ∙ stays rows n c k of kept old new same t m)

-- there are no more classes than states
rises : (n : ℕ) (c k : List ℕ) → IsNumbering n c k → (p : ℕ) → p < length k → p ≤ nth k p
rises n c k h zero l = omega arith
rises n c k h (suc p) l =
    let low = rises n c k h p (omega arith) in
    let up_ = h.ordered p (suc p) (omega arith) l in
    omega arith

pub kept_few : (n : ℕ) (c k : List ℕ) → IsNumbering n c k → length k ≤ n
kept_few n c k h = by (length k) refl where
  by : (m : ℕ) → length k ≡ m → length k ≤ n
  by zero e = omega arith
  by (suc m) e =
      let high = rises n c k h m (omega arith) in
      let low = (h.own m (omega arith)).0 in
      omega arith
