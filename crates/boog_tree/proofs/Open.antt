-- The bounds of gates that belong to trees and are not read yet: they are no more than the areas of as many cells as there are nodes so far.
use Rattle.std.proofs.Common.{◌≡◌, ◌≢◌, ℕ, ◌+◌, ◌<◌, ◌≤◌, Bool, true, false, not, ◌&&◌, ◌==◌, List, [], ◌∷◌, ◌++◌, take, get_or, nat_eq, if◌then◌else◌, ap, refl, sym, ◌∙◌, arith}
use Prim.Native.Nat.{zero, suc}
use Rattle.std.proofs.lemmas.Bool.{eqb-true}
use Rattle.net_theory.specs.Sources.{IsNumber}
use Rattle.graph_theory.specs.Graph.{Node, inv, nand, Graph}
use Rattle.cell_match.specs.Places.{times}
use Rattle.cell_match.proofs.Numbers.{one, one_same}
use Rattle.boog_tree.specs.Trees.{pins, pin_uses, root_uses, is_gate, is_inner}

pub left_true : (a b : Bool) → (a && b) ≡ true → a ≡ true
left_true true b e = refl
left_true false b e = e

pub right_true : (a b : Bool) → (a && b) ≡ true → b ≡ true
right_true true b e = e
right_true false b e = cc

pub both_true : (a b : Bool) → a ≡ true → b ≡ true → (a && b) ≡ true
both_true true b e f = f
both_true false b e f = e

-- ---- uses node by node

pub uses_part : (x : ℕ) (nodes : List Node) (i : ℕ) (kind : Node) → IsNumber nodes i kind
    → (pin_uses x (take (suc i) nodes) ≡ pin_uses x (take i nodes) + times x (pins kind))
    × (pin_uses x (take i nodes) + times x (pins kind) ≤ pin_uses x nodes)
uses_part x [] i kind h = absurd h
uses_part x (n ∷ nodes) zero kind h = let e = ap (λ (k : Node). times x (pins k)) h in (omega arith, omega arith)
uses_part x (n ∷ nodes) (suc i) kind h = let r = uses_part x nodes i kind h in let a = r.0 in let b = r.1 in (omega arith, omega arith)

pub inner_once : (held : ℕ) (g : Graph) (x : ℕ) → is_inner held g x ≡ true → pin_uses x g.nodes ≡ 1
inner_once held g x e =
    eqb-true (pin_uses x g.nodes) 1 (left_true (pin_uses x g.nodes == 1) (root_uses x g == 0)
    (right_true (is_gate held g.nodes x) (pin_uses x g.nodes == 1 && root_uses x g == 0) e))

-- ---- sums over what is open

abbrev pub open_sum : (ℕ → Bool) → List ℕ → ℕ
open_sum alive [] = 0
open_sum alive (v ∷ vs) = (if alive 0 then v else 0) + open_sum (λ x. alive (suc x)) vs

abbrev pub share : Bool → ℕ → ℕ
share b v = if b then v else 0

pub open_le : (alive other : ℕ → Bool) (vs : List ℕ) → ((x : ℕ) → other x ≡ true → alive x ≡ true) → open_sum other vs ≤ open_sum alive vs
open_le alive other [] sub = omega arith
open_le alive other (v ∷ vs) sub =
    let rest = open_le (λ x. alive (suc x)) (λ x. other (suc x)) vs (λ x e. sub (suc x) e) in
    go (other 0) (alive 0) (sub 0) rest where
      go : (b d : Bool) → (b ≡ true → d ≡ true) → open_sum (λ x. other (suc x)) vs ≤ open_sum (λ x. alive (suc x)) vs
          → share b v + open_sum (λ x. other (suc x)) vs ≤ share d v + open_sum (λ x. alive (suc x)) vs
      go true true h rest = omega arith
      go true false h rest = let e : false ≡ true = h refl in cc
      go false true h rest = omega arith
      go false false h rest = omega arith

-- one of them is closed
pub open_without : (alive other : ℕ → Bool) (a : ℕ) (vs : List ℕ) → ((x : ℕ) → other x ≡ true → (alive x ≡ true) × (x ≢ a))
    → open_sum other vs + share (alive a) (get_or vs a 0) ≤ open_sum alive vs
open_without alive other a [] sub = go (alive a) where
  go : (b : Bool) → 0 + share b 0 ≤ 0
  go true = omega arith
  go false = omega arith
open_without alive other zero (v ∷ vs) sub =
    let rest = open_le (λ x. alive (suc x)) (λ x. other (suc x)) vs (λ x e. (sub (suc x) e).0) in
    go (other 0) refl rest where
      go : (b : Bool) → other 0 ≡ b → open_sum (λ x. other (suc x)) vs ≤ open_sum (λ x. alive (suc x)) vs
          → share b v + open_sum (λ x. other (suc x)) vs + share (alive 0) v ≤ share (alive 0) v + open_sum (λ x. alive (suc x)) vs
      go true e rest = absurd ((sub 0 e).1 refl)
      go false e rest = omega arith
open_without alive other (suc a) (v ∷ vs) sub =
    let rest = open_without (λ x. alive (suc x)) (λ x. other (suc x)) a vs (λ x e. ((sub (suc x) e).0, λ s. (sub (suc x) e).1 (ap suc s))) in
    go (other 0) (alive 0) (λ e. (sub 0 e).0) rest where
      go : (b d : Bool) → (b ≡ true → d ≡ true)
          → open_sum (λ x. other (suc x)) vs + share (alive (suc a)) (get_or vs a 0) ≤ open_sum (λ x. alive (suc x)) vs
          → share b v + open_sum (λ x. other (suc x)) vs + share (alive (suc a)) (get_or vs a 0) ≤ share d v + open_sum (λ x. alive (suc x)) vs
      go true true h rest = omega arith
      go true false h rest = let e : false ≡ true = h refl in cc
      go false true h rest = omega arith
      go false false h rest = omega arith

pub open_end : (alive : ℕ → Bool) (vs : List ℕ) (v : ℕ) → open_sum alive (vs ++ v ∷ []) ≤ open_sum alive vs + v
open_end alive [] v = go (alive 0) where
  go : (b : Bool) → share b v + 0 ≤ 0 + v
  go true = omega arith
  go false = omega arith
open_end alive (w ∷ vs) v = let e = open_end (λ x. alive (suc x)) vs v in omega arith

-- ---- what is open behind the first i nodes

abbrev pub open_at : ℕ → Graph → ℕ → ℕ → Bool
open_at held g i x = is_inner held g x && (pin_uses x (take i g.nodes) == 0)

no_number : (n : ℕ) → n ≢ 0 → (n == 0) ≡ true → ⊥
no_number n h e = h (eqb-true n 0 e)

-- where a node reads it, it was open before and is closed then
module _ (held : ℕ) (g : Graph) (i : ℕ) (kind : Node) (at : IsNumber g.nodes i kind) where
  was_open : (x : ℕ) → 0 < times x (pins kind) → is_inner held g x ≡ true → open_at held g i x ≡ true
  was_open x some inner =
      let a = inner_once held g x inner in
      let b = (uses_part x g.nodes i kind at).1 in
      let none : pin_uses x (take i g.nodes) ≡ 0 = omega arith in
      both_true (is_inner held g x) (pin_uses x (take i g.nodes) == 0) inner (ap (λ (n : ℕ). n == 0) none)

  stays_open : (x : ℕ) → open_at held g (suc i) x ≡ true → (open_at held g i x ≡ true) × (times x (pins kind) ≡ 0)
  stays_open x e =
      let inner = left_true (is_inner held g x) (pin_uses x (take (suc i) g.nodes) == 0) e in
      let none = eqb-true (pin_uses x (take (suc i) g.nodes)) 0 (right_true (is_inner held g x) (pin_uses x (take (suc i) g.nodes) == 0) e) in
      let a = (uses_part x g.nodes i kind at).0 in
      let before : pin_uses x (take i g.nodes) ≡ 0 = omega arith in
      (both_true (is_inner held g x) (pin_uses x (take i g.nodes) == 0) inner (ap (λ (n : ℕ). n == 0) before), omega arith)

  -- its bound is in the sum
  share_of : (x v : ℕ) → 0 < times x (pins kind) → share (is_inner held g x) v ≤ share (open_at held g i x) v
  share_of x v some = go (is_inner held g x) (open_at held g i x) (was_open x some) where
    go : (b d : Bool) → (b ≡ true → d ≡ true) → share b v ≤ share d v
    go true true h = omega arith
    go true false h = let e : false ≡ true = h refl in cc
    go false true h = omega arith
    go false false h = omega arith

pub open_inv : (held : ℕ) (g : Graph) (i a : ℕ) (vs : List ℕ) → IsNumber g.nodes i (inv a)
    → open_sum (open_at held g (suc i)) vs + share (is_inner held g a) (get_or vs a 0) ≤ open_sum (open_at held g i) vs
open_inv held g i a vs at =
    let o = one_same a in
    let s = share_of held g i (inv a) at a (get_or vs a 0) (omega arith) in
    let w = open_without (open_at held g i) (open_at held g (suc i)) a vs (λ x e.
    let k = stays_open held g i (inv a) at x e in
    (k.0, λ same. let f = k.1 in let p = ap (λ (n : ℕ). one a n) same in absurd (omega (arith, f, p, o)))) in
    omega (arith, s, w)

-- of two pins on one number none is in a tree
pub open_twice : (held : ℕ) (g : Graph) (i a : ℕ) (vs : List ℕ) → IsNumber g.nodes i (nand a a)
    → open_sum (open_at held g (suc i)) vs + share (is_inner held g a) (get_or vs a 0) ≤ open_sum (open_at held g i) vs
open_twice held g i a vs at =
    let l = open_le (open_at held g i) (open_at held g (suc i)) vs (λ x e. (stays_open held g i (nand a a) at x e).0) in
    go (is_inner held g a) (λ e.
    let o = one_same a in
    let u = inner_once held g a e in
    let p = (uses_part a g.nodes i (nand a a) at).1 in
    omega (arith, o, u, p)) l where
      go : (b : Bool) → (b ≡ true → ⊥) → open_sum (open_at held g (suc i)) vs ≤ open_sum (open_at held g i) vs
          → open_sum (open_at held g (suc i)) vs + share b (get_or vs a 0) ≤ open_sum (open_at held g i) vs
      go true none l = absurd (none refl)
      go false none l = omega arith

eq_self : (n : ℕ) → nat_eq n n ≡ true
eq_self n = go (nat_eq n n) (one_same n) where
  go : (t : Bool) → share t 1 ≡ 1 → t ≡ true
  go true h = refl
  go false h = absurd (omega arith)

differs : (t : Bool) → t ≡ true → not t ≡ true → ⊥
differs true e h = cc
differs false e h = cc

isnt : (t : Bool) → (t ≡ true → ⊥) → not t ≡ true
isnt true h = absurd (h refl)
isnt false h = refl

pub open_nand : (held : ℕ) (g : Graph) (i a b : ℕ) (vs : List ℕ) → a ≢ b → IsNumber g.nodes i (nand a b)
    → open_sum (open_at held g (suc i)) vs + share (is_inner held g a) (get_or vs a 0) + share (is_inner held g b) (get_or vs b 0)
    ≤ open_sum (open_at held g i) vs
open_nand held g i a b vs differ at =
    let oa = one_same a in
    let ob = one_same b in
    let sa = share_of held g i (nand a b) at a (get_or vs a 0) (omega (arith, oa)) in
    let sb = share_of held g i (nand a b) at b (get_or vs b 0) (omega (arith, ob)) in
    -- first a is closed, then b
    let mid : ℕ → Bool = λ x. open_at held g i x && not (nat_eq x a) in
    let w = open_without (open_at held g i) mid a vs (λ x e. (
      left_true (open_at held g i x) (not (nat_eq x a)) e,
      λ same. differs (nat_eq x a) (is_same x same) (right_true (open_at held g i x) (not (nat_eq x a)) e),
    )) in
    let v = open_without mid (open_at held g (suc i)) b vs (λ x e.
    let k = stays_open held g i (nand a b) at x e in
    let none = k.1 in (
      both_true (open_at held g i x) (not (nat_eq x a)) k.0 (isnt (nat_eq x a) (λ t. let p = ap (λ (n : ℕ). one a n) (eqb-true x a t) in absurd (omega (arith, none, p, oa)))),
      λ same. let p = ap (λ (n : ℕ). one b n) same in absurd (omega (arith, none, p, ob)),
    )) in
    let same_b : share (open_at held g i b) (get_or vs b 0) ≤ share (mid b) (get_or vs b 0) =
    kept (open_at held g i b) (nat_eq b a) (λ e. differ (sym (eqb-true b a e))) in
    omega (arith, sa, sb, w, v, same_b) where
      is_same : (x : ℕ) → x ≡ a → nat_eq x a ≡ true
      is_same x same = ap (λ (n : ℕ). nat_eq n a) same ∙ eq_self a

      kept : (t u : Bool) → (u ≡ true → ⊥) → share t (get_or vs b 0) ≤ share (t && not u) (get_or vs b 0)
      kept true true h = absurd (h refl)
      kept true false h = omega arith
      kept false true h = omega arith
      kept false false h = omega arith
