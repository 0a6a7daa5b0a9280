-- Nodes that stand in a table once.
use Rattle.std.proofs.Common.{◌≡◌, inl, inr, ℕ, zero, suc, ◌+◌, ◌^◌, ◌<◌, ◌≤◌, Bool, true, false, ◌&&◌, ◌==◌, List, [], ◌∷◌, map, length, refl, sym, ◌∙◌, ap, subst, arith, count_by}
use Rattle.std.specs.List.{IsDistinct, AllByRecursion}
use Rattle.std.proofs.lemmas.Bool.{eq-eqb}
use Rattle.std.proofs.lemmas.Map.Keys.{IsDistinct-head, IsDistinct-tail}
use Rattle.std.specs.contracts.prelude.BoolPartialEq.TheImpl as bool_eq
use Rattle.net_theory.specs.Sources.{IsNumber}
use Rattle.graph_theory.specs.Graph.{Node, fixed, inv, nand, is_logic, is_fixed}
use Rattle.subject_table.specs.declared.table.Node.{Node as Kind}
use Rattle.subject_table.specs.declared.table.Node.TheVariants as kind
use Rattle.subject_table.specs.View.{node_view}
use Rattle.subject_table.specs.Grows.{HasSortedSons, AreSorted}
use Rattle.subject_table.proofs.Tables.{node_eq, IsGrown}
use Rattle.subject_table.specs.declared.table.Table.{Table}
use Rattle.subject_table.specs.View.{kinds}
use Rattle.subject_table.specs.Grows.{HasRoom, Adds, logic_cost}
use Rattle.subject_table.specs.Shared.{IsSameNode, AreShared}
use Rattle.graph_theory.proofs.Ordered.{count_by-append}

-- a count, from the first on
pub count-first : {A : Type 0} (p : A → Bool) (x : A) (xs : List A) → count_by p (x ∷ xs) ≡ count_by p (x ∷ []) + count_by p xs
count-first p x xs = count_by-append p (x ∷ []) xs

-- the derived test passes of one node
bool_same : (b : Bool) → bool_eq.ghosts.eq b b ≡ true
bool_same true = refl
bool_same false = refl

both_true : (a b : Bool) → a ≡ true → b ≡ true → (a && b) ≡ true
both_true a b p q = rw (p, q) refl

pub eq_itself : (p : Kind) → node_eq p p ≡ true
eq_itself (kind.Fixed b) = bool_same b
eq_itself (kind.Inv a) = eq-eqb a a refl
eq_itself (kind.Nand a b) = both_true (a == a) (b == b) (eq-eqb a a refl) (eq-eqb b b refl)

-- with sorted sons, the same nodes are one
pub one_node : (p q : Kind) → HasSortedSons (node_view p) → HasSortedSons (node_view q) → IsSameNode (node_view p) (node_view q) → p ≡ q
one_node (kind.Fixed b) (kind.Fixed c) s r h = ap kind.Fixed h
one_node (kind.Inv a) (kind.Inv c) s r h = ap kind.Inv h
one_node (kind.Nand a b) (kind.Nand c d) s r h = elim h [
  | inl x ↦ ap (λ (y : ℕ). kind.Nand y b) x.0 ∙ ap (λ (y : ℕ). kind.Nand c y) x.1
  | inr x ↦ let first = x.0 in let second = x.1 in absurd (omega (arith, s, r, first, second))
]
one_node (kind.Fixed b) (kind.Inv c) s r h = absurd h
one_node (kind.Fixed b) (kind.Nand c d) s r h = absurd h
one_node (kind.Inv a) (kind.Fixed c) s r h = absurd h
one_node (kind.Inv a) (kind.Nand c d) s r h = absurd h
one_node (kind.Nand a b) (kind.Fixed c) s r h = absurd h
one_node (kind.Nand a b) (kind.Inv c) s r h = absurd h

pub same_back : (x y : Node) → IsSameNode x y → IsSameNode y x
same_back (fixed b) (fixed c) h = sym h
same_back (inv a) (inv c) h = sym h
same_back (nand a b) (nand c d) h = elim h [ inl x ↦ inl (sym x.0, sym x.1) | inr x ↦ inr (sym x.1, sym x.0) ]
same_back (fixed b) (inv c) h = absurd h
same_back (fixed b) (nand c d) h = absurd h
same_back (inv a) (fixed c) h = absurd h
same_back (inv a) (nand c d) h = absurd h
same_back (nand a b) (fixed c) h = absurd h
same_back (nand a b) (inv c) h = absurd h

-- a key at the place of a node
record KeyAt (keys : List Kind) (k : ℕ) (y : Node) : Type 0 where
  key : Kind
  is : node_view key ≡ y
  sorted : HasSortedSons (node_view key)
  differs : (p : Kind) → AllByRecursion (λ q. node_eq p q ≡ false) keys → node_eq p key ≡ false

key_at : (keys : List Kind) → AreSorted (map node_view keys) → (k : ℕ) (y : Node) → IsNumber (map node_view keys) k y → KeyAt keys k y
key_at [] sorted k y h = absurd h
key_at (x ∷ keys) sorted zero y h = record { key = x; is = sym h; sorted = sorted.0; differs = λ p all. all.0 }
key_at (x ∷ keys) sorted (suc k) y h =
    let r = key_at keys sorted.1 k y h in record { key = r.key; is = r.is; sorted = r.sorted; differs = λ p all. r.differs p all.1 }

no_later : (x : Kind) (keys : List Kind) → HasSortedSons (node_view x) → AreSorted (map node_view keys) → AllByRecursion (λ q. node_eq x q ≡ false) keys → (k : ℕ) (y : Node)
    → IsNumber (map node_view keys) k y → IsSameNode (node_view x) y → ⊥
no_later x keys sons sorted all k y h same =
    let r = key_at keys sorted k y h in
    let one : x ≡ r.key = one_node x r.key sons r.sorted (subst (λ (z : Node). IsSameNode (node_view x) z) (sym r.is) same) in
    let no : node_eq x r.key ≡ false = r.differs x all in
    let is : node_eq x r.key ≡ true = subst (λ (q : Kind). node_eq x q ≡ true) one (eq_itself x) in
    absurd (cc (no, is))

-- different keys are nodes of which no two are the same
pub are_shared : (keys : List Kind) → IsDistinct node_eq keys → AreSorted (map node_view keys) → AreShared (map node_view keys)
are_shared [] distinct sorted j k x y p q same = absurd p
are_shared (z ∷ keys) distinct sorted zero zero x y p q same = refl
are_shared (z ∷ keys) distinct sorted zero (suc k) x y p q same =
    absurd (no_later z keys sorted.0 sorted.1 (IsDistinct-head node_eq z keys distinct) k y q (subst (λ (w : Node). IsSameNode w y) p same))
are_shared (z ∷ keys) distinct sorted (suc j) zero x y p q same =
    absurd (no_later z keys sorted.0 sorted.1 (IsDistinct-head node_eq z keys distinct) j x p (same_back x (node_view z) (subst (λ (w : Node). IsSameNode x w) q same)))
are_shared (z ∷ keys) distinct sorted (suc j) (suc k) x y p q same =
    ap suc (are_shared keys (IsDistinct-tail node_eq z keys distinct) sorted.1 j k x y p q same)

-- a constant stands once
is_that : (c : Bool) (x : Node) → is_fixed c x ≡ true → x ≡ fixed c
is_that true (fixed true) h = refl
is_that false (fixed false) h = refl
is_that true (fixed false) h = absurd (cc h)
is_that false (fixed true) h = absurd (cc h)
is_that true (inv a) h = absurd (cc h)
is_that false (inv a) h = absurd (cc h)
is_that true (nand a b) h = absurd (cc h)
is_that false (nand a b) h = absurd (cc h)

absent : (c : Bool) (nodes : List Node) → ((k : ℕ) (y : Node) → IsNumber nodes k y → is_fixed c y ≡ true → ⊥) → count_by (is_fixed c) nodes ≡ 0
absent c [] none = refl
absent c (x ∷ nodes) none =
    count-first (is_fixed c) x nodes ∙ by (is_fixed c x) refl (absent c nodes (λ k y h. none (suc k) y h)) where
      by : (b : Bool) → is_fixed c x ≡ b → count_by (is_fixed c) nodes ≡ 0 → count_by (is_fixed c) (x ∷ []) + count_by (is_fixed c) nodes ≡ 0
      by true e rest = absurd (none 0 x refl e)
      by false e rest = rw (e, rest) refl

pub constant_once : (c : Bool) (nodes : List Node) → AreShared nodes → count_by (is_fixed c) nodes ≤ 1
constant_once c [] once = omega arith
constant_once c (x ∷ nodes) once = by (constant_once c nodes) (is_fixed c x) refl where
  tail : AreShared nodes
  tail j k y z p q same = let h = once (suc j) (suc k) y z p q same in omega (arith, h)

  by : (AreShared nodes → count_by (is_fixed c) nodes ≤ 1) → (b : Bool) → is_fixed c x ≡ b → count_by (is_fixed c) (x ∷ nodes) ≤ 1
  by later true e =
      let none : count_by (is_fixed c) nodes ≡ 0 =
      absent c nodes (λ k y h f.
      let same : IsSameNode x y = subst (λ (u : Node). IsSameNode u y) (sym (is_that c x e)) (subst (λ (u : Node). IsSameNode (fixed c) u) (sym (is_that c y f)) refl) in
      let places = once 0 (suc k) x y refl h same in absurd (omega (arith, places))) in
      let first = count-first (is_fixed c) x nodes in
      let one : count_by (is_fixed c) (x ∷ []) ≡ 1 = rw e refl in
      omega (arith, none, first, one)
  by later false e =
      let rest = later tail in
      let first = count-first (is_fixed c) x nodes in
      let one : count_by (is_fixed c) (x ∷ []) ≡ 0 = rw e refl in
      omega (arith, rest, first, one)

-- each node is one of logic or a constant
one_kind : (x : Node) → count_by is_logic (x ∷ []) + count_by (is_fixed false) (x ∷ []) + count_by (is_fixed true) (x ∷ []) ≡ 1
one_kind (fixed true) = refl
one_kind (fixed false) = refl
one_kind (inv a) = refl
one_kind (nand a b) = refl

pub all_kinds : (nodes : List Node) → length nodes ≡ count_by is_logic nodes + count_by (is_fixed false) nodes + count_by (is_fixed true) nodes
all_kinds [] = refl
all_kinds (x ∷ nodes) =
    let rest = all_kinds nodes in
    let one = one_kind x in
    let a = count-first is_logic x nodes in
    let b = count-first (is_fixed false) x nodes in
    let d = count-first (is_fixed true) x nodes in
    omega (arith, rest, one, a, b, d)

-- logic, and each constant at most once
pub few_nodes : (keys : List Kind) → IsDistinct node_eq keys → AreSorted (map node_view keys) → length (map node_view keys) ≤ count_by is_logic (map node_view keys) + 2
few_nodes keys distinct sorted =
    let once = are_shared keys distinct sorted in
    let all = all_kinds (map node_view keys) in
    let zero_once = constant_once false (map node_view keys) once in
    let one_once = constant_once true (map node_view keys) once in
    omega (arith, all, zero_once, one_once)

length-views : (keys : List Kind) → length (map node_view keys) ≡ length keys
length-views [] = refl
length-views (x ∷ keys) = let h = length-views keys in omega (arith, h)

-- a node that is added has a number
pub number_fits : (t : Table) (new : List Kind) (k : Kind) (place : ℕ) → HasRoom t (logic_cost (node_view k)) → IsGrown t.held (kinds t) (map node_view new) (node_view k)
    → IsDistinct node_eq new → place < length new → t.held + place < 2 ^ 32
number_fits t new k place room g distinct within =
    let few = few_nodes new distinct g.sorted in
    let cost = g.cost in
    let size = length-views new in
    omega (arith, room, few, cost, size, within)

-- what is left of the room
pub room_grows : (t u : Table) (n q k r : ℕ) (f : (ℕ → Bool) → Bool) → Adds t u n f r → HasRoom t q → n + k ≤ q → HasRoom u k
room_grows t u n q k r f a room fits = let held = a.held in let cost = a.cost in omega (arith, held, cost, room, fits)
