-- Cuts of nodes, and tables of them.
use Rattle.std.proofs.Common.{◌≡◌, ◌⊎◌, inl, inr, ℕ, ◌<◌, ◌≤◌, Bool, not, ◌&&◌, ◌||◌, nat_eq, eq-eqb, IsTrue, List, [], ◌∷◌, ◌++◌, length, ap, ap₂, refl, sym, subst, ◌∙◌, arith}
use Prim.Native.Nat.{zero, suc}
use Rattle.std.proofs.Math.Bool.{or-true}
use Rattle.net_theory.specs.Sources.{IsNumber}
use Rattle.graph_theory.specs.Graph.{fixed, inv, nand}
use Rattle.cell_match.specs.Places.{times}
use Rattle.cell_match.proofs.Numbers.{one_tells}
use Rattle.cell_match.specs.declared.cut.Cut.{Cut}
use Rattle.cell_match.specs.Computes.{cut_value}
use Rattle.boog_cuts.specs.Cuts.{IsUnion, AllGive, AllLeaves, AreCuts, IsLeafBelow, HasDirect, AreNodeCuts}
use Rattle.boog_cuts.specs.Reads.{reads}
use Rattle.boog_cuts.proofs.Growing.{number_end}
use Rattle.boog_cuts.specs.Lists.{AreMade, FromOne, FromTwo, BeginsOne, BeginsTwo}

only : (x n : ℕ) → 0 < times x (n ∷ []) → x ≡ n
only x n h = elim (one_tells n x) [
  | inl is ↦ sym is.0
  | inr isnt ↦ let o = isnt.1 in absurd (omega arith)
]

alone : (x n : ℕ) → times x (n ∷ []) ≤ 1
alone x n = elim (one_tells n x) [
  | inl is ↦ let o = is.1 in omega arith
  | inr isnt ↦ let o = isnt.1 in omega arith
]

-- what a node reads
read_left : (a : ℕ) → IsTrue (reads (inv a) a)
read_left a = eq-eqb a a refl

read_first : (a b : ℕ) → IsTrue (reads (nand a b) a)
read_first a b = ap (λ (t : Bool). t || nat_eq b a) (eq-eqb a a refl)

read_second : (a b : ℕ) → IsTrue (reads (nand a b) b)
read_second a b = ap (λ (t : Bool). nat_eq a b || t) (eq-eqb b b refl) ∙ or-true (nat_eq a b)

module _ {K : ℕ} where
  -- each leaf of a cut of node a is a or an earlier node
  low_leaf : (a : ℕ) (cuts : List (Cut K)) (i : ℕ) (c : Cut K) → AreCuts a cuts → IsNumber cuts i c → (x : ℕ) → 0 < times x c.leaves.items → x ≤ a
  low_leaf a cuts zero c are at x some =
      let e = only x a (subst (λ (xs : List ℕ). 0 < times x xs) (are.first c at) some) in omega arith
  low_leaf a cuts (suc i) c are at x some = let e = are.earlier i c at x some in omega arith

  pub own_cuts : (number : ℕ) (cuts : List (Cut K)) (node : Cut K) → cuts ≡ node ∷ [] → node.leaves.items ≡ number ∷ []
      → ((f : ℕ → Bool) → cut_value node f ≡ f number) → AreCuts number cuts
  own_cuts number cuts node is leaves value = subst (λ (xs : List (Cut K)). AreCuts number xs) (sym is) record {
    there = omega arith;
    first = λ c h. ap (λ (d : Cut K). d.leaves.items) h ∙ leaves;
    first_value = λ c h f. ap (λ (d : Cut K). cut_value d f) h ∙ value f;
    once = go;
    earlier = λ i c h. absurd h;
  } where
    go : (i : ℕ) (c : Cut K) → IsNumber (node ∷ []) i c → (x : ℕ) → times x c.leaves.items ≤ 1
    go zero c h x = subst (λ (xs : List ℕ). times x xs ≤ 1) (sym (ap (λ (d : Cut K). d.leaves.items) h ∙ leaves)) (alone x number)
    go (suc i) c h x = absurd h

  pub own_value : (number : ℕ) (cuts : List (Cut K)) (node : Cut K) → cuts ≡ node ∷ [] → ((f : ℕ → Bool) → cut_value node f ≡ f number)
      → (f : ℕ → Bool) → AllGive f (f number) cuts
  own_value number cuts node is value f = subst (λ (xs : List (Cut K)). AllGive f (f number) xs) (sym is) go where
    go : (i : ℕ) (c : Cut K) → IsNumber (node ∷ []) i c → cut_value c f ≡ f number
    go zero c h = ap (λ (d : Cut K). cut_value d f) h ∙ value f
    go (suc i) c h = absurd h

  pub own_leaves : (number : ℕ) (cuts : List (Cut K)) (node : Cut K) → cuts ≡ node ∷ [] → node.leaves.items ≡ number ∷ []
      → AllLeaves (λ x. x ≡ number) cuts
  own_leaves number cuts node is leaves = subst (λ (xs : List (Cut K)). AllLeaves (λ x. x ≡ number) xs) (sym is) go where
    go : (i : ℕ) (c : Cut K) (x : ℕ) → IsNumber (node ∷ []) i c → 0 < times x c.leaves.items → x ≡ number
    go zero c x h some = only x number (subst (λ (xs : List ℕ). 0 < times x xs) (ap (λ (d : Cut K). d.leaves.items) h ∙ leaves) some)
    go (suc i) c x h some = absurd h

  pub leaves_added : (number : ℕ) (cuts next : List (Cut K)) (c : Cut K) → AllLeaves (λ x. x ≡ number) cuts → next ≡ cuts ++ c ∷ []
      → c.leaves.items ≡ [] → AllLeaves (λ x. x ≡ number) next
  leaves_added number cuts next c all is none = subst (λ (xs : List (Cut K)). AllLeaves (λ x. x ≡ number) xs) (sym is)
      (λ i d x h some. elim (number_end cuts c i d h) [
        | inl in_front ↦ all i d x in_front some
        | inr at_end ↦
            let e = ap (λ (xs : List ℕ). times x xs) (ap (λ (f : Cut K). f.leaves.items) at_end ∙ none) in absurd (omega arith)
      ])

  -- what is true of cuts that are made
  module _ (P : Cut K → Type 0) (number : ℕ) (cuts : List (Cut K)) (made : AreMade P number cuts) where
    made_cuts : ((c : Cut K) → P c → (x : ℕ) → times x c.leaves.items ≤ 1) → ((c : Cut K) → P c → (x : ℕ) → 0 < times x c.leaves.items → x < number)
        → AreCuts number cuts
    made_cuts once low = subst (λ (xs : List (Cut K)). AreCuts number xs) (sym made.is) record {
      there = omega arith;
      first = λ c h. ap (λ (d : Cut K). d.leaves.items) h ∙ made.leaves;
      first_value = λ c h f. ap (λ (d : Cut K). cut_value d f) h ∙ made.value f;
      once = go;
      earlier = λ i c h. low c (made.made i c h);
    } where
      go : (i : ℕ) (c : Cut K) → IsNumber (made.node ∷ made.rest) i c → (x : ℕ) → times x c.leaves.items ≤ 1
      go zero c h x = subst (λ (xs : List ℕ). times x xs ≤ 1) (sym (ap (λ (d : Cut K). d.leaves.items) h ∙ made.leaves)) (alone x number)
      go (suc i) c h x = once c (made.made i c h) x

    made_value : (f : ℕ → Bool) → ((c : Cut K) → P c → cut_value c f ≡ f number) → AllGive f (f number) cuts
    made_value f value = subst (λ (xs : List (Cut K)). AllGive f (f number) xs) (sym made.is) go where
      go : (i : ℕ) (c : Cut K) → IsNumber (made.node ∷ made.rest) i c → cut_value c f ≡ f number
      go zero c h = ap (λ (d : Cut K). cut_value d f) h ∙ made.value f
      go (suc i) c h = value c (made.made i c h)

    made_leaves : (Q : ℕ → Type 0) → ((c : Cut K) → P c → (x : ℕ) → 0 < times x c.leaves.items → Q x)
        → AllLeaves (λ x. (x ≡ number) ⊎ Q x) cuts
    made_leaves Q each = subst (λ (xs : List (Cut K)). AllLeaves (λ x. (x ≡ number) ⊎ Q x) xs) (sym made.is) go where
      go : (i : ℕ) (c : Cut K) (x : ℕ) → IsNumber (made.node ∷ made.rest) i c → 0 < times x c.leaves.items → (x ≡ number) ⊎ Q x
      go zero c x h some =
          inl (only x number (subst (λ (xs : List ℕ). 0 < times x xs) (ap (λ (d : Cut K). d.leaves.items) h ∙ made.leaves) some))
      go (suc i) c x h some = inr (each c (made.made i c h) x some)

  pub inv_node : (number a : ℕ) (lists : List (List (Cut K))) (first own : List (Cut K)) → a < number → IsNumber lists a first → AreCuts a first
      → AreMade (FromOne first) number own → BeginsOne first own → AreNodeCuts (inv a) number lists own
  inv_node number a lists first own low at are made begins = record {
    cuts = made_cuts (FromOne first) number own made
        (λ c p x. subst (λ (xs : List ℕ). times x xs ≤ 1) (sym p.3.leaves) (are.once p.0 p.1 p.2 x))
        (λ c p x some. let e = low_leaf a first p.0 p.1 are p.2 x (subst (λ (xs : List ℕ). 0 < times x xs) p.3.leaves some) in omega arith);
    leaves = made_leaves (FromOne first) number own made (IsLeafBelow (inv a) lists) (λ c p x some. record {
      son = a;
      is_read = read_left a;
      list = first;
      listed = at;
      place = p.0;
      cut = p.1;
      at = p.2;
      leaf = subst (λ (xs : List ℕ). 0 < times x xs) p.3.leaves some;
    });
    direct = record {
      cut = begins.1;
      second = begins.3;
      inputs = begins.4.leaves ∙ are.first begins.0 begins.2;
      value = λ f. begins.4.value f ∙ ap not (are.first_value begins.0 begins.2 f);
    };
    value = λ f before here. made_value (FromOne first) number own made f (λ c p. p.3.value f ∙ ap not (before a first at p.0 p.1 p.2) ∙ sym here);
  }

  pub nand_node : (number a b : ℕ) (lists : List (List (Cut K))) (first second own : List (Cut K)) → a < number → b < number
      → IsNumber lists a first → IsNumber lists b second → AreCuts a first → AreCuts b second
      → AreMade (FromTwo first second) number own → BeginsTwo first second own → AreNodeCuts (nand a b) number lists own
  nand_node number a b lists first second own low low_too at at_too are are_too made begins = record {
    cuts = made_cuts (FromTwo first second) number own made
        (λ c p x. p.6.leaves.once x)
        (λ c p x some. elim ((p.6.leaves.members x).0 some) [
          | inl by_first ↦ let e = low_leaf a first p.0 p.2 are p.4 x by_first in omega arith
          | inr by_second ↦ let e = low_leaf b second p.1 p.3 are_too p.5 x by_second in omega arith
        ]);
    leaves = made_leaves (FromTwo first second) number own made (IsLeafBelow (nand a b) lists) (λ c p x some. elim ((p.6.leaves.members x).0 some) [
      | inl by_first ↦ record {
        son = a;
        is_read = read_first a b;
        list = first;
        listed = at;
        place = p.0;
        cut = p.2;
        at = p.4;
        leaf = by_first;
      }
      | inr by_second ↦ record {
        son = b;
        is_read = read_second a b;
        list = second;
        listed = at_too;
        place = p.1;
        cut = p.3;
        at = p.5;
        leaf = by_second;
      }
    ]);
    direct = record {
      cut = begins.2;
      second = begins.5;
      inputs = subst (λ (xs : List ℕ). IsUnion (a ∷ []) xs begins.2.leaves.items) (are_too.first begins.1 begins.4)
          (subst (λ (xs : List ℕ). IsUnion xs begins.1.leaves.items begins.2.leaves.items) (are.first begins.0 begins.3) begins.6.leaves);
      value = λ f. begins.6.value f ∙ ap₂ (λ (s t : Bool). not (s && t)) (are.first_value begins.0 begins.3 f) (are_too.first_value begins.1 begins.4 f);
    };
    value = λ f before here. made_value (FromTwo first second) number own made f (λ c p.
        p.6.value f ∙ ap₂ (λ (s t : Bool). not (s && t)) (before a first at p.0 p.2 p.4) (before b second at_too p.1 p.3 p.5) ∙ sym here);
  }

  pub cuts_added : (number : ℕ) (cuts next : List (Cut K)) (c : Cut K) → AreCuts number cuts → next ≡ cuts ++ c ∷ []
      → ((x : ℕ) → times x c.leaves.items ≤ 1) → ((x : ℕ) → 0 < times x c.leaves.items → x < number) → AreCuts number next
  cuts_added number cuts next c are is once low = subst (λ (xs : List (Cut K)). AreCuts number xs) (sym is) (go cuts are) where
    go : (cuts : List (Cut K)) → AreCuts number cuts → AreCuts number (cuts ++ c ∷ [])
    go [] are = let e = are.there in absurd (omega arith)
    go (y ∷ ys) are = record {
      there = omega arith;
      first = λ d h. are.first d h;
      first_value = λ d h f. are.first_value d h f;
      once = λ i d h x. elim (number_end (y ∷ ys) c i d h) [
        | inl in_front ↦ are.once i d in_front x
        | inr at_end ↦ subst (λ (e : Cut K). times x e.leaves.items ≤ 1) (sym at_end) (once x)
      ];
      earlier = λ i d h x some. elim (number_end ys c i d h) [
        | inl in_front ↦ are.earlier i d in_front x some
        | inr at_end ↦ low x (subst (λ (e : Cut K). 0 < times x e.leaves.items) at_end some)
      ];
    }

  pub value_added : (f : ℕ → Bool) (b : Bool) (cuts next : List (Cut K)) (c : Cut K) → AllGive f b cuts → next ≡ cuts ++ c ∷ [] → cut_value c f ≡ b
      → AllGive f b next
  value_added f b cuts next c give is value = subst (λ (xs : List (Cut K)). AllGive f b xs) (sym is) (λ i d h. elim (number_end cuts c i d h) [
    | inl in_front ↦ give i d in_front
    | inr at_end ↦ ap (λ (e : Cut K). cut_value e f) at_end ∙ value
  ])

  pub fixed_node : (number : ℕ) (b : Bool) (lists : List (List (Cut K))) (before own : List (Cut K)) (c : Cut K) → AreCuts number before
      → length before ≡ 1 → own ≡ before ++ c ∷ [] → c.leaves.items ≡ [] → ((f : ℕ → Bool) → cut_value c f ≡ b) → HasDirect (fixed b) own
  fixed_node number b lists before own c are long is leaves value =
      record { cut = c; second = subst (λ (xs : List (Cut K)). IsNumber xs 1 c) (sym is) (go before long); inputs = leaves; value = value } where
        go : (before : List (Cut K)) → length before ≡ 1 → IsNumber (before ++ c ∷ []) 1 c
        go [] e = absurd (omega arith)
        go (x ∷ []) e = refl
        go (x ∷ y ∷ xs) e = absurd (omega arith)
