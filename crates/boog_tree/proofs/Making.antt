-- The lists of cuts that are made of those of the numbers before.
use Rattle.std.proofs.Common.{◌≡◌, inl, inr, ℕ, ◌<◌, ◌≤◌, Bool, true, false, not, ◌&&◌, List, [], ◌∷◌, ◌++◌, length, ap, ap₂, refl, sym, subst, ◌∙◌, arith, if◌then◌else◌}
use Rattle.net_theory.specs.Sources.{IsNumber}
use Rattle.graph_theory.specs.Graph.{Node, fixed, inv, nand, Graph}
use Rattle.cell_match.specs.Places.{times}
use Rattle.cell_match.proofs.Pigeons.{no_longer}
use Rattle.cell_match.specs.declared.cut.Cut.{Cut}
use Rattle.cell_match.specs.Computes.{cut_value}
use Rattle.boog_cuts.specs.Cuts.{IsUnion}
use Rattle.boog_cuts.proofs.Growing.{number_front, number_end}
use Rattle.boog_tree.specs.Trees.{is_inner, IsNode, IsTreeCut, IsPart, of_inv, of_nand, itself, opened}
use Rattle.boog_tree.specs.Cuts.{AreSame, IsListed, AreTreeCuts, AreParts, AreOnce}
use Rattle.boog_tree.specs.Joined.{AreInverses, AreJoined, HasItself}
use Rattle.boog_tree.proofs.Within.{node_once, cut_cases, cut_once, part_once}

-- what a node reads
son : Node → ℕ
son (fixed b) = 0
son (inv a) = a
son (nand a b) = a

son_too : Node → ℕ
son_too (fixed b) = 0
son_too (inv a) = a
son_too (nand a b) = b

pub same_son : (a b : ℕ) → inv a ≡ inv b → a ≡ b
unfolding son
same_son a b e = ap son e

pub same_first : (a b c d : ℕ) → nand a b ≡ nand c d → a ≡ c
unfolding son
same_first a b c d e = ap son e

pub same_second : (a b c d : ℕ) → nand a b ≡ nand c d → b ≡ d
unfolding son_too
same_second a b c d e = ap son_too e

pub apart : (a b c : ℕ) → inv a ≡ nand b c → ⊥
apart a b c e = cc

pub no_inv : (v : Bool) (a : ℕ) → fixed v ≡ inv a → ⊥
no_inv v a e = cc

pub no_nand : (v : Bool) (a b : ℕ) → fixed v ≡ nand a b → ⊥
no_nand v a b e = cc

-- a cut of the list has the members in another order
pub same_trans : (xs ys zs : List ℕ) → AreSame xs ys → AreSame ys zs → AreSame xs zs
same_trans xs ys zs p q x = (λ h. (q x).0 ((p x).0 h), λ h. (p x).1 ((q x).1 h))

same_lists : (xs ys : List ℕ) → xs ≡ ys → AreSame xs ys
same_lists xs ys e x = (λ h. subst (λ (l : List ℕ). 0 < times x l) e h, λ h. subst (λ (l : List ℕ). 0 < times x l) (sym e) h)

-- unions of the same sets
union_of : (a b c d nodes : List ℕ) → AreSame a c → AreSame b d → IsUnion a b nodes → IsUnion c d nodes
union_of a b c d nodes p q u = record {
  once = u.once;
  members = λ x. (
    λ h. elim ((u.members x).0 h) [
      | inl by ↦ inl ((p x).0 by)
      | inr by ↦ inr ((q x).0 by)
    ],
    λ h. elim h [
      | inl by ↦ (u.members x).1 (inl ((p x).1 by))
      | inr by ↦ (u.members x).1 (inr ((q x).1 by))
    ],
  );
}

unions_same : (a b one two : List ℕ) → IsUnion a b one → IsUnion a b two → AreSame one two
unions_same a b one two u v x = (λ h. (v.members x).1 ((u.members x).0 h), λ h. (u.members x).1 ((v.members x).0 h))

module _ {K : ℕ} (held : ℕ) (g : Graph) (x : ℕ) (cuts : List (Cut K)) where
  pub fixed_has_none : (v : Bool) → IsNode held g x (fixed v) → cuts ≡ [] → AreTreeCuts held g x cuts
  fixed_has_none v node none = record {
    sound = λ i c at. absurd (subst (λ (l : List (Cut K)). IsNumber l i c) none at);
    every = λ members value cut few. elim (cut_cases held g x members value cut) [
      | inl by ↦ absurd (no_inv v by.a (node_once held g x (fixed v) (inv by.a) node by.node))
      | inr by ↦ absurd (no_nand v by.a by.b (node_once held g x (fixed v) (nand by.a by.b) node by.node))
    ];
  }

  pub given_has_none : x < held → cuts ≡ [] → AreTreeCuts held g x cuts
  given_has_none low none = record {
    sound = λ i c at. absurd (subst (λ (l : List (Cut K)). IsNumber l i c) none at);
    every = λ members value cut few. elim (cut_cases held g x members value cut) [
      | inl by ↦ let is = by.node.is in absurd (omega (arith, low, is))
      | inr by ↦ let is = by.node.is in absurd (omega (arith, low, is))
    ];
  }

  pub inverses_are_cuts : (a : ℕ) (list : List (Cut K)) → IsNode held g x (inv a) → AreParts held g a list → AreInverses list cuts → AreTreeCuts held g x cuts
  inverses_are_cuts a list node parts made = record {
    sound = λ i c at.
        let m = made.sound i c at in
        of_inv x a c.leaves.items (λ f. cut_value m.1 f) (λ f. cut_value c f) node
        (subst (λ (l : List ℕ). IsPart held g a l (λ f. cut_value m.1 f)) (sym m.3.leaves) (parts.sound m.0 m.1 m.2)) m.3.value;
    every = λ members value cut few. elim (cut_cases held g x members value cut) [
      | inl by ↦
          let same : by.a ≡ a = same_son by.a a (node_once held g x (inv by.a) (inv a) by.node node) in
          let h = parts.every members by.read (subst (λ (k : ℕ). IsPart held g k members by.read) same by.part) few in
          let m = made.every h.place h.cut h.at in
          record {
            place = m.0;
            cut = m.1;
            at = m.2;
            same = same_trans members h.cut.leaves.items m.1.leaves.items h.same (same_lists h.cut.leaves.items m.1.leaves.items (sym m.3.leaves));
            gives = λ f. m.3.value f ∙ ap not (h.gives f) ∙ sym (by.gives f);
          }
      | inr by ↦ absurd (apart a by.a by.b (node_once held g x (inv a) (nand by.a by.b) node by.node))
    ];
  }

  pub joined_are_cuts : (a b : ℕ) (firsts seconds : List (Cut K)) → IsNode held g x (nand a b) → AreParts held g a firsts → AreParts held g b seconds
      → AreJoined firsts seconds cuts → AreTreeCuts held g x cuts
  joined_are_cuts a b firsts seconds node parts parts_too made = record {
    sound = λ i c at.
        let m = made.sound i c at in
        of_nand x a b m.2.leaves.items m.3.leaves.items c.leaves.items (λ f. cut_value m.2 f) (λ f. cut_value m.3 f) (λ f. cut_value c f) node
        (parts.sound m.0 m.2 m.4) (parts_too.sound m.1 m.3 m.5) m.6.leaves m.6.value;
    every = λ members value cut few. elim (cut_cases held g x members value cut) [
      | inl by ↦ absurd (apart by.a a b (node_once held g x (inv by.a) (nand a b) by.node node))
      | inr by ↦
          let e = node_once held g x (nand by.a by.b) (nand a b) by.node node in
          let part = subst (λ (k : ℕ). IsPart held g k by.first by.read) (same_first by.a by.b a b e) by.part in
          let part_too = subst (λ (k : ℕ). IsPart held g k by.second by.read_too) (same_second by.a by.b a b e) by.part_too in
          let fewer = no_longer by.first members (part_once held g a by.first by.read part) (λ y some. (by.union.members y).1 (inl some)) in
          let fewer_too = no_longer by.second members (part_once held g b by.second by.read_too part_too) (λ y some. (by.union.members y).1 (inr some)) in
          let h = parts.every by.first by.read part (omega (arith, few, fewer)) in
          let k = parts_too.every by.second by.read_too part_too (omega (arith, few, fewer_too)) in
          let union = union_of by.first by.second h.cut.leaves.items k.cut.leaves.items members h.same k.same by.union in
          let m = made.every h.place k.place h.cut k.cut h.at k.at members union few in
          record {
            place = m.0;
            cut = m.1;
            at = m.2;
            same = unions_same h.cut.leaves.items k.cut.leaves.items members m.1.leaves.items union m.3.leaves;
            gives = λ f. m.3.value f ∙ ap₂ (λ (s t : Bool). not (s && t)) (h.gives f) (k.gives f) ∙ sym (by.gives f);
          }
    ];
  }

-- behind the cuts the number itself
module _ {K : ℕ} (held : ℕ) (g : Graph) (x : ℕ) (inner : Bool) (cuts parts : List (Cut K)) (is_it : inner ≡ is_inner held g x)
    (are : inner ≡ true → AreTreeCuts held g x cuts) (has : HasItself x (if inner then cuts else []) parts) where
  listed_front : (b : Bool) (members : List ℕ) (value : (ℕ → Bool) → Bool) → b ≡ true → parts ≡ (if b then cuts else []) ++ has.own ∷ []
      → IsListed cuts members value → IsListed parts members value
  listed_front true members value e is h = record {
    place = h.place;
    cut = h.cut;
    at = subst (λ (l : List (Cut K)). IsNumber l h.place h.cut) (sym is) (number_front cuts (has.own ∷ []) h.place h.cut h.at);
    same = h.same;
    gives = h.gives;
  }
  listed_front false members value e is h = cc

  own_listed : (members : List ℕ) (value : (ℕ → Bool) → Bool) → members ≡ x ∷ [] → ((f : ℕ → Bool) → value f ≡ f x) → IsListed parts members value
  own_listed members value is gives = record {
    place = length (if inner then cuts else []);
    cut = has.own;
    at = subst (λ (l : List (Cut K)). IsNumber l (length (if inner then cuts else [])) has.own) (sym has.is) (at_end (if inner then cuts else []));
    same = same_lists members has.own.leaves.items (is ∙ sym has.members);
    gives = λ f. has.gives f ∙ sym (gives f);
  } where
    at_end : (l : List (Cut K)) → IsNumber (l ++ has.own ∷ []) (length l) has.own
    at_end [] = refl
    at_end (c ∷ l) = at_end l

  sound_at : (b : Bool) → b ≡ inner → parts ≡ (if b then cuts else []) ++ has.own ∷ [] → (i : ℕ) (c : Cut K) → IsNumber parts i c
      → IsPart held g x c.leaves.items (λ f. cut_value c f)
  sound_at true e is i c at = elim (number_end cuts has.own i c (subst (λ (l : List (Cut K)). IsNumber l i c) is at)) [
    | inl in_front ↦ opened x c.leaves.items (λ f. cut_value c f) (sym is_it ∙ sym e) ((are (sym e)).sound i c in_front)
    | inr last ↦ itself x c.leaves.items (λ f. cut_value c f) (ap (λ (d : Cut K). d.leaves.items) last ∙ has.members) (λ f. ap (λ (d : Cut K). cut_value d f) last ∙ has.gives f)
  ]
  sound_at false e is i c at = elim (number_end [] has.own i c (subst (λ (l : List (Cut K)). IsNumber l i c) is at)) [
    | inl in_front ↦ absurd in_front
    | inr last ↦ itself x c.leaves.items (λ f. cut_value c f) (ap (λ (d : Cut K). d.leaves.items) last ∙ has.members) (λ f. ap (λ (d : Cut K). cut_value d f) last ∙ has.gives f)
  ]

  pub parts_are : AreParts held g x parts
  parts_are = record {
    sound = sound_at inner refl has.is;
    every = λ members value part few. by members value part few;
  } where
    from : (a : ℕ) (members : List ℕ) (value : (ℕ → Bool) → Bool) → a ≡ x → IsPart held g a members value → length members ≤ K → IsListed parts members value
    from a members value same (itself _ _ _ is gives) few =
        own_listed members value (is ∙ ap (λ (k : ℕ). k ∷ []) same) (λ f. gives f ∙ ap f same)
    from a members value same (opened _ _ _ within cut) few =
        let t : inner ≡ true = is_it ∙ sym (ap (λ (k : ℕ). is_inner held g k) same) ∙ within in
        listed_front inner members value t has.is
        ((are t).every members value (subst (λ (k : ℕ). IsTreeCut held g k members value) same cut) few)

    by : (members : List ℕ) (value : (ℕ → Bool) → Bool) → IsPart held g x members value → length members ≤ K → IsListed parts members value
    by members value part few = from x members value refl part few

-- no part has a member twice
pub parts_once : {K : ℕ} (held : ℕ) (g : Graph) (x : ℕ) (list : List (Cut K)) → AreParts held g x list → AreOnce list
parts_once held g x list parts i c at = part_once held g x c.leaves.items (λ f. cut_value c f) (parts.sound i c at)

pub cuts_once : {K : ℕ} (held : ℕ) (g : Graph) (x : ℕ) (list : List (Cut K)) → AreTreeCuts held g x list → AreOnce list
cuts_once held g x list cuts i c at = cut_once held g x c.leaves.items (λ f. cut_value c f) (cuts.sound i c at)
