-- What cuts within trees are made of.
use Rattle.std.proofs.Common.{◌≡◌, ◌⊎◌, inl, inr, ℕ, ◌<◌, ◌≤◌, Bool, not, ◌&&◌, List, [], ◌∷◌, length, refl, sym, subst, arith}
use Rattle.net_theory.specs.Sources.{IsNumber}
use Rattle.net_theory.proofs.Basics.{number_once}
use Rattle.graph_theory.specs.Graph.{Node, inv, nand, Graph, ReadsBelow, EachReadsEarlier}
use Rattle.graph_theory.proofs.Values.{reads_at}
use Rattle.cell_match.specs.Places.{times}
use Rattle.cell_match.proofs.Numbers.{one_tells}
use Rattle.boog_cuts.specs.Cuts.{IsUnion}
use Rattle.boog_tree.specs.Trees.{IsNode, IsTreeCut, IsPart, of_inv, of_nand, itself, opened}

pub only : (x n : ℕ) → 0 < times x (n ∷ []) → x ≡ n
only x n h = elim (one_tells n x) [
  | inl is ↦ sym is.0
  | inr isnt ↦ let o = isnt.1 in absurd (omega arith)
]

pub alone : (x n : ℕ) → times x (n ∷ []) ≤ 1
alone x n = elim (one_tells n x) [
  | inl is ↦ let o = is.1 in omega arith
  | inr isnt ↦ let o = isnt.1 in omega arith
]

-- a number is one node
pub node_once : (held : ℕ) (g : Graph) (x : ℕ) (kind other : Node) → IsNode held g x kind → IsNode held g x other → kind ≡ other
node_once held g x kind other n m =
    let a = n.is in
    let b = m.is in
    let same : m.place ≡ n.place = omega arith in
    number_once g.nodes n.place kind other n.at (subst (λ (k : ℕ). IsNumber g.nodes k other) same m.at)

-- a cut by the node that it is one of
pub record OfInv (held : ℕ) (g : Graph) (x : ℕ) (members : List ℕ) (value : (ℕ → Bool) → Bool) : Type 0 where
  pub a : ℕ
  pub read : (ℕ → Bool) → Bool
  pub node : IsNode held g x (inv a)
  pub part : IsPart held g a members read
  pub gives : (f : ℕ → Bool) → value f ≡ not (read f)

pub record OfNand (held : ℕ) (g : Graph) (x : ℕ) (members : List ℕ) (value : (ℕ → Bool) → Bool) : Type 0 where
  pub a : ℕ
  pub b : ℕ
  pub first : List ℕ
  pub second : List ℕ
  pub read : (ℕ → Bool) → Bool
  pub read_too : (ℕ → Bool) → Bool
  pub node : IsNode held g x (nand a b)
  pub part : IsPart held g a first read
  pub part_too : IsPart held g b second read_too
  pub union : IsUnion first second members
  pub gives : (f : ℕ → Bool) → value f ≡ not (read f && read_too f)

pub cut_cases : (held : ℕ) (g : Graph) (x : ℕ) (members : List ℕ) (value : (ℕ → Bool) → Bool) → IsTreeCut held g x members value
    → OfInv held g x members value ⊎ OfNand held g x members value
cut_cases held g x members value (of_inv _ a _ read _ n p e) = inl (record { a = a; read = read; node = n; part = p; gives = e })
cut_cases held g x members value (of_nand _ a b first second _ read read_too _ n p q u e) = inr (record {
  a = a;
  b = b;
  first = first;
  second = second;
  read = read;
  read_too = read_too;
  node = n;
  part = p;
  part_too = q;
  union = u;
  gives = e;
})

-- members are earlier, and none stands twice
module _ (held : ℕ) (g : Graph) (earlier : EachReadsEarlier held g.nodes) where
  pub reads_below : (x : ℕ) (kind : Node) → IsNode held g x kind → ReadsBelow x kind
  reads_below x kind n = subst (λ (k : ℕ). ReadsBelow k kind) (sym n.is) (reads_at held g.nodes n.place kind earlier n.at)

  mutual
    pub cut_earlier : (x : ℕ) (members : List ℕ) (value : (ℕ → Bool) → Bool) → IsTreeCut held g x members value → (y : ℕ) → 0 < times y members → y < x
    cut_earlier x members value (of_inv _ a _ read _ n p e) y some =
        let low : a < x = reads_below x (inv a) n in
        let h = part_earlier a members read p y some in
        omega (arith, low, h)
    cut_earlier x members value (of_nand _ a b first second _ read read_too _ n p q u e) y some =
        let low : (a < x) × (b < x) = reads_below x (nand a b) n in
        let low_a = low.0 in
        let low_b = low.1 in
        elim ((u.members y).0 some) [
          | inl by ↦ let h = part_earlier a first read p y by in omega (arith, low_a, h)
          | inr by ↦ let h = part_earlier b second read_too q y by in omega (arith, low_b, h)
        ]

    pub part_earlier : (a : ℕ) (members : List ℕ) (value : (ℕ → Bool) → Bool) → IsPart held g a members value → (y : ℕ) → 0 < times y members → y ≤ a
    part_earlier a members value (itself _ _ _ is e) y some =
        let h = only y a (subst (λ (xs : List ℕ). 0 < times y xs) is some) in omega (arith, h)
    part_earlier a members value (opened _ _ _ inner cut) y some = let h = cut_earlier a members value cut y some in omega (arith, h)

mutual
  pub cut_once : (held : ℕ) (g : Graph) (x : ℕ) (members : List ℕ) (value : (ℕ → Bool) → Bool) → IsTreeCut held g x members value → (y : ℕ) → times y members ≤ 1
  cut_once held g x members value (of_inv _ a _ read _ n p e) y = part_once held g a members read p y
  cut_once held g x members value (of_nand _ a b first second _ read read_too _ n p q u e) y = u.once y

  pub part_once : (held : ℕ) (g : Graph) (a : ℕ) (members : List ℕ) (value : (ℕ → Bool) → Bool) → IsPart held g a members value → (y : ℕ) → times y members ≤ 1
  part_once held g a members value (itself _ _ _ is e) y = subst (λ (xs : List ℕ). times y xs ≤ 1) (sym is) (alone y a)
  part_once held g a members value (opened _ _ _ inner cut) y = cut_once held g a members value cut y

-- a cut has a member
itself_there : (a : ℕ) → 0 < times a (a ∷ [])
itself_there a = elim (one_tells a a) [
  | inl is ↦ let o = is.1 in omega arith
  | inr isnt ↦ absurd (isnt.0 refl)
]

mutual
  cut_member : (held : ℕ) (g : Graph) (x : ℕ) (members : List ℕ) (value : (ℕ → Bool) → Bool) → IsTreeCut held g x members value → (y : ℕ) × (0 < times y members)
  cut_member held g x members value (of_inv _ a _ read _ n p e) = part_member held g a members read p
  cut_member held g x members value (of_nand _ a b first second _ read read_too _ n p q u e) =
      let h = part_member held g a first read p in (h.0, (u.members h.0).1 (inl h.1))

  part_member : (held : ℕ) (g : Graph) (a : ℕ) (members : List ℕ) (value : (ℕ → Bool) → Bool) → IsPart held g a members value → (y : ℕ) × (0 < times y members)
  part_member held g a members value (itself _ _ _ is e) = (a, subst (λ (xs : List ℕ). 0 < times a xs) (sym is) (itself_there a))
  part_member held g a members value (opened _ _ _ inner cut) = cut_member held g a members value cut

long_some : (xs : List ℕ) (y : ℕ) → 0 < times y xs → 0 < length xs
long_some [] y some = absurd (omega (arith, some))
long_some (x ∷ xs) y some = omega arith

pub cut_some : (held : ℕ) (g : Graph) (x : ℕ) (members : List ℕ) (value : (ℕ → Bool) → Bool) → IsTreeCut held g x members value → 0 < length members
cut_some held g x members value cut = let h = cut_member held g x members value cut in long_some members h.0 h.1
