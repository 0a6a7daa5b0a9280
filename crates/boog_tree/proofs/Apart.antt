-- The gates of a tree that are read through one pin of a node are others than those that are read through another.
use Rattle.std.proofs.Common.{◌≡◌, ◌≢◌, inl, inr, ℕ, ◌+◌, ◌<◌, ◌≤◌, Bool, true, List, [], ◌∷◌, ap, refl, sym, subst, ◌∙◌, arith}
use Prim.Native.Nat.{zero, suc}
use Rattle.std.proofs.lemmas.Bool.{cases_eq}
use Rattle.net_theory.specs.Sources.{IsNumber}
use Rattle.graph_theory.specs.Graph.{Node, inv, nand, Graph, EachReadsEarlier}
use Rattle.cell_match.specs.Places.{times}
use Rattle.cell_match.proofs.Numbers.{one, one_same}
use Rattle.boog_tree.specs.Trees.{pins, pin_uses, is_inner, IsNode, IsTreeCut, IsPart, of_inv, of_nand, itself, opened}
use Rattle.boog_tree.proofs.Within.{only, reads_below}
use Rattle.boog_tree.proofs.Open.{uses_part, inner_once}
use Rattle.boog_tree.proofs.Counting.{pins_below}

-- number p reads y
pub record IsRead (held : ℕ) (g : Graph) (p y : ℕ) : Type 0 where
  pub kind : Node
  pub node : IsNode held g p kind
  pub some : 0 < times y (pins kind)

-- y is a, or is read by a gate of the tree that is a or below it
pub data IsBelow (held : ℕ) (g : Graph) (a : ℕ) : ℕ → Type 0 where
  here : (y : ℕ) → y ≡ a → IsBelow held g a y
  down : (y p : ℕ) → IsBelow held g a p → is_inner held g p ≡ true → IsRead held g p y → IsBelow held g a y

-- two nodes that read a number are two uses
used_once : (y : ℕ) (nodes : List Node) (i : ℕ) (kind : Node) → IsNumber nodes i kind → times y (pins kind) ≤ pin_uses y nodes
used_once y nodes i kind at = let e = (uses_part y nodes i kind at).1 in omega (arith, e)

used_twice : (y : ℕ) (nodes : List Node) (i j : ℕ) (one other : Node) → IsNumber nodes i one → IsNumber nodes j other → i ≢ j
    → times y (pins one) + times y (pins other) ≤ pin_uses y nodes
used_twice y [] i j one other h k differ = absurd h
used_twice y (n ∷ nodes) zero zero one other h k differ = absurd (differ refl)
used_twice y (n ∷ nodes) zero (suc j) one other h k differ =
    let e = ap (λ (m : Node). times y (pins m)) h in let f = used_once y nodes j other k in omega (arith, e, f)
used_twice y (n ∷ nodes) (suc i) zero one other h k differ =
    let e = ap (λ (m : Node). times y (pins m)) k in let f = used_once y nodes i one h in omega (arith, e, f)
used_twice y (n ∷ nodes) (suc i) (suc j) one other h k differ =
    let e = used_twice y nodes i j one other h k (λ s. differ (ap suc s)) in omega (arith, e)

module _ (held : ℕ) (g : Graph) where
  -- what belongs to its user's tree is read by one node
  reader_once : (y p q : ℕ) → is_inner held g y ≡ true → IsRead held g p y → IsRead held g q y → p ≡ q
  reader_once y p q inner r s = elim (cases_eq p q) [
    | inl same ↦ same
    | inr differ ↦
        let once = inner_once held g y inner in
        let is_p = r.node.is in
        let is_q = s.node.is in
        let a = r.some in
        let b = s.some in
        let e = used_twice y g.nodes r.node.place s.node.place r.kind s.kind r.node.at s.node.at (λ same. differ (omega (arith, is_p, is_q, same))) in
        absurd (omega (arith, once, a, b, e))
  ]

  below_on : (a s y : ℕ) → IsBelow held g a s → IsBelow held g s y → IsBelow held g a y
  below_on a s y first (here _ is) = subst (λ (k : ℕ). IsBelow held g a k) (sym is) first
  below_on a s y first (down _ p rest inner reads) = down y p (below_on a s p first rest) inner reads

  mutual
    cut_below : (x : ℕ) (members : List ℕ) (value : (ℕ → Bool) → Bool) → IsTreeCut held g x members value → is_inner held g x ≡ true → (y : ℕ)
        → 0 < times y members → IsBelow held g x y
    cut_below x members value (of_inv _ a _ read _ n p e) inner y some =
        let o = one_same a in
        below_on x a y (down a x (here x refl) inner (record { kind = inv a; node = n; some = omega (arith, o) })) (part_below a members read p y some)
    cut_below x members value (of_nand _ a b first second _ read read_too _ n p q u e) inner y some =
        let oa = one_same a in
        let ob = one_same b in
        elim ((u.members y).0 some) [
          | inl by ↦
              below_on x a y (down a x (here x refl) inner (record { kind = nand a b; node = n; some = omega (arith, oa) })) (part_below a first read p y by)
          | inr by ↦
              below_on x b y (down b x (here x refl) inner (record { kind = nand a b; node = n; some = omega (arith, ob) })) (part_below b second read_too q y by)
        ]

    pub part_below : (a : ℕ) (members : List ℕ) (value : (ℕ → Bool) → Bool) → IsPart held g a members value → (y : ℕ) → 0 < times y members
        → IsBelow held g a y
    part_below a members value (itself _ _ _ is e) y some = here y (only y a (subst (λ (xs : List ℕ). 0 < times y xs) is some))
    part_below a members value (opened _ _ _ inner cut) y some = cut_below a members value cut inner y some

  module _ (earlier : EachReadsEarlier held g.nodes) where
    read_low : (p y : ℕ) → IsRead held g p y → y < p
    read_low p y r = pins_below p r.kind (reads_below held g earlier p r.kind r.node) y r.some

    below_low : (a y : ℕ) → IsBelow held g a y → y ≤ a
    below_low a y (here _ is) = omega (arith, is)
    below_low a y (down _ p rest inner reads) = let e = below_low a p rest in let l = read_low p y reads in omega (arith, e, l)

    -- where x reads a and b, which are two, nothing that lies in the tree is below both
    module _ (x a b : ℕ) (reads_a : IsRead held g x a) (reads_b : IsRead held g x b) (differ : a ≢ b) where
      -- one of the two isn't below the other
      not_under : (c d p : ℕ) → IsRead held g x c → IsRead held g x d → is_inner held g c ≡ true → IsBelow held g d p → IsRead held g p c → ⊥
      not_under c d p reads_c reads_d inner below reads =
          let same = reader_once c p x inner reads reads_c in
          let l = below_low d p below in
          let m = read_low x d reads_d in
          omega (arith, same, l, m)

      pub not_both : (y : ℕ) → is_inner held g y ≡ true → IsBelow held g a y → IsBelow held g b y → ⊥
      not_both y inner (here _ is) (here _ too) = differ (sym is ∙ too)
      not_both y inner (here _ is) (down _ p rest _ reads) =
          not_under a b p reads_a reads_b (subst (λ (k : ℕ). is_inner held g k ≡ true) is inner) rest (subst (λ (k : ℕ). IsRead held g p k) is reads)
      not_both y inner (down _ p rest _ reads) (here _ is) =
          not_under b a p reads_b reads_a (subst (λ (k : ℕ). is_inner held g k ≡ true) is inner) rest (subst (λ (k : ℕ). IsRead held g p k) is reads)
      not_both y inner (down _ p rest inner_p reads) (down _ q rest_too _ reads_too) =
          let same = reader_once y p q inner reads reads_too in
          not_both p inner_p rest (subst (λ (k : ℕ). IsBelow held g b k) (sym same) rest_too)

    -- what is read through one pin and lies in the tree isn't read through the other
    pub parts_apart : (x a b : ℕ) → IsNode held g x (nand a b) → (first second : List ℕ) (read read_too : (ℕ → Bool) → Bool)
        → IsPart held g a first read → IsPart held g b second read_too → (y : ℕ) → is_inner held g y ≡ true → 0 < times y first → 0 < times y second → ⊥
    parts_apart x a b node first second read read_too p q y inner some some_too = elim (cases_eq a b) [
      | inr differ ↦
          let oa = one_same a in
          let ob = one_same b in
          not_both x a b (record { kind = nand a b; node = node; some = omega (arith, oa) }) (record { kind = nand a b; node = node; some = omega (arith, ob) })
          differ y inner (part_below a first read p y some) (part_below b second read_too q y some_too)
      | inl same ↦ twice same p
    ] where
      -- two pins on one number are two uses of it
      two_uses : a ≡ b → is_inner held g a ≡ true → ⊥
      two_uses same in_tree =
          let once = inner_once held g a in_tree in
          let e = used_once a g.nodes node.place (nand a b) node.at in
          let o = one_same a in
          let f = ap (λ (k : ℕ). one k a) same in
          omega (arith, once, e, o, f)

      twice : a ≡ b → IsPart held g a first read → ⊥
      twice same (itself _ _ _ is e) =
          let here = only y a (subst (λ (xs : List ℕ). 0 < times y xs) is some) in two_uses same (subst (λ (k : ℕ). is_inner held g k ≡ true) here inner)
      twice same (opened _ _ _ in_tree cut) = two_uses same in_tree
