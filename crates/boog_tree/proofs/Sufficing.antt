-- Lists of cuts that are enough, made of those of the numbers before, and the matches at them.
use Rattle.std.proofs.Common.{◌≡◌, inl, inr, ℕ, ◌<◌, ◌≤◌, Bool, true, false, not, ◌&&◌, List, [], ◌∷◌, ◌++◌, map, length, ap, refl, sym, subst, ◌∙◌, arith, if◌then◌else◌}
use Rattle.net_theory.specs.Sources.{IsNumber}
use Rattle.graph_theory.specs.Graph.{fixed, inv, nand, Graph, EachReadsEarlier}
use Rattle.cell_match.specs.Places.{times}
use Rattle.cell_match.specs.Cells.{inputs_of, cell_value}
use Rattle.cell_match.proofs.Pigeons.{no_longer}
use Rattle.cell_match.proofs.Composing.{map_twice}
use Rattle.cell_match.specs.declared.gate.CellWord.{CellWord}
use Rattle.cell_match.specs.declared.cut.Cut.{Cut}
use Rattle.cell_match.specs.Computes.{cut_value, ComputesCut}
use Rattle.boog_cuts.specs.Cuts.{IsUnion}
use Rattle.boog_cuts.proofs.Growing.{number_front, number_end}
use Rattle.boog_tree.specs.Trees.{is_inner, IsNode, IsTreeCut, IsPart, of_inv, of_nand, itself, opened}
use Rattle.boog_tree.specs.Sums.{inner_sum}
use Rattle.boog_tree.specs.Cuts.{AreOnce}
use Rattle.boog_tree.specs.Joined.{AreInverses, HasItself}
use Rattle.boog_tree.specs.Alike.{HasAsGood, AreKept}
use Rattle.boog_tree.specs.Enough.{StandsFor, HasStandIn, AreEnoughCuts, AreEnoughParts}
use Rattle.boog_tree.specs.Bounds.{IsMatch}
use Rattle.boog_tree.proofs.Totals.{total_listed, once_same, inner_same}
use Rattle.boog_tree.proofs.Within.{node_once, cut_cases, cut_once, part_once, cut_earlier, part_earlier}
use Rattle.boog_tree.proofs.Making.{same_son, same_first, same_second, apart, no_inv, no_nand}
use Rattle.boog_tree.proofs.Apart.{parts_apart}
use Rattle.boog_tree.proofs.Standing.{stands_own, stands_on, stands_inverse, stands_agree, stands_joined, few_joined, mapped_some, some_mapped, mapped_once, mapped_long}
use Rattle.boog_tree.proofs.Likeness.{alike_stands}

module _ (held : ℕ) (g : Graph) (b : ℕ → ℕ) (x : ℕ) (cuts : List (Cut 6)) where
  pub fixed_enough : (v : Bool) → IsNode held g x (fixed v) → cuts ≡ [] → AreEnoughCuts held g b x cuts
  fixed_enough v node none = record {
    sound = λ i c at. absurd (subst (λ (l : List (Cut 6)). IsNumber l i c) none at);
    every = λ members value cut few. elim (cut_cases held g x members value cut) [
      | inl by ↦ absurd (no_inv v by.a (node_once held g x (fixed v) (inv by.a) node by.node))
      | inr by ↦ absurd (no_nand v by.a by.b (node_once held g x (fixed v) (nand by.a by.b) node by.node))
    ];
  }

  pub given_enough : x < held → cuts ≡ [] → AreEnoughCuts held g b x cuts
  given_enough low none = record {
    sound = λ i c at. absurd (subst (λ (l : List (Cut 6)). IsNumber l i c) none at);
    every = λ members value cut few. elim (cut_cases held g x members value cut) [
      | inl by ↦ let is = by.node.is in absurd (omega (arith, low, is))
      | inr by ↦ let is = by.node.is in absurd (omega (arith, low, is))
    ];
  }

  pub inverses_enough : (a : ℕ) (list : List (Cut 6)) → IsNode held g x (inv a) → AreEnoughParts held g b a list → AreInverses list cuts
      → AreEnoughCuts held g b x cuts
  inverses_enough a list node parts made = record {
    sound = λ i c at.
        let m = made.sound i c at in
        of_inv x a c.leaves.items (λ f. cut_value m.1 f) (λ f. cut_value c f) node
        (subst (λ (l : List ℕ). IsPart held g a l (λ f. cut_value m.1 f)) (sym m.3.leaves) (parts.sound m.0 m.1 m.2)) m.3.value;
    every = λ members value cut few. elim (cut_cases held g x members value cut) [
      | inl by ↦
          let same : by.a ≡ a = same_son by.a a (node_once held g x (inv by.a) (inv a) by.node node) in
          let h = parts.every members by.read (subst (λ (k : ℕ). IsPart held g k members by.read) same by.part) few in
          let m = made.every h.place h.cut h.at in
          record {
            place = m.0;
            cut = m.1;
            at = m.2;
            stands = stands_inverse (is_inner held g) b h.cut m.1 members by.read value h.stands m.3 by.gives;
          }
      | inr by ↦ absurd (apart a by.a by.b (node_once held g x (inv a) (nand by.a by.b) node by.node))
    ];
  }

  module _ (earlier : EachReadsEarlier held g.nodes) (inner : ℕ → Bool) (same : (y : ℕ) → inner y ≡ is_inner held g y) where
    -- what is as good by the marks stands for it
    good_stands : (d : Cut 6) → ((y : ℕ) → times y d.leaves.items ≤ 1) → ((i : ℕ) (c : Cut 6) → IsNumber cuts i c → (y : ℕ) → times y c.leaves.items ≤ 1)
        → (has : HasAsGood inner b cuts d) → StandsFor (is_inner held g) b has.cut d.leaves.items (λ f. cut_value d f)
    good_stands d once all has =
        let less = has.least in
        let low = inner_same inner (is_inner held g) b has.cut.leaves.items same in
        let high = inner_same inner (is_inner held g) b d.leaves.items same in
        alike_stands (is_inner held g) b has.cut d (record {
          word = has.alike.word;
          members = record {
            many = has.alike.members.many;
            each = λ i low. elim (has.alike.members.each i low) [
              | inl e ↦ inl e
              | inr both ↦ inr (sym (same _) ∙ both.0, sym (same _) ∙ both.1)
            ];
          };
        }) (omega (arith, less, low, high)) (all has.place has.cut has.at) once

    pub kept_enough : (a a_too : ℕ) (firsts seconds : List (Cut 6)) → IsNode held g x (nand a a_too) → AreEnoughParts held g b a firsts
        → AreEnoughParts held g b a_too seconds → AreKept inner b firsts seconds cuts → AreEnoughCuts held g b x cuts
    kept_enough a a_too firsts seconds node parts parts_too made = record {
      sound = λ i c at.
          let m = made.sound i c at in
          of_nand x a a_too m.2.leaves.items m.3.leaves.items c.leaves.items (λ f. cut_value m.2 f) (λ f. cut_value m.3 f) (λ f. cut_value c f) node
          (parts.sound m.0 m.2 m.4) (parts_too.sound m.1 m.3 m.5) m.6.leaves m.6.value;
      every = λ members value cut few. elim (cut_cases held g x members value cut) [
        | inl by ↦ absurd (apart by.a a a_too (node_once held g x (inv by.a) (nand a a_too) by.node node))
        | inr by ↦
            let e = node_once held g x (nand by.a by.b) (nand a a_too) by.node node in
            both members value by.first by.second by.read by.read_too few
            (subst (λ (k : ℕ). IsPart held g k by.first by.read) (same_first by.a by.b a a_too e) by.part)
            (subst (λ (k : ℕ). IsPart held g k by.second by.read_too) (same_second by.a by.b a a_too e) by.part_too) by.union by.gives
      ];
    } where
      all_once : (i : ℕ) (c : Cut 6) → IsNumber cuts i c → (y : ℕ) → times y c.leaves.items ≤ 1
      all_once i c at = let m = made.sound i c at in m.6.leaves.once

      both : (members : List ℕ) (value : (ℕ → Bool) → Bool) (first second : List ℕ) (read read_too : (ℕ → Bool) → Bool) → length members ≤ 6
          → IsPart held g a first read → IsPart held g a_too second read_too → IsUnion first second members
          → ((f : ℕ → Bool) → value f ≡ not (read f && read_too f)) → HasStandIn (is_inner held g) b cuts members value
      both members value first second read read_too few part part_too union is =
          let once = part_once held g a first read part in
          let once_too = part_once held g a_too second read_too part_too in
          let fewer = no_longer first members once (λ y some. (union.members y).1 (inl some)) in
          let fewer_too = no_longer second members once_too (λ y some. (union.members y).1 (inr some)) in
          let h = parts.every first read part (omega (arith, few, fewer)) in
          let k = parts_too.every second read_too part_too (omega (arith, few, fewer_too)) in
          let here = parts.sound h.place h.cut h.at in
          let here_too = parts_too.sound k.place k.cut k.at in
          let differ = parts_apart held g earlier x a a_too node first second read read_too part part_too in
          let cuts_differ = parts_apart held g earlier x a a_too node h.cut.leaves.items k.cut.leaves.items (λ f. cut_value h.cut f) (λ f. cut_value k.cut f)
          here here_too in
          let nodes = few_joined (is_inner held g) b h.cut k.cut first second members read read_too h.stands k.stands union differ cuts_differ in
          let many = nodes.2 in
          let m = made.every h.place k.place h.cut k.cut h.at k.at nodes.0 nodes.1 (omega (arith, few, many)) in
          record {
            place = m.2.place;
            cut = m.2.cut;
            at = m.2.at;
            stands = stands_on (is_inner held g) b m.2.cut m.0 members value (good_stands m.0 m.1.leaves.once all_once m.2)
                (stands_joined (is_inner held g) b h.cut k.cut first second members read read_too h.stands k.stands union differ cuts_differ m.0 value m.1 is once once_too
                (part_once held g a h.cut.leaves.items (λ f. cut_value h.cut f) here) (part_once held g a_too k.cut.leaves.items (λ f. cut_value k.cut f) here_too));
          }

-- ---- behind the cuts the number itself

module _ (held : ℕ) (g : Graph) (b : ℕ → ℕ) (x : ℕ) (inner : Bool) (cuts parts : List (Cut 6)) (is_it : inner ≡ is_inner held g x)
    (are : AreEnoughCuts held g b x cuts) (has : HasItself x (if inner then cuts else []) parts) where
  stand_front : (t : Bool) (members : List ℕ) (value : (ℕ → Bool) → Bool) → t ≡ true → parts ≡ (if t then cuts else []) ++ has.own ∷ []
      → HasStandIn (is_inner held g) b cuts members value → HasStandIn (is_inner held g) b parts members value
  stand_front true members value e is h = record {
    place = h.place;
    cut = h.cut;
    at = subst (λ (l : List (Cut 6)). IsNumber l h.place h.cut) (sym is) (number_front cuts (has.own ∷ []) h.place h.cut h.at);
    stands = h.stands;
  }
  stand_front false members value e is h = cc

  own_stands : (members : List ℕ) (value : (ℕ → Bool) → Bool) → members ≡ x ∷ [] → ((f : ℕ → Bool) → value f ≡ f x)
      → HasStandIn (is_inner held g) b parts members value
  own_stands members value is gives = record {
    place = length (if inner then cuts else []);
    cut = has.own;
    at = subst (λ (l : List (Cut 6)). IsNumber l (length (if inner then cuts else [])) has.own) (sym has.is) (at_end (if inner then cuts else []));
    stands = stands_own (is_inner held g) b x has.own members value has.members has.gives is gives;
  } where
    at_end : (l : List (Cut 6)) → IsNumber (l ++ has.own ∷ []) (length l) has.own
    at_end [] = refl
    at_end (c ∷ l) = at_end l

  sound_at : (t : Bool) → t ≡ inner → parts ≡ (if t then cuts else []) ++ has.own ∷ [] → (i : ℕ) (c : Cut 6) → IsNumber parts i c
      → IsPart held g x c.leaves.items (λ f. cut_value c f)
  sound_at true e is i c at = elim (number_end cuts has.own i c (subst (λ (l : List (Cut 6)). IsNumber l i c) is at)) [
    | inl in_front ↦ opened x c.leaves.items (λ f. cut_value c f) (sym is_it ∙ sym e) (are.sound i c in_front)
    | inr last ↦ itself x c.leaves.items (λ f. cut_value c f) (ap (λ (d : Cut 6). d.leaves.items) last ∙ has.members) (λ f. ap (λ (d : Cut 6). cut_value d f) last ∙ has.gives f)
  ]
  sound_at false e is i c at = elim (number_end [] has.own i c (subst (λ (l : List (Cut 6)). IsNumber l i c) is at)) [
    | inl in_front ↦ absurd in_front
    | inr last ↦ itself x c.leaves.items (λ f. cut_value c f) (ap (λ (d : Cut 6). d.leaves.items) last ∙ has.members) (λ f. ap (λ (d : Cut 6). cut_value d f) last ∙ has.gives f)
  ]

  pub parts_enough : AreEnoughParts held g b x parts
  parts_enough = record {
    sound = sound_at inner refl has.is;
    every = λ members value part few. from x members value refl part few;
  } where
    from : (a : ℕ) (members : List ℕ) (value : (ℕ → Bool) → Bool) → a ≡ x → IsPart held g a members value → length members ≤ 6
        → HasStandIn (is_inner held g) b parts members value
    from a members value same (itself _ _ _ is gives) few =
        own_stands members value (is ∙ ap (λ (k : ℕ). k ∷ []) same) (λ f. gives f ∙ ap f same)
    from a members value same (opened _ _ _ within cut) few =
        let t : inner ≡ true = is_it ∙ sym (ap (λ (k : ℕ). is_inner held g k) same) ∙ within in
        stand_front inner members value t has.is (are.every members value (subst (λ (k : ℕ). IsTreeCut held g k members value) same cut) few)

-- ---- other bounds that are the same of earlier numbers

module _ (held : ℕ) (g : Graph) (earlier : EachReadsEarlier held g.nodes) (b other : ℕ → ℕ) (n : ℕ) (same : (y : ℕ) → y < n → b y ≡ other y) where
  pub cuts_agree : (x : ℕ) (cuts : List (Cut 6)) → x ≤ n → AreEnoughCuts held g b x cuts → AreEnoughCuts held g other x cuts
  cuts_agree x cuts low are = record {
    sound = are.sound;
    every = λ members value cut few.
        let h = are.every members value cut few in
        record {
          place = h.place;
          cut = h.cut;
          at = h.at;
          stands = stands_agree (is_inner held g) b other h.cut members value
              (λ y some.
              let e = cut_earlier held g earlier x h.cut.leaves.items (λ f. cut_value h.cut f) (are.sound h.place h.cut h.at) y some in same y (omega (arith, e, low)))
              (λ y some. let e = cut_earlier held g earlier x members value cut y some in same y (omega (arith, e, low))) h.stands;
        };
  }

  pub parts_agree : (x : ℕ) (cuts : List (Cut 6)) → x < n → AreEnoughParts held g b x cuts → AreEnoughParts held g other x cuts
  parts_agree x cuts low are = record {
    sound = are.sound;
    every = λ members value part few.
        let h = are.every members value part few in
        record {
          place = h.place;
          cut = h.cut;
          at = h.at;
          stands = stands_agree (is_inner held g) b other h.cut members value
              (λ y some.
              let e = part_earlier held g earlier x h.cut.leaves.items (λ f. cut_value h.cut f) (are.sound h.place h.cut h.at) y some in same y (omega (arith, e, low)))
              (λ y some. let e = part_earlier held g earlier x members value part y some in same y (omega (arith, e, low))) h.stands;
        };
  }

pub enough_once : (held : ℕ) (g : Graph) (b : ℕ → ℕ) (x : ℕ) (list : List (Cut 6)) → AreEnoughParts held g b x list → AreOnce list
enough_once held g b x list parts i c at = part_once held g x c.leaves.items (λ f. cut_value c f) (parts.sound i c at)

-- ---- matches

module _ (cells : List CellWord) (held : ℕ) (g : Graph) (b : ℕ → ℕ) (x : ℕ) (cuts : List (Cut 6)) (are : AreEnoughCuts held g b x cuts) where
  pub enough_is_match : (i : ℕ) (c : Cut 6) (k : ℕ) (order : List ℕ) → IsNumber cuts i c → ComputesCut cells k order c → IsMatch cells held g x k order
  enough_is_match i c k order at does = record {
    members = c.leaves.items;
    value = λ f. cut_value c f;
    cut = are.sound i c at;
    there = does.there;
    many = does.many;
    once = does.once;
    each = does.members;
    computes = does.value;
  }

  -- for each match there is one at a cut of the list by the same cell that costs no more
  pub match_is_met : (k : ℕ) (order : List ℕ) → ((j : ℕ) → inputs_of cells j ≤ 6) → IsMatch cells held g x k order
      → (i : ℕ) × (c : Cut 6) × (other : List ℕ) × IsNumber cuts i c × ComputesCut cells k other c
      × (inner_sum (is_inner held g) b other ≤ inner_sum (is_inner held g) b order)
  match_is_met k order narrow m =
      let few = no_longer m.members order (cut_once held g x m.members m.value m.cut) (λ y some. (m.each y).1 some) in
      let many = m.many in
      let n = narrow k in
      let h = are.every m.members m.value m.cut (omega (arith, few, many, n)) in
      met h.place h.cut h.at h.stands where
        met : (i : ℕ) (c : Cut 6) → IsNumber cuts i c → StandsFor (is_inner held g) b c m.members m.value
            → (j : ℕ) × (d : Cut 6) × (other : List ℕ) × IsNumber cuts j d × ComputesCut cells k other d
            × (inner_sum (is_inner held g) b other ≤ inner_sum (is_inner held g) b order)
        met i c at s =
            let does : ComputesCut cells k (map s.to order) c = record {
              there = m.there;
              many = mapped_long s.to order ∙ m.many;
              once = mapped_once s.to order (λ y z some some_too e. s.apart y z ((m.each y).0 some) ((m.each z).0 some_too) e) m.once;
              members = λ z. (
                λ some.
                    let y = mapped_some s.to order z some in
                    subst (λ (v : ℕ). 0 < times v c.leaves.items) y.2 (s.into y.0 ((m.each y.0).0 y.1)),
                λ some.
                    let y = s.onto z some in
                    subst (λ (v : ℕ). 0 < times v (map s.to order)) y.2 (some_mapped s.to order y.0 ((m.each y.0).1 y.1)),
              );
              value = λ f.
                  ap (λ (l : List Bool). cell_value cells k l) (map_twice f s.to order) ∙ m.computes (λ y. f (s.to y)) ∙ sym (s.gives f (λ y. f (s.to y)) (λ y some. refl));
            } in
            let cut_is_once = cut_once held g x c.leaves.items (λ f. cut_value c f) (are.sound i c at) in
            let low = total_listed (λ y. if is_inner held g y then b y else 0) (map s.to order) c.leaves.items (λ z.
            once_same (map s.to order) c.leaves.items z (does.once z) (cut_is_once z) (does.members z).0 (does.members z).1) in
            let high = total_listed (λ y. if is_inner held g y then b y else 0) order m.members (λ z.
            once_same order m.members z (m.once z) (cut_once held g x m.members m.value m.cut z) (m.each z).0 (m.each z).1) in
            let less = s.least in
            (i, c, map s.to order, at, does, omega (arith, low, high, less))
