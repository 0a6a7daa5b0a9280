-- One number more.
use Rattle.std.proofs.Common.{◌≡◌, ◌⊎◌, inl, inr, ℕ, ◌+◌, ◌*◌, ◌-◌, ◌^◌, ◌<◌, ◌≤◌, Bool, true, false, ◌==◌, IsTrue, List, [], ◌∷◌, ◌++◌, map, length, take, get_or, slice_index, Option, None, Some, IfSome, IfNone, ap, refl, sym, subst, ◌∙◌, arith, length-append, if◌then◌else◌}
use Prim.Native.Nat.{zero, suc}
use Rattle.std.specs.Global.{Vec}
use Rattle.std.specs.List.{slice_index_or}
use Rattle.std.proofs.lemmas.Bool.{cases_lt, cases_eq, eqb-true}
use Rattle.bool_expr.specs.Expression.{bit}
use Rattle.net_theory.specs.Sources.{IsNumber}
use Rattle.net_theory.proofs.Basics.{number_below}
use Rattle.graph_theory.specs.Graph.{Node, fixed, inv, nand, Graph, is_logic, EachReadsEarlier}
use Rattle.cell_match.specs.Places.{times}
use Rattle.cell_match.specs.Cells.{inputs_of}
use Rattle.cell_match.specs.Computes.{cut_value}
use Rattle.cell_match.specs.declared.gate.CellWord.{CellWord}
use Rattle.cell_match.specs.declared.gate.Gate.{Gate}
use Rattle.cell_match.specs.declared.cut.Cut.{Cut}
use Rattle.boog_tight.specs.Cover.{gate_at}
use Rattle.boog_cuts.proofs.Whole.{map_end}
use Rattle.boog_tree.specs.Trees.{pin_uses, is_gate, is_inner, IsNode}
use Rattle.boog_tree.specs.Sums.{inner_sum}
use Rattle.boog_tree.specs.Direct.{HasGates}
use Rattle.boog_tree.specs.Bounds.{IsMatch, ArePicks, AreBounds}
use Rattle.boog_tree.specs.Enough.{AreEnoughCuts, AreEnoughParts}
use Rattle.boog_tree.specs.Picked.{IsBestOf, NoneMatches, IsWithin}
use Rattle.boog_tree.specs.Swept.{AddsParts, gate_of, cost_of}
use Rattle.boog_tree.specs.declared.pick.Pick.{Pick}
use Rattle.boog_tree.proofs.Totals.{total_on, inner_same}
use Rattle.boog_tree.proofs.Within.{cut_earlier, cut_once}
use Rattle.boog_tree.proofs.Sufficing.{parts_enough, parts_agree, enough_is_match, match_is_met}
use Rattle.boog_tree.proofs.Open.{open_sum, open_at, open_end, open_le, open_inv, open_twice, open_nand, share, left_true, right_true, both_true}
use Rattle.boog_tree.proofs.Sweeping.{gate_is_node, cut_is_gate, match_inv, match_twice, match_nand}

-- the lists of parts of the numbers so far
pub record ArePartsOf (held : ℕ) (g : Graph) (b : ℕ → ℕ) (parts : List (Vec (Cut 6))) : Type 0 where
  pub are : (x : ℕ) (list : List (Cut 6)) → IsNumber (map (λ v. v.items) parts) x list → AreEnoughParts held g b x list

pub number_last : {A : Type 0} (xs : List A) (y : A) (i : ℕ) (x : A) → IsNumber (xs ++ y ∷ []) i x → IsNumber xs i x ⊎ ((i ≡ length xs) × (x ≡ y))
number_last [] y zero x h = inr (refl, h)
number_last [] y (suc i) x h = absurd h
number_last (z ∷ xs) y zero x h = inl h
number_last (z ∷ xs) y (suc i) x h = elim (number_last xs y i x h) [
  | inl in_front ↦ inl in_front
  | inr at_end ↦ inr (ap suc at_end.0, at_end.1)
]

pub mapped_long : {A B : Type 0} (f : A → B) (xs : List A) → length (map f xs) ≡ length xs
mapped_long f [] = refl
mapped_long f (x ∷ xs) = let e = mapped_long f xs in omega arith

pub parts_none : (held : ℕ) (g : Graph) (b : ℕ → ℕ) → ArePartsOf held g b []
parts_none held g b = record { are = λ x list h. absurd h }

pub parts_more : (held : ℕ) (g : Graph) (b : ℕ → ℕ) (old new : List (Vec (Cut 6))) (inner : Bool) (cuts : List (Cut 6)) → ArePartsOf held g b old
    → inner ≡ is_inner held g (length old) → AreEnoughCuts held g b (length old) cuts → AddsParts old inner cuts new → ArePartsOf held g b new
parts_more held g b old new inner cuts before is are adds = record {
  are = λ x list h.
      let whole = ap (λ (vs : List (Vec (Cut 6))). map (λ v. v.items) vs) adds.is ∙ map_end (λ (v : Vec (Cut 6)). v.items) old adds.parts in
      elim (number_last (map (λ v. v.items) old) adds.parts.items x list (subst (λ (ls : List (List (Cut 6))). IsNumber ls x list) whole h)) [
        | inl in_front ↦ before.are x list in_front
        | inr last ↦
            let e = mapped_long (λ (v : Vec (Cut 6)). v.items) old in
            let here : length old ≡ x = sym (last.0 ∙ e) in
            subst (λ (k : ℕ). AreEnoughParts held g b k list) here
            (subst (λ (l : List (Cut 6)). AreEnoughParts held g b (length old) l) (sym last.1)
            (parts_enough held g b (length old) inner cuts adds.parts.items is are adds.has))
      ];
}

-- with other bounds that are the same of all numbers so far
pub parts_other : (held : ℕ) (g : Graph) (b other : ℕ → ℕ) (parts : List (Vec (Cut 6))) → EachReadsEarlier held g.nodes
    → ((y : ℕ) → y < length parts → b y ≡ other y) → ArePartsOf held g b parts → ArePartsOf held g other parts
parts_other held g b other parts earlier same before = record {
  are = λ x list h.
      let e = mapped_long (λ (v : Vec (Cut 6)). v.items) parts in
      let low = number_below (map (λ v. v.items) parts) x list h in
      parts_agree held g earlier b other (length parts) same x list (omega (arith, e, low)) (before.are x list h);
}

-- ---- what is known of matches and bounds

pub record Sweeping (cells : List CellWord) (areas : List ℕ) (held : ℕ) (g : Graph) (n : ℕ) (picks : List (Option Gate)) (bounds : List ℕ) : Type 0 where
  pub picks_many : length picks ≡ n
  pub bounds_many : length bounds ≡ n
  pub outside : (x : ℕ) → x < n → is_gate held g.nodes x ≡ false → get_or bounds x 0 ≡ 0
  pub least : (x k : ℕ) (order : List ℕ) → x < n → IsMatch cells held g x k order
      → get_or bounds x 0 ≤ get_or areas k 0 + inner_sum (is_inner held g) (slice_index bounds) order
  pub each : (x : ℕ) → x < n → IsTrue (is_gate held g.nodes x) → (p : Gate) × (gate_at picks x ≡ Some p) × IsMatch cells held g x p.cell p.leaves.items
      × (get_or bounds x 0 ≡ get_or areas p.cell 0 + inner_sum (is_inner held g) (slice_index bounds) p.leaves.items)
  pub small : open_sum (open_at held g (n - held)) bounds ≤ 4294967295 * (n - held)

at_front : {A : Type 0} (xs : List A) (y d : A) (i : ℕ) → i < length xs → slice_index_or (xs ++ y ∷ []) i d ≡ slice_index_or xs i d
at_front [] y d i h = absurd (omega arith)
at_front (x ∷ xs) y d zero h = refl
at_front (x ∷ xs) y d (suc i) h = at_front xs y d i (omega arith)

at_last : {A : Type 0} (xs : List A) (y d : A) → slice_index_or (xs ++ y ∷ []) (length xs) d ≡ y
at_last [] y d = refl
at_last (x ∷ xs) y d = at_last xs y d

at_there : {A : Type 0} (xs : List A) (y d : A) (n : ℕ) → length xs ≡ n → slice_index_or (xs ++ y ∷ []) n d ≡ y
at_there xs y d n e = subst (λ (k : ℕ). slice_index_or (xs ++ y ∷ []) k d ≡ y) e (at_last xs y d)

-- a bound more leaves those before it
pub bound_front : (bounds next : List ℕ) (v n : ℕ) → n ≡ length bounds → next ≡ bounds ++ v ∷ [] → (y : ℕ) → y < n → get_or bounds y 0 ≡ get_or next y 0
bound_front bounds next v n many is y low =
    sym (ap (λ (l : List ℕ). get_or l y 0) is ∙ at_front bounds v 0 y (omega (arith, low, many)))

pub sweeping_none : (cells : List CellWord) (areas : List ℕ) (held : ℕ) (g : Graph) → Sweeping cells areas held g 0 [] []
sweeping_none cells areas held g = record {
  picks_many = refl;
  bounds_many = refl;
  outside = λ x low. absurd (omega (arith, low));
  least = λ x k order low. absurd (omega (arith, low));
  each = λ x low. absurd (omega (arith, low));
  small = omega arith;
}

module _ (cells : List CellWord) (areas : List ℕ) (held : ℕ) (g : Graph) (earlier : EachReadsEarlier held g.nodes) (n : ℕ)
    (picks : List (Option Gate)) (bounds : List ℕ) (is : Sweeping cells areas held g n picks bounds) where
  -- a bound more changes no sum over earlier members
  sum_kept : (v x k : ℕ) (order : List ℕ) → x ≤ n → IsMatch cells held g x k order
      → inner_sum (is_inner held g) (slice_index (bounds ++ v ∷ [])) order ≡ inner_sum (is_inner held g) (slice_index bounds) order
  sum_kept v x k order low m =
      total_on (λ y. if is_inner held g y then get_or (bounds ++ v ∷ []) y 0 else 0) (λ y. if is_inner held g y then get_or bounds y 0 else 0) order
      (λ y some.
      let b = cut_earlier held g earlier x m.members m.value m.cut y ((m.each y).0 some) in
      let many = is.bounds_many in
      ap (λ (w : ℕ). if is_inner held g y then w else 0) (at_front bounds v 0 y (omega (arith, b, many, low))))

  module _ (p : Option Gate) (v : ℕ) (none : is_gate held g.nodes n ≡ false → v ≡ 0)
      (low : (k : ℕ) (order : List ℕ) → IsMatch cells held g n k order → v ≤ get_or areas k 0 + inner_sum (is_inner held g) (slice_index bounds) order)
      (has : IsTrue (is_gate held g.nodes n) → (q : Gate) × (p ≡ Some q) × IsMatch cells held g n q.cell q.leaves.items
      × (v ≡ get_or areas q.cell 0 + inner_sum (is_inner held g) (slice_index bounds) q.leaves.items))
      (small : open_sum (open_at held g (n + 1 - held)) (bounds ++ v ∷ []) ≤ 4294967295 * (n + 1 - held)) where
    pub sweeping_more : Sweeping cells areas held g (n + 1) (picks ++ p ∷ []) (bounds ++ v ∷ [])
    sweeping_more = record {
      picks_many = let e = length-append picks (p ∷ []) in let m = is.picks_many in omega arith;
      bounds_many = let e = length-append bounds (v ∷ []) in let m = is.bounds_many in omega arith;
      outside = λ x below gate. elim (cases_lt x n) [
        | inl less ↦ let m = is.bounds_many in at_front bounds v 0 x (omega (arith, m, less)) ∙ is.outside x less gate
        | inr not_less ↦
            let here : n ≡ x = omega (arith, below, not_less) in
            let m = is.bounds_many in
            at_there bounds v 0 x (m ∙ here) ∙ none (subst (λ (k : ℕ). is_gate held g.nodes k ≡ false) (sym here) gate)
      ];
      least = λ x k order below m. elim (cases_lt x n) [
        | inl less ↦
            let many = is.bounds_many in
            let e = at_front bounds v 0 x (omega (arith, many, less)) in
            let f = is.least x k order less m in
            let s = sum_kept v x k order (omega (arith, less)) m in
            omega (arith, e, f, s)
        | inr not_less ↦
            let here : n ≡ x = omega (arith, below, not_less) in
            let e = at_there bounds v 0 x (is.bounds_many ∙ here) in
            let f = low k order (subst (λ (y : ℕ). IsMatch cells held g y k order) (sym here) m) in
            let s = sum_kept v x k order (omega (arith, here)) m in
            omega (arith, e, f, s)
      ];
      each = λ x below gate. elim (cases_lt x n) [
        | inl less ↦
            let many = is.bounds_many in
            let few = is.picks_many in
            let h = is.each x less gate in
            let e = at_front bounds v 0 x (omega (arith, many, less)) in
            let s = sum_kept v x (h.0).cell (h.0).leaves.items (omega (arith, less)) h.2 in
            let b = h.3 in
            (h.0, at_front picks p None x (omega (arith, few, less)) ∙ h.1, h.2, omega (arith, e, s, b))
        | inr not_less ↦
            let here : n ≡ x = omega (arith, below, not_less) in
            let h = has (subst (λ (k : ℕ). IsTrue (is_gate held g.nodes k)) (sym here) gate) in
            let m = subst (λ (y : ℕ). IsMatch cells held g y (h.0).cell (h.0).leaves.items) here h.2 in
            let e = at_there bounds v 0 x (is.bounds_many ∙ here) in
            let s = sum_kept v x (h.0).cell (h.0).leaves.items (omega (arith, here)) m in
            let b = h.3 in
            (h.0, at_there picks p None x (is.picks_many ∙ here) ∙ h.1, m, omega (arith, e, s, b))
      ];
      small = small;
    }

-- ---- what a number adds

uses_le : (x : ℕ) (nodes : List Node) (i : ℕ) → pin_uses x (take i nodes) ≤ pin_uses x (take (suc i) nodes)
uses_le x [] zero = omega arith
uses_le x [] (suc i) = omega arith
uses_le x (n ∷ nodes) zero = omega arith
uses_le x (n ∷ nodes) (suc i) = let e = uses_le x nodes i in omega arith

-- fewer gates are open behind a node more
fewer_open : (held : ℕ) (g : Graph) (i x : ℕ) → open_at held g (suc i) x ≡ true → open_at held g i x ≡ true
fewer_open held g i x e =
    let inner = left_true (is_inner held g x) (pin_uses x (take (suc i) g.nodes) == 0) e in
    let none = eqb-true (pin_uses x (take (suc i) g.nodes)) 0 (right_true (is_inner held g x) (pin_uses x (take (suc i) g.nodes) == 0) e) in
    let l = uses_le x g.nodes i in
    let before : pin_uses x (take i g.nodes) ≡ 0 = omega (arith, none, l) in
    both_true (is_inner held g x) (pin_uses x (take i g.nodes) == 0) inner (ap (λ (k : ℕ). k == 0) before)

-- a number that is no gate
module _ (cells : List CellWord) (areas : List ℕ) (held : ℕ) (g : Graph) (n : ℕ) (bounds : List ℕ) where
  small_given : (picks : List (Option Gate)) → Sweeping cells areas held g n picks bounds → is_gate held g.nodes n ≡ false → n < held + length g.nodes
      → open_sum (open_at held g (n + 1 - held)) (bounds ++ 0 ∷ []) ≤ 4294967295 * (n + 1 - held)
  small_given picks is gate inside =
      let e = open_end (open_at held g (n + 1 - held)) bounds 0 in
      let s = is.small in
      elim (cases_lt n held) [
        | inl low ↦
            let same : n + 1 - held ≡ n - held = omega (arith, low) in
            let t = ap (λ (k : ℕ). open_sum (open_at held g k) bounds) same in
            omega (arith, e, s, t, same)
        | inr high ↦
            let same : n + 1 - held ≡ suc (n - held) = omega (arith, high) in
            let t = ap (λ (k : ℕ). open_sum (open_at held g k) bounds) same in
            let l = open_le (open_at held g (n - held)) (open_at held g (suc (n - held))) bounds (λ x o. fewer_open held g (n - held) x o) in
            omega (arith, e, s, t, l, same)
      ]

  -- a gate whose bound is at most the cost of each of its matches
  module _ (few : (k : ℕ) → get_or areas k 0 < 2 ^ 32) (has : HasGates cells) (v : ℕ)
      (low : (k : ℕ) (order : List ℕ) → IsMatch cells held g n k order → v ≤ get_or areas k 0 + inner_sum (is_inner held g) (slice_index bounds) order) where
    small_inv : (a : ℕ) (node : IsNode held g n (inv a)) → v ≤ 4294967295 + share (is_inner held g a) (get_or bounds a 0)
    small_inv a node = let b = low has.inverter (a ∷ []) (match_inv cells has held g n a node) in let f = few has.inverter in omega (arith, b, f)

    small_gate : (picks : List (Option Gate)) → Sweeping cells areas held g n picks bounds → IsTrue (is_gate held g.nodes n)
        → (open_sum (open_at held g (n + 1 - held)) (bounds ++ v ∷ []) ≤ 4294967295 * (n + 1 - held)) × (v ≤ 4294967295 * (n + 1 - held))
    small_gate picks is gate =
        let k = gate_is_node held g n gate in
        go k.0 k.1 k.2 where
          with_place : (kind : Node) (node : IsNode held g n kind) (s : ℕ) → v ≤ 4294967295 + s
              → open_sum (open_at held g (suc node.place)) bounds + s ≤ open_sum (open_at held g node.place) bounds
              → (open_sum (open_at held g (n + 1 - held)) (bounds ++ v ∷ []) ≤ 4294967295 * (n + 1 - held)) × (v ≤ 4294967295 * (n + 1 - held))
          with_place kind node s most closed =
              let e = open_end (open_at held g (n + 1 - held)) bounds v in
              let small = is.small in
              let is_n = node.is in
              let here : n - held ≡ node.place = omega (arith, is_n) in
              let next : n + 1 - held ≡ suc node.place = omega (arith, is_n) in
              let t = ap (λ (i : ℕ). open_sum (open_at held g i) bounds) next in
              let u = ap (λ (i : ℕ). open_sum (open_at held g i) bounds) here in
              (omega (arith, e, small, here, next, t, u, most, closed), omega (arith, small, here, next, u, most, closed))

          go : (kind : Node) → IsNode held g n kind → is_logic kind ≡ true
              → (open_sum (open_at held g (n + 1 - held)) (bounds ++ v ∷ []) ≤ 4294967295 * (n + 1 - held)) × (v ≤ 4294967295 * (n + 1 - held))
          go (fixed b) node logic = cc
          go (inv a) node logic =
              with_place (inv a) node (share (is_inner held g a) (get_or bounds a 0)) (small_inv a node) (open_inv held g node.place a bounds node.at)
          go (nand a b) node logic = elim (cases_eq a b) [
            | inl same ↦
                let twice : IsNode held g n (nand a a) = subst (λ (k : ℕ). IsNode held g n (nand a k)) (sym same) node in
                let l = low has.inverter (a ∷ []) (match_twice cells has held g n a twice) in
                let f = few has.inverter in
                with_place (nand a a) twice (share (is_inner held g a) (get_or bounds a 0)) (omega (arith, l, f)) (open_twice held g twice.place a bounds twice.at)
            | inr differ ↦
                let l = low has.nand (a ∷ b ∷ []) (match_nand cells has held g n a b differ node) in
                let f = few has.nand in
                let c = open_nand held g node.place a b bounds differ node.at in
                with_place (nand a b) node (share (is_inner held g a) (get_or bounds a 0) + share (is_inner held g b) (get_or bounds b 0))
                (omega (arith, l, f)) (omega (arith, c))
          ]

-- what the best pick says
module _ (cells : List CellWord) (areas : List ℕ) (held : ℕ) (g : Graph) (n : ℕ) (picks : List (Option Gate)) (bounds : List ℕ)
    (narrow : (k : ℕ) → inputs_of cells k ≤ 6) (few : (k : ℕ) → get_or areas k 0 < 2 ^ 32) (has : HasGates cells)
    (earlier : EachReadsEarlier held g.nodes) (inside : n < held + length g.nodes)
    (is : Sweeping cells areas held g n picks bounds) (cuts : List (Cut 6)) (are : AreEnoughCuts held g (slice_index bounds) n cuts) where
  best_low : (p : Pick) → IsBestOf cells areas (is_inner held g) (slice_index bounds) cuts (length cuts) p → (k : ℕ) (order : List ℕ)
      → IsMatch cells held g n k order → p.cost ≤ get_or areas k 0 + inner_sum (is_inner held g) (slice_index bounds) order
  best_low p best k order m =
      let h = match_is_met cells held g (slice_index bounds) n cuts are k order narrow m in
      let l = best.least h.0 h.1 k h.2 (number_below cuts h.0 h.1 h.3) h.3 h.4 in
      let e = h.5 in
      omega (arith, l, e)

  best_is_match : (p : Pick) (best : IsBestOf cells areas (is_inner held g) (slice_index bounds) cuts (length cuts) p)
      → IsMatch cells held g n p.gate.cell p.gate.leaves.items
  best_is_match p best = enough_is_match cells held g (slice_index bounds) n cuts are best.place best.cut p.gate.cell p.gate.leaves.items best.at best.computes

  some_small : (p : Pick) → IsBestOf cells areas (is_inner held g) (slice_index bounds) cuts (length cuts) p
      → (open_sum (open_at held g (n + 1 - held)) (bounds ++ p.cost ∷ []) ≤ 4294967295 * (n + 1 - held)) × (p.cost ≤ 4294967295 * (n + 1 - held))
  some_small p best =
      let m = best_is_match p best in
      small_gate cells areas held g n bounds few has p.cost (best_low p best) picks is (cut_is_gate held g n m.members m.value m.cut)

  pub some_more : (p : Pick) → IsBestOf cells areas (is_inner held g) (slice_index bounds) cuts (length cuts) p
      → Sweeping cells areas held g (n + 1) (picks ++ Some p.gate ∷ []) (bounds ++ p.cost ∷ [])
  some_more p best =
      let m = best_is_match p best in
      let gate = cut_is_gate held g n m.members m.value m.cut in
      sweeping_more cells areas held g earlier n picks bounds is (Some p.gate) p.cost (λ e. let f : false ≡ true = sym e ∙ gate in cc) (best_low p best)
      (λ t. (p.gate, refl, m, best.costs)) (some_small p best).0

  pub some_fits : length g.nodes < 2 ^ 32 → (p : Pick) → IsBestOf cells areas (is_inner held g) (slice_index bounds) cuts (length cuts) p → p.cost < 2 ^ 64
  some_fits room p best = let s = (some_small p best).1 in omega (arith, s, room, inside)

  -- a gate has a match, so where there is none the number is no gate
  none_gate : NoneMatches cells cuts (length cuts) → is_gate held g.nodes n ≡ true → ⊥
  none_gate none gate = let k = gate_is_node held g n gate in go k.0 k.1 k.2 where
    out : (k : ℕ) (order : List ℕ) → IsMatch cells held g n k order → ⊥
    out k order m =
        let h = match_is_met cells held g (slice_index bounds) n cuts are k order narrow m in none h.0 h.1 k h.2 (number_below cuts h.0 h.1 h.3) h.3 h.4

    go : (kind : Node) → IsNode held g n kind → is_logic kind ≡ true → ⊥
    go (fixed b) node logic = cc
    go (inv a) node logic = out has.inverter (a ∷ []) (match_inv cells has held g n a node)
    go (nand a b) node logic = elim (cases_eq a b) [
      | inl same ↦ out has.inverter (a ∷ []) (match_twice cells has held g n a (subst (λ (k : ℕ). IsNode held g n (nand a k)) (sym same) node))
      | inr differ ↦ out has.nand (a ∷ b ∷ []) (match_nand cells has held g n a b differ node)
    ]

  not_true : (b : Bool) → (b ≡ true → ⊥) → b ≡ false
  not_true true h = absurd (h refl)
  not_true false h = refl

  pub none_more : NoneMatches cells cuts (length cuts) → Sweeping cells areas held g (n + 1) (picks ++ None ∷ []) (bounds ++ 0 ∷ [])
  none_more none =
      let out = none_gate none in
      sweeping_more cells areas held g earlier n picks bounds is None 0 (λ e. refl) (λ k order m. omega arith) (λ t. absurd (out t))
      (small_given cells areas held g n bounds picks is (not_true (is_gate held g.nodes n) out) inside)

  pub pick_more : (pick : Option Pick) → IfSome pick (λ p. IsBestOf cells areas (is_inner held g) (slice_index bounds) cuts (length cuts) p)
      → IfNone pick (NoneMatches cells cuts (length cuts))
      → Sweeping cells areas held g (n + 1) (picks ++ gate_of pick ∷ []) (bounds ++ cost_of pick ∷ [])
  pick_more None some none = none_more none
  pick_more (Some p) some none = some_more p some

  pub pick_fits : length g.nodes < 2 ^ 32 → (pick : Option Pick)
      → IfSome pick (λ p. IsBestOf cells areas (is_inner held g) (slice_index bounds) cuts (length cuts) p) → IfSome pick (λ p. p.cost < 2 ^ 64)
  pick_fits room None some = tt
  pick_fits room (Some p) some = some_fits room p some

-- the best by marks is the best in the graph
pub best_by : (cells : List CellWord) (areas : List ℕ) (inner other : ℕ → Bool) (b : ℕ → ℕ) (cuts : List (Cut 6)) (n : ℕ) (p : Pick)
    → ((x : ℕ) → inner x ≡ other x) → IsBestOf cells areas inner b cuts n p → IsBestOf cells areas other b cuts n p
best_by cells areas inner other b cuts n p same best = record {
  place = best.place;
  cut = best.cut;
  at = best.at;
  computes = best.computes;
  costs = best.costs ∙ ap (λ (k : ℕ). get_or areas p.gate.cell 0 + k) (inner_same inner other b p.gate.leaves.items same);
  least = λ i c k order low at does.
      let l = best.least i c k order low at does in
      let e = inner_same inner other b order same in
      omega (arith, l, e);
}

pub pick_by : (cells : List CellWord) (areas : List ℕ) (inner other : ℕ → Bool) (bounds kept : List ℕ) (cuts own : List (Cut 6)) (pick : Option Pick)
    → ((x : ℕ) → inner x ≡ other x) → bounds ≡ kept → cuts ≡ own
    → IfSome pick (λ p. IsBestOf cells areas inner (slice_index bounds) cuts (length cuts) p)
    → IfSome pick (λ p. IsBestOf cells areas other (slice_index kept) own (length own) p)
pick_by cells areas inner other bounds kept cuts own None same e f some = tt
pick_by cells areas inner other bounds kept cuts own (Some p) same e f some =
    subst (λ (l : List (Cut 6)). IsBestOf cells areas other (slice_index kept) l (length l) p) f
    (subst (λ (bs : List ℕ). IsBestOf cells areas other (slice_index bs) cuts (length cuts) p) e
    (best_by cells areas inner other (slice_index bounds) cuts (length cuts) p same some))

-- the same best, by the list as it is kept
pub own_best : (cells : List CellWord) (areas : List ℕ) (inner : ℕ → Bool) (bounds : List ℕ) (cuts own : List (Cut 6)) (pick : Option Pick) → cuts ≡ own
    → IfSome pick (λ p. IsBestOf cells areas inner (slice_index bounds) cuts (length cuts) p)
    → IfSome pick (λ p. IsBestOf cells areas inner (slice_index bounds) own (length own) p)
own_best cells areas inner bounds cuts own pick f some =
    subst (λ (l : List (Cut 6)). IfSome pick (λ p. IsBestOf cells areas inner (slice_index bounds) l (length l) p)) f some

pub none_by : (cells : List CellWord) (cuts own : List (Cut 6)) (pick : Option Pick) → cuts ≡ own → IfNone pick (NoneMatches cells cuts (length cuts))
    → IfNone pick (NoneMatches cells own (length own))
none_by cells cuts own None f none = subst (λ (l : List (Cut 6)). NoneMatches cells l (length l)) f none
none_by cells cuts own (Some p) f none = tt

-- ---- when all numbers are done

pub gate_below : (held : ℕ) (g : Graph) (x : ℕ) → is_gate held g.nodes x ≡ true → x < held + length g.nodes
gate_below held g x e =
    let k = gate_is_node held g x e in
    let is = k.1.is in
    let low = number_below g.nodes k.1.place k.0 k.1.at in
    omega (arith, is, low)

past_end : (xs : List ℕ) (i : ℕ) → length xs ≤ i → get_or xs i 0 ≡ 0
past_end [] i h = refl
past_end (x ∷ xs) zero h = absurd (omega arith)
past_end (x ∷ xs) (suc i) h = past_end xs i (omega arith)

module _ (cells : List CellWord) (areas : List ℕ) (held : ℕ) (g : Graph) (n : ℕ) (all : n ≡ held + length g.nodes) (picks : List (Option Gate)) (bounds : List ℕ)
    (is : Sweeping cells areas held g n picks bounds) where
  pub swept_picks : ArePicks cells areas held g bounds picks
  swept_picks = record {
    many = is.picks_many ∙ all;
    each = λ x gate. let b = gate_below held g x gate in is.each x (omega (arith, b, all)) gate;
  }

  pub swept_bounds : AreBounds cells areas held g bounds
  swept_bounds = record {
    many = is.bounds_many ∙ all;
    outside = λ x e. elim (cases_lt x n) [
      | inl low ↦ is.outside x low e
      | inr high ↦ let m = is.bounds_many in past_end bounds x (omega (arith, high, m))
    ];
    least = λ x k order m. let b = gate_below held g x (cut_is_gate held g x m.members m.value m.cut) in is.least x k order (omega (arith, b, all)) m;
  }

-- ---- bounds that are given

-- what is asked of one number
pub record IsLow (cells : List CellWord) (areas : List ℕ) (held : ℕ) (g : Graph) (bounds : List ℕ) (x : ℕ) : Type 0 where
  pub outside : is_gate held g.nodes x ≡ false → get_or bounds x 0 ≡ 0
  pub least : (k : ℕ) (order : List ℕ) → IsMatch cells held g x k order
      → get_or bounds x 0 ≤ get_or areas k 0 + inner_sum (is_inner held g) (slice_index bounds) order

module _ (cells : List CellWord) (areas : List ℕ) (held : ℕ) (g : Graph) (bounds : List ℕ) (n : ℕ) (narrow : (k : ℕ) → inputs_of cells k ≤ 6)
    (cuts : List (Cut 6)) (are : AreEnoughCuts held g (slice_index bounds) n cuts) (inner : ℕ → Bool) (same : (x : ℕ) → inner x ≡ is_inner held g x)
    (gate : Bool) (is_it : gate ≡ is_gate held g.nodes n) where
  pub low_of : (pick : Option Pick) → IfSome pick (λ p. IsBestOf cells areas inner (slice_index bounds) cuts (length cuts) p)
      → IfNone pick (NoneMatches cells cuts (length cuts)) → IsWithin gate (get_or bounds n 0) pick → IsLow cells areas held g bounds n
  low_of None some none within = record {
    outside = λ e. within.0 (is_it ∙ e);
    least = λ k order m.
        let h = match_is_met cells held g (slice_index bounds) n cuts are k order narrow m in
        absurd (none h.0 h.1 k h.2 (number_below cuts h.0 h.1 h.3) h.3 h.4);
  }
  low_of (Some p) some none within = record {
    outside = λ e. within.0 (is_it ∙ e);
    least = λ k order m.
        let h = match_is_met cells held g (slice_index bounds) n cuts are k order narrow m in
        let best = best_by cells areas inner (is_inner held g) (slice_index bounds) cuts (length cuts) p same some in
        let l = best.least h.0 h.1 k h.2 (number_below cuts h.0 h.1 h.3) h.3 h.4 in
        let e = h.5 in
        let w = within.1 in
        omega (arith, l, e, w);
  }

  pub within_of : (pick : Option Pick) → IfSome pick (λ p. IsBestOf cells areas inner (slice_index bounds) cuts (length cuts) p)
      → AreBounds cells areas held g bounds → IsWithin gate (get_or bounds n 0) pick
  within_of None some bounds_are = (λ e. bounds_are.outside n (sym is_it ∙ e), tt)
  within_of (Some p) some bounds_are =
      let best = best_by cells areas inner (is_inner held g) (slice_index bounds) cuts (length cuts) p same some in
      let m = enough_is_match cells held g (slice_index bounds) n cuts are best.place best.cut p.gate.cell p.gate.leaves.items best.at best.computes in
      let l = bounds_are.least n p.gate.cell p.gate.leaves.items m in
      let costs = best.costs in
      (λ e. bounds_are.outside n (sym is_it ∙ e), omega (arith, l, costs))

pub all_low : (cells : List CellWord) (areas : List ℕ) (held : ℕ) (g : Graph) (bounds : List ℕ) (n : ℕ) → n ≡ held + length g.nodes
    → length bounds ≡ held + length g.nodes → ((x : ℕ) → x < n → IsLow cells areas held g bounds x) → AreBounds cells areas held g bounds
all_low cells areas held g bounds n all many low = record {
  many = many;
  outside = λ x e. elim (cases_lt x n) [
    | inl less ↦ (low x less).outside e
    | inr high ↦ past_end bounds x (omega (arith, high, all, many))
  ];
  least = λ x k order m.
      let b = gate_below held g x (cut_is_gate held g x m.members m.value m.cut) in (low x (omega (arith, b, all))).least k order m;
}

-- ---- what the best pick asks of the cuts of a number

module _ (held : ℕ) (g : Graph) (earlier : EachReadsEarlier held g.nodes) (b : ℕ → ℕ) (n : ℕ) (cuts : List (Cut 6))
    (are : AreEnoughCuts held g b n cuts) where
  pub each_once : (i : ℕ) (c : Cut 6) → IsNumber cuts i c → (x : ℕ) → times x c.leaves.items ≤ 1
  each_once i c at = cut_once held g n c.leaves.items (λ f. cut_value c f) (are.sound i c at)

  pub each_below : (m : ℕ) → n ≤ m → (i : ℕ) (c : Cut 6) → IsNumber cuts i c → (x : ℕ) → 0 < times x c.leaves.items → x < m
  each_below m low i c at x some =
      let b = cut_earlier held g earlier n c.leaves.items (λ f. cut_value c f) (are.sound i c at) x some in omega (arith, b, low)

-- behind the last number nothing is a gate
pub inner_past : (held : ℕ) (g : Graph) (x : ℕ) → held + length g.nodes ≤ x → is_inner held g x ≡ false
inner_past held g x high = go (is_inner held g x) refl where
  go : (b : Bool) → is_inner held g x ≡ b → b ≡ false
  go true e = let low = gate_below held g x (left_true (is_gate held g.nodes x) _ e) in absurd (omega (arith, low, high))
  go false e = refl

pub bit_past : (xs : List Bool) (i : ℕ) → length xs ≤ i → bit xs i ≡ false
bit_past [] i h = refl
bit_past (x ∷ xs) zero h = absurd (omega arith)
bit_past (x ∷ xs) (suc i) h = bit_past xs i (omega arith)

pub bit_front : (xs : List Bool) (b : Bool) (i : ℕ) → i < length xs → bit (xs ++ b ∷ []) i ≡ bit xs i
bit_front xs b i h = at_front xs b false i h

pub bit_last : (xs : List Bool) (b : Bool) (i : ℕ) → length xs ≡ i → bit (xs ++ b ∷ []) i ≡ b
bit_last xs b i e = at_there xs b false i e
