-- Each node has a gate.
use Rattle.std.proofs.Common.{◌≡◌, inl, inr, ℕ, ◌+◌, ◌*◌, ◌<◌, ◌≤◌, Bool, not, ◌&&◌, true, false, List, [], ◌∷◌, length, Option, None, Some, ap, refl, sym, subst, ◌∙◌, arith}
use Prim.Native.Nat.{zero, suc}
use Rattle.std.proofs.Math.Nat.{mul-suc}
use Rattle.std.proofs.lemmas.Bool.{cases_eq, cases_lt}
use Rattle.net_theory.specs.Sources.{IsNumber}
use Rattle.net_theory.proofs.Basics.{at_number}
use Rattle.graph_theory.specs.Graph.{Node, fixed, inv, nand}
use Rattle.cell_match.specs.declared.gate.CellWord.{CellWord}
use Rattle.cell_match.specs.declared.gate.Gate.{Gate}
use Rattle.cell_match.specs.Places.{times}
use Rattle.boog_tight.specs.Cover.{leaves_of, gate_at, IsCover, AreTrue, used, uses}
use Rattle.cell_match.proofs.Numbers.{one_tells}
use Rattle.cell_match.specs.declared.cut.Cut.{Cut}
use Rattle.boog_tight.specs.Kept.{leaf_count, ReadsThrough, pin, through, EachIsUsed, Keeps}
use Rattle.boog_tight.specs.Tight.{IsTight}
use Rattle.boog_tight.proofs.Counting.{gate_there}
use Rattle.cell_match.specs.Computes.{cut_value, ComputesCut}
use Rattle.boog_cuts.specs.Reads.{Reaches, itself, step}
use Rattle.boog_cuts.specs.Cuts.{AreValues, node_value, AreInputs, IsCutTable}
use Rattle.boog_cuts.proofs.Whole.{reached_through}
use Rattle.boog_cover.specs.Choices.{StandsAt, AreChosen}
use Rattle.boog_cover.specs.Pruned.{IsFull, IsPruned}
use Rattle.boog_cover.specs.Covered.{HasCells, IsNeeded, root, read, IsCoveredWith}
use Rattle.boog_cover.proofs.Pruning.{used_by}

same_and : (x : Bool) → (x && x) ≡ x
same_and true = refl
same_and false = refl

module _ {K : ℕ} (cells : List CellWord) (has : HasCells cells) where
  computes_direct : (kind : Node) (c : Cut K) → AreInputs kind c.leaves.items → ((f : ℕ → Bool) → cut_value c f ≡ node_value kind f)
      → (k : ℕ) × (order : List ℕ) × ComputesCut cells k order c
  computes_direct (fixed b) c inputs value =
      let h = has.has_fixed b in (
        h.cell,
        [],
        record {
          there = h.there;
          many = sym h.inputs;
          once = λ x. omega arith;
          members = λ x. (λ some. absurd (omega arith), λ some. let e = ap (λ (xs : List ℕ). times x xs) inputs in absurd (omega arith));
          value = λ f. h.value ∙ sym (value f);
        },
      )
  computes_direct (inv a) c inputs value =
      let h = has.has_inv in (
        h.cell,
        a ∷ [],
        record {
          there = h.there;
          many = sym h.inputs;
          once = λ x. elim (one_tells a x) [
            | inl is ↦ let o = is.1 in omega arith
            | inr isnt ↦ let o = isnt.1 in omega arith
          ];
          members = λ x. let e = ap (λ (xs : List ℕ). times x xs) inputs in (λ some. omega arith, λ some. omega arith);
          value = λ f. h.value (f a) ∙ sym (value f);
        },
      )
  computes_direct (nand a b) c inputs value = elim (cases_eq a b) [
    | inl same ↦
        let h = has.has_inv in (
          h.cell,
          a ∷ [],
          record {
            there = h.there;
            many = sym h.inputs;
            once = λ x. elim (one_tells a x) [
              | inl is ↦ let o = is.1 in omega arith
              | inr isnt ↦ let o = isnt.1 in omega arith
            ];
            members = λ x.
                let e : times x (b ∷ []) ≡ times x (a ∷ []) = ap (λ (n : ℕ). times x (n ∷ [])) (sym same) in (
                  λ some. (inputs.members x).1 (inl some),
                  λ some. elim ((inputs.members x).0 some) [
                    | inl by ↦ by
                    | inr by ↦ omega arith
                  ],
                );
            value = λ f. h.value (f a) ∙ ap not (sym (same_and (f a)) ∙ ap (λ (n : ℕ). f a && f n) same) ∙ sym (value f);
          },
        )
    | inr other ↦
        let h = has.has_nand in (
          h.cell,
          a ∷ b ∷ [],
          record {
            there = h.there;
            many = sym h.inputs;
            once = λ x. elim (one_tells a x) [
              | inl is ↦ let o = is.1 in elim (one_tells b x) [
                | inl too ↦ absurd (other (is.0 ∙ sym too.0))
                | inr isnt ↦ let p = isnt.1 in omega arith
              ]
              | inr isnt ↦ let o = isnt.1 in elim (one_tells b x) [
                | inl is ↦ let p = is.1 in omega arith
                | inr not_b ↦ let p = not_b.1 in omega arith
              ]
            ];
            members = λ x. (
              λ some. elim (cases_lt 0 (times x (a ∷ []))) [
                | inl by ↦ (inputs.members x).1 (inl by)
                | inr none ↦ (inputs.members x).1 (inr (omega arith))
              ],
              λ some. elim ((inputs.members x).0 some) [
                | inl by ↦ omega arith
                | inr by ↦ omega arith
              ],
            );
            value = λ f. h.value (f a) (f b) ∙ sym (value f);
          },
        )
  ]

  -- so each number from `held` on has its gate
  pub chosen_full : (held : ℕ) (nodes : List Node) (lists : List (List (Cut K))) (gates : List (Option Gate)) → IsCutTable held nodes lists
      → AreChosen cells held nodes lists gates → IsFull held gates
  chosen_full held nodes lists gates table chosen = record {
    given = chosen.given;
    there = λ a above below.
        let many = chosen.many in
        let more = table.many in
        let list = at_number lists a (omega arith) in
        let place = gap held a above in
        let e = place.1 in
        let kind = at_number nodes place.0 (omega arith) in
        let at : IsNumber lists (held + place.0) list.0 = subst (λ (n : ℕ). IsNumber lists n list.0) e list.1 in
        let direct = table.direct place.0 kind.0 list.0 kind.1 at in
        let does = computes_direct kind.0 direct.cut direct.inputs direct.value in
        some_gate (gate_at gates a) (λ none. chosen.missing a list.0 above list.1 none 0 direct.cut does.0 does.1 direct.second does.2);
    earlier = λ a x some. low a x (gate_at gates a) refl some;
  } where
    gap : (m n : ℕ) → m ≤ n → (d : ℕ) × (n ≡ m + d)
    gap zero n h = (n, omega arith)
    gap (suc m) zero h = absurd (omega arith)
    gap (suc m) (suc n) h = let rest = gap m n (omega arith) in (rest.0, let e = rest.1 in omega arith)

    some_gate : (o : Option Gate) → (o ≡ None → ⊥) → (g : Gate) × (o ≡ Some g)
    some_gate None h = absurd (h refl)
    some_gate (Some g) h = (g, refl)

    low : (a x : ℕ) (o : Option Gate) → gate_at gates a ≡ o → 0 < times x (leaves_of o) → x < a
    low a x None e some = absurd (omega arith)
    low a x (Some g) e some = (chosen.stands a g e).is_gate.earlier x some

-- pins of gates of k at most, of which none shows an input or a register
pins_few : (k held n : ℕ) (gates : List (Option Gate)) → length gates ≡ held + n → ((a : ℕ) → a < held → gate_at gates a ≡ None)
    → ((a : ℕ) (g : Gate) → gate_at gates a ≡ Some g → length g.leaves.items ≤ k) → leaf_count gates ≤ k * n
pins_few k held n [] long given few = omega arith
pins_few k (suc held) n (o ∷ gates) long given few =
    let rest = pins_few k held n gates (omega arith) (λ a low. given (suc a) (omega arith)) (λ a g e. few (suc a) g e) in
    let none = ap (λ (p : Option Gate). length (leaves_of p)) (given 0 (omega arith)) in
    omega arith
pins_few k zero zero (o ∷ gates) long given few = absurd (omega arith)
pins_few k zero (suc n) (o ∷ gates) long given few =
    let rest = pins_few k zero n gates (omega arith) (λ a low. absurd (omega arith)) (λ a g e. few (suc a) g e) in
    let one = at_most o (few 0) in
    let more = mul-suc k n in
    omega arith where
      at_most : (p : Option Gate) → ((g : Gate) → p ≡ Some g → length g.leaves.items ≤ k) → length (leaves_of p) ≤ k
      at_most None h = omega arith
      at_most (Some g) h = h g refl

-- what is reached from what is needed is needed
needed_through : (held : ℕ) (nodes : List Node) (roots : List ℕ) (b x : ℕ) → IsNeeded held nodes roots b → Reaches held nodes b x → IsNeeded held nodes roots x
needed_through held nodes roots b x needed itself = needed
needed_through held nodes roots b x needed (step j kind r at is) = read j kind (needed_through held nodes roots b (held + j) needed r) at is

module _ (held : ℕ) (nodes : List Node) (roots : List ℕ) (gates : List (Option Gate))
    (reaches : (b x : ℕ) → 0 < times x (leaves_of (gate_at gates b)) → Reaches held nodes b x)
    (earlier : (b x : ℕ) (g : Gate) → gate_at gates b ≡ Some g → 0 < times x g.leaves.items → x < b) (used_each : EachIsUsed gates roots) where
  reader : (a : ℕ) → 0 < used a gates → (b : ℕ) × (g : Gate) × (gate_at gates b ≡ Some g) × (0 < times a (leaves_of (gate_at gates b)))
  reader a some = let by = used_by a gates some in there by.0 (gate_at gates by.0) refl by.1 where
    there : (b : ℕ) (o : Option Gate) → gate_at gates b ≡ o → 0 < times a (leaves_of (gate_at gates b))
        → (b : ℕ) × (g : Gate) × (gate_at gates b ≡ Some g) × (0 < times a (leaves_of (gate_at gates b)))
    there b None e h = let f = ap (λ (o : Option Gate). times a (leaves_of o)) e in absurd (omega arith)
    there b (Some g) e h = (b, g, e, h)

  low_reader : (a b : ℕ) (g : Gate) → gate_at gates b ≡ Some g → 0 < times a (leaves_of (gate_at gates b)) → a < b
  low_reader a b g e h = earlier b a g e (subst (λ (o : Option Gate). 0 < times a (leaves_of o)) e h)

  -- what is read is needed, from the last number on
  all_needed : (n a : ℕ) → length gates ≤ a + n → 0 < uses gates roots a → IsNeeded held nodes roots a
  all_needed zero a most some = elim (cases_lt 0 (times a roots)) [
    | inl by_root ↦ root by_root
    | inr none ↦
        let by = reader a (omega arith) in
        let low = low_reader a by.0 by.1 by.2 by.3 in let inside = gate_there gates by.0 by.1 by.2 in absurd (omega arith)
  ]
  all_needed (suc n) a most some = elim (cases_lt 0 (times a roots)) [
    | inl by_root ↦ root by_root
    | inr none ↦
        let by = reader a (omega arith) in
        let low = low_reader a by.0 by.1 by.2 by.3 in
        needed_through held nodes roots by.0 a (all_needed n by.0 (omega arith) (used_each by.0 by.1 by.2)) (reaches by.0 a by.3)
  ]

-- with fewer pins
pub with_fewer : (k m : ℕ) (cells : List CellWord) (held : ℕ) (nodes : List Node) (roots : List ℕ) (gates : List (Option Gate))
    → IsCoveredWith k cells held nodes roots gates → leaf_count gates ≤ m * length nodes → IsCoveredWith m cells held nodes roots gates
with_fewer k m cells held nodes roots gates is few = record {
  long = is.long;
  given = is.given;
  cover = is.cover;
  value = is.value;
  tight = is.tight;
  needed = is.needed;
  below = is.below;
  few = few;
}

-- what is left covers the graph
module _ (cells : List CellWord) (held : ℕ) (nodes : List Node) (first second : List (Option Gate)) (roots : List ℕ)
    (stands : (a : ℕ) (g : Gate) → gate_at first a ≡ Some g → StandsAt cells held nodes a g) (pruned : IsPruned held first second roots) where
  before : (a : ℕ) (g : Gate) → gate_at second a ≡ Some g → gate_at first a ≡ Some g
  before a g e = elim (pruned.of a) [
    | inl same ↦ sym same ∙ e
    | inr none ↦ let f : None ≡ Some g = sym none ∙ e in cc
  ]

  pub pruned_covers : IsCover cells held second roots
  pruned_covers = record {
    gate = λ a g e. (stands a g (before a g e)).is_gate;
    closed = pruned.closed;
  }

  pub pruned_true : (f : ℕ → Bool) → AreValues held nodes f → AreTrue cells second f
  pruned_true f values a g e = (stands a g (before a g e)).value f values

  pub pruned_inside : held ≤ length second → (x : ℕ) → 0 < uses second roots x → x < length second
  pruned_inside low x some = elim (pruned.closed x some) [
    | inl given ↦ omega arith
    | inr there ↦ gate_there second x there.0 there.1
  ]

  pub pruned_given : ((a : ℕ) → a < held → gate_at first a ≡ None) → (a : ℕ) → a < held → gate_at second a ≡ None
  pruned_given given a low = elim (pruned.of a) [
    | inl same ↦ same ∙ given a low
    | inr none ↦ none
  ]

  pins_second : (k : ℕ) → length second ≡ held + length nodes → ((a : ℕ) → a < held → gate_at first a ≡ None)
      → ((a : ℕ) (g : Gate) → gate_at first a ≡ Some g → length g.leaves.items ≤ k) → leaf_count second ≤ k * length nodes
  pins_second k long given few = pins_few k held (length nodes) second long (pruned_given given) (λ a g e. few a g (before a g e))

  pin_reached : (a x : ℕ) (o : Option Gate) → gate_at second a ≡ o → 0 < times x (leaves_of o) → Reaches held nodes a x
  pin_reached a x None e some = absurd (omega arith)
  pin_reached a x (Some g) e some = (stands a g (before a g e)).reached x some

  read_reached : (a x : ℕ) → ReadsThrough second a x → Reaches held nodes a x
  read_reached a x (pin h) = pin_reached a x (gate_at second a) refl h
  read_reached a x (through {b = b} s t) = reached_through held nodes a b x (read_reached a b s) (read_reached b x t)

  pub covers : (k : ℕ) (last : List (Option Gate)) → length second ≡ held + length nodes → ((a : ℕ) → a < held → gate_at first a ≡ None)
      → ((a : ℕ) (g : Gate) → gate_at first a ≡ Some g → length g.leaves.items ≤ k)
      → Keeps cells held roots second last → IsTight cells last roots → IsCoveredWith k cells held nodes roots last
  covers k last long given few keeps tight = record {
    needed = keeps.needed pruned.needed;
    below = λ a some. all_needed held nodes roots last (λ b x h. read_reached b x (keeps.read b x h))
        (λ b x g e. (keeps.cover.gate b g e).earlier x) (keeps.needed pruned.needed) (length last) a (omega arith) some;
    few = let p = keeps.pins in let q = pins_second k long given few in omega arith;
    long = keeps.long ∙ long;
    given = λ a low. keeps.fewer a (pruned_given given a low);
    cover = keeps.cover;
    value = λ f values. keeps.same f (pruned_true f values);
    tight = tight;
  }
