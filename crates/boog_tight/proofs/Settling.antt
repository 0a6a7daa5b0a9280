-- The loop of the pass.
use Rattle.std.proofs.Common.{◌≡◌, ◌≢◌, inl, inr, ℕ, ◌+◌, ◌<◌, ◌≤◌, List, length, slice_index, Option, Some, ap, refl, sym, subst, ◌∙◌, arith}
use Rattle.std.proofs.lemmas.Bool.{cases_lt}
use Rattle.cell_match.specs.declared.gate.CellWord.{CellWord}
use Rattle.cell_match.specs.declared.gate.Gate.{Gate}
use Rattle.boog_tight.specs.declared.pass.Fused.{Fused}
use Rattle.cell_match.specs.Places.{times}
use Rattle.boog_tight.specs.Cover.{gate_at, leaves_of, IsCover}
use Rattle.boog_tight.specs.Tight.{IsPair, IsTight, IsTightBelow}
use Rattle.boog_tight.specs.Kept.{live, ReadsThrough, pin, through, Keeps}
use Rattle.boog_tight.specs.Uses.{AreUses, IsFused, NoneFused, exchanged, read_by}
use Rattle.boog_tight.proofs.Counting.{used_twice, gate_there, leaves_at}
use Rattle.boog_tight.proofs.Merging.{used_merged, few, long, keeps_merged, live_merged, tight_merged}

pub keeps_refl : (cells : List CellWord) (given : ℕ) (roots : List ℕ) (gates : List (Option Gate)) → IsCover cells given gates roots
    → Keeps cells given roots gates gates
keeps_refl cells given roots gates cover = record {
  cover = cover;
  long = refl;
  fewer = λ x h. h;
  read = λ a x h. pin h;
  pins = omega arith;
  needed = λ h. h;
  same = λ f h. h;
}

-- what is read by way of the second gates, where each of their pins is read by way of the first
lifted : (one two : List (Option Gate)) → ((a x : ℕ) → 0 < times x (leaves_of (gate_at two a)) → ReadsThrough one a x) → (a x : ℕ)
    → ReadsThrough two a x → ReadsThrough one a x
lifted one two each a x (pin h) = each a x h
lifted one two each a x (through {b = b} s t) = through {b = b} (lifted one two each a b s) (lifted one two each b x t)

pub keeps_trans : (cells : List CellWord) (given : ℕ) (roots : List ℕ) (one two three : List (Option Gate))
    → Keeps cells given roots one two → Keeps cells given roots two three → Keeps cells given roots one three
keeps_trans cells given roots one two three p q = record {
  cover = q.cover;
  long = q.long ∙ p.long;
  fewer = λ x h. q.fewer x (p.fewer x h);
  read = λ a x h. lifted one two p.read a x (q.read a x h);
  pins = let e = p.pins in let f = q.pins in omega arith;
  needed = λ h. q.needed (p.needed h);
  same = λ f h. q.same f (p.same f h);
}

-- what the loop keeps
pub record Settling (cells : List CellWord) (given : ℕ) (roots : List ℕ) (old : List (Option Gate)) (j : ℕ) (gates : List (Option Gate)) (counts : List ℕ)
    : Type 0 where
  pub keeps : Keeps cells given roots old gates
  pub counted : AreUses gates roots counts
  pub tight : IsTightBelow cells gates roots j

module _ (cells : List CellWord) (given : ℕ) (roots : List ℕ) (gates : List (Option Gate)) (counts : List ℕ) (j : ℕ)
    (cover : IsCover cells given gates roots) (counted : AreUses gates roots counts) (found : Fused) (is : IsFused cells gates counts j found) where
  there_inner : found.inner < length gates
  there_inner = gate_there gates found.inner is.first is.at_inner

  pub is_pair : IsPair gates roots found.inner j is.first is.second
  is_pair = record {
    inner = is.at_inner;
    outer = is.at_j;
    reads = is.reads;
    alone = sym (counted.each found.inner there_inner) ∙ is.alone;
  }

  pub inner_there : found.inner < length gates
  inner_there = there_inner

  pub apart : found.inner < j
  apart = (cover.gate j is.second is.at_j).earlier found.inner is.reads

  by_second : (x : ℕ) → read_by gates j x ≡ times x is.second.leaves.items
  by_second x = ap (times x) (leaves_at gates j is.second is.at_j)

  by_first : (x : ℕ) → read_by gates found.inner x ≡ times x is.first.leaves.items
  by_first x = ap (times x) (leaves_at gates found.inner is.first is.at_inner)

  pub few_more : (x : ℕ) → times x found.gate.leaves.items ≤ read_by gates j x + read_by gates found.inner x
  few_more x =
      let e = few cells given gates roots found.inner j is.first is.second cover is_pair found.gate is.computes x in
      let f = by_second x in let g = by_first x in omega arith

  low_leaf : (x : ℕ) → 0 < read_by gates j x + read_by gates found.inner x → x < length gates
  low_leaf x some =
      let there = gate_there gates j is.second is.at_j in
      let f = by_second x in
      let g = by_first x in
      elim (cases_lt 0 (times x is.second.leaves.items)) [
        | inl yes_second ↦ let e = (cover.gate j is.second is.at_j).earlier x yes_second in omega arith
        | inr none ↦
            let a = apart in
            let e = (cover.gate found.inner is.first is.at_inner).earlier x (omega arith) in
            omega arith
      ]

  pub inside : (x : ℕ) → 0 < read_by gates j x + (read_by gates found.inner x + times x found.gate.leaves.items) → x < length gates
  inside x some = low_leaf x (let e = few_more x in omega arith)

  pub enough : (x : ℕ) → read_by gates j x + read_by gates found.inner x ≤ slice_index counts x
  enough x = elim (cases_lt x (length gates)) [
    | inl low ↦
        let e = counted.each x low in
        let a = apart in
        let not_same : j ≢ found.inner = omega arith in
        let t = used_twice x gates j found.inner is.second is.first not_same is.at_j is.at_inner in
        let f = by_second x in
        let g = by_first x in
        omega arith
    | inr high ↦ elim (cases_lt 0 (read_by gates j x + read_by gates found.inner x)) [
      | inl some ↦ let e = low_leaf x some in absurd (omega arith)
      | inr none ↦ omega arith
    ]
  ]

  pub settling_more : (old : List (Option Gate)) (next : List (Option Gate)) (numbers : List ℕ) → Settling cells given roots old j gates counts
      → next ≡ exchanged gates found.inner j found.gate
      → length numbers ≡ length counts
      → ((x : ℕ) → slice_index numbers x + (read_by gates j x + read_by gates found.inner x) ≡ slice_index counts x + times x found.gate.leaves.items)
      → Settling cells given roots old j next numbers × (live next < live gates)
  settling_more old next numbers before is_next many each = subst
      (λ (gs : List (Option Gate)). Settling cells given roots old j gs numbers × (live gs < live gates)) (sym is_next) (
        record {
          keeps = keeps_trans cells given roots old gates _ before.keeps (keeps_merged cells given gates roots found.inner j is.first is.second cover is_pair found.gate is.computes);
          counted = record {
            long = (let e = long cells given gates roots found.inner j is.first is.second cover is_pair found.gate is.computes in let f = counted.long in omega arith);
            each = λ x low.
                let l = long cells given gates roots found.inner j is.first is.second cover is_pair found.gate is.computes in
                let e = each x in
                let now = counted.each x (omega arith) in
                let u = used_merged cells given gates roots found.inner j is.first is.second cover is_pair found.gate is.computes x in
                let f = by_second x in
                let g = by_first x in
                omega arith;
          };
          tight = tight_merged cells given gates roots found.inner j is.first is.second cover is_pair found.gate is.computes before.tight;
        },
        (let e = live_merged cells given gates roots found.inner j is.first is.second cover is_pair found.gate is.computes in omega arith),
      )

-- where nothing is found the gate of node j is as tight as those before it
pub tight_more : (cells : List CellWord) (gates : List (Option Gate)) (roots counts : List ℕ) (j : ℕ) → AreUses gates roots counts
    → NoneFused cells gates counts j → IsTightBelow cells gates roots j → IsTightBelow cells gates roots (j + 1)
tight_more cells gates roots counts j counted none tight a b h g k order low pair computes = elim (cases_lt b j) [
  | inl less ↦ tight a b h g k order less pair computes
  | inr not_less ↦
      let same : b ≡ j = omega arith in
      none a h g k order pair.inner (subst (λ (n : ℕ). gate_at gates n ≡ Some g) same pair.outer) pair.reads
      (counted.each a (gate_there gates a h pair.inner) ∙ pair.alone) computes
]

pub tight_all : (cells : List CellWord) (gates : List (Option Gate)) (roots : List ℕ) (n : ℕ) → length gates ≤ n → IsTightBelow cells gates roots n
    → IsTight cells gates roots
tight_all cells gates roots n all tight a b h g k order pair computes =
    let there = gate_there gates b g pair.outer in tight a b h g k order (omega arith) pair computes

pub tight_none : (cells : List CellWord) (gates : List (Option Gate)) (roots : List ℕ) → IsTightBelow cells gates roots 0
tight_none cells gates roots a b h g k order low pair computes = omega arith
