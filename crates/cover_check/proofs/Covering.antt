-- A cover with another gate.
use Rattle.std.proofs.Common.{◌≡◌, ◌∙◌, ℕ, ◌+◌, ◌<◌, ◌≤◌, List, length, take, Some, None, Option, get_or, set, sym, subst, ap, inl, inr, get_or-set_same, get_or-set_other, arith}
use Rattle.std.proofs.lemmas.Bool.{cases_eq, cases_lt}
use Rattle.cell_match.specs.declared.gate.CellWord.{CellWord}
use Rattle.cell_match.specs.declared.gate.Gate.{Gate}
use Rattle.cell_match.specs.Places.{times}
use Rattle.cell_match.specs.Cells.{IsGate}
use Rattle.cell_match.proofs.Numbers.{one_tells, times_more}
use Rattle.boog_tight.specs.Cover.{uses}
use Rattle.boog_tight.proofs.Counting.{used_set}
use Rattle.cover_check.specs.Covering.{IsShown, AreShown, KeepCover}

shown_set : (given : ℕ) (gates : List (Option Gate)) (n : ℕ) (gate : Gate) (x : ℕ) → n < length gates → IsShown given gates x
    → IsShown given (set gates n (Some gate)) x
shown_set given gates n gate x low (inl first) = inl first
shown_set given gates n gate x low (inr (g, at)) = elim (cases_eq x n) [
  | inl same ↦ inr (gate, ap (λ (k : ℕ). get_or (set gates n (Some gate)) k None) same ∙ get_or-set_same gates n (Some gate) None low)
  | inr other ↦ inr (g, get_or-set_other gates n x (Some gate) None other ∙ at)
]

pub keep_cover : (cells : List CellWord) (given : ℕ) (gates : List (Option Gate)) (n : ℕ) (gate : Gate) → n < length gates
    → IsGate cells n gate → AreShown given gates gate.leaves.items → IsShown 0 gates n → KeepCover cells given gates (set gates n (Some gate))
keep_cover cells given gates n gate low is shown there = record {
  cover = λ roots old. record {
    gate = λ j g at. elim (cases_eq j n) [
      | inl same ↦
          let here : get_or (set gates n (Some gate)) j None ≡ Some gate =
          ap (λ (k : ℕ). get_or (set gates n (Some gate)) k None) same ∙ get_or-set_same gates n (Some gate) None low in
          let it : gate ≡ g = cc (at, here) in
          subst (λ (k : ℕ). IsGate cells k g) (sym same) (subst (λ (x : Gate). IsGate cells n x) it is)
      | inr other ↦ old.gate j g (sym (get_or-set_other gates n j (Some gate) None other) ∙ at)
    ];
    closed = λ x h. elim (cases_lt 0 (uses gates roots x)) [
      | inl before ↦ shown_set given gates n gate x low (old.closed x before)
      | inr not_before ↦
          let e = used_set x gates n (Some gate) low in
          shown_set given gates n gate x low (shown.each x (omega (arith, e, h, not_before)))
    ];
  };
  fewer = λ x none. elim (cases_eq x n) [
    | inl same ↦ absurd (not_none there (ap (λ (k : ℕ). get_or gates k None) (sym same) ∙ none))
    | inr other ↦ get_or-set_other gates n x (Some gate) None other ∙ none
  ];
  more = λ x g at. elim (cases_eq x n) [
    | inl same ↦ (gate, ap (λ (k : ℕ). get_or (set gates n (Some gate)) k None) same ∙ get_or-set_same gates n (Some gate) None low)
    | inr other ↦ (g, get_or-set_other gates n x (Some gate) None other ∙ at)
  ];
} where
  not_none : IsShown 0 gates n → get_or gates n None ≡ None → ⊥
  not_none (inl first) e = absurd (omega arith)
  not_none (inr (g, at)) e = cc

-- one leaf more
pub record AreFit (given : ℕ) (gates : List (Option Gate)) (node : ℕ) (leaves : List ℕ) : Type 0 where
  pub once : (x : ℕ) → times x leaves ≤ 1
  pub earlier : (x : ℕ) → 0 < times x leaves → x < node
  pub shown : (x : ℕ) → 0 < times x leaves → IsShown given gates x

pub fit_more : (given : ℕ) (gates : List (Option Gate)) (node : ℕ) (leaves : List ℕ) (k : ℕ) → k < length leaves → get_or leaves k 0 < node
    → IsShown given gates (get_or leaves k 0) → times (get_or leaves k 0) (take k leaves) ≡ 0 → AreFit given gates node (take k leaves)
    → AreFit given gates node (take (k + 1) leaves)
fit_more given gates node leaves k low less shown new old = record {
  once = λ x. let e = times_more x leaves k low in elim (one_tells (get_or leaves k 0) x) [
    | inl same ↦
        let none : times x (take k leaves) ≡ 0 = subst (λ (y : ℕ). times y (take k leaves) ≡ 0) same.0 new in
        let one_here = same.1 in
        omega (arith, e, none, one_here)
    | inr other ↦ let few = old.once x in let zero_here = other.1 in omega (arith, e, few, zero_here)
  ];
  earlier = λ x h. let e = times_more x leaves k low in elim (one_tells (get_or leaves k 0) x) [
    | inl same ↦ subst (λ (y : ℕ). y < node) same.0 less
    | inr other ↦ let zero_here = other.1 in old.earlier x (omega (arith, e, zero_here, h))
  ];
  shown = λ x h. let e = times_more x leaves k low in elim (one_tells (get_or leaves k 0) x) [
    | inl same ↦ subst (λ (y : ℕ). IsShown given gates y) same.0 shown
    | inr other ↦ let zero_here = other.1 in old.shown x (omega (arith, e, zero_here, h))
  ];
}
