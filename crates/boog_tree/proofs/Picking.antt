-- The best of the matches at a list of cuts.
use Rattle.std.proofs.Common.{◌≡◌, inl, inr, ℕ, ◌+◌, ◌<◌, ◌≤◌, Bool, List, get_or, Option, None, Some, IfSome, IfNone, IsSomeAnd, subst, arith, if◌then◌else◌}
use Rattle.std.proofs.lemmas.Bool.{cases_lt}
use Rattle.net_theory.specs.Sources.{IsNumber}
use Rattle.net_theory.proofs.Basics.{number_once}
use Rattle.cell_match.specs.declared.gate.CellWord.{CellWord}
use Rattle.cell_match.specs.declared.gate.Gate.{Gate}
use Rattle.cell_match.specs.declared.cut.Cut.{Cut}
use Rattle.cell_match.specs.Computes.{ComputesCut}
use Rattle.boog_tree.specs.Sums.{inner_sum}
use Rattle.boog_tree.specs.Picked.{AreRising, IsBestOf, NoneMatches}
use Rattle.boog_tree.specs.declared.pick.Pick.{Pick}
use Rattle.boog_tree.proofs.Totals.{total_listed, once_same}

-- what the loop keeps
pub record Picking (cells : List CellWord) (areas : List ℕ) (inner : ℕ → Bool) (b : ℕ → ℕ) (cuts : List (Cut 6)) (n : ℕ) (best : Option Pick) : Type 0 where
  pub some : IfSome best (λ p. IsBestOf cells areas inner b cuts n p)
  pub none : IfNone best (NoneMatches cells cuts n)

pub picking_none : (cells : List CellWord) (areas : List ℕ) (inner : ℕ → Bool) (b : ℕ → ℕ) (cuts : List (Cut 6)) → Picking cells areas inner b cuts 0 None
picking_none cells areas inner b cuts = record { some = tt; none = λ i c k order low at does. absurd (omega (arith, low)) }

module _ (cells : List CellWord) (areas : List ℕ) (inner : ℕ → Bool) (b : ℕ → ℕ) (cuts : List (Cut 6)) (rising : AreRising cells areas)
    (i : ℕ) (cut : Cut 6) (at : IsNumber cuts i cut) where
  -- the first cell that computes the cut costs least there
  first_low : (g : Gate) → ComputesCut cells g.cell g.leaves.items cut → ((k : ℕ) (order : List ℕ) → ComputesCut cells k order cut → g.cell ≤ k)
      → (k : ℕ) (order : List ℕ) → ComputesCut cells k order cut
      → get_or areas g.cell 0 + inner_sum inner b g.leaves.items ≤ get_or areas k 0 + inner_sum inner b order
  first_low g does first k order other =
      let there = other.there in
      let many = rising.many in
      let low = rising.rising g.cell k (first k order other) (omega (arith, there, many)) in
      let same = total_listed (λ x. if inner x then b x else 0) g.leaves.items order (λ x.
      once_same g.leaves.items order x (does.once x) (other.once x) (λ some. (other.members x).1 ((does.members x).0 some)) (λ some. (does.members x).1 ((other.members x).0 some))) in
      omega (arith, low, same)

  module _ (g : Gate) (cost : ℕ) (does : ComputesCut cells g.cell g.leaves.items cut)
      (first : (k : ℕ) (order : List ℕ) → ComputesCut cells k order cut → g.cell ≤ k)
      (is_cost : cost ≡ get_or areas g.cell 0 + inner_sum inner b g.leaves.items) where
    here_low : (c : Cut 6) (k : ℕ) (order : List ℕ) → IsNumber cuts i c → ComputesCut cells k order c → cost ≤ get_or areas k 0 + inner_sum inner b order
    here_low c k order h other =
        let l = first_low g does first k order (subst (λ (d : Cut 6). ComputesCut cells k order d) (number_once cuts i c cut h at) other) in
        omega (arith, l, is_cost)

    pub picked_new : (best : Option Pick) → IfSome best (λ p. IsBestOf cells areas inner b cuts i p) → IfNone best (NoneMatches cells cuts i)
        → IfSome best (λ p. cost ≤ p.cost) → Picking cells areas inner b cuts (i + 1) (Some (record { gate = g; cost = cost }))
    picked_new best some none less = record {
      some = record {
        place = i;
        cut = cut;
        at = at;
        computes = does;
        costs = is_cost;
        least = λ j c k order low h other. elim (cases_lt j i) [
          | inl before ↦ old best some none less j c k order before h other
          | inr not_less ↦
              let same : j ≡ i = omega (arith, low, not_less) in
              here_low c k order (subst (λ (n : ℕ). IsNumber cuts n c) same h) other
        ];
      };
      none = tt;
    } where
      old : (best : Option Pick) → IfSome best (λ p. IsBestOf cells areas inner b cuts i p) → IfNone best (NoneMatches cells cuts i)
          → IfSome best (λ p. cost ≤ p.cost) → (j : ℕ) (c : Cut 6) (k : ℕ) (order : List ℕ) → j < i → IsNumber cuts j c → ComputesCut cells k order c
          → cost ≤ get_or areas k 0 + inner_sum inner b order
      old None some none less j c k order before h other = absurd (none j c k order before h other)
      old (Some p) some none less j c k order before h other = let l = some.least j c k order before h other in omega (arith, l, less)

    pub picked_old : (p : Pick) → IsBestOf cells areas inner b cuts i p → p.cost ≤ cost → Picking cells areas inner b cuts (i + 1) (Some p)
    picked_old p best more = record {
      some = record {
        place = best.place;
        cut = best.cut;
        at = best.at;
        computes = best.computes;
        costs = best.costs;
        least = λ j c k order low h other. elim (cases_lt j i) [
          | inl before ↦ best.least j c k order before h other
          | inr not_less ↦
              let same : j ≡ i = omega (arith, low, not_less) in
              let l = here_low c k order (subst (λ (n : ℕ). IsNumber cuts n c) same h) other in
              omega (arith, l, more)
        ];
      };
      none = tt;
    }

    pub picked_kept : (best : Option Pick) → IfSome best (λ p. IsBestOf cells areas inner b cuts i p) → IsSomeAnd best (λ p. p.cost ≤ cost)
        → Picking cells areas inner b cuts (i + 1) best
    picked_kept None some more = absurd more
    picked_kept (Some p) some more = picked_old p some more

  pub picked_none : (best : Option Pick) → ((k : ℕ) (order : List ℕ) → ComputesCut cells k order cut → ⊥) → Picking cells areas inner b cuts i best
      → Picking cells areas inner b cuts (i + 1) best
  picked_none None out is = record {
    some = tt;
    none = λ j c k order low h other. elim (cases_lt j i) [
      | inl before ↦ is.none j c k order before h other
      | inr not_less ↦
          let same : j ≡ i = omega (arith, low, not_less) in
          out k order (subst (λ (d : Cut 6). ComputesCut cells k order d) (number_once cuts i c cut (subst (λ (n : ℕ). IsNumber cuts n c) same h) at) other)
    ];
  }
  picked_none (Some p) out is = record {
    some = record {
      place = is.some.place;
      cut = is.some.cut;
      at = is.some.at;
      computes = is.some.computes;
      costs = is.some.costs;
      least = λ j c k order low h other. elim (cases_lt j i) [
        | inl before ↦ is.some.least j c k order before h other
        | inr not_less ↦
            let same : j ≡ i = omega (arith, low, not_less) in
            absurd (out k order (subst (λ (d : Cut 6). ComputesCut cells k order d) (number_once cuts i c cut (subst (λ (n : ℕ). IsNumber cuts n c) same h) at) other))
      ];
    };
    none = tt;
  }
