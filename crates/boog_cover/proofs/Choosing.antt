-- The best of a node's cuts.
use Rattle.std.proofs.Common.{◌≡◌, inl, inr, ℕ, ◌+◌, ◌-◌, ◌≤◌, true, List, length, Option, None, Some, is_some, IfSome, IfNone, subst, arith}
use Prim.Native.Nat.{suc}
use Rattle.std.proofs.lemmas.Bool.{cases_lt}
use Rattle.net_theory.specs.Sources.{IsNumber}
use Rattle.net_theory.proofs.Basics.{number_once, number_below}
use Rattle.cell_match.specs.declared.gate.CellWord.{CellWord}
use Rattle.cell_match.specs.declared.gate.Gate.{Gate}
use Rattle.cell_match.specs.declared.cut.Cut.{Cut}
use Rattle.cell_match.specs.Computes.{ComputesCut}
use Rattle.boog_cover.specs.Choices.{IsOfCut, NoneOfCuts, NoneBelow}

-- what the loop keeps
pub record Choosing {K : ℕ} (cells : List CellWord) (cuts : List (Cut K)) (n : ℕ) (found : Option Gate) : Type 0 where
  pub some : IfSome found (λ g. IsOfCut cells cuts g)
  pub none : IfNone found (NoneBelow cells cuts n)

module _ {K : ℕ} (cells : List CellWord) (cuts : List (Cut K)) (i : ℕ) (cut : Cut K) (above : 1 ≤ i) (at : IsNumber cuts i cut) where
  at_suc : IsNumber cuts (suc (i - 1)) cut
  at_suc = let e : i ≡ suc (i - 1) = omega arith in subst (λ (n : ℕ). IsNumber cuts n cut) e at

  pub chosen_new : (g : Gate) → ComputesCut cells g.cell g.leaves.items cut → length g.leaves.items ≤ K → Choosing cells cuts (i + 1) (Some g)
  chosen_new g does few = record { some = record { number = i - 1; cut = cut; listed = at_suc; computes = does; few = few }; none = tt }

  pub chosen_kept : (o : Option Gate) → is_some o ≡ true → Choosing cells cuts i o → Choosing cells cuts (i + 1) o
  chosen_kept None e is = cc
  chosen_kept (Some g) e is = record { some = is.some; none = tt }

  pub chosen_none : (o : Option Gate) → ((k : ℕ) (order : List ℕ) → ComputesCut cells k order cut → ⊥) → Choosing cells cuts i o → Choosing cells cuts (i + 1) o
  chosen_none (Some g) no_cell is = record { some = is.some; none = tt }
  chosen_none None no_cell is = record {
    some = tt;
    none = λ j c k order low here does. elim (cases_lt (suc j) i) [
      | inl less ↦ is.none j c k order less here does
      | inr not_less ↦
          let same : suc j ≡ i = omega arith in
          let is_cut : c ≡ cut = number_once cuts i c cut (subst (λ (n : ℕ). IsNumber cuts n c) same here) at in
          no_cell k order (subst (λ (d : Cut K). ComputesCut cells k order d) is_cut does)
    ];
  }

pub chosen_all : {K : ℕ} (cells : List CellWord) (cuts : List (Cut K)) (n : ℕ) (o : Option Gate) → length cuts ≤ n → Choosing cells cuts n o
    → IfNone o (NoneOfCuts cells cuts)
chosen_all cells cuts n None all is = λ i c k order here does. let b = number_below cuts (suc i) c here in is.none i c k order (omega arith) here does
chosen_all cells cuts n (Some g) all is = tt

pub chosen_first : {K : ℕ} (cells : List CellWord) (cuts : List (Cut K)) → Choosing cells cuts 1 None
chosen_first cells cuts = record { some = tt; none = λ i c k order low here does. absurd (omega arith) }
