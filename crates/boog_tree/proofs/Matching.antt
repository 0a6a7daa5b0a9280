-- Matches at a gate are those at its cuts.
use Rattle.std.proofs.Common.{ℕ, ◌≤◌, List, sym, ◌∙◌, arith}
use Rattle.net_theory.specs.Sources.{IsNumber}
use Rattle.graph_theory.specs.Graph.{Graph}
use Rattle.cell_match.specs.Cells.{inputs_of}
use Rattle.cell_match.proofs.Pigeons.{no_longer}
use Rattle.cell_match.specs.declared.gate.CellWord.{CellWord}
use Rattle.cell_match.specs.declared.cut.Cut.{Cut}
use Rattle.cell_match.specs.Computes.{cut_value, ComputesCut}
use Rattle.boog_tree.specs.Cuts.{AreTreeCuts}
use Rattle.boog_tree.specs.Bounds.{IsMatch}
use Rattle.boog_tree.proofs.Within.{cut_once}

module _ (cells : List CellWord) (held : ℕ) (g : Graph) (x : ℕ) (cuts : List (Cut 6)) (are : AreTreeCuts held g x cuts) where
  pub listed_is_match : (i : ℕ) (c : Cut 6) (k : ℕ) (order : List ℕ) → IsNumber cuts i c → ComputesCut cells k order c → IsMatch cells held g x k order
  listed_is_match i c k order at does = record {
    members = c.leaves.items;
    value = λ f. cut_value c f;
    cut = are.sound i c at;
    there = does.there;
    many = does.many;
    once = does.once;
    each = does.members;
    computes = does.value;
  }

  -- a match's cut is listed
  pub match_is_listed : (k : ℕ) (order : List ℕ) → ((j : ℕ) → inputs_of cells j ≤ 6) → IsMatch cells held g x k order
      → (i : ℕ) × (c : Cut 6) × IsNumber cuts i c × ComputesCut cells k order c
  match_is_listed k order narrow m =
      let few = no_longer m.members order (cut_once held g x m.members m.value m.cut) (λ y some. (m.each y).1 some) in
      let many = m.many in
      let n = narrow k in
      let h = are.every m.members m.value m.cut (omega (arith, few, many, n)) in (
        h.place,
        h.cut,
        h.at,
        record {
          there = m.there;
          many = m.many;
          once = m.once;
          members = λ y. (λ some. (h.same y).0 ((m.each y).0 some), λ some. (m.each y).1 ((h.same y).1 some));
          value = λ f. m.computes f ∙ sym (h.gives f);
        },
      )
