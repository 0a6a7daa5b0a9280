-- What bounds and picks say of covers.
use Rattle.std.proofs.Common.{ℕ, ◌<◌, ◌≤◌, IsTrue, List, Option, slice_index, sym, subst, arith}
use Prim.Native.Nat.{zero, suc}
use Rattle.graph_theory.specs.Graph.{Graph, EachReadsEarlier}
use Rattle.cell_match.specs.declared.gate.CellWord.{CellWord}
use Rattle.cell_match.specs.declared.gate.Gate.{Gate}
use Rattle.boog_tree.specs.Trees.{is_gate, is_inner}
use Rattle.boog_tree.specs.Bounds.{IsCoverOf, taken, BoundsAreLeast, ArePicks}
use Rattle.boog_tree.proofs.Totals.{inner_le}
use Rattle.boog_tree.proofs.Within.{cut_earlier}
use Rattle.boog_tree.proofs.Open.{left_true}

pub bounds_are_least : BoundsAreLeast
bounds_are_least cells areas held g bounds x area are cover = go x area cover where
  go : (x area : ℕ) → IsCoverOf cells areas held g x area → slice_index bounds x ≤ area
  go x area (taken _ k order parts m covers) =
      let e = are.least x k order m in
      let f = inner_le (is_inner held g) (slice_index bounds) parts order (λ y some inner. go y (parts y) (covers y some inner)) in
      omega (arith, e, f)

-- a gate that belongs to its user's tree is a gate
inner_gate : (held : ℕ) (g : Graph) (x : ℕ) → IsTrue (is_inner held g x) → IsTrue (is_gate held g.nodes x)
inner_gate held g x inner = left_true (is_gate held g.nodes x) _ inner

-- Each gate's picks are a cover of the part of its tree from there on down, of its bound.
pub picks_cover : (cells : List CellWord) (areas : List ℕ) (held : ℕ) (g : Graph) (bounds : List ℕ) (picks : List (Option Gate))
    → EachReadsEarlier held g.nodes → ArePicks cells areas held g bounds picks → (x : ℕ) → IsTrue (is_gate held g.nodes x)
    → IsCoverOf cells areas held g x (slice_index bounds x)
picks_cover cells areas held g bounds picks earlier are x gate = go (suc x) x (omega arith) gate where
  go : (fuel x : ℕ) → x < fuel → IsTrue (is_gate held g.nodes x) → IsCoverOf cells areas held g x (slice_index bounds x)
  go zero x low gate = absurd (omega arith)
  go (suc fuel) x low gate =
      let p = are.each x gate in
      let m = p.2 in
      subst (λ (n : ℕ). IsCoverOf cells areas held g x n) (sym p.3)
      (taken x (p.0).cell (p.0).leaves.items (slice_index bounds) m (λ y some inner.
      let before = cut_earlier held g earlier x m.members m.value m.cut y ((m.each y).0 some) in
      go fuel y (omega (arith, low, before)) (inner_gate held g y inner)))
