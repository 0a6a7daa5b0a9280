-- Gates that stand for nodes.
use Rattle.std.specs.Prelude.{◌≡◌, ℕ, ◌<◌, ◌≤◌, Bool, List, length, Option, Some, None}
use Prim.Native.Nat.{suc}
use Rattle.net_theory.specs.Sources.{IsNumber}
use Rattle.graph_theory.specs.Graph.{Node}
use Rattle.cell_match.specs.declared.gate.CellWord.{CellWord}
use Rattle.cell_match.specs.declared.gate.Gate.{Gate}
use Rattle.cell_match.specs.Cells.{gate_value, IsGate}
use Rattle.cell_match.specs.Places.{times}
use Rattle.boog_tight.specs.Cover.{gate_at}
use Rattle.cell_match.specs.declared.cut.Cut.{Cut}
use Rattle.cell_match.specs.Computes.{ComputesCut}
use Rattle.boog_cuts.specs.Reads.{Reaches}
use Rattle.boog_cuts.specs.Cuts.{AreValues}

-- the gate is made of one of the cuts behind the first, of K leaves at most
pub record IsOfCut {K : ℕ} (cells : List CellWord) (cuts : List (Cut K)) (g : Gate) : Type 0 where
  pub number : ℕ
  pub cut : Cut K
  pub listed : IsNumber cuts (suc number) cut
  pub computes : ComputesCut cells g.cell g.leaves.items cut
  pub few : length g.leaves.items ≤ K

-- no cell computes any of them
abbrev pub NoneOfCuts : {K : ℕ} → List CellWord → List (Cut K) → Type 0
NoneOfCuts {K} cells cuts = (i : ℕ) (c : Cut K) (k : ℕ) (order : List ℕ) → IsNumber cuts (suc i) c → ComputesCut cells k order c → ⊥

-- the gate gives the bit of node a wherever the graph's nodes have their bits, and reads nodes that are reached from a
pub record StandsAt (cells : List CellWord) (held : ℕ) (nodes : List Node) (a : ℕ) (g : Gate) : Type 0 where
  pub is_gate : IsGate cells a g
  pub value : (f : ℕ → Bool) → AreValues held nodes f → f a ≡ gate_value cells g f
  pub reached : (x : ℕ) → 0 < times x g.leaves.items → Reaches held nodes a x

-- the same of those before number n
abbrev pub NoneBelow : {K : ℕ} → List CellWord → List (Cut K) → ℕ → Type 0
NoneBelow {K} cells cuts n = (i : ℕ) (c : Cut K) (k : ℕ) (order : List ℕ) → suc i < n → IsNumber cuts (suc i) c → ComputesCut cells k order c → ⊥

-- For each number a gate that is made of one of its cuts, of K leaves at most, where a cell computes one; inputs and registers have
-- none.
pub record AreChosen {K : ℕ} (cells : List CellWord) (held : ℕ) (nodes : List Node) (lists : List (List (Cut K))) (gates : List (Option Gate)) : Type 0 where
  pub many : length gates ≡ length lists
  pub given : (a : ℕ) → a < held → gate_at gates a ≡ None
  pub stands : (a : ℕ) (g : Gate) → gate_at gates a ≡ Some g → StandsAt cells held nodes a g
  pub few : (a : ℕ) (g : Gate) → gate_at gates a ≡ Some g → length g.leaves.items ≤ K
  pub missing : (a : ℕ) (list : List (Cut K)) → held ≤ a → IsNumber lists a list → gate_at gates a ≡ None → NoneOfCuts cells list
