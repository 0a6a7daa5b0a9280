-- Graphs by lists of numbers, by which a proof tells them apart.
use Rattle.std.specs.Prelude.{◌≡◌, ◌⊎◌, ℕ, Bool, List, refl}
use Rattle.std.proofs.Common.{inl, inr}
use Rattle.std.specs.Coded.{Coded, code_by, coded×, coded⊎, coded_bool, coded_list, coded_ℕ}
use Rattle.graph_theory.specs.Graph.{Node, fixed, inv, nand, Graph}

abbrev pub sons_of : Node → Bool ⊎ (ℕ ⊎ (ℕ × ℕ))
sons_of (fixed b) = inl b
sons_of (inv a) = inr (inl a)
sons_of (nand a b) = inr (inr (a, b))

abbrev pub node_over : Bool ⊎ (ℕ ⊎ (ℕ × ℕ)) → Node
node_over (inl b) = fixed b
node_over (inr (inl a)) = inv a
node_over (inr (inr p)) = nand p.0 p.1

pub sons_back : (k : Node) → node_over (sons_of k) ≡ k
sons_back (fixed b) = refl
sons_back (inv a) = refl
sons_back (nand a b) = refl

abbrev pub node_code : Coded Node
node_code = code_by (Bool ⊎ (ℕ ⊎ (ℕ × ℕ))) (coded⊎ coded_bool (coded⊎ coded_ℕ (coded× coded_ℕ coded_ℕ))) sons_of node_over sons_back

abbrev pub graph_code : Coded Graph
graph_code =
    code_by (List Node × (List ℕ × List ℕ)) (coded× (coded_list node_code) (coded× (coded_list coded_ℕ) (coded_list coded_ℕ)))
    (λ g. (g.nodes, (g.outputs, g.loads))) (λ p. record { nodes = p.0; outputs = p.1.0; loads = p.1.1 }) (λ _. refl)
