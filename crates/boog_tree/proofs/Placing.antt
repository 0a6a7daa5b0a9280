-- Nodes of a graph by their places in memory.
use Rattle.std.proofs.Common.{◌≡◌, ℕ, ◌+◌, ◌-◌, ◌<◌, ◌≤◌, List, map, length, get_or, Result, Ok, Err, IfOk, ap, subst, arith}
use Rattle.net_theory.specs.Sources.{IsNumber}
use Rattle.graph_theory.specs.Graph.{Node, Graph}
use Rattle.subject_table.specs.View.{node_view}
use Rattle.subject_table.specs.declared.table.Node.{Node as Kind}
use Rattle.boog_cuts.proofs.Growing.{number_map}
use Rattle.boog_cuts.proofs.Whole.{read_number, map_long}
use Rattle.boog_tree.specs.Trees.{IsNode}

pub node_at : (held : ℕ) (g : Graph) (ns : List Kind) (x : ℕ) (kind d : Kind) → map node_view ns ≡ g.nodes → held ≤ x → x < held + length g.nodes
    → get_or ns (x - held) d ≡ kind → IsNode held g x (node_view kind)
node_at held g ns x kind d view above low is =
    let long = map_long node_view ns in
    let same = ap (λ (l : List Node). length l) view in
    record {
      place = x - held;
      is = omega (arith, above);
      at = subst (λ (l : List Node). IsNumber l (x - held) (node_view kind)) view
          (number_map node_view ns (x - held) kind (subst (λ (k : Kind). IsNumber ns (x - held) k) is (read_number ns (x - held) d (omega (arith, long, same, above, low)))));
    }

pub ok_by : {A E : Type 0} (P Q : A → Type 0) (r : Result A E) → ((x : A) → P x → Q x) → IfOk r P → IfOk r Q
ok_by P Q (Ok x) f p = f x p
ok_by P Q (Err e) f p = p
