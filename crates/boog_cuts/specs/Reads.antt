-- What the nodes of a graph read.
use Rattle.std.specs.Prelude.{◌==◌, ℕ, ◌+◌, Bool, false, ◌||◌, List, IsTrue}
use Rattle.net_theory.specs.Sources.{IsNumber}
use Rattle.graph_theory.specs.Graph.{Node, fixed, inv, nand}

-- a node reads a number
abbrev pub reads : Node → ℕ → Bool
reads (fixed b) a = false
reads (inv x) a = x == a
reads (nand x y) a = x == a || y == a

-- Number x is reached from number a: it is a, or a node that is reached from a reads it. The first node has number `held`.
pub data Reaches (held : ℕ) (nodes : List Node) (a : ℕ) : ℕ → Type 0 where
  itself : Reaches held nodes a a
  step : {x : ℕ} (j : ℕ) (kind : Node) → Reaches held nodes a (held + j) → IsNumber nodes j kind → IsTrue (reads kind x) → Reaches held nodes a x
