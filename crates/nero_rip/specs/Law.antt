-- What is true of the trees of placed nets after each of the moves of a run.
use Rattle.std.specs.Prelude.{ℕ, ◌≤◌, List}
use Rattle.cell_model.specs.Library.{Library}
use Rattle.net_core.specs.Netlist.{Netlist as InMemory}
use Rattle.net_meaning.specs.Netlist.{AbstractNetlist}
use Rattle.net_right.specs.View.{IsSeenAs}
use Rattle.ocp_place.specs.Nets.{net_number}
use Rattle.ocp_place.specs.Placed.{InRow, IsRowPlacementOf, rows_of, stood_in}
use Rattle.maze_rips.specs.Run.{Problem, Move, routes_after, AreMoves}
use Rattle.maze_rips.specs.Law.{HaveTreesApart}
use Rattle.nero_rip.specs.Rips.{rows_problem}

-- the nets of a netlist that is placed in rows, in an order
abbrev pub placed_problem : Library → AbstractNetlist → InRow → ℕ → List ℕ → Problem
placed_problem l k p metals order = rows_problem k l (net_number k l) (rows_of k p) (stood_in k p) metals order

-- After any right moves over them, also before a run has ended, trees of different nets have no node in common.
abbrev pub PlacedTreesStayApart : Type 0
PlacedTreesStayApart =
    (l : Library) (n : InMemory) (p : InRow) (k : AbstractNetlist) (metals : ℕ) (order : List ℕ) (moves : List Move) → IsRowPlacementOf l n p
    → IsSeenAs n k → 3 ≤ metals → AreMoves (placed_problem l k p metals order) moves
    → HaveTreesApart (placed_problem l k p metals order) (routes_after moves)
