-- Moves over points that are the same for each net.
use Rattle.std.proofs.Common.{◌≡◌, ℕ, ◌<◌, ⊎_elim, inl, inr, List, [], ◌∷◌, length, Option, Some, None, refl, sym, subst}
use Rattle.std.specs.Prelude.{◌↔◌}
use Rattle.vlsi_base.specs.Member.{In}
use Rattle.grid_core.specs.declared.grid.Grid.{Grid}
use Rattle.grid_core.specs.declared.grid.Node.{Node}
use Rattle.grid_core.specs.Routes.{NetRoutes, tree_nodes}
use Rattle.grid_core.specs.Trees.{IsWhole, next_point}
use Rattle.grid_core.proofs.Lists.{In_first}
use Rattle.maze_nets.proofs.Growth.{path_moved, least_moved}
use Rattle.maze_rips.specs.declared.rip.PointRip.{PointRip}
use Rattle.maze_rips.specs.Run.{Problem, Move, Begins, Joins, Rips, routes_after, rips_among, last_stuck, IsServed, HasTurn, again, next, IsDue, IsFreeNow, IsFreePast, IsStuck, IsInTheWay, AreMoves, IsRipRun, IsSpent}
use Rattle.maze_rips.proofs.Known.{last_among, stuck_known, rips_known}
use Rattle.maze_rips.proofs.Turns.{first_moved}
use Rattle.nero_nets.proofs.Congruent.{AreSame}

-- ---- moves by other names of the same points
module _ (g : Grid) (nets : ℕ) (order : List ℕ) (reserved held points others : ℕ → List Node) (alike : AreSame nets reserved held) (same : AreSame nets points others)
    (below : (j : ℕ) → In j order → j < nets) where
  abbrev one : Problem
  one = record { grid = g; reserved = reserved; points = points; nets = nets; order = order }

  abbrev other : Problem
  other = record { grid = g; reserved = held; points = others; nets = nets; order = order }

  now_iff : (routes : NetRoutes) (k : ℕ) (q : Node) → IsFreeNow one routes k q ↔ IsFreeNow other routes k q
  now_iff routes k q = (
    λ f. record { within = f.within; apart = f.apart; kept = λ j low off i. f.kept j low off (subst (λ qs. In q qs) (sym (alike j low)) i) },
    λ f. record { within = f.within; apart = f.apart; kept = λ j low off i. f.kept j low off (subst (λ qs. In q qs) (alike j low) i) },
  )

  past_iff : (k : ℕ) (q : Node) → IsFreePast one k q ↔ IsFreePast other k q
  past_iff k q = (
    λ f. record { within = f.within; kept = λ j low off i. f.kept j low off (subst (λ qs. In q qs) (sym (alike j low)) i) },
    λ f. record { within = f.within; kept = λ j low off i. f.kept j low off (subst (λ qs. In q qs) (alike j low) i) },
  )

  served_moved : (routes : NetRoutes) (last : Option ℕ) → ((k : ℕ) → last ≡ Some k → k < nets) → IsServed one routes last → IsServed other routes last
  served_moved routes None low h = tt
  served_moved routes (Some k) low h = subst (λ qs. IsWhole qs (routes k)) (same k (low k refl)) h

  turn_moved : (rips : List PointRip) (routes : NetRoutes) (k : ℕ) → ((r : PointRip) → In r rips → r.net < nets) → HasTurn one rips routes k → HasTurn other rips routes k
  turn_moved rips routes k known (again e) = again e
  turn_moved rips routes k known (next served earlier later is whole) =
      let low : (j : ℕ) → last_stuck rips ≡ Some j → j < nets = λ j e. (let x = last_among rips j e in subst (λ (n : ℕ). n < nets) x.2 (known x.0 x.1)) in
      next (served_moved routes (last_stuck rips) low served) earlier later is
      (λ j i. subst (λ qs. IsWhole qs (routes j)) (same j (below j (subst (λ (xs : List ℕ). In j xs) (sym is) (In_first earlier (k ∷ later) j i)))) (whole j i))

  due_moved : (rips : List PointRip) (routes : NetRoutes) (k : ℕ) (q : Node) → ((r : PointRip) → In r rips → r.net < nets) → IsDue one rips routes k q → IsDue other rips routes k q
  due_moved rips routes k q known h = record {
    known = h.known;
    turn = turn_moved rips routes k known h.turn;
    lacks = subst (λ qs. next_point qs (routes k) ≡ Some q) (same k h.known) h.lacks;
  }

  pub stuck_moved : (rips : List PointRip) (routes : NetRoutes) (k at : ℕ) (q : Node) → ((r : PointRip) → In r rips → r.net < nets) → IsStuck one rips routes k at q
      → IsStuck other rips routes k at q
  stuck_moved rips routes k at q known h = record {
    due = due_moved rips routes k q known h.due;
    tree = h.tree;
    begun = h.begun;
    number = h.number;
    none = λ path is. h.none path
        (path_moved (IsFreeNow other routes k) (IsFreeNow one routes k) (tree_nodes (routes k)) (tree_nodes (routes k)) (λ n. (now_iff routes k n).1) (λ n i. i) q path is);
  }

  way_moved : (routes : NetRoutes) (k : ℕ) (q : Node) (b : ℕ) → IsInTheWay one routes k q b → IsInTheWay other routes k q b
  way_moved routes k q b h = record {
    known = h.known;
    path = h.path;
    least = least_moved (IsFreePast one k) (IsFreePast other k) (tree_nodes (routes k)) (tree_nodes (routes k)) (past_iff k) (λ n i. i) (λ n i. i) q h.path h.least;
    first = h.first;
    stands = first_moved (IsFreeNow one routes k) (IsFreeNow other routes k) (now_iff routes k) h.path h.first h.stands;
    theirs = h.theirs;
  }

  pub moves_moved : (moves : List Move) → AreMoves one moves → AreMoves other moves
  moves_moved [] h = tt
  moves_moved (Begins k q ∷ before) h =
      ((due_moved (rips_among before) (routes_after before) k q (λ r i. (rips_known one before h.1 r i).net) h.0.0, h.0.1), moves_moved before h.1)
  moves_moved (Joins k path ∷ before) h = (
    (
      h.0.0,
      due_moved (rips_among before) (routes_after before) k h.0.0 (λ r i. (rips_known one before h.1 r i).net) h.0.1,
      least_moved (IsFreeNow one (routes_after before) k) (IsFreeNow other (routes_after before) k) (tree_nodes (routes_after before k)) (tree_nodes (routes_after before k))
          (now_iff (routes_after before) k) (λ n i. i) (λ n i. i) h.0.0 path h.0.2,
    ),
    moves_moved before h.1,
  )
  moves_moved (Rips r ∷ before) h = (
    (
      h.0.0,
      stuck_moved (rips_among before) (routes_after before) r.net r.point h.0.0 (λ x i. (rips_known one before h.1 x i).net) h.0.1,
      way_moved (routes_after before) r.net h.0.0 r.torn h.0.2,
    ),
    moves_moved before h.1,
  )

  pub run_moved : (rips : List PointRip) (routes : NetRoutes) → IsRipRun one rips routes → IsRipRun other rips routes
  run_moved rips routes h = record { moves = h.moves; right = moves_moved h.moves h.right; made = h.made; led = h.led }

  pub spent_moved : (allowed : ℕ) (rips : List PointRip) (routes : NetRoutes) (k at : ℕ) → IsRipRun one rips routes → IsSpent one allowed rips routes k at
      → IsSpent other allowed rips routes k at
  spent_moved allowed rips routes k at run h = record {
    point = h.point;
    stuck = stuck_moved rips routes k at h.point (λ r i. (rips_known one run.moves run.right r (subst (λ rs. In r rs) (sym run.made) i)).net) h.stuck;
    spent = ⊎_elim (λ e. inl e) (λ none. inr (λ path is. none path
        (path_moved (IsFreePast other k) (IsFreePast one k) (tree_nodes (routes k)) (tree_nodes (routes k)) (λ n. (past_iff k n).1) (λ n i. i) h.point path is))) h.spent;
  }

-- a net that is stuck lacks a point that it has
pub spent_known : (p : Problem) (allowed : ℕ) (rips : List PointRip) (routes : NetRoutes) (k at : ℕ) → IsSpent p allowed rips routes k at → (k < p.nets) × (at < length (p.points k))
spent_known p allowed rips routes k at h = (h.stuck.due.known, stuck_known p rips routes k at h.point h.stuck)
