-- Whose turn it is, and runs that go on by one move.
use Rattle.std.proofs.Common.{◌≡◌, ◌≢◌, ℕ, inl, inr, List, [], ◌∷◌, ◌++◌, Option, Some, None, sym, ap, ◌∙◌, subst, nat_eq, if◌then◌else◌}
use Rattle.std.specs.Prelude.{◌↔◌}
use Rattle.std.proofs.lemmas.Bool.{cases_eq}
use Rattle.vlsi_base.specs.Member.{In}
use Rattle.grid_core.specs.declared.grid.Node.{Node}
use Rattle.grid_core.specs.Grid.{IsLeastPath}
use Rattle.grid_core.specs.Routes.{Tree, NetRoutes, tree_nodes, grown, with_start, with_path}
use Rattle.grid_core.specs.Trees.{IsWhole, next_point}
use Rattle.nero_maze.specs.Routing.{first_alone, IsFirstTaken}
use Rattle.maze_nets.proofs.Growth.{path_moved, least_moved}
use Rattle.maze_rips.specs.declared.rip.PointRip.{PointRip}
use Rattle.maze_rips.specs.Run.{Problem, Begins, Joins, Rips, routes_after, rips_among, without_paths, last_stuck, IsServed, HasTurn, again, next, IsDue, IsFreeNow, IsFreePast, IsPathPast, IsStuck, IsInTheWay, IsRipRun}
use Rattle.maze_rips.proofs.Freedom.{free_turned}

-- ---- trees that are the same for each net
module _ (p : Problem) (rips other_rips : List PointRip) (routes other : NetRoutes) (same_rips : rips ≡ other_rips) (same : (j : ℕ) → routes j ≡ other j) where
  served_same : (last : Option ℕ) → IsServed p routes last → IsServed p other last
  served_same None h = tt
  served_same (Some k) h = subst (IsWhole (p.points k)) (same k) h

  turn_same : (k : ℕ) → HasTurn p rips routes k → HasTurn p other_rips other k
  turn_same k (again e) = again (subst (λ (rs : List PointRip). last_stuck rs ≡ Some k) same_rips e)
  turn_same k (next served earlier later is whole) =
      next (subst (λ (rs : List PointRip). IsServed p other (last_stuck rs)) same_rips (served_same (last_stuck rips) served)) earlier later is
      (λ j i. subst (IsWhole (p.points j)) (same j) (whole j i))

  pub due_same : (k : ℕ) (q : Node) → IsDue p rips routes k q → IsDue p other_rips other k q
  due_same k q h = record {
    known = h.known;
    turn = turn_same k h.turn;
    lacks = subst (λ (t : Option Tree). next_point (p.points k) t ≡ Some q) (same k) h.lacks;
  }

  now_same : (k : ℕ) (n : Node) → IsFreeNow p routes k n ↔ IsFreeNow p other k n
  now_same k n = free_turned p.grid p.reserved routes other p.nets k same n

  into : (k : ℕ) (n : Node) → In n (tree_nodes (routes k)) → In n (tree_nodes (other k))
  into k n i = subst (λ (t : Option Tree). In n (tree_nodes t)) (same k) i

  from : (k : ℕ) (n : Node) → In n (tree_nodes (other k)) → In n (tree_nodes (routes k))
  from k n i = subst (λ (t : Option Tree). In n (tree_nodes t)) (sym (same k)) i

  pub least_same : (k : ℕ) (q : Node) (path : List Node) → IsLeastPath (IsFreeNow p routes k) (tree_nodes (routes k)) q path
      → IsLeastPath (IsFreeNow p other k) (tree_nodes (other k)) q path
  least_same k q path h = least_moved (IsFreeNow p routes k) (IsFreeNow p other k) (tree_nodes (routes k)) (tree_nodes (other k)) (now_same k) (into k) (from k) q path h

  pub stuck_same : (k at : ℕ) (q : Node) → IsStuck p rips routes k at q → IsStuck p other_rips other k at q
  stuck_same k at q h = record {
    due = due_same k q h.due;
    tree = h.tree;
    begun = sym (same k) ∙ h.begun;
    number = h.number;
    none = λ path is. h.none path (path_moved (IsFreeNow p other k) (IsFreeNow p routes k) (tree_nodes (other k)) (tree_nodes (routes k)) (λ n. (now_same k n).1) (from k) q path is);
  }

  pub past_same : (k : ℕ) (q : Node) (path : List Node) → IsPathPast p other k q path → IsPathPast p routes k q path
  past_same k q path is = path_moved (IsFreePast p k) (IsFreePast p k) (tree_nodes (other k)) (tree_nodes (routes k)) (λ n f. f) (from k) q path is

  pub way_same : (k : ℕ) (q : Node) (b : ℕ) → IsInTheWay p routes k q b → IsInTheWay p other k q b
  way_same k q b h = record {
    known = h.known;
    path = h.path;
    least = least_moved (IsFreePast p k) (IsFreePast p k) (tree_nodes (routes k)) (tree_nodes (other k)) (λ n. ((λ f. f), λ f. f)) (into k) (from k) q h.path h.least;
    first = h.first;
    stands = record {
      ahead = h.stands.ahead;
      behind = h.stands.behind;
      split = h.stands.split;
      clear = λ n i. (now_same k n).0 (h.stands.clear n i);
      taken = λ f. h.stands.taken ((now_same k h.first).1 f);
    };
    theirs = into b h.first h.theirs;
  }

-- a first node that isn't free, by two rules
pub first_moved : (free other : Node → Type 0) → ((n : Node) → free n ↔ other n) → (path : List Node) (q : Node) → IsFirstTaken free path q → IsFirstTaken other path q
first_moved free other f path q h = record {
  ahead = h.ahead;
  behind = h.behind;
  split = h.split;
  clear = λ n i. (f n).0 (h.clear n i);
  taken = λ x. h.taken ((f q).1 x);
}

-- ---- the net whose turn it is gets a point, and still lacks one
served_kept : (p : Problem) (routes other : NetRoutes) (k : ℕ) → ((j : ℕ) → j ≢ k → other j ≡ routes j) → (IsWhole (p.points k) (routes k) → ⊥) → (last : Option ℕ)
    → IsServed p routes last → IsServed p other last
served_kept p routes other k same lacks None h = tt
served_kept p routes other k same lacks (Some j) h = elim (cases_eq j k) [
  | inl e ↦ absurd (lacks (subst (λ (i : ℕ). IsWhole (p.points i) (routes i)) e h))
  | inr ne ↦ subst (IsWhole (p.points j)) (sym (same j ne)) h
]

pub turn_kept : (p : Problem) (rips : List PointRip) (routes other : NetRoutes) (k : ℕ) → ((j : ℕ) → j ≢ k → other j ≡ routes j) → (IsWhole (p.points k) (routes k) → ⊥)
    → HasTurn p rips routes k → HasTurn p rips other k
turn_kept p rips routes other k same lacks (again e) = again e
turn_kept p rips routes other k same lacks (next served earlier later is whole) =
    next (served_kept p routes other k same lacks (last_stuck rips) served) earlier later is
    (λ j i. elim (cases_eq j k) [
      | inl e ↦ absurd (lacks (subst (λ (n : ℕ). IsWhole (p.points n) (routes n)) e (whole j i)))
      | inr ne ↦ subst (IsWhole (p.points j)) (sym (same j ne)) (whole j i)
    ])

-- ---- one move more
module _ (p : Problem) (rips : List PointRip) (routes other : NetRoutes) (run : IsRipRun p rips routes) where
  back : (j : ℕ) → routes j ≡ routes_after run.moves j
  back j = sym (run.led j)

  pub began_run : (k : ℕ) (q : Node) → IsDue p rips routes k q → routes k ≡ None → ((j : ℕ) → other j ≡ with_start routes k q j) → IsRipRun p rips other
  began_run k q due none is = record {
    moves = Begins k q ∷ run.moves;
    right = ((due_same p rips (rips_among run.moves) routes (routes_after run.moves) (sym run.made) back k q due, run.led k ∙ none), run.right);
    made = run.made;
    led = λ j. ap (λ (t : Option Tree). if nat_eq j k then Some (record { start = q; paths = [] }) else t) (run.led j) ∙ sym (is j);
  }

  pub joined_run : (k : ℕ) (q : Node) (path : List Node) → IsDue p rips routes k q → IsLeastPath (IsFreeNow p routes k) (tree_nodes (routes k)) q path
      → ((j : ℕ) → other j ≡ with_path routes k path j) → IsRipRun p rips other
  joined_run k q path due least is = record {
    moves = Joins k path ∷ run.moves;
    right = (
      (
        q,
        due_same p rips (rips_among run.moves) routes (routes_after run.moves) (sym run.made) back k q due,
        least_same p rips (rips_among run.moves) routes (routes_after run.moves) (sym run.made) back k q path least,
      ),
      run.right,
    );
    made = run.made;
    led = λ j.
        ap (λ (t : Option Tree). if nat_eq j k then grown path (routes_after run.moves k) else t) (run.led j)
        ∙ (ap (λ (t : Option Tree). if nat_eq j k then grown path t else routes j) (run.led k) ∙ sym (is j));
  }

  pub ripped_run : (r : PointRip) (q : Node) → IsStuck p rips routes r.net r.point q → IsInTheWay p routes r.net q r.torn
      → ((j : ℕ) → other j ≡ without_paths routes r.torn j) → IsRipRun p (rips ++ r ∷ []) other
  ripped_run r q stuck way is = record {
    moves = Rips r ∷ run.moves;
    right = (
      (
        q,
        stuck_same p rips (rips_among run.moves) routes (routes_after run.moves) (sym run.made) back r.net r.point q stuck,
        way_same p rips (rips_among run.moves) routes (routes_after run.moves) (sym run.made) back r.net q r.torn way,
      ),
      run.right,
    );
    made = ap (λ (rs : List PointRip). rs ++ r ∷ []) run.made;
    led = λ j.
        ap (λ (t : Option Tree). if nat_eq j r.torn then first_alone (routes_after run.moves r.torn) else t) (run.led j)
        ∙ (ap (λ (t : Option Tree). if nat_eq j r.torn then first_alone t else routes j) (run.led r.torn) ∙ sym (is j));
  }
