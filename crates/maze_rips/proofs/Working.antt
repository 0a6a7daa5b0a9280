-- What is true between two moves stays true.
use Rattle.std.proofs.Common.{◌≡◌, ◌≢◌, ℕ, ◌<◌, ◌≤◌, ◌⊎◌, inl, inr, ⊎_elim, List, [], ◌∷◌, ◌++◌, length, take, Option, Some, None, refl, sym, ap, ◌∙◌, subst, arith, if◌then◌else◌, nat_eq}
use Rattle.std.specs.Prelude.{slice_get}
use Rattle.std.proofs.lemmas.Bool.{cases_eq, eq-eqb, ne_eqb}
use Prim.Native.Nat.{suc}
use Rattle.vlsi_base.specs.Member.{In, here}
use Rattle.grid_core.specs.declared.grid.Grid.{Grid}
use Rattle.grid_core.specs.declared.grid.Node.{Node}
use Rattle.grid_core.specs.Grid.{IsInGrid, IsPath}
use Rattle.grid_core.specs.Owners.{owner_of, IsFree}
use Rattle.grid_core.specs.Routes.{Tree, tree_nodes, grown, with_start, with_path}
use Rattle.grid_core.specs.Trees.{IsFreeFor, Reach, IsTreeOver, IsWhole, AreRoutes, next_point}
use Rattle.grid_core.proofs.Growing.{routes_begin, routes_grow, path_either, grown_nodes}
use Rattle.grid_core.proofs.Owners.{first_or}
use Rattle.nero_maze.specs.Routing.{Routing, Move, Began, Joined, routes_of, latest_path, tree_of, NoneFrom, IsPoint, Begins, Connects, first_alone, TakesOut, Blocks}
use Rattle.maze_nets.specs.declared.points.NetPoints.{NetPoints}
use Rattle.maze_nets.specs.Nets.{net_points, net_reserved, AreRoutable}
use Rattle.maze_nets.specs.Progress.{AreReserved, AreOwned, IsOrderly, HasRouted}
use Rattle.maze_nets.proofs.Lists.{some_same, cases_in}
use Rattle.maze_nets.proofs.Growth.{path_moved, least_moved, grown_old, grown_new}
use Rattle.maze_nets.proofs.Owning.{Takes, tree_free, free_for, owned_still}
use Rattle.maze_nets.proofs.Running.{began_here, began_other, joined_here, joined_other, point_free}
use Rattle.maze_rips.specs.declared.rip.PointRip.{PointRip}
use Rattle.maze_rips.specs.declared.work.Task.{Task}
use Rattle.maze_rips.specs.declared.work.Work.{Work}
use Rattle.maze_rips.specs.Run.{without_paths, HasTurn, IsDue, IsFreeNow, IsFreePast, IsPathPast, IsStuck, IsInTheWay, IsRipRun}
use Rattle.maze_rips.specs.Paths.{laid, paths_in, HasNow}
use Rattle.maze_rips.specs.Progress.{problem_of, IsTask, IsUnderWay, IsBeginning, IsFinishing}
use Rattle.maze_rips.proofs.Freedom.{has_tree, free_iff, for_free, past_iff, next_is_new, not_whole}
use Rattle.maze_rips.proofs.Turns.{first_moved, turn_kept, began_run, joined_run, ripped_run}

-- ---- the trees after a move, net by net
if_same : {A : Type 0} (j k : ℕ) (a b : A) → j ≡ k → (if nat_eq j k then a else b) ≡ a
if_same j k a b e = rw (eq-eqb j k e) refl

if_other : {A : Type 0} (j k : ℕ) (a b : A) → j ≢ k → (if nat_eq j k then a else b) ≡ b
if_other j k a b ne = rw (ne_eqb j k ne) refl

started : (k : ℕ) (q : Node) (old new : Routing) → new.moves ≡ Began k q ∷ old.moves → (j : ℕ) → tree_of new j ≡ with_start (tree_of old) k q j
started k q old new e j = ap (λ ms. routes_of ms j) e

pathed : (k : ℕ) (path : List Node) (old new : Routing) → new.moves ≡ Joined k path ∷ old.moves → (j : ℕ) → tree_of new j ≡ with_path (tree_of old) k path j
pathed k path old new e j = ap (λ ms. routes_of ms j) e

torn_trees : (b : ℕ) (old new : Routing) → TakesOut b old new → (j : ℕ) → tree_of new j ≡ without_paths (tree_of old) b j
torn_trees b old new t j = elim (cases_eq j b) [
  | inl e ↦ ap (tree_of new) e ∙ (t.tree ∙ sym (if_same j b (first_alone (tree_of old b)) (tree_of old j) e))
  | inr ne ↦ t.trees j ne ∙ sym (if_other j b (first_alone (tree_of old b)) (tree_of old j) ne)
]

-- ---- the paths that are kept
-- how many points a tree has
abbrev pub points_in : Option Tree → ℕ
points_in o = length (laid o)

pub reached : (t : Task) (k : ℕ) (w : Work) → k < length t.nets.now → IsUnderWay t w → length (paths_in w.paths k) ≡ points_in (tree_of w.router k)
reached t k w lt u = ap (λ (ps : List (List Node)). length ps) (u.kept k lt)

kept_set : (t : Task) (old new : Work) (k : ℕ) (ps : List (List Node)) → IsUnderWay t old → HasNow k ps old.paths new.paths → ps ≡ laid (tree_of new.router k)
    → ((j : ℕ) → j ≢ k → tree_of new.router j ≡ tree_of old.router j) → (j : ℕ) → j < length t.nets.now → paths_in new.paths j ≡ laid (tree_of new.router j)
kept_set t old new k ps u now is others j lt = elim (cases_eq j k) [
  | inl same ↦ ap (λ (i : ℕ). paths_in new.paths i) same ∙ (now.mine ∙ (is ∙ ap (λ (i : ℕ). laid (tree_of new.router i)) (sym same)))
  | inr ne ↦ now.others j ne ∙ (u.kept j lt ∙ ap laid (sym (others j ne)))
]

only_still : (n k : ℕ) (old new : Routing) → k < n → NoneFrom n old → ((j : ℕ) → j ≢ k → tree_of new j ≡ tree_of old j) → NoneFrom n new
only_still n k old new lt only others j le = (let ne : j ≢ k = omega arith in others j ne ∙ only j le)

no_nodes : (p : Node) → In p (tree_nodes None) → ⊥
no_nodes p i = elim i [ ]

-- no net has a tree yet
pub fresh_work : (t : Task) (w : Work) → HasRouted t.grid t.nets.now [] w.router → AreReserved t.grid (net_reserved t.nets.now) w.router.reserved
    → length w.paths ≡ length t.nets.now → ((k : ℕ) → paths_in w.paths k ≡ []) → w.rips.items ≡ [] → IsUnderWay t w
fresh_work t w h are size empty none =
    let bare : (k : ℕ) → tree_of w.router k ≡ None = λ k. h.untouched k (λ i. elim i [ ]) in
    record {
      orderly = h.orderly;
      reserved = are;
      counted = size;
      kept = λ k lt. empty k ∙ sym (ap laid (bare k));
      only = λ k le. bare k;
      run = record { moves = []; right = tt; made = sym none; led = λ k. sym (bare k) };
    }

-- ---- a tree begins
module _ (t : Task) (task : IsTask t) (k : ℕ) (lt : k < length t.nets.now) (old new : Work) where
  pub seated_work : (q : Node) → IsBeginning t k old → tree_of old.router k ≡ None → slice_get (net_points t.nets.now k) 0 ≡ Some q → Begins k q old.router new.router
      → HasNow k (paths_in old.paths k ++ latest_path new.router.moves ∷ []) old.paths new.paths → new.rips.items ≡ old.rips.items → IsFinishing t k old new
  seated_work q b none first is kept rips =
      let u = b.under_way in
      let owned = u.orderly.owners in
      let nets = t.nets.now in
      let here_is = began_here k q old.router new.router is.moves in
      let others = began_other k q old.router new.router is.moves in
      let free = point_free t.grid nets task.routable old.router owned k 0 q first in
      let one : (p : Node) → In p (q ∷ []) → p ≡ q = λ p i. ⊎_elim (λ e. e) (λ j. elim j [ ]) (first_or p q [] i) in
      let next : next_point (net_points nets k) (tree_of old.router k) ≡ Some q = subst (λ o. next_point (net_points nets k) o ≡ Some q) (sym none) first in
      let takes : Takes k (q ∷ []) old.router new.router = record {
        taken = is.taken;
        free = λ p i. subst (IsFree old.router.occupied k) (sym (one p i)) free;
        others = others;
        either = λ p i. inr (subst (λ o. In p (tree_nodes o)) here_is i);
        before = λ p i. absurd (no_nodes p (subst (λ o. In p (tree_nodes o)) none i));
        added = λ p i. subst (λ o. In p (tree_nodes o)) (sym here_is) i;
      } in
      let due : IsDue (problem_of t) old.rips.items (tree_of old.router) k q = record { known = lt; turn = b.turn; lacks = next } in
      let laid_so : paths_in old.paths k ++ latest_path new.router.moves ∷ [] ≡ laid (tree_of new.router k) =
      ap (λ (ps : List (List Node)). ps ++ latest_path new.router.moves ∷ []) (u.kept k lt ∙ ap laid none)
      ∙ (ap (λ (ms : List Move). latest_path ms ∷ []) is.moves ∙ ap laid (sym here_is)) in
      let run = began_run (problem_of t) old.rips.items (tree_of old.router) (tree_of new.router) u.run k q due none (started k q old.router new.router is.moves) in
      let turn = turn_kept (problem_of t) old.rips.items (tree_of old.router) (tree_of new.router) k others (not_whole (net_points nets k) (tree_of old.router k) q next) b.turn in
      record {
        now = record {
          under_way = record {
            orderly = record {
              owners = owned_still t.grid nets task.routable k (q ∷ []) old.router new.router owned takes;
              routes = subst (λ ms. AreRoutes t.grid (net_reserved nets) (net_points nets) (length nets) (routes_of ms)) (sym is.moves)
                  (routes_begin t.grid (net_reserved nets) (net_points nets) (length nets) k (tree_of old.router) q u.orderly.routes lt none next (free_for t.grid nets old.router owned k q free));
            };
            reserved = subst (AreReserved t.grid (net_reserved nets)) (sym is.reserved) u.reserved;
            counted = kept.size ∙ u.counted;
            kept = kept_set t old new k (paths_in old.paths k ++ latest_path new.router.moves ∷ []) u kept laid_so others;
            only = only_still (length nets) k old.router new.router lt u.only others;
            run = subst (λ (rs : List PointRip). IsRipRun (problem_of t) rs (tree_of new.router)) (sym rips) run;
          };
          turn = subst (λ (rs : List PointRip). HasTurn (problem_of t) rs (tree_of new.router) k) (sym rips) turn;
        };
        rips = rips;
        others = others;
        begun = λ e. (let both : None ≡ Some (record { start = q; paths = [] }) = sym e ∙ here_is in cc both);
      }

-- ---- or has begun already
pub begun_work : (t : Task) (k : ℕ) (w : Work) → k < length t.nets.now → IsBeginning t k w → length (paths_in w.paths k) ≢ 0 → IsFinishing t k w w
begun_work t k w lt b some = record {
  now = b;
  rips = refl;
  others = λ j ne. refl;
  begun = λ e. some (reached t k w lt b.under_way ∙ ap points_in e);
}

pub bare_tree : (t : Task) (k : ℕ) (w : Work) → k < length t.nets.now → IsBeginning t k w → length (paths_in w.paths k) ≡ 0 → tree_of w.router k ≡ None
bare_tree t k w lt b z = by (tree_of w.router k) refl
  where
    by : (o : Option Tree) → tree_of w.router k ≡ o → tree_of w.router k ≡ None
    by None e = e
    by (Some x) e = (let one = reached t k w lt b.under_way ∙ ap points_in e in let no : ⊥ = omega arith in absurd no)

-- ---- a point is reached
tree_is : (o : Option Tree) → o ≢ None → (x : Tree) × (o ≡ Some x)
tree_is None ne = absurd (ne refl)
tree_is (Some x) ne = (x, refl)

pub lacks_next : (t : Task) (k at : ℕ) (w : Work) (q : Node) → k < length t.nets.now → IsBeginning t k w → tree_of w.router k ≢ None → length (paths_in w.paths k) ≡ at
    → slice_get (net_points t.nets.now k) at ≡ Some q → next_point (net_points t.nets.now k) (tree_of w.router k) ≡ Some q
lacks_next t k at w q lt b some is e =
    let (x, tree) = tree_is (tree_of w.router k) some in
    let count : suc (length x.paths) ≡ at = ap points_in (sym tree) ∙ (sym (reached t k w lt b.under_way) ∙ is) in
    subst (λ o. next_point (net_points t.nets.now k) o ≡ Some q) (sym tree) (subst (λ (n : ℕ). slice_get (net_points t.nets.now k) n ≡ Some q) (sym count) e)

pub target_new : (t : Task) → IsTask t → (k at : ℕ) (w : Work) (q : Node) → k < length t.nets.now → IsBeginning t k w → tree_of w.router k ≢ None → length (paths_in w.paths k) ≡ at
    → slice_get (net_points t.nets.now k) at ≡ Some q → IsPoint (tree_of w.router k) q → ⊥
target_new t task k at w q lt b some is e =
    let nets = t.nets.now in
    next_is_new (IsFreeFor t.grid (net_reserved nets) (tree_of w.router) (length nets) k) (net_points nets k) (tree_of w.router k) q (b.under_way.orderly.routes k lt)
    (lacks_next t k at w q lt b some is e) (task.routable.different k)

pub stuck_here : (t : Task) (k at : ℕ) (w : Work) (q : Node) → k < length t.nets.now → IsBeginning t k w → tree_of w.router k ≢ None → length (paths_in w.paths k) ≡ at
    → slice_get (net_points t.nets.now k) at ≡ Some q → ((path : List Node) → IsPath (IsFree w.router.occupied k) (tree_nodes (tree_of w.router k)) q path → ⊥)
    → IsStuck (problem_of t) w.rips.items (tree_of w.router) k at q
stuck_here t k at w q lt b some is e none =
    let nets = t.nets.now in
    let u = b.under_way in
    let (x, tree) = tree_is (tree_of w.router k) some in
    record {
      due = record { known = lt; turn = b.turn; lacks = lacks_next t k at w q lt b some is e };
      tree = x;
      begun = tree;
      number = ap points_in (sym tree) ∙ (sym (reached t k w lt u) ∙ is);
      none = λ path is_path. none path
          (path_moved (IsFreeNow (problem_of t) (tree_of w.router) k) (IsFree w.router.occupied k) (tree_nodes (tree_of w.router k)) (tree_nodes (tree_of w.router k))
          (λ p f. for_free t.grid nets w.router u.orderly.owners u.only k p f) (λ p i. i) q path is_path);
    }

laid_grown : (path : List Node) (x : Tree) → laid (grown path (Some x)) ≡ laid (Some x) ++ path ∷ []
laid_grown path x = refl

pub joined_work : (t : Task) → IsTask t → (k at : ℕ) (old new : Work) (q : Node) (path : List Node) (cost : ℕ) → k < length t.nets.now → IsBeginning t k old → tree_of old.router k ≢ None
    → length (paths_in old.paths k) ≡ at → slice_get (net_points t.nets.now k) at ≡ Some q → Connects k q cost old.router new.router path
    → HasNow k (paths_in old.paths k ++ latest_path new.router.moves ∷ []) old.paths new.paths → new.rips.items ≡ old.rips.items → IsFinishing t k old new
joined_work t task k at old new q path cost lt b some is e c kept rips =
    let u = b.under_way in
    let owned = u.orderly.owners in
    let nets = t.nets.now in
    let (x, tree) = tree_is (tree_of old.router k) some in
    let here_is = joined_here k path old.router new.router c.moves in
    let others = joined_other k path old.router new.router c.moves in
    let next = lacks_next t k at old q lt b some is e in
    let now_is : tree_of new.router k ≡ grown path (Some x) = here_is ∙ ap (grown path) tree in
    let iff = free_iff t.grid nets old.router owned u.only k in
    let takes : Takes k path old.router new.router = record {
      taken = c.taken;
      free = λ p i. ⊎_elim (λ f. f) (λ a. tree_free t.grid nets old.router owned k p a)
          (path_either (IsFree old.router.occupied k) (tree_nodes (tree_of old.router k)) q path c.least.leads p i);
      others = others;
      either = λ p i. ⊎_elim (λ a. inl (subst (λ o. In p (tree_nodes o)) (sym tree) a)) (λ a. inr a) (grown_nodes x path p (subst (λ o. In p (tree_nodes o)) now_is i));
      before = λ p i. subst (λ o. In p (tree_nodes o)) (sym now_is) (grown_old x path p (subst (λ o. In p (tree_nodes o)) tree i));
      added = λ p i. subst (λ o. In p (tree_nodes o)) (sym now_is) (grown_new x path p i);
    } in
    let least = least_moved (IsFree old.router.occupied k) (IsFreeNow (problem_of t) (tree_of old.router) k) (tree_nodes (tree_of old.router k)) (tree_nodes (tree_of old.router k))
    iff (λ p i. i) (λ p i. i) q path c.least in
    let due : IsDue (problem_of t) old.rips.items (tree_of old.router) k q = record { known = lt; turn = b.turn; lacks = next } in
    let run = joined_run (problem_of t) old.rips.items (tree_of old.router) (tree_of new.router) u.run k q path due least (pathed k path old.router new.router c.moves) in
    let turn = turn_kept (problem_of t) old.rips.items (tree_of old.router) (tree_of new.router) k others (not_whole (net_points nets k) (tree_of old.router k) q next) b.turn in
    let laid_so : paths_in old.paths k ++ latest_path new.router.moves ∷ [] ≡ laid (tree_of new.router k) =
    ap (λ (ps : List (List Node)). ps ++ latest_path new.router.moves ∷ []) (u.kept k lt ∙ ap laid tree)
    ∙ (ap (λ (ms : List Move). laid (Some x) ++ latest_path ms ∷ []) c.moves ∙ (sym (laid_grown path x) ∙ ap laid (sym now_is))) in
    record {
      now = record {
        under_way = record {
          orderly = record {
            owners = owned_still t.grid nets task.routable k path old.router new.router owned takes;
            routes = subst (λ ms. AreRoutes t.grid (net_reserved nets) (net_points nets) (length nets) (routes_of ms)) (sym c.moves)
                (routes_grow t.grid (net_reserved nets) (net_points nets) (length nets) k (tree_of old.router) q path x u.orderly.routes lt tree next least.leads);
          };
          reserved = subst (AreReserved t.grid (net_reserved nets)) (sym c.reserved) u.reserved;
          counted = kept.size ∙ u.counted;
          kept = kept_set t old new k (paths_in old.paths k ++ latest_path new.router.moves ∷ []) u kept laid_so others;
          only = only_still (length nets) k old.router new.router lt u.only others;
          run = subst (λ (rs : List PointRip). IsRipRun (problem_of t) rs (tree_of new.router)) (sym rips) run;
        };
        turn = subst (λ (rs : List PointRip). HasTurn (problem_of t) rs (tree_of new.router) k) (sym rips) turn;
      };
      rips = rips;
      others = others;
      begun = λ z. (let both : None ≡ grown path (Some x) = sym z ∙ now_is in cc both);
    }

-- ---- paths are torn out
pub alone_nodes : (o : Option Tree) (p : Node) → In p (tree_nodes (first_alone o)) → In p (tree_nodes o)
alone_nodes None p i = i
alone_nodes (Some x) p i = ⊎_elim (λ e. subst (λ (n : Node). In n (tree_nodes (Some x))) (sym e) here) (λ j. elim j [ ]) (first_or p x.start [] i)

-- a tree has no more points than its net
pub tree_fits : (free : Node → Type 0) (points : List Node) (o : Option Tree) → IsTreeOver free points o → points_in o ≤ length points
tree_fits free points None h = omega arith
tree_fits free [] (Some x) h = absurd h
tree_fits free (q ∷ points) (Some x) h = (let r = reach_fits free (x.start ∷ []) x.paths points h.2 in omega arith)
  where
    reach_fits : (free : Node → Type 0) (tree : List Node) (paths : List (List Node)) (points : List Node) → Reach free tree paths points → length paths ≤ length points
    reach_fits free tree [] points h = omega arith
    reach_fits free tree (path ∷ paths) [] h = absurd h
    reach_fits free tree (path ∷ paths) (q ∷ points) h = (let r = reach_fits free (path ++ tree) paths points h.1 in omega arith)

-- one that has as many is whole
pub tree_whole : (points : List Node) (o : Option Tree) → length points ≡ points_in o → IsWhole points o
tree_whole [] None e = refl
tree_whole (q ∷ points) None e = absurd (let no : ⊥ = omega arith in no)
tree_whole points (Some x) e = sym e

-- a net without points has no tree, and lacks none
pub no_points : (t : Task) (k : ℕ) (w : Work) → k < length t.nets.now → IsUnderWay t w → length (net_points t.nets.now k) ≡ 0 → IsWhole (net_points t.nets.now k) (tree_of w.router k)
no_points t k w lt u none =
    let nets = t.nets.now in
    let fits = tree_fits (IsFreeFor t.grid (net_reserved nets) (tree_of w.router) (length nets) k) (net_points nets k) (tree_of w.router k) (u.orderly.routes k lt) in
    tree_whole (net_points nets k) (tree_of w.router k) (omega arith)

-- one that has reached them all is whole
pub finishing_whole : (t : Task) (k : ℕ) (w : Work) → k < length t.nets.now → IsUnderWay t w → length (net_points t.nets.now k) ≤ length (paths_in w.paths k)
    → IsWhole (net_points t.nets.now k) (tree_of w.router k)
finishing_whole t k w lt u all =
    let nets = t.nets.now in
    let fits = tree_fits (IsFreeFor t.grid (net_reserved nets) (tree_of w.router) (length nets) k) (net_points nets k) (tree_of w.router k) (u.orderly.routes k lt) in
    let is = reached t k w lt u in
    tree_whole (net_points nets k) (tree_of w.router k) (omega arith)

-- one after another
pub finishing_on : (t : Task) (k : ℕ) (old mid new : Work) → IsFinishing t k old mid → IsFinishing t k mid new → IsFinishing t k old new
finishing_on t k old mid new a b = record {
  now = b.now;
  rips = b.rips ∙ a.rips;
  others = λ j ne. b.others j ne ∙ a.others j ne;
  begun = b.begun;
}

reach_looser : (free other : Node → Type 0) → ((p : Node) → free p → other p) → (tree : List Node) (paths : List (List Node)) (points : List Node)
    → Reach free tree paths points → Reach other tree paths points
reach_looser free other f tree [] points h = tt
reach_looser free other f tree (path ∷ paths) [] h = h
reach_looser free other f tree (path ∷ paths) (q ∷ points) h =
    (path_moved free other tree tree f (λ p i. i) q path h.0, reach_looser free other f (path ++ tree) paths points h.1)

pub tree_looser : (free other : Node → Type 0) → ((p : Node) → free p → other p) → (points : List Node) (o : Option Tree) → IsTreeOver free points o → IsTreeOver other points o
tree_looser free other f points None h = tt
tree_looser free other f [] (Some x) h = h
tree_looser free other f (q ∷ points) (Some x) h = (h.0, f q h.1, reach_looser free other f (x.start ∷ []) x.paths points h.2)

pub tree_alone : (free other : Node → Type 0) → ((p : Node) → free p → other p) → (points : List Node) (o : Option Tree) → IsTreeOver free points o → IsTreeOver other points (first_alone o)
tree_alone free other f points None h = tt
tree_alone free other f [] (Some x) h = h
tree_alone free other f (q ∷ points) (Some x) h = (h.0, f q h.1, tt)

module _ (g : Grid) (nets : List NetPoints) (can : AreRoutable g nets) (b : ℕ) (old new : Routing) (o : IsOrderly g nets old) (are : AreReserved g (net_reserved nets) old.reserved) (t : TakesOut b old new) where
  owned : AreOwned g nets old
  owned = o.owners

  torn_old : (j : ℕ) (p : Node) → In p (tree_nodes (tree_of new j)) → In p (tree_nodes (tree_of old j))
  torn_old j p i = elim (cases_eq j b) [
    | inl e ↦ subst (λ (n : ℕ). In p (tree_nodes (tree_of old n))) (sym e)
        (alone_nodes (tree_of old b) p (subst (λ (tree : Option Tree). In p (tree_nodes tree)) (ap (tree_of new) e ∙ t.tree) i))
    | inr ne ↦ subst (λ (tree : Option Tree). In p (tree_nodes tree)) (t.trees j ne) i
  ]

  old_grid : (p : Node) → IsInGrid g p → IsInGrid old.occupied.grid p
  old_grid p h = subst (λ (k : Grid). IsInGrid k p) (sym owned.grid) h

  -- a node was left, or stays as it was
  left_or : (p : Node) → IsInGrid g p
      → ((In p (tree_nodes (tree_of old b)) × (In p (tree_nodes (tree_of new b)) → ⊥)) × (owner_of new.occupied p ≡ owner_of old.reserved p))
      ⊎ ((In p (tree_nodes (tree_of old b)) → In p (tree_nodes (tree_of new b))) × (owner_of new.occupied p ≡ owner_of old.occupied p))
  left_or p h = elim (cases_in p (tree_nodes (tree_of new b))) [
    | inl i ↦ inr ((λ a. i), t.stays p (old_grid p h) (λ a. i))
    | inr out ↦ elim (cases_in p (tree_nodes (tree_of old b))) [
      | inl i ↦ inl ((i, out), t.left p i out)
      | inr off ↦ inr ((λ a. absurd (off a)), t.stays p (old_grid p h) (λ a. absurd (off a)))
    ]
  ]

  torn_owned : AreOwned g nets new
  torn_owned = record {
    grid = t.grid ∙ owned.grid;
    within = λ j p i. owned.within j p (torn_old j p i);
    trees = λ j p i.
        let was = torn_old j p i in
        let owner = owned.trees j p was in
        elim (left_or p (owned.within j p was)) [
          | inr kept ↦ kept.1 ∙ owner
          | inl gone ↦ (
              let b_owner = owned.trees b p gone.0.0 in
              let same : j ≡ b = some_same j b (sym owner ∙ b_owner) in
              absurd (gone.0.1 (subst (λ (n : ℕ). In p (tree_nodes (tree_of new n))) same i)))
        ];
    reserved = λ j p i. elim (left_or p (can.within j p i)) [
      | inr kept ↦ kept.1 ∙ owned.reserved j p i
      | inl gone ↦ gone.1 ∙ are.mine j p i
    ];
    owned = λ j p h e. elim (left_or p h) [
      | inl gone ↦ inr (are.owned j p h (sym gone.1 ∙ e))
      | inr kept ↦ elim (owned.owned j p h (sym kept.1 ∙ e)) [
        | inr i ↦ inr i
        | inl i ↦ inl (elim (cases_eq j b) [
          | inl s ↦ subst (λ (n : ℕ). In p (tree_nodes (tree_of new n))) (sym s) (kept.0 (subst (λ (n : ℕ). In p (tree_nodes (tree_of old n))) s i))
          | inr ne ↦ subst (λ (tree : Option Tree). In p (tree_nodes tree)) (sym (t.trees j ne)) i
        ])
      ]
    ];
  }

  looser : (k : ℕ) (p : Node) → IsFreeFor g (net_reserved nets) (tree_of old) (length nets) k p → IsFreeFor g (net_reserved nets) (tree_of new) (length nets) k p
  looser k p f = record { within = f.within; apart = λ j lt ne i. f.apart j lt ne (torn_old j p i); kept = f.kept }

  torn_routes : AreRoutes g (net_reserved nets) (net_points nets) (length nets) (tree_of new)
  torn_routes k lt = elim (cases_eq k b) [
    | inr ne ↦ subst (IsTreeOver (IsFreeFor g (net_reserved nets) (tree_of new) (length nets) k) (net_points nets k)) (sym (t.trees k ne))
        (tree_looser (IsFreeFor g (net_reserved nets) (tree_of old) (length nets) k) (IsFreeFor g (net_reserved nets) (tree_of new) (length nets) k) (looser k) (net_points nets k) (tree_of old k) (o.routes k lt))
    | inl e ↦ (
        let is : tree_of new k ≡ first_alone (tree_of old k) = ap (tree_of new) e ∙ (t.tree ∙ ap (λ (n : ℕ). first_alone (tree_of old n)) (sym e)) in
        subst (IsTreeOver (IsFreeFor g (net_reserved nets) (tree_of new) (length nets) k) (net_points nets k)) (sym is)
        (tree_alone (IsFreeFor g (net_reserved nets) (tree_of old) (length nets) k) (IsFreeFor g (net_reserved nets) (tree_of new) (length nets) k) (looser k) (net_points nets k) (tree_of old k) (o.routes k lt)))
  ]

  pub torn_orderly : IsOrderly g nets new
  torn_orderly = record { owners = torn_owned; routes = torn_routes }

laid_alone : (o : Option Tree) → take 1 (laid o) ≡ laid (first_alone o)
laid_alone None = refl
laid_alone (Some x) = refl

-- a net that blocks another is in its way
pub in_the_way : (t : Task) (w : Work) (k : ℕ) (q : Node) (b : ℕ) → IsUnderWay t w → Blocks w.router k q b → IsInTheWay (problem_of t) (tree_of w.router) k q b
in_the_way t w k q b u h =
    let nets = t.nets.now in
    record {
      known = has_tree (length nets) w.router u.only b h.first h.theirs;
      path = h.path;
      least = least_moved (IsFree w.router.reserved k) (IsFreePast (problem_of t) k) (tree_nodes (tree_of w.router k)) (tree_nodes (tree_of w.router k))
          (past_iff t.grid nets t.order.now w.router.reserved u.reserved k) (λ p i. i) (λ p i. i) q h.path h.least;
      first = h.first;
      stands = first_moved (IsFree w.router.occupied k) (IsFreeNow (problem_of t) (tree_of w.router) k) (free_iff t.grid nets w.router u.orderly.owners u.only k) h.path h.first h.stands;
      theirs = h.theirs;
    }

pub blocker_begun : (w : Work) (k : ℕ) (q : Node) (b : ℕ) → Blocks w.router k q b → tree_of w.router b ≢ None
blocker_begun w k q b h none = no_nodes h.first (subst (λ o. In h.first (tree_nodes o)) none h.theirs)

pub ripped_work : (t : Task) → IsTask t → (old new : Work) (k at b : ℕ) (q : Node) → IsUnderWay t old → IsStuck (problem_of t) old.rips.items (tree_of old.router) k at q
    → Blocks old.router k q b → TakesOut b old.router new.router → HasNow b (take 1 (paths_in old.paths b)) old.paths new.paths
    → new.rips.items ≡ old.rips.items ++ record { net = k; point = at; torn = b } ∷ [] → IsUnderWay t new
ripped_work t task old new k at b q u stuck h torn kept rips =
    let nets = t.nets.now in
    let way = in_the_way t old k q b u h in
    let run = ripped_run (problem_of t) old.rips.items (tree_of old.router) (tree_of new.router) u.run (record { net = k; point = at; torn = b }) q stuck way (torn_trees b old.router new.router torn) in
    record {
      orderly = torn_orderly t.grid nets task.routable b old.router new.router u.orderly u.reserved torn;
      reserved = subst (AreReserved t.grid (net_reserved nets)) (sym torn.reserved) u.reserved;
      counted = kept.size ∙ u.counted;
      kept = kept_set t old new b (take 1 (paths_in old.paths b)) u kept
          (ap (λ (ps : List (List Node)). take 1 ps) (u.kept b way.known) ∙ (laid_alone (tree_of old.router b) ∙ ap laid (sym torn.tree))) torn.trees;
      only = only_still (length nets) b old.router new.router way.known u.only torn.trees;
      run = subst (λ (rs : List PointRip). IsRipRun (problem_of t) rs (tree_of new.router)) (sym rips) run;
    }

-- where no net blocks, no way leads through all of them
pub nothing_past : (t : Task) (w : Work) (k : ℕ) (q : Node) → IsUnderWay t w → ((path : List Node) → IsPath (IsFree w.router.reserved k) (tree_nodes (tree_of w.router k)) q path → ⊥)
    → (path : List Node) → IsPathPast (problem_of t) (tree_of w.router) k q path → ⊥
nothing_past t w k q u none path is =
    none path (path_moved (IsFreePast (problem_of t) k) (IsFree w.router.reserved k) (tree_nodes (tree_of w.router k)) (tree_nodes (tree_of w.router k))
    (λ p f. (past_iff t.grid t.nets.now t.order.now w.router.reserved u.reserved k p).1 f) (λ p i. i) q path is)

-- what a stuck net's target is
pub stuck_free : (t : Task) (w : Work) (k at : ℕ) (q : Node) → IsUnderWay t w → IsStuck (problem_of t) w.rips.items (tree_of w.router) k at q
    → (path : List Node) → IsPath (IsFree w.router.occupied k) (tree_nodes (tree_of w.router k)) q path → ⊥
stuck_free t w k at q u stuck path is =
    stuck.none path (path_moved (IsFree w.router.occupied k) (IsFreeNow (problem_of t) (tree_of w.router) k) (tree_nodes (tree_of w.router k)) (tree_nodes (tree_of w.router k))
    (λ p f. (free_iff t.grid t.nets.now w.router u.orderly.owners u.only k p).0 f) (λ p i. i) q path is)
