-- Nets get all their points, in order.
use Rattle.std.proofs.Common.{◌≡◌, ◌≢◌, ℕ, ◌<◌, ◌≤◌, ◌+◌, inl, inr, ⊎_elim, List, [], ◌∷◌, ◌++◌, length, take, drop, Option, Some, None, sym, ap, ◌∙◌, subst}
use Rattle.std.specs.Prelude.{IfSome, slice_get, slice_index_or}
use Rattle.std.proofs.lemmas.Bool.{cases_eq}
use Rattle.std.proofs.lemmas.List.{take_more, take_all, drop_more, take-append-drop}
use Rattle.vlsi_base.specs.Member.{In}
use Rattle.grid_core.specs.declared.grid.Node.{Node}
use Rattle.grid_core.specs.Routes.{Tree, NetRoutes}
use Rattle.grid_core.specs.Trees.{AreWhole, IsWhole, next_point}
use Rattle.grid_core.proofs.Lists.{In_either}
use Rattle.grid_core.proofs.Owners.{first_or}
use Rattle.nero_maze.specs.Routing.{tree_of}
use Rattle.maze_nets.specs.Nets.{net_points}
use Rattle.maze_nets.proofs.Lists.{place_in}
use Rattle.maze_rips.specs.declared.rip.PointRip.{PointRip}
use Rattle.maze_rips.specs.declared.work.Stuck.{Stuck}
use Rattle.maze_rips.specs.declared.work.Task.{Task}
use Rattle.maze_rips.specs.declared.work.Work.{Work}
use Rattle.maze_rips.specs.Run.{Problem, last_stuck, IsServed, again, next, IsStuck, IsSpent, IsPathPast}
use Rattle.maze_rips.specs.Progress.{problem_of, IsTask, IsUnderWay, IsBeginning}
use Rattle.maze_rips.proofs.Known.{last_among, rips_known}

-- the net of the last rip is one of those that there are
pub last_known : (t : Task) (w : Work) (k : ℕ) → IsUnderWay t w → last_stuck w.rips.items ≡ Some k → k < length t.nets.now
last_known t w k u e =
    let (r, i, same) = last_among w.rips.items k e in
    let known = rips_known (problem_of t) u.run.moves u.run.right r (subst (λ (rs : List PointRip). In r rs) (sym u.run.made) i) in
    subst (λ (n : ℕ). n < length t.nets.now) same known.net

pub last_turn : (t : Task) (w : Work) (k : ℕ) → IsUnderWay t w → last_stuck w.rips.items ≡ Some k → IsBeginning t k w
last_turn t w k u e = record { under_way = u; turn = again e }

-- it is served, when it is whole
pub served_by : (p : Problem) (routes : NetRoutes) (last : Option ℕ) (k : ℕ) → last ≡ Some k → IsWhole (p.points k) (routes k) → IsServed p routes last
served_by p routes last k e whole = subst (λ (o : Option ℕ). IsServed p routes o) (sym e) whole

pub served_none : (p : Problem) (routes : NetRoutes) (last : Option ℕ) → last ≡ None → IsServed p routes last
served_none p routes last e = subst (λ (o : Option ℕ). IsServed p routes o) (sym e) tt

-- and stays so, when another net gets whole
pub served_still : (p : Problem) (routes other : NetRoutes) (k : ℕ) (last : Option ℕ) → ((j : ℕ) → j ≢ k → other j ≡ routes j) → IsWhole (p.points k) (other k)
    → IsServed p routes last → IsServed p other last
served_still p routes other k None same whole h = tt
served_still p routes other k (Some j) same whole h = elim (cases_eq j k) [
  | inl e ↦ subst (λ (n : ℕ). IsWhole (p.points n) (other n)) (sym e) whole
  | inr ne ↦ subst (IsWhole (p.points j)) (sym (same j ne)) h
]

-- ---- in order
pub order_at : (order : List ℕ) (i : ℕ) → i < length order → order ≡ take i order ++ slice_index_or order i 0 ∷ drop (i + 1) order
order_at order i lt = sym (ap (λ (xs : List ℕ). take i order ++ xs) (sym (drop_more order i 0 lt)) ∙ take-append-drop i order)

pub order_turn : (t : Task) (w : Work) (i : ℕ) → i < length t.order.now → IsUnderWay t w → IsServed (problem_of t) (tree_of w.router) (last_stuck w.rips.items)
    → ((j : ℕ) → In j (take i t.order.now) → IsWhole (net_points t.nets.now j) (tree_of w.router j)) → IsBeginning t (slice_index_or t.order.now i 0) w
order_turn t w i lt u served whole = record {
  under_way = u;
  turn = next served (take i t.order.now) (drop (i + 1) t.order.now) (order_at t.order.now i lt) whole;
}

pub order_known : (t : Task) → IsTask t → (i : ℕ) → i < length t.order.now → slice_index_or t.order.now i 0 < length t.nets.now
order_known t task i lt = (task.sorted.each (slice_index_or t.order.now i 0)).0 (place_in t.order.now i 0 lt)

pub whole_more : (t : Task) (old new : Work) (i : ℕ) → i < length t.order.now → ((j : ℕ) → j ≢ slice_index_or t.order.now i 0 → tree_of new.router j ≡ tree_of old.router j)
    → IsWhole (net_points t.nets.now (slice_index_or t.order.now i 0)) (tree_of new.router (slice_index_or t.order.now i 0))
    → ((j : ℕ) → In j (take i t.order.now) → IsWhole (net_points t.nets.now j) (tree_of old.router j))
    → (j : ℕ) → In j (take (i + 1) t.order.now) → IsWhole (net_points t.nets.now j) (tree_of new.router j)
whole_more t old new i lt same now before j h =
    let k = slice_index_or t.order.now i 0 in
    elim (cases_eq j k) [
      | inl e ↦ subst (λ (n : ℕ). IsWhole (net_points t.nets.now n) (tree_of new.router n)) (sym e) now
      | inr ne ↦ (
          let inside = subst (λ (xs : List ℕ). In j xs) (take_more t.order.now i 0 lt) h in
          let earlier : In j (take i t.order.now) = ⊎_elim (λ a. a) (λ a. ⊎_elim (λ e. absurd (ne e)) (λ none. elim none [ ]) (first_or j k [] a)) (In_either (take i t.order.now) (k ∷ []) j inside) in
          subst (IsWhole (net_points t.nets.now j)) (sym (same j ne)) (before j earlier))
    ]

pub all_whole : (t : Task) → IsTask t → (w : Work) (i : ℕ) → length t.order.now ≤ i → ((j : ℕ) → In j (take i t.order.now) → IsWhole (net_points t.nets.now j) (tree_of w.router j))
    → AreWhole (net_points t.nets.now) (length t.nets.now) (tree_of w.router)
all_whole t task w i le whole k lt =
    whole k (subst (λ (xs : List ℕ). In k xs) (sym (take_all i t.order.now le)) ((task.sorted.each k).1 lt))

-- ---- a stuck net's point
pub same_point : (p : Problem) (rips : List PointRip) (routes : NetRoutes) (k at : ℕ) (q target : Node) → IsStuck p rips routes k at q → slice_get (p.points k) at ≡ Some target
    → target ≡ q
same_point p rips routes k at q target s e =
    let lacks = subst (λ (o : Option Tree). next_point (p.points k) o ≡ Some q) s.begun s.due.lacks in
    let there : slice_get (p.points k) at ≡ Some q = subst (λ (n : ℕ). slice_get (p.points k) n ≡ Some q) s.number lacks in
    let both : Some target ≡ Some q = sym e ∙ there in
    cc both

pub stuck_point : (p : Problem) (rips : List PointRip) (routes : NetRoutes) (k at : ℕ) (q target : Node) → IsStuck p rips routes k at q → slice_get (p.points k) at ≡ Some target
    → IsStuck p rips routes k at target
stuck_point p rips routes k at q target s e = subst (λ (n : Node). IsStuck p rips routes k at n) (sym (same_point p rips routes k at q target s e)) s

pub spent_all : (p : Problem) (allowed : ℕ) (rips : List PointRip) (routes : NetRoutes) (k at : ℕ) → length rips ≡ allowed → ((q : Node) × IsStuck p rips routes k at q)
    → IsSpent p allowed rips routes k at
spent_all p allowed rips routes k at e (q, s) = record { point = q; stuck = s; spent = inl e }

pub spent_closed : (p : Problem) (allowed : ℕ) (rips : List PointRip) (routes : NetRoutes) (k at : ℕ) → ((q : Node) × IsStuck p rips routes k at q)
    → ((q : Node) → IsStuck p rips routes k at q → (path : List Node) → IsPathPast p routes k q path → ⊥) → IsSpent p allowed rips routes k at
spent_closed p allowed rips routes k at (q, s) closed = record { point = q; stuck = s; spent = inr (closed q s) }

-- where as many rips were made as are allowed, a net that is stuck is so for good
pub some_spent : (p : Problem) (allowed : ℕ) (rips : List PointRip) (routes : NetRoutes) (r : Option Stuck) → length rips ≡ allowed
    → IfSome r (λ s. (q : Node) × IsStuck p rips routes s.net s.point q) → IfSome r (λ s. IsSpent p allowed rips routes s.net s.point)
some_spent p allowed rips routes None e h = tt
some_spent p allowed rips routes (Some s) e h = spent_all p allowed rips routes s.net s.point e h
