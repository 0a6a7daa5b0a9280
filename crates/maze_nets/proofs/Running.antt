-- One net is routed: a tree begins at its first point, and grows path by path.
use Rattle.std.proofs.Common.{◌≡◌, ◌≢◌, ℕ, ◌<◌, ◌+◌, inl, inr, ⊎_elim, Bool, true, false, List, [], ◌∷◌, ◌++◌, length, Option, Some, None, refl, sym, ap, ◌∙◌, subst, arith, if◌then◌else◌, nat_eq}
use Rattle.std.specs.Prelude.{◌↔◌, Result, Ok, Err, IfOk, IfErr, is_err, slice_get, slice_index_or}
use Rattle.std.proofs.lemmas.Bool.{eq-eqb, ne_eqb}
use Rattle.std.proofs.lemmas.List.{length-append}
use Prim.Native.Nat.{suc}
use Rattle.vlsi_base.specs.Member.{In}
use Rattle.grid_core.specs.declared.grid.Grid.{Grid}
use Rattle.grid_core.specs.declared.grid.Node.{Node}
use Rattle.grid_core.specs.Grid.{IsPath, IsLeastPath}
use Rattle.grid_core.specs.Owners.{IsFree}
use Rattle.grid_core.specs.Routes.{Tree, tree_nodes, grown}
use Rattle.grid_core.specs.Trees.{IsFreeFor, AreRoutes, IsLeastTree, IsWhole, next_point}
use Rattle.grid_core.proofs.Growing.{routes_begin, routes_grow, path_either, grown_nodes}
use Rattle.grid_core.proofs.Owners.{first_or}
use Rattle.nero_maze.specs.Routing.{Routing, Began, Joined, routes_of, tree_of, IsPoint, Begins, Connects}
use Rattle.maze_nets.specs.declared.points.NetPoints.{NetPoints}
use Rattle.maze_nets.specs.Nets.{points_of, nodes_of, net_points, net_reserved, AreRoutable}
use Rattle.maze_nets.specs.Progress.{AreOwned, IsOrderly, Grows, Stops}
use Rattle.maze_nets.proofs.Lists.{get_in, get_place, point_reserved}
use Rattle.maze_nets.proofs.Growth.{path_moved, least_moved, tree_then, tree_begun, grown_old, grown_new, new_point}
use Rattle.maze_nets.proofs.Owning.{Takes, tree_free, free_in_grid, free_for, owned_still, free_still}

if_same : {A : Type 0} (k : ℕ) (a b : A) → (if nat_eq k k then a else b) ≡ a
if_same k a b = rw (eq-eqb k k refl) refl

if_other : {A : Type 0} (j k : ℕ) (a b : A) → j ≢ k → (if nat_eq j k then a else b) ≡ b
if_other j k a b ne = rw (ne_eqb j k ne) refl

-- what a move makes of the trees
pub began_here : (k : ℕ) (q : Node) (old new : Routing) → new.moves ≡ Began k q ∷ old.moves → tree_of new k ≡ Some (record { start = q; paths = [] })
began_here k q old new e = ap (λ ms. routes_of ms k) e ∙ if_same k (Some (record { start = q; paths = [] })) (tree_of old k)

pub began_other : (k : ℕ) (q : Node) (old new : Routing) → new.moves ≡ Began k q ∷ old.moves → (j : ℕ) → j ≢ k → tree_of new j ≡ tree_of old j
began_other k q old new e j ne = ap (λ ms. routes_of ms j) e ∙ if_other j k (Some (record { start = q; paths = [] })) (tree_of old j) ne

pub joined_here : (k : ℕ) (path : List Node) (old new : Routing) → new.moves ≡ Joined k path ∷ old.moves → tree_of new k ≡ grown path (tree_of old k)
joined_here k path old new e = ap (λ ms. routes_of ms k) e ∙ if_same k (grown path (tree_of old k)) (tree_of old k)

pub joined_other : (k : ℕ) (path : List Node) (old new : Routing) → new.moves ≡ Joined k path ∷ old.moves → (j : ℕ) → j ≢ k → tree_of new j ≡ tree_of old j
joined_other k path old new e j ne = ap (λ ms. routes_of ms j) e ∙ if_other j k (grown path (tree_of old k)) (tree_of old j) ne

-- the first so many points of net k are in its tree
pub record Running (g : Grid) (nets : List NetPoints) (k at : ℕ) (old now : Routing) : Type 0 where
  pub orderly : IsOrderly g nets now
  pub grows : Grows nets k old now
  pub free : (p : Node) → IsFree now.occupied k p ↔ IsFree old.occupied k p
  pub tree : Tree
  pub begun : tree_of now k ≡ Some tree
  pub reached : suc (length tree.paths) ≡ at

-- a point of a net is free for it
pub point_free : (g : Grid) (nets : List NetPoints) → AreRoutable g nets → (r : Routing) → AreOwned g nets r → (k at : ℕ) (q : Node)
    → slice_get (net_points nets k) at ≡ Some q → IsFree r.occupied k q
point_free g nets can r owned k at q e =
    let i = point_reserved nets k q (get_in (net_points nets k) at q e) in
    free_in_grid g nets r owned k q (can.within k q i) (inr (owned.reserved k q i))

pub seated : (g : Grid) (nets : List NetPoints) → AreRoutable g nets → (k : ℕ) (q : Node) (old new : Routing) → IsOrderly g nets old → k < length nets
    → tree_of old k ≡ None → slice_get (net_points nets k) 0 ≡ Some q → Begins k q old new → Running g nets k 1 old new
seated g nets can k q old new o lt none first b =
    let here_is = began_here k q old new b.moves in
    let free = point_free g nets can old o.owners k 0 q first in
    let one : (p : Node) → In p (q ∷ []) → p ≡ q = λ p i. ⊎_elim (λ e. e) (λ j. elim j [ ]) (first_or p q [] i) in
    let new_in : (p : Node) → In p (q ∷ []) → In p (tree_nodes (tree_of new k)) = λ p i. subst (λ t. In p (tree_nodes t)) (sym here_is) i in
    let t : Takes k (q ∷ []) old new = record {
      taken = b.taken;
      free = λ p i. subst (IsFree old.occupied k) (sym (one p i)) free;
      others = began_other k q old new b.moves;
      either = λ p i. inr (subst (λ t. In p (tree_nodes t)) here_is i);
      before = λ p i. absurd (no_nodes p (subst (λ t. In p (tree_nodes t)) none i));
      added = new_in;
    } in
    let next : next_point (net_points nets k) (tree_of old k) ≡ Some q = subst (λ t. next_point (net_points nets k) t ≡ Some q) (sym none) first in
    record {
      orderly = record {
        owners = owned_still g nets can k (q ∷ []) old new o.owners t;
        routes = subst (λ ms. AreRoutes g (net_reserved nets) (net_points nets) (length nets) (routes_of ms)) (sym b.moves)
            (routes_begin g (net_reserved nets) (net_points nets) (length nets) k (tree_of old) q o.routes lt none next (free_for g nets old o.owners k q free));
      };
      grows = record {
        least = subst (IsLeastTree (IsFree old.occupied k) (net_points nets k)) (sym here_is) (tree_begun (IsFree old.occupied k) (net_points nets k) q first free);
        others = began_other k q old new b.moves;
      };
      free = free_still g nets can k (q ∷ []) old new o.owners t;
      tree = record { start = q; paths = [] };
      begun = here_is;
      reached = refl;
    }
  where
    no_nodes : (p : Node) → In p (tree_nodes None) → ⊥
    no_nodes p i = elim i [ ]

-- the points of a net, as a place of the list has them
pub points_at : (nets : List NetPoints) (k : ℕ) (n d : NetPoints) → k < length nets → n ≡ slice_index_or nets k d → net_points nets k ≡ points_of n
points_at nets k n d lt e = ap (nodes_of points_of) (get_place nets k d lt ∙ ap (λ m. Some m) (sym e))

-- what a call answers, where it is known how
pub from_err : {A E : Type 0} {P : E → Type 0} (r : Result A E) (b : Bool) → b ≡ is_err r → b ≡ true → IfErr r P → (e : E) × P e
from_err (Ok a) b is e h = let both : ◌≡◌ {A = Bool} true false = sym e ∙ is in absurd (cc both)
from_err (Err x) b is e h = (x, h)

pub from_ok : {A E : Type 0} {P : A → Type 0} (r : Result A E) (b : Bool) → b ≡ is_err r → b ≡ false → IfOk r P → (a : A) × P a
from_ok (Ok a) b is e h = (a, h)
from_ok (Err x) b is e h = let both : ◌≡◌ {A = Bool} true false = sym is ∙ e in absurd (cc both)

pub whole_none : (points : List Node) (t : Option Tree) → length points ≡ 0 → t ≡ None → IsWhole points t
whole_none [] t e none = subst (IsWhole []) (sym none) refl
whole_none (q ∷ points) t e none = absurd (let no : ⊥ = omega arith in no)

-- the point that is lacking, by the tree
pub lacking : (g : Grid) (nets : List NetPoints) (k at : ℕ) (q : Node) (old now : Routing) (run : Running g nets k at old now)
    → slice_get (net_points nets k) at ≡ Some q → next_point (net_points nets k) (Some run.tree) ≡ Some q
lacking g nets k at q old now run e = subst (λ (n : ℕ). slice_get (net_points nets k) n ≡ Some q) (sym run.reached) e

pub not_reached : (g : Grid) (nets : List NetPoints) → AreRoutable g nets → (k at : ℕ) (q : Node) (old now : Routing) → Running g nets k at old now
    → slice_get (net_points nets k) at ≡ Some q → IsPoint (tree_of now k) q → ⊥
not_reached g nets can k at q old now run e i =
    new_point (IsFree old.occupied k) (net_points nets k) run.tree q
    (subst (IsLeastTree (IsFree old.occupied k) (net_points nets k)) run.begun run.grows.least)
    (lacking g nets k at q old now run e) (can.different k) (subst (λ t. IsPoint t q) run.begun i)

some_none : (t : Tree) (o : Option Tree) → o ≡ Some t → o ≢ None
some_none t o e n = let both : ◌≡◌ {A = Option Tree} (Some t) None = sym e ∙ n in cc both

pub has_begun : (g : Grid) (nets : List NetPoints) (k at : ℕ) (old now : Routing) → Running g nets k at old now → tree_of now k ≢ None
has_begun g nets k at old now run = some_none run.tree (tree_of now k) run.begun

pub connected : (g : Grid) (nets : List NetPoints) → AreRoutable g nets → (k at total : ℕ) (q : Node) (path : List Node) (old now new : Routing) → k < length nets
    → Running g nets k at old now → slice_get (net_points nets k) at ≡ Some q → Connects k q total now new path → Running g nets k (at + 1) old new
connected g nets can k at total q path old now new lt run e c =
    let owners = run.orderly.owners in
    let free_now = IsFree now.occupied k in
    let free_old = IsFree old.occupied k in
    let t0 = run.tree in
    let here_is : tree_of new k ≡ grown path (Some t0) = joined_here k path now new c.moves ∙ ap (grown path) run.begun in
    let leads = c.least.leads in
    let t : Takes k path now new = record {
      taken = c.taken;
      free = λ p i. ⊎_elim (λ f. f) (λ j. tree_free g nets now owners k p j) (path_either free_now (tree_nodes (tree_of now k)) q path leads p i);
      others = joined_other k path now new c.moves;
      either = λ p i. ⊎_elim (λ a. inl (subst (λ t. In p (tree_nodes t)) (sym run.begun) a)) (λ a. inr a) (grown_nodes t0 path p (subst (λ t. In p (tree_nodes t)) here_is i));
      before = λ p i. subst (λ t. In p (tree_nodes t)) (sym here_is) (grown_old t0 path p (subst (λ t. In p (tree_nodes t)) run.begun i));
      added = λ p i. subst (λ t. In p (tree_nodes t)) (sym here_is) (grown_new t0 path p i);
    } in
    let next = lacking g nets k at q old now run e in
    let next_now : next_point (net_points nets k) (tree_of now k) ≡ Some q = subst (λ t. next_point (net_points nets k) t ≡ Some q) (sym run.begun) next in
    let way : IsLeastPath free_old (tree_nodes (Some t0)) q path =
    subst (λ t. IsLeastPath free_old (tree_nodes t) q path) run.begun (least_moved free_now free_old (tree_nodes (tree_of now k)) (tree_nodes (tree_of now k)) run.free (λ p i. i) (λ p i. i) q path c.least) in
    let still = free_still g nets can k path now new owners t in
    record {
      orderly = record {
        owners = owned_still g nets can k path now new owners t;
        routes = subst (λ ms. AreRoutes g (net_reserved nets) (net_points nets) (length nets) (routes_of ms)) (sym c.moves)
            (routes_grow g (net_reserved nets) (net_points nets) (length nets) k (tree_of now) q path t0 run.orderly.routes lt run.begun next_now
            (path_moved free_now (IsFreeFor g (net_reserved nets) (tree_of now) (length nets) k) (tree_nodes (tree_of now k)) (tree_nodes (tree_of now k)) (free_for g nets now owners k) (λ p i. i) q path leads));
      };
      grows = record {
        least = subst (IsLeastTree free_old (net_points nets k)) (sym here_is)
            (tree_then free_old (net_points nets k) t0 q path next way (subst (IsLeastTree free_old (net_points nets k)) run.begun run.grows.least));
        others = λ j ne. joined_other k path now new c.moves j ne ∙ run.grows.others j ne;
      };
      free = λ p. ((λ f. (run.free p).0 ((still p).0 f)), (λ f. (still p).1 ((run.free p).1 f)));
      tree = record { start = t0.start; paths = t0.paths ++ path ∷ [] };
      begun = here_is;
      reached = one_more t0.paths run.reached;
    }
  where
    one_more : (paths : List (List Node)) → suc (length paths) ≡ at → suc (length (paths ++ path ∷ [])) ≡ at + 1
    one_more paths e = let h = length-append paths (path ∷ []) in omega arith

pub stopped : (g : Grid) (nets : List NetPoints) (k at : ℕ) (q : Node) (old now : Routing) → Running g nets k at old now → slice_get (net_points nets k) at ≡ Some q
    → ((path : List Node) → IsPath (IsFree now.occupied k) (tree_nodes (tree_of now k)) q path → ⊥) → Stops nets k at old now
stopped g nets k at q old now run e none = record {
  tree = run.tree;
  begun = run.begun;
  reached = run.reached;
  point = q;
  next = e;
  none = λ path is. none path
      (subst (λ t. IsPath (IsFree now.occupied k) (tree_nodes t) q path) (sym run.begun)
      (path_moved (IsFree old.occupied k) (IsFree now.occupied k) (tree_nodes (Some run.tree)) (tree_nodes (Some run.tree)) (λ p. (run.free p).1) (λ p i. i) q path is));
}

pub whole : (g : Grid) (nets : List NetPoints) (k at : ℕ) (old now : Routing) → Running g nets k at old now → at ≡ length (net_points nets k) → IsWhole (net_points nets k) (tree_of now k)
whole g nets k at old now run e = subst (IsWhole (net_points nets k)) (sym run.begun) (run.reached ∙ e)
