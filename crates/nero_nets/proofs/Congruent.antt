-- Routes over points that are the same for each net.
use Rattle.std.proofs.Common.{◌≡◌, ℕ, ◌<◌, Bool, ◌||◌, ◌&&◌, nat_eq, nat_lt, List, [], ◌∷◌, ◌++◌, Option, Some, None, sym, subst, arith}
use Rattle.std.specs.Prelude.{◌↔◌, IsTrue, slice_index_or}
use Rattle.vlsi_base.specs.Member.{In, here, there}
use Rattle.grid_core.specs.declared.grid.Grid.{Grid}
use Rattle.grid_core.specs.declared.grid.Node.{Node}
use Rattle.grid_core.specs.Routes.{Tree, NetRoutes, tree_nodes}
use Rattle.grid_core.specs.Trees.{Reach, IsTreeOver, IsWhole, IsFreeFor, IsFreeAfter, AreRoutes, AreWhole, IsLeastTree, AreDone, next_point, IsNetOrder, IsStuckAt}
use Rattle.maze_nets.proofs.Growth.{path_moved, tree_moved}
use Rattle.maze_nets.proofs.Lists.{place_in}

-- ---- trees over nodes that are free by two rules

reach_moved : (free other : Node → Type 0) → ((p : Node) → free p → other p) → (tree : List Node) (paths : List (List Node)) (points : List Node)
    → Reach free tree paths points → Reach other tree paths points
reach_moved free other f tree [] points h = tt
reach_moved free other f tree (path ∷ paths) [] h = h
reach_moved free other f tree (path ∷ paths) (q ∷ points) h =
    (path_moved free other tree tree f (λ p i. i) q path h.0, reach_moved free other f (path ++ tree) paths points h.1)

over_moved : (free other : Node → Type 0) → ((p : Node) → free p → other p) → (points : List Node) (t : Option Tree) → IsTreeOver free points t → IsTreeOver other points t
over_moved free other f points None h = tt
over_moved free other f [] (Some t) h = h
over_moved free other f (q ∷ points) (Some t) h = (h.0, f q h.1, reach_moved free other f (t.start ∷ []) t.paths points h.2)

-- ---- what is free

abbrev pub AreSame : {A : Type 0} → ℕ → (ℕ → A) → (ℕ → A) → Type 0
AreSame nets f g = (k : ℕ) → k < nets → f k ≡ g k

pub turned : {A : Type 0} (nets : ℕ) (f g : ℕ → A) → AreSame nets f g → AreSame nets g f
turned nets f g same k low = sym (same k low)

free_for : (g : Grid) (reserved held : ℕ → List Node) (nets : ℕ) → AreSame nets reserved held → (routes : NetRoutes) (k : ℕ) (p : Node)
    → IsFreeFor g reserved routes nets k p → IsFreeFor g held routes nets k p
free_for g reserved held nets alike routes k p f = record {
  within = f.within;
  apart = f.apart;
  kept = λ j low off i. f.kept j low off (subst (λ qs. In p qs) (sym (alike j low)) i);
}

free_after : (g : Grid) (reserved held : ℕ → List Node) (nets : ℕ) → AreSame nets reserved held → (routes : NetRoutes) (earlier : List ℕ) (k : ℕ) (p : Node)
    → IsFreeAfter g reserved routes nets earlier k p → IsFreeAfter g held routes nets earlier k p
free_after g reserved held nets alike routes earlier k p f = record {
  within = f.within;
  apart = f.apart;
  kept = λ j low off i. f.kept j low off (subst (λ qs. In p qs) (sym (alike j low)) i);
}

-- ---- the order of nets

pub order_same : (half reach : ℕ → ℕ) (nets : ℕ) (order : List ℕ) → AreSame nets half reach → IsNetOrder half nets order → IsNetOrder reach nets order
order_same half reach nets order same o = record {
  each = o.each;
  ordered = λ i j d low high.
      let first = same (slice_index_or order i d) ((o.each (slice_index_or order i d)).0 (place_in order i d (omega (arith, low, high)))) in
      let second = same (slice_index_or order j d) ((o.each (slice_index_or order j d)).0 (place_in order j d high)) in
      subst (λ (n : ℕ). IsTrue (precedes n (reach (slice_index_or order j d)) (slice_index_or order i d) (slice_index_or order j d))) first
      (subst (λ (n : ℕ). IsTrue (precedes (half (slice_index_or order i d)) n (slice_index_or order i d) (slice_index_or order j d))) second (o.ordered i j d low high));
} where
  -- the test by what it reads of two nets
  precedes : ℕ → ℕ → ℕ → ℕ → Bool
  precedes a b j k = nat_lt a b || (nat_eq a b && nat_lt j k)

-- ---- routes

module _ (g : Grid) (nets : ℕ) (reserved held points others : ℕ → List Node) (alike : AreSame nets reserved held) (same : AreSame nets points others) (routes : NetRoutes) where
  pub routes_same : AreRoutes g reserved points nets routes → AreRoutes g held others nets routes
  routes_same are k low =
      subst (λ qs. IsTreeOver (IsFreeFor g held routes nets k) qs (routes k)) (same k low)
      (over_moved (IsFreeFor g reserved routes nets k) (IsFreeFor g held routes nets k) (λ p f. free_for g reserved held nets alike routes k p f) (points k) (routes k) (are k low))

  pub whole_same : AreWhole points nets routes → AreWhole others nets routes
  whole_same are k low = subst (λ qs. IsWhole qs (routes k)) (same k low) (are k low)

  either : (earlier : List ℕ) (k : ℕ) (p : Node) → IsFreeAfter g reserved routes nets earlier k p ↔ IsFreeAfter g held routes nets earlier k p
  either earlier k p = (
    λ f. free_after g reserved held nets alike routes earlier k p f,
    λ f. free_after g held reserved nets (turned nets reserved held alike) routes earlier k p f,
  )

  least_same : (earlier : List ℕ) (k : ℕ) → k < nets → (t : Option Tree) → IsLeastTree (IsFreeAfter g reserved routes nets earlier k) (points k) t
      → IsLeastTree (IsFreeAfter g held routes nets earlier k) (others k) t
  least_same earlier k low t h =
      subst (λ qs. IsLeastTree (IsFreeAfter g held routes nets earlier k) qs t) (same k low)
      (tree_moved (IsFreeAfter g reserved routes nets earlier k) (IsFreeAfter g held routes nets earlier k) (either earlier k) (points k) t h)

  pub done_same : (earlier : List ℕ) → ((k : ℕ) → In k earlier → k < nets) → AreDone g reserved points nets routes earlier → AreDone g held others nets routes earlier
  done_same [] below h = tt
  done_same (k ∷ earlier) below h = (
    least_same earlier k (below k here) (routes k) h.0,
    subst (λ qs. IsWhole qs (routes k)) (same k (below k here)) h.1,
    done_same earlier (λ j i. below j (there i)) h.2,
  )

  pub stuck_same : (earlier later : List ℕ) (k : ℕ) (q : Node) → k < nets → ((j : ℕ) → In j earlier → j < nets) → IsStuckAt g reserved points nets routes earlier later k q
      → IsStuckAt g held others nets routes earlier later k q
  stuck_same earlier later k q low below s = record {
    done = done_same earlier below s.done;
    tree = s.tree;
    begun = s.begun;
    least = least_same earlier k low (Some s.tree) s.least;
    next = subst (λ qs. next_point qs (Some s.tree) ≡ Some q) (same k low) s.next;
    none = λ path is. s.none path
        (path_moved (IsFreeAfter g held routes nets earlier k) (IsFreeAfter g reserved routes nets earlier k) (tree_nodes (Some s.tree)) (tree_nodes (Some s.tree)) (λ p f. (either earlier k p).1 f) (λ p i. i) q path is);
    untouched = s.untouched;
  }
