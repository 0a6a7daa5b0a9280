-- Nets one after another.
use Rattle.std.proofs.Common.{◌≡◌, ◌≢◌, ℕ, zero, suc, ◌<◌, ◌≤◌, ◌+◌, inr, ⊎_elim, List, [], ◌∷◌, ◌++◌, length, take, drop, Some, None, sym, ap, ◌∙◌, subst, arith}
use Rattle.std.specs.Prelude.{◌↔◌, reverse, slice_get, slice_index_or, IsTrue}
use Rattle.std.proofs.lemmas.Bool.Decides.{nat_tests}
use Rattle.std.proofs.lemmas.List.{reverse-append, reverse-reverse, take_more, drop_more, take-append-drop}
use Rattle.vlsi_base.specs.Member.{In, here, there}
use Rattle.grid_core.specs.declared.grid.Grid.{Grid}
use Rattle.grid_core.specs.declared.grid.Node.{Node}
use Rattle.grid_core.specs.Owners.{Owners, IsFree}
use Rattle.grid_core.specs.Routes.{NetRoutes, tree_nodes}
use Rattle.grid_core.specs.Trees.{IsFreeFor, IsFreeAfter, IsTreeOver, AreWhole, IsLeastTree, IsWhole, AreDone, IsNetOrder, IsStuckAt, net_precedes}
use Rattle.grid_core.proofs.Lists.{In_either}
use Rattle.grid_core.proofs.Owners.{first_or}
use Rattle.nero_maze.specs.Routing.{Routing, tree_of, routes_of, IsBare, NoneFrom}
use Rattle.maze_nets.specs.declared.points.NetPoints.{NetPoints}
use Rattle.maze_nets.specs.Nets.{net_points, net_reserved, half_perimeter}
use Rattle.maze_nets.specs.Progress.{AreReserved, IsOrderly, Grows, Stops, HasRouted}
use Rattle.maze_nets.specs.Answers.{AreOrdered}
use Rattle.maze_nets.proofs.Lists.{place_in}
use Rattle.maze_nets.proofs.Growth.{path_moved, tree_moved}
use Rattle.maze_nets.proofs.Owning.{free_after, after_free}

-- ---- no net has a tree yet
pub bare : (g : Grid) (nets : List NetPoints) (o : Owners) (r : Routing) → AreReserved g (net_reserved nets) o → IsBare o r → HasRouted g nets [] r
bare g nets o r are is =
    let none : (k : ℕ) → tree_of r k ≡ None = λ k. ap (λ ms. routes_of ms k) is.moves in
    let same : AreReserved g (net_reserved nets) r.occupied = subst (AreReserved g (net_reserved nets)) (sym is.occupied) are in
    let no_nodes : (k : ℕ) (p : Node) → In p (tree_nodes (tree_of r k)) → ⊥ = λ k p i. empty p (subst (λ t. In p (tree_nodes t)) (none k) i) in
    record {
      orderly = record {
        owners = record {
          grid = same.grid;
          within = λ k p i. absurd (no_nodes k p i);
          trees = λ k p i. absurd (no_nodes k p i);
          reserved = same.mine;
          owned = λ k p h e. inr (same.owned k p h e);
        };
        routes = λ k lt. subst (λ t. IsTreeOver (IsFreeFor g (net_reserved nets) (tree_of r) (length nets) k) (net_points nets k) t) (sym (none k)) tt;
      };
      done = tt;
      untouched = λ k out. none k;
    }
  where
    empty : (p : Node) → In p (tree_nodes None) → ⊥
    empty p i = elim i [ ]

-- and the router keeps who owned each node when it began
pub kept_reserved : (g : Grid) (nets : List NetPoints) (o : Owners) (r : Routing) → AreReserved g (net_reserved nets) o → IsBare o r → AreReserved g (net_reserved nets) r.reserved
kept_reserved g nets o r are is = subst (AreReserved g (net_reserved nets)) (sym is.reserved) are

-- ---- the trees of earlier nets stay
free_kept : (g : Grid) (reserved : ℕ → List Node) (nets : ℕ) (routes other : NetRoutes) (earlier : List ℕ) (k : ℕ) (p : Node) → ((j : ℕ) → In j earlier → other j ≡ routes j)
    → IsFreeAfter g reserved routes nets earlier k p → IsFreeAfter g reserved other nets earlier k p
free_kept g reserved nets routes other earlier k p same f = record {
  within = f.within;
  apart = λ j e i. f.apart j e (subst (λ t. In p (tree_nodes t)) (same j e) i);
  kept = f.kept;
}

pub done_kept : (g : Grid) (reserved points : ℕ → List Node) (nets : ℕ) (routes other : NetRoutes) (earlier : List ℕ) → ((j : ℕ) → In j earlier → other j ≡ routes j)
    → AreDone g reserved points nets routes earlier → AreDone g reserved points nets other earlier
done_kept g reserved points nets routes other [] same h = tt
done_kept g reserved points nets routes other (k ∷ earlier) same h =
    let rest : (j : ℕ) → In j earlier → other j ≡ routes j = λ j i. same j (there i) in
    let is = same k here in (
      subst (IsLeastTree (IsFreeAfter g reserved other nets earlier k) (points k)) (sym is)
          (tree_moved (IsFreeAfter g reserved routes nets earlier k) (IsFreeAfter g reserved other nets earlier k)
          (λ p. (free_kept g reserved nets routes other earlier k p rest, free_kept g reserved nets other routes earlier k p (λ j i. sym (rest j i)))) (points k) (routes k) h.0),
      subst (IsWhole (points k)) (sym is) h.1,
      done_kept g reserved points nets routes other earlier rest h.2,
    )

pub done_whole : (g : Grid) (reserved points : ℕ → List Node) (nets : ℕ) (routes : NetRoutes) (earlier : List ℕ) (k : ℕ) → AreDone g reserved points nets routes earlier → In k earlier
    → IsWhole (points k) (routes k)
done_whole g reserved points nets routes [] k h i = elim i [ ]
done_whole g reserved points nets routes (j ∷ earlier) k h i =
    ⊎_elim (λ e. subst (λ (n : ℕ). IsWhole (points n) (routes n)) (sym e) h.1) (λ a. done_whole g reserved points nets routes earlier k h.2 a) (first_or k j earlier i)

-- ---- one net more
module _ (g : Grid) (nets : List NetPoints) (earlier : List ℕ) (k : ℕ) (old new : Routing) (before : HasRouted g nets earlier old) (out : In k earlier → ⊥) (orderly : IsOrderly g nets new) (grows : Grows nets k old new) where
  same : (j : ℕ) → In j earlier → tree_of new j ≡ tree_of old j
  same j i = grows.others j (λ e. out (subst (λ (n : ℕ). In n earlier) e i))

  now_free : (p : Node) → IsFree old.occupied k p ↔ IsFreeAfter g (net_reserved nets) (tree_of new) (length nets) earlier k p
  now_free p = (
    free_after g nets old before.orderly.owners k (tree_of new) earlier out same p,
    after_free g nets old before.orderly.owners k (tree_of new) earlier same before.untouched p,
  )

  least_now : IsLeastTree (IsFreeAfter g (net_reserved nets) (tree_of new) (length nets) earlier k) (net_points nets k) (tree_of new k)
  least_now = tree_moved (IsFree old.occupied k) (IsFreeAfter g (net_reserved nets) (tree_of new) (length nets) earlier k) now_free (net_points nets k) (tree_of new k) grows.least

  done_still : AreDone g (net_reserved nets) (net_points nets) (length nets) (tree_of new) earlier
  done_still = done_kept g (net_reserved nets) (net_points nets) (length nets) (tree_of old) (tree_of new) earlier same before.done

  pub one_more : IsWhole (net_points nets k) (tree_of new k) → HasRouted g nets (k ∷ earlier) new
  one_more whole = record {
    orderly = orderly;
    done = (least_now, whole, done_still);
    untouched = λ j off. grows.others j (λ e. off (subst (λ (n : ℕ). In n (k ∷ earlier)) (sym e) here)) ∙ before.untouched j (λ i. off (there i));
  }

  pub stuck_at : (at : ℕ) (later : List ℕ) → ((j : ℕ) → In j later → (j ≢ k) × (In j earlier → ⊥)) → (s : Stops nets k at old new)
      → IsStuckAt g (net_reserved nets) (net_points nets) (length nets) (tree_of new) earlier later k s.point
  stuck_at at later apart s = record {
    done = done_still;
    tree = s.tree;
    begun = s.begun;
    least = subst (IsLeastTree (IsFreeAfter g (net_reserved nets) (tree_of new) (length nets) earlier k) (net_points nets k)) s.begun least_now;
    next = subst (λ (n : ℕ). slice_get (net_points nets k) n ≡ Some s.point) (sym s.reached) s.next;
    none = λ path is. s.none path
        (path_moved (IsFreeAfter g (net_reserved nets) (tree_of new) (length nets) earlier k) (IsFree old.occupied k) (tree_nodes (Some s.tree)) (tree_nodes (Some s.tree)) (λ p. (now_free p).1) (λ p i. i) s.point path is);
    untouched = λ j i. grows.others j (apart j i).0 ∙ before.untouched j (apart j i).1;
  }

  pub none_from : (n : ℕ) → k < n → ((j : ℕ) → In j earlier → j < n) → NoneFrom n new
  none_from n lt low j h = grows.others j (λ e. absurd (let no : ⊥ = omega arith in no)) ∙ before.untouched j (λ i. let l = low j i in let no : ⊥ = omega arith in no)

-- ---- places in an order
pub In_reverse : {A : Type 0} (xs : List A) (x : A) → In x (reverse xs) → In x xs
In_reverse [] x i = i
In_reverse (y ∷ xs) x i =
    ⊎_elim (λ a. there (In_reverse xs x a)) (λ a. ⊎_elim (λ e. subst (λ z. In x (z ∷ xs)) e here) (λ b. elim b [ ]) (first_or x y [] a))
    (In_either (reverse xs) (y ∷ []) x (subst (λ zs. In x zs) (reverse-append (y ∷ []) xs) i))

pub In_take : {A : Type 0} (xs : List A) (n : ℕ) (x : A) → In x (take n xs) → (i : ℕ) × (i < n) × (i < length xs) × ((d : A) → slice_index_or xs i d ≡ x)
In_take [] zero x h = elim h [ ]
In_take [] (suc n) x h = elim h [ ]
In_take (y ∷ xs) zero x h = elim h [ ]
In_take (y ∷ xs) (suc n) x h =
    ⊎_elim
    (λ e. (0, omega arith, omega arith, λ d. sym e))
    (λ a. let r = In_take xs n x a in (suc r.0, (let h = r.1 in omega arith), (let h = r.2 in omega arith), r.3))
    (first_or x y (take n xs) h)

pub In_drop : {A : Type 0} (xs : List A) (n : ℕ) (x : A) → In x (drop n xs) → (i : ℕ) × (n ≤ i) × (i < length xs) × ((d : A) → slice_index_or xs i d ≡ x)
In_drop [] zero x h = elim h [ ]
In_drop [] (suc n) x h = elim h [ ]
In_drop (y ∷ xs) zero x h =
    ⊎_elim
    (λ e. (0, omega arith, omega arith, λ d. sym e))
    (λ a. let r = In_drop xs zero x a in (suc r.0, omega arith, (let h = r.2 in omega arith), r.3))
    (first_or x y xs h)
In_drop (y ∷ xs) (suc n) x h = let r = In_drop xs n x h in (suc r.0, (let h = r.1 in omega arith), (let h = r.2 in omega arith), r.3)

-- no net precedes itself
never_itself : (half : ℕ → ℕ) (k : ℕ) → IsTrue (net_precedes half k k) → ⊥
never_itself half k h = grind (arith, nat_tests)

pub taken_apart : (half : ℕ → ℕ) (n : ℕ) (order : List ℕ) → IsNetOrder half n order → (i j d : ℕ) → i < j → j < length order → slice_index_or order i d ≡ slice_index_or order j d → ⊥
taken_apart half n order o i j d p q e =
    never_itself half (slice_index_or order j d) (subst (λ (k : ℕ). IsTrue (net_precedes half k (slice_index_or order j d))) e (o.ordered i j d p q))

pub not_before : (half : ℕ → ℕ) (n : ℕ) (order : List ℕ) → IsNetOrder half n order → (i : ℕ) → i < length order → In (slice_index_or order i 0) (reverse (take i order)) → ⊥
not_before half n order o i lt h =
    let r = In_take order i (slice_index_or order i 0) (In_reverse (take i order) (slice_index_or order i 0) h) in
    taken_apart half n order o r.0 i 0 r.1 lt (r.3 0)

pub all_below : (half : ℕ → ℕ) (n : ℕ) (order : List ℕ) → IsNetOrder half n order → (i j : ℕ) → In j (reverse (take i order)) → j < n
all_below half n order o i j h =
    let r = In_take order i j (In_reverse (take i order) j h) in
    (o.each j).0 (subst (λ (k : ℕ). In k order) (r.3 0) (place_in order r.0 0 r.2))

pub not_after : (half : ℕ → ℕ) (n : ℕ) (order : List ℕ) → IsNetOrder half n order → (i : ℕ) → i < length order → (j : ℕ) → In j (drop (i + 1) order)
    → (j ≢ slice_index_or order i 0) × (In j (reverse (take i order)) → ⊥)
not_after half n order o i lt j h =
    let r = In_drop order (i + 1) j h in
    let after : i < r.0 = (let l = r.1 in omega arith) in (
      λ e. taken_apart half n order o i r.0 0 after r.2 (sym (r.3 0 ∙ e)),
      λ m.
          let s = In_take order i j (In_reverse (take i order) j m) in
          let first : s.0 < r.0 = (let l = s.1 in omega arith) in
          taken_apart half n order o s.0 r.0 0 first r.2 (s.3 0 ∙ sym (r.3 0)),
    )

pub order_split : (order : List ℕ) (i : ℕ) → i < length order → reverse (reverse (take i order)) ++ slice_index_or order i 0 ∷ drop (i + 1) order ≡ order
order_split order i lt =
    ap (λ (xs : List ℕ). xs ++ slice_index_or order i 0 ∷ drop (i + 1) order) (reverse-reverse (take i order))
    ∙ (ap (λ (xs : List ℕ). take i order ++ xs) (sym (drop_more order i 0 lt)) ∙ take-append-drop i order)

pub reverse_more : (order : List ℕ) (i : ℕ) → i < length order → reverse (take (i + 1) order) ≡ slice_index_or order i 0 ∷ reverse (take i order)
reverse_more order i lt = ap reverse (take_more order i 0 lt) ∙ reverse-append (take i order) (slice_index_or order i 0 ∷ [])

-- ---- all nets
pub all_done : (g : Grid) (nets : List NetPoints) (order : List ℕ) (r : Routing) → IsNetOrder (half_perimeter nets) (length nets) order → HasRouted g nets (reverse order) r
    → AreOrdered g nets (tree_of r)
all_done g nets order r o h = record { order = order; sorted = o; done = h.done }

In_back : {A : Type 0} (xs : List A) (x : A) → In x xs → In x (reverse xs)
In_back xs x i = In_reverse (reverse xs) x (subst (λ zs. In x zs) (sym (reverse-reverse xs)) i)

pub all_whole : (g : Grid) (nets : List NetPoints) (routes : NetRoutes) → AreOrdered g nets routes → AreWhole (net_points nets) (length nets) routes
all_whole g nets routes a k lt = done_whole g (net_reserved nets) (net_points nets) (length nets) routes (reverse a.order) k a.done (In_back a.order k ((a.sorted.each k).1 lt))

pub no_tree_from : (g : Grid) (nets : List NetPoints) (order : List ℕ) (r : Routing) → IsNetOrder (half_perimeter nets) (length nets) order → HasRouted g nets (reverse order) r → NoneFrom (length nets) r
no_tree_from g nets order r o h k le = h.untouched k (λ i. let l = (o.each k).0 (In_reverse order k i) in let no : ⊥ = omega arith in no)
