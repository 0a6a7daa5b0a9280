-- What is free for a net by the owners of nodes, and what by trees and reserved nodes.
use Rattle.std.proofs.Common.{◌≡◌, ℕ, ◌<◌, ◌⊎◌, inl, inr, ⊎_elim, List, [], ◌∷◌, ◌++◌, length, Option, Some, None, refl, sym, ap, ◌∙◌, subst, arith}
use Rattle.std.specs.Prelude.{◌↔◌, slice_get}
use Rattle.std.proofs.lemmas.Bool.{cases_eq, cases_lt}
use Prim.Native.Nat.{suc}
use Rattle.vlsi_base.specs.Member.{In, AllDifferent}
use Rattle.grid_core.specs.declared.grid.Grid.{Grid}
use Rattle.grid_core.specs.declared.grid.Node.{Node}
use Rattle.grid_core.specs.Grid.{IsInGrid, IsPath}
use Rattle.grid_core.specs.Owners.{Owners, owner_of, IsFree}
use Rattle.grid_core.specs.Routes.{Tree, NetRoutes, tree_nodes}
use Rattle.grid_core.specs.Trees.{IsFreeFor, Reach, IsTreeOver, IsWhole, next_point}
use Rattle.grid_core.proofs.Owners.{first_or}
use Rattle.nero_maze.specs.Routing.{Routing, tree_of, NoneFrom, IsPoint}
use Rattle.maze_nets.specs.declared.points.NetPoints.{NetPoints}
use Rattle.maze_nets.specs.Nets.{net_reserved}
use Rattle.maze_nets.specs.Progress.{AreReserved, AreOwned}
use Rattle.maze_nets.proofs.Lists.{some_same, reserved_below, get_in, get_below}
use Rattle.maze_nets.proofs.Owning.{free_for, free_in_grid}
use Rattle.maze_rips.specs.Run.{IsFreePast}
use Rattle.maze_rips.specs.Answers.{problem}

-- a net whose tree has a node is one of those that there are
pub has_tree : (n : ℕ) (r : Routing) → NoneFrom n r → (k : ℕ) (p : Node) → In p (tree_nodes (tree_of r k)) → k < n
has_tree n r only k p i = elim (cases_lt k n) [
  | inl lt ↦ lt
  | inr ge ↦ (let none : In p (tree_nodes None) = subst (λ (o : Option Tree). In p (tree_nodes o)) (only k ge) i in elim none [ ])
]

module _ (g : Grid) (nets : List NetPoints) (r : Routing) (owned : AreOwned g nets r) (only : NoneFrom (length nets) r) where
  pub for_free : (k : ℕ) (p : Node) → IsFreeFor g (net_reserved nets) (tree_of r) (length nets) k p → IsFree r.occupied k p
  for_free k p f = free_in_grid g nets r owned k p f.within (by (owner_of r.occupied p) refl)
    where
      by : (o : Option ℕ) → owner_of r.occupied p ≡ o → (owner_of r.occupied p ≡ None) ⊎ (owner_of r.occupied p ≡ Some k)
      by None e = inl e
      by (Some j) e = elim (cases_eq j k) [
        | inl s ↦ inr (e ∙ ap (λ (n : ℕ). Some n) s)
        | inr ne ↦ absurd (elim (owned.owned j p f.within e) [
          | inl i ↦ f.apart j (has_tree (length nets) r only j p i) ne i
          | inr i ↦ f.kept j (reserved_below nets j p i) ne i
        ])
      ]

  pub free_iff : (k : ℕ) (p : Node) → IsFree r.occupied k p ↔ IsFreeFor g (net_reserved nets) (tree_of r) (length nets) k p
  free_iff k p = (free_for g nets r owned k p, for_free k p)

-- through the trees of other nets
pub past_iff : (g : Grid) (nets : List NetPoints) (order : List ℕ) (o : Owners) → AreReserved g (net_reserved nets) o → (k : ℕ) (p : Node)
    → IsFree o k p ↔ IsFreePast (problem g nets order) k p
past_iff g nets order o are k p = (
  λ f. record {
    within = subst (λ (h : Grid). IsInGrid h p) are.grid f.within;
    kept = λ j lt ne i. (let mine = are.mine j p i in ne (elim f.apart [
      | inl none ↦ (let both : None ≡ Some j = sym none ∙ mine in absurd (cc both))
      | inr own ↦ some_same j k (sym mine ∙ own)
    ]));
  },
  λ f. record {
    within = subst (λ (h : Grid). IsInGrid h p) (sym are.grid) f.within;
    apart = by f (owner_of o p) refl;
  },
) where
  by : IsFreePast (problem g nets order) k p → (w : Option ℕ) → owner_of o p ≡ w → (owner_of o p ≡ None) ⊎ (owner_of o p ≡ Some k)
  by f None e = inl e
  by f (Some j) e = elim (cases_eq j k) [
    | inl s ↦ inr (e ∙ ap (λ (n : ℕ). Some n) s)
    | inr ne ↦ (let i = are.owned j p f.within e in absurd (f.kept j (reserved_below nets j p i) ne i))
  ]

-- beside trees that are the same for each net
pub free_same : (g : Grid) (reserved : ℕ → List Node) (routes other : NetRoutes) (nets k : ℕ) → ((j : ℕ) → routes j ≡ other j) → (p : Node)
    → IsFreeFor g reserved routes nets k p → IsFreeFor g reserved other nets k p
free_same g reserved routes other nets k same p f = record {
  within = f.within;
  apart = λ j lt ne i. f.apart j lt ne (subst (λ (o : Option Tree). In p (tree_nodes o)) (sym (same j)) i);
  kept = f.kept;
}

pub free_turned : (g : Grid) (reserved : ℕ → List Node) (routes other : NetRoutes) (nets k : ℕ) → ((j : ℕ) → routes j ≡ other j) → (p : Node)
    → IsFreeFor g reserved routes nets k p ↔ IsFreeFor g reserved other nets k p
free_turned g reserved routes other nets k same p =
    (free_same g reserved routes other nets k same p, free_same g reserved other routes nets k (λ j. sym (same j)) p)

-- ---- points of trees

reach_target : (free : Node → Type 0) (tree : List Node) (q x : Node) (rest : List Node) → IsPath free tree q (x ∷ rest) → x ≡ q
reach_target free tree q x rest h = h.0

not_reached : (free : Node → Type 0) (tree : List Node) (paths : List (List Node)) (points : List Node) (q : Node) (rest : List Node)
    → Reach free tree paths points → slice_get points (length paths) ≡ Some q → AllDifferent points → In (q ∷ rest) paths → ⊥
not_reached free tree [] points q rest h e d i = elim i [ ]
not_reached free tree (path ∷ paths) [] q rest h e d i = h
not_reached free tree (path ∷ paths) (p ∷ points) q rest h e d i =
    ⊎_elim
    (λ s. d.0 (subst (λ (x : Node). In x points) (reach_target free tree p q rest (subst (λ way. IsPath free tree p way) (sym s) h.0)) (get_in points (length paths) q e)))
    (λ j. not_reached free (path ++ tree) paths points q rest h.1 e d.1 j)
    (first_or (q ∷ rest) path paths i)

-- the point that is lacking is none of those that were reached
pub next_is_new : (free : Node → Type 0) (points : List Node) (t : Option Tree) (q : Node) → IsTreeOver free points t → next_point points t ≡ Some q → AllDifferent points
    → IsPoint t q → ⊥
next_is_new free points None q h e d i = i
next_is_new free [] (Some t) q h e d i = h
next_is_new free (p ∷ points) (Some t) q h e d i =
    ⊎_elim
    (λ s. d.0 (subst (λ (x : Node). In x points) (sym s ∙ h.0) (get_in points (length t.paths) q e)))
    (λ r. not_reached free (t.start ∷ []) t.paths points q r.0 h.2 e d.1 r.1)
    i

-- a tree that lacks a point isn't whole
pub not_whole : (points : List Node) (t : Option Tree) (q : Node) → next_point points t ≡ Some q → IsWhole points t → ⊥
not_whole points None q e w = (let no : slice_get [] 0 ≡ Some q = subst (λ (xs : List Node). slice_get xs 0 ≡ Some q) w e in absurd (cc no))
not_whole points (Some t) q e w = (let lt = get_below points (suc (length t.paths)) q e in let no : ⊥ = omega arith in no)
