-- Trees of least paths that grow, and what is free by one rule or another.
use Rattle.std.proofs.Common.{◌≡◌, ◌⊎◌, inl, inr, ⊎_elim, List, [], ◌∷◌, ◌++◌, length, Option, Some, None, sym, ◌∙◌, subst}
use Rattle.std.specs.Prelude.{◌↔◌, flat_map, slice_get}
use Rattle.vlsi_base.specs.Member.{In, here, there, AllDifferent}
use Rattle.grid_core.specs.declared.grid.Node.{Node}
use Rattle.grid_core.specs.Grid.{LeadsBack, IsPath, IsLeastPath}
use Rattle.grid_core.specs.Routes.{Tree, tree_nodes, grown}
use Rattle.grid_core.specs.Trees.{AreLeast, IsLeastTree, next_point}
use Rattle.grid_core.proofs.Lists.{In_either, In_first, In_last}
use Rattle.grid_core.proofs.Owners.{first_or}
use Rattle.nero_maze.specs.Routing.{IsPoint}
use Rattle.maze_nets.proofs.Lists.{get_in}

-- ---- paths over nodes that are free by two rules, from trees with the same nodes
back_moved : (free other : Node → Type 0) (tree more : List Node) → ((p : Node) → free p → other p) → ((p : Node) → In p tree → In p more)
    → (q : Node) (rest : List Node) → LeadsBack free tree q rest → LeadsBack other more q rest
back_moved free other tree more f m q [] h = m q h
back_moved free other tree more f m q (p ∷ rest) h = (f q h.0, h.1, back_moved free other tree more f m p rest h.2)

pub path_moved : (free other : Node → Type 0) (tree more : List Node) → ((p : Node) → free p → other p) → ((p : Node) → In p tree → In p more)
    → (q : Node) (path : List Node) → IsPath free tree q path → IsPath other more q path
path_moved free other tree more f m q [] h = h
path_moved free other tree more f m q (y ∷ rest) h = (h.0, back_moved free other tree more f m y rest h.1)

pub least_moved : (free other : Node → Type 0) (tree more : List Node) → ((p : Node) → free p ↔ other p) → ((p : Node) → In p tree → In p more) → ((p : Node) → In p more → In p tree)
    → (q : Node) (path : List Node) → IsLeastPath free tree q path → IsLeastPath other more q path
least_moved free other tree more f m n q path h = record {
  leads = path_moved free other tree more (λ p. (f p).0) m q path h.leads;
  least = λ way is. h.least way (path_moved other free more tree (λ p. (f p).1) n q way is);
}

all_moved : (free other : Node → Type 0) → ((p : Node) → free p ↔ other p) → (tree : List Node) (paths : List (List Node)) (points : List Node)
    → AreLeast free tree paths points → AreLeast other tree paths points
all_moved free other f tree [] points h = tt
all_moved free other f tree (path ∷ paths) [] h = h
all_moved free other f tree (path ∷ paths) (q ∷ points) h =
    (least_moved free other tree tree f (λ p i. i) (λ p i. i) q path h.0, all_moved free other f (path ++ tree) paths points h.1)

pub tree_moved : (free other : Node → Type 0) → ((p : Node) → free p ↔ other p) → (points : List Node) (t : Option Tree) → IsLeastTree free points t → IsLeastTree other points t
tree_moved free other f points None h = tt
tree_moved free other f [] (Some t) h = h
tree_moved free other f (q ∷ points) (Some t) h = (h.0, (f q).0 h.1, all_moved free other f (t.start ∷ []) t.paths points h.2)

-- ---- one path more
least_then : (free : Node → Type 0) (whole tree : List Node) (paths : List (List Node)) (points : List Node) (q : Node) (path : List Node)
    → ((x : Node) → In x whole → In x tree ⊎ In x (flat_map (λ path. path) paths))
    → ((x : Node) → In x tree → In x whole) → ((x : Node) → In x (flat_map (λ path. path) paths) → In x whole)
    → slice_get points (length paths) ≡ Some q → IsLeastPath free whole q path
    → AreLeast free tree paths points → AreLeast free tree (paths ++ path ∷ []) points
least_then free whole tree [] [] q path f a b e is h = absurd (cc e)
least_then free whole tree [] (p ∷ points) q path f a b e is h =
    let s : q ≡ p = cc in
    let same : (x : Node) → free x ↔ free x = λ x. ((λ y. y), λ y. y) in
    (subst (λ v. IsLeastPath free tree v path) s (least_moved free free whole tree same (λ x i. ⊎_elim (λ g. g) (λ g. elim g [ ]) (f x i)) a q path is), tt)
least_then free whole tree (one ∷ paths) [] q path f a b e is h = absurd h
least_then free whole tree (one ∷ paths) (p ∷ points) q path f a b e is h = (
  h.0,
  least_then free whole (one ++ tree) paths points q path
      (λ x i. ⊎_elim (λ g. inl (In_last one tree x g)) (λ g. ⊎_elim (λ c. inl (In_first one tree x c)) (λ c. inr c) (In_either one (flat_map (λ path. path) paths) x g)) (f x i))
      (λ x i. ⊎_elim (λ g. b x (In_first one (flat_map (λ path. path) paths) x g)) (λ g. a x g) (In_either one tree x i))
      (λ x i. b x (In_last one (flat_map (λ path. path) paths) x i))
      e is h.1,
)

pub tree_then : (free : Node → Type 0) (points : List Node) (t : Tree) (q : Node) (path : List Node) → next_point points (Some t) ≡ Some q
    → IsLeastPath free (tree_nodes (Some t)) q path → IsLeastTree free points (Some t) → IsLeastTree free points (grown path (Some t))
tree_then free [] t q path e is h = absurd h
tree_then free (p ∷ points) t q path e is h =
    (h.0, h.1, least_then free (tree_nodes (Some t)) (t.start ∷ []) t.paths points q path (λ x i. first x i) (λ x i. start x i) (λ x i. there i) e is h.2)
  where
    first : (x : Node) → In x (tree_nodes (Some t)) → In x (t.start ∷ []) ⊎ In x (flat_map (λ path. path) t.paths)
    first x here = inl here
    first x (there g) = inr g

    start : (x : Node) → In x (t.start ∷ []) → In x (tree_nodes (Some t))
    start x here = here
    start x (there g) = elim g [ ]

-- a net that has a point begins its tree at it
pub tree_begun : (free : Node → Type 0) (points : List Node) (q : Node) → slice_get points 0 ≡ Some q → free q → IsLeastTree free points (Some (record { start = q; paths = [] }))
tree_begun free [] q e f = absurd (cc e)
tree_begun free (p ∷ points) q e f = let s : q ≡ p = cc in (s, subst free s f, tt)

-- ---- nodes of a tree that grows
flat_old : (paths : List (List Node)) (path : List Node) (x : Node) → In x (flat_map (λ path. path) paths) → In x (flat_map (λ path. path) (paths ++ path ∷ []))
flat_old [] path x h = elim h [ ]
flat_old (one ∷ paths) path x h =
    ⊎_elim (λ g. In_first one (flat_map (λ path. path) (paths ++ path ∷ [])) x g)
    (λ g. In_last one (flat_map (λ path. path) (paths ++ path ∷ [])) x (flat_old paths path x g))
    (In_either one (flat_map (λ path. path) paths) x h)

flat_new : (paths : List (List Node)) (path : List Node) (x : Node) → In x path → In x (flat_map (λ path. path) (paths ++ path ∷ []))
flat_new [] path x h = In_first path [] x h
flat_new (one ∷ paths) path x h = In_last one (flat_map (λ path. path) (paths ++ path ∷ [])) x (flat_new paths path x h)

pub grown_old : (t : Tree) (path : List Node) (x : Node) → In x (tree_nodes (Some t)) → In x (tree_nodes (grown path (Some t)))
grown_old t path x here = here
grown_old t path x (there h) = there (flat_old t.paths path x h)

pub grown_new : (t : Tree) (path : List Node) (x : Node) → In x path → In x (tree_nodes (grown path (Some t)))
grown_new t path x h = there (flat_new t.paths path x h)

-- ---- the point that is lacking is none of those that were reached
path_target : (free : Node → Type 0) (tree : List Node) (q x : Node) (rest : List Node) → IsPath free tree q (x ∷ rest) → x ≡ q
path_target free tree q x rest h = h.0

no_target : (free : Node → Type 0) (tree : List Node) (paths : List (List Node)) (points : List Node) (q : Node) (rest : List Node)
    → AreLeast free tree paths points → slice_get points (length paths) ≡ Some q → AllDifferent points → In (q ∷ rest) paths → ⊥
no_target free tree [] points q rest h e d i = elim i [ ]
no_target free tree (path ∷ paths) [] q rest h e d i = h
no_target free tree (path ∷ paths) (p ∷ points) q rest h e d i =
    ⊎_elim
    (λ s. d.0 (subst (λ (x : Node). In x points) (path_target free tree p q rest (subst (λ way. IsPath free tree p way) (sym s) h.0.leads)) (get_in points (length paths) q e)))
    (λ j. no_target free (path ++ tree) paths points q rest h.1 e d.1 j)
    (first_or (q ∷ rest) path paths i)

pub new_point : (free : Node → Type 0) (points : List Node) (t : Tree) (q : Node) → IsLeastTree free points (Some t) → next_point points (Some t) ≡ Some q → AllDifferent points
    → IsPoint (Some t) q → ⊥
new_point free [] t q h e d i = h
new_point free (p ∷ points) t q h e d i =
    ⊎_elim
    (λ s. d.0 (subst (λ (x : Node). In x points) (sym s ∙ h.0) (get_in points (length t.paths) q e)))
    (λ r. no_target free (t.start ∷ []) t.paths points q r.0 h.2 e d.1 r.1)
    i
