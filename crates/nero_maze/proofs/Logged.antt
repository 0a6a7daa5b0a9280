-- The log tells of each node of a tree.
use Rattle.std.proofs.Common.{ℕ, zero, suc, ◌≡◌, ◌≢◌, ◌≤◌, ◌⊎◌, inl, inr, List, [], ◌∷◌, map, length, slice_index, sym, ◌∙◌, ap, refl, subst}
use Rattle.vlsi_base.specs.Member.{In, here, there}
use Rattle.grid_core.specs.declared.grid.Grid.{Grid}
use Rattle.grid_core.specs.declared.grid.Node.{Node}
use Rattle.grid_core.specs.Numbers.{nodes, node_of}
use Rattle.grid_core.specs.Routes.{tree_nodes}
use Rattle.grid_core.proofs.Numbers.{number-node_of}
use Rattle.grid_core.proofs.Owners.{first_or}
use Rattle.nero_maze.specs.declared.board.Board.{Board}
use Rattle.nero_maze.specs.Claims.{Told}
use Rattle.nero_maze.specs.Routing.{Move, Began, Joined, routes_of}
use Rattle.nero_maze.specs.Board.{move_at, moves_in, moves_of, AreBegun, IsSound}
use Rattle.nero_maze.specs.Ripping.{entries}
use Rattle.nero_maze.proofs.Growth.{follow_told, test_other, joined_grows, began_grows}
use Rattle.nero_maze.proofs.Shortening.{entry_in, entry_at}
use Rattle.nero_maze.proofs.Sounds.{in_map}
use Rattle.nero_maze.proofs.Cutting.{path_known}

-- ---- the log by its entries
pub moves_entries : (g : Grid) (o l m ord : List ℕ) (n : ℕ) → moves_in g o l m ord n ≡ map (move_at g o l m) (entries ord n)
moves_entries g o l m ord zero = refl
moves_entries g o l m ord (suc n) = ap (λ (ms : List Move). move_at g o l m (slice_index ord n) ∷ ms) (moves_entries g o l m ord n)

pub in_moves : (f : ℕ → Move) (vs : List ℕ) (v : ℕ) → In v vs → In (f v) (map f vs)
in_moves f [] v h = elim h [ ]
in_moves f (x ∷ xs) v here = here
in_moves f (x ∷ xs) v (there h) = there (in_moves f xs v h)

pub from_moves : (f : ℕ → Move) (vs : List ℕ) (m : Move) → In m (map f vs) → (v : ℕ) × In v vs × (f v ≡ m)
from_moves f [] m h = elim h [ ]
from_moves f (x ∷ xs) m here = (x, here, refl)
from_moves f (x ∷ xs) m (there h) = let r = from_moves f xs m h in (r.0, there r.1, r.2)

-- a node of a tree was the first of it, or is on a path that it got
pub node_from : (ms : List Move) → AreBegun ms → (k : ℕ) (q : Node) → In q (tree_nodes (routes_of ms k)) → In (Began k q) ms ⊎ ((path : List Node) × In (Joined k path) ms × In q path)
node_from [] h k q i = elim i [ ]
node_from (Began j p ∷ before) h k q i = elim ((began_grows (routes_of before) j p h.0).either k q i) [
  | inl old ↦ elim (node_from before h.1 k q old) [ inl m ↦ inl (there m) | inr m ↦ inr (m.0, there m.1, m.2) ]
  | inr new ↦ elim (first_or q p [] new.1) [
    | inl e ↦ inl (subst (λ (x : Node). In (Began k x) (Began j p ∷ before)) (sym e) (subst (λ (n : ℕ). In (Began n p) (Began j p ∷ before)) (sym new.0) here))
    | inr none ↦ elim none [ ]
  ]
]
node_from (Joined j p ∷ before) h k q i = elim ((joined_grows (routes_of before) j p h.0.0 h.0.1).either k q i) [
  | inl old ↦ elim (node_from before h.1 k q old) [ inl m ↦ inl (there m) | inr m ↦ inr (m.0, there m.1, m.2) ]
  | inr new ↦ inr (p, subst (λ (n : ℕ). In (Joined n p) (Joined j p ∷ before)) (sym new.0) here, new.1)
]

pub moves_known : (b : Board) → moves_of b ≡ map (move_at b.room.grid b.room.owners.items b.room.links.items b.log.marks.items) (entries b.log.order.items b.log.count)
moves_known b = moves_entries b.room.grid b.room.owners.items b.room.links.items b.log.marks.items b.log.order.items b.log.count

-- of arrays that are sound
module _ (b : Board) (s : IsSound b) where
  abbrev g : Grid
  g = b.room.grid

  abbrev o : List ℕ
  o = b.room.owners.items

  abbrev l : List ℕ
  l = b.room.links.items

  abbrev ms : List ℕ
  ms = b.log.marks.items

  abbrev ord : List ℕ
  ord = b.log.order.items

  abbrev known : List ℕ
  known = entries ord b.log.count

  pub known_begun : AreBegun (map (move_at g o l ms) known)
  known_begun = subst (λ (xs : List Move). AreBegun xs) (moves_known b) s.begun

  pub known_mark : (v : ℕ) → In v known → slice_index ms v ≢ 0
  known_mark v i = let (k, lt, at) = entry_at ord b.log.count v i in subst (λ (w : ℕ). slice_index ms w ≢ 0) at (s.log.marked k lt)

  pub mark_known : (v : ℕ) → slice_index ms v ≢ 0 → In v known
  mark_known v some = let (k, lt, at) = s.log.found v some in subst (λ (w : ℕ). In w known) at (entry_in ord b.log.count k lt)

  -- all nodes of a path in the log have one owner
  pub path_owner : (v : ℕ) → In v known → slice_index ms v ≢ 2 → slice_index l v ≢ 9 → (rest : List ℕ) → Told g l v rest → length rest ≤ nodes g
      → (w : ℕ) → In w (v ∷ rest) → slice_index o w ≡ slice_index o v
  path_owner v i not_two not_nine rest told short w iw =
      let k = slice_index o v in
      let follows = follow_told g l (nodes g) v rest told short in
      let is : move_at g o l ms v ≡ Joined k (map (node_of g) (v ∷ rest)) =
      rw (test_other (slice_index ms v) 2 not_two, test_other (slice_index l v) 9 not_nine, follows) refl in
      let made = subst (λ (m : Move). In m (map (move_at g o l ms) known)) is (in_moves (move_at g o l ms) known v i) in
      let inside = path_known (map (move_at g o l ms) known) known_begun k (map (node_of g) (v ∷ rest)) made (node_of g w) (in_map (node_of g) (v ∷ rest) w iw) in
      let r = s.back k (node_of g w) (subst (λ (xs : List Move). In (node_of g w) (tree_nodes (routes_of xs k))) (sym (moves_known b)) inside) in
      sym (ap (λ (x : ℕ). slice_index o x) (number-node_of g w)) ∙ r.1.1
