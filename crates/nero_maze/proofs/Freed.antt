-- The nodes of a net's paths have all been freed, where those are at which the paths end.
use Rattle.std.proofs.Common.{ℕ, ◌≡◌, ◌+◌, ◌-◌, ◌%◌, ◌<◌, inl, inr, List, [], ◌∷◌, map, Some, slice_index, arith, sym, ◌∙◌, ap, subst}
use Rattle.std.proofs.lemmas.Bool.{cases_eq, eq-eqb}
use Rattle.vlsi_base.specs.Member.{In, here, there}
use Rattle.grid_core.specs.declared.grid.Grid.{Grid}
use Rattle.grid_core.specs.declared.grid.Node.{Node}
use Rattle.grid_core.specs.Numbers.{nodes, number, node_of}
use Rattle.grid_core.specs.Routes.{tree_nodes}
use Rattle.grid_core.proofs.Numbers.{number-node_of}
use Rattle.grid_core.proofs.Owners.{first_or}
use Rattle.nero_maze.specs.declared.board.Board.{Board}
use Rattle.nero_maze.specs.declared.frontier.Room.{Room}
use Rattle.nero_maze.specs.Claims.{Told}
use Rattle.nero_maze.specs.Routing.{Move, Began, Joined, routes_of}
use Rattle.nero_maze.specs.Board.{follow, move_at, moves_of, reserved_of, IsSound}
use Rattle.nero_maze.specs.Ripping.{IsOnPath, IsFreed, IsFreedFrom, entries}
use Rattle.nero_maze.specs.Ways.{next}
use Rattle.nero_maze.proofs.Growth.{follow_told, test_other}
use Rattle.nero_maze.proofs.Shortening.{below_links, entry_at}
use Rattle.nero_maze.proofs.Sounds.{from_map}
use Rattle.nero_maze.proofs.Logged.{from_moves, node_from, moves_known, known_begun, known_mark, path_owner}

module _ (b : Board) (net : ℕ) (s : IsSound b) (new : Room) (h : IsFreedFrom net (reserved_of b) (λ v. (i : ℕ) × (i < b.log.count) × (slice_index b.log.order.items i ≡ v)) b.room new) where
  abbrev g : Grid
  g = b.room.grid

  abbrev o : List ℕ
  o = b.room.owners.items

  abbrev l : List ℕ
  l = b.room.links.items

  abbrev ms : List ℕ
  ms = b.log.marks.items

  abbrev known : List ℕ
  known = entries b.log.order.items b.log.count

  -- a node that a link tells is on a path, but where it is the first of its tree
  told_on : (u : ℕ) (rest : List ℕ) → Told g l u rest → slice_index o u ≡ net → IsOnPath net b.room u
  told_on u [] t own = absurd t
  told_on u (p ∷ []) (k, k4, link, is) own = record { linked = omega arith; joined = omega arith; own = own }
  told_on u (p ∷ r ∷ rest) (k, k4, link, is, more) own = record { linked = omega arith; joined = omega arith; own = own }

  way_last : (k x : ℕ) → k < 4 → x ≡ k + 5 → (x - 1) % 4 ≡ k
  way_last k x lt e = omega arith

  way_on : (k x : ℕ) → k < 4 → x ≡ k + 1 → (x - 1) % 4 ≡ k
  way_on k x lt e = omega arith

  along : (rest : List ℕ) (u : ℕ) → Told g l u rest → ((w : ℕ) → In w (u ∷ rest) → slice_index o w ≡ net) → slice_index new.links.items u ≡ 0
      → (v : ℕ) → In v (u ∷ rest) → IsOnPath net b.room v → slice_index new.links.items v ≡ 0
  along [] u t own z v i on = absurd t
  along (p ∷ []) u (k, k4, link, is) own z v i on =
      let u_on : IsOnPath net b.room u = told_on u (p ∷ []) (k, k4, link, is) (own u here) in
      elim (first_or v u (p ∷ []) i) [
        | inl e ↦ subst (λ (w : ℕ). slice_index new.links.items w ≡ 0) (sym e) z
        | inr more ↦ elim (first_or v p [] more) [
          | inr none ↦ elim none [ ]
          | inl e ↦ (
              let way = way_last k (slice_index l u) k4 link in
              h.closed u v u_on z (ap (λ (w : ℕ). next g u w) way ∙ (is ∙ ap Some (sym e))) on)
        ]
      ]
  along (p ∷ r ∷ rest) u (k, k4, link, is, told) own z v i on =
      let u_on : IsOnPath net b.room u = told_on u (p ∷ r ∷ rest) (k, k4, link, is, told) (own u here) in
      let p_on = told_on p (r ∷ rest) told (own p (there here)) in
      let way = way_on k (slice_index l u) k4 link in
      let p_zero = h.closed u p u_on z (ap (λ (w : ℕ). next g u w) way ∙ is) p_on in
      elim (first_or v u (p ∷ r ∷ rest) i) [
        | inl e ↦ subst (λ (w : ℕ). slice_index new.links.items w ≡ 0) (sym e) z
        | inr more ↦ along (r ∷ rest) p told (λ w iw. own w (there iw)) p_zero v more on
      ]

  of_entry : (u : ℕ) → In u known → IsOnPath net b.room u → slice_index new.links.items u ≡ 0
  of_entry u i on = h.ended u (entry_at b.log.order.items b.log.count u i) on

  same_node : (u v : ℕ) → node_of g u ≡ node_of g v → u ≡ v
  same_node u v e = sym (number-node_of g u) ∙ (ap (number g) e ∙ number-node_of g v)

  -- the move of an entry, and what it says of a node
  of_path : (u v : ℕ) → In u known → IsOnPath net b.room v → (path : List Node) → move_at g o l ms u ≡ Joined net path → In (node_of g v) path
      → slice_index new.links.items v ≡ 0
  of_path u v i on path is within = elim (cases_eq (slice_index ms u) 2) [
    | inl two ↦ (
        let told : Joined (slice_index o u) (node_of g u ∷ []) ≡ Joined net path = rw (eq-eqb (slice_index ms u) 2 two) at is in
        let one : node_of g u ∷ [] ≡ path = cc told in
        let at = subst (λ (p : List Node). In (node_of g v) p) (sym one) within in
        elim (first_or (node_of g v) (node_of g u) [] at) [
          | inr none ↦ elim none [ ]
          | inl e ↦ (let same = same_node v u e in of_entry v (subst (λ (w : ℕ). In w known) (sym same) i) on)
        ])
    | inr not_two ↦ elim (cases_eq (slice_index l u) 9) [
      | inl nine ↦ (
          let no : Began (slice_index o u) (node_of g u) ≡ Joined net path = rw (test_other (slice_index ms u) 2 not_two, eq-eqb (slice_index l u) 9 nine) at is in
          absurd (cc no))
      | inr not_nine ↦ (
          let (rest, told, short) = s.told u (known_mark b s u i) not_two not_nine in
          let follows = follow_told g l (nodes g) u rest told short in
          let whole : Joined (slice_index o u) (map (node_of g) (u ∷ rest)) ≡ Joined net path =
          rw (test_other (slice_index ms u) 2 not_two, test_other (slice_index l u) 9 not_nine, follows) at is in
          let own : slice_index o u ≡ net = cc whole in
          let nodes_are : map (node_of g) (u ∷ rest) ≡ path = cc whole in
          let (w, iw, at) = from_map (node_of g) (u ∷ rest) (node_of g v) (subst (λ (p : List Node). In (node_of g v) p) (sym nodes_are) within) in
          let iv = subst (λ (x : ℕ). In x (u ∷ rest)) (same_node w v at) iw in
          let u_on = told_on u rest told own in
          along rest u told (λ x ix. path_owner b s u i not_two not_nine rest told short x ix ∙ own) (of_entry u i u_on) v iv on)
    ]
  ]

  freed_on : (v : ℕ) → IsOnPath net b.room v → slice_index new.links.items v ≡ 0
  freed_on v on =
      let below = below_links l v on.linked in
      let lt : v < nodes g = (let e = s.room.links in omega arith) in
      let inside = subst (λ (k : ℕ). In (node_of g v) (tree_nodes (routes_of (moves_of b) k))) on.own (s.forth v lt on.linked) in
      let told = subst (λ (xs : List Move). In (node_of g v) (tree_nodes (routes_of xs net))) (moves_known b) inside in
      elim (node_from (map (move_at g o l ms) known) (known_begun b s) net (node_of g v) told) [
        | inl began ↦ (
            let (u, iu, is) = from_moves (move_at g o l ms) known (Began net (node_of g v)) began in
            elim (cases_eq (slice_index ms u) 2) [
              | inl two ↦ (
                  let no : Joined (slice_index o u) (node_of g u ∷ []) ≡ Began net (node_of g v) = rw (eq-eqb (slice_index ms u) 2 two) at is in
                  absurd (cc no))
              | inr not_two ↦ elim (cases_eq (slice_index l u) 9) [
                | inr not_nine ↦ (
                    let no : Joined (slice_index o u) (map (node_of g) (u ∷ follow g l (nodes g) u)) ≡ Began net (node_of g v) =
                    rw (test_other (slice_index ms u) 2 not_two, test_other (slice_index l u) 9 not_nine) at is in
                    absurd (cc no))
                | inl nine ↦ (
                    let yes : Began (slice_index o u) (node_of g u) ≡ Began net (node_of g v) = rw (test_other (slice_index ms u) 2 not_two, eq-eqb (slice_index l u) 9 nine) at is in
                    let at : node_of g u ≡ node_of g v = cc yes in
                    absurd (on.joined (ap (λ (w : ℕ). slice_index l w) (sym (same_node u v at)) ∙ nine)))
              ]
            ])
        | inr joined ↦ (
            let (u, iu, is) = from_moves (move_at g o l ms) known (Joined net joined.0) joined.1 in
            of_path u v iu on joined.0 is joined.2)
      ]

  pub all_freed : IsFreed net (reserved_of b) b.room new
  all_freed = record {
    room = h.room;
    grid = h.grid;
    freed = λ v on. elim (h.either v) [
      | inl kept ↦ absurd (on.linked (sym kept.1 ∙ freed_on v on))
      | inr gone ↦ (gone.1, gone.2)
    ];
    others = λ v off. elim (h.either v) [ inl kept ↦ kept | inr gone ↦ absurd (off gone.0) ];
  }
