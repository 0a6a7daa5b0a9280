-- A net's paths are taken out of the arrays.
use Rattle.std.proofs.Common.{ℕ, ◌≡◌, ◌≢◌, ◌<◌, ◌≤◌, ◌⊎◌, inl, inr, List, [], ◌∷◌, map, length, set, Bool, true, false, Option, Some, None, slice_index, arith, sym, ◌∙◌, ap, refl, subst, nat_eq}
use Rattle.std.specs.Prelude.{filter, cond}
use Rattle.std.proofs.lemmas.Bool.{cases_eq, eq-eqb}
use Rattle.vlsi_base.specs.Member.{In, here, there}
use Rattle.grid_core.specs.declared.grid.Grid.{Grid}
use Rattle.grid_core.specs.declared.grid.Node.{Node}
use Rattle.grid_core.specs.Grid.{IsInGrid}
use Rattle.grid_core.specs.Numbers.{nodes, number, node_of}
use Rattle.grid_core.specs.Owners.{owner_in}
use Rattle.grid_core.specs.Routes.{Tree, tree_nodes}
use Rattle.grid_core.proofs.Numbers.{number-node_of, node_of-number, number_below}
use Rattle.grid_core.proofs.Owners.{first_or}
use Rattle.nero_maze.specs.declared.board.Board.{Board}
use Rattle.nero_maze.specs.declared.frontier.Frontier.{Frontier}
use Rattle.nero_maze.specs.declared.frontier.Marked.{Marked}
use Rattle.nero_maze.specs.declared.frontier.Room.{Room}
use Rattle.nero_maze.specs.declared.hull.Hull.{Hull}
use Rattle.nero_maze.specs.Hulls.{far, Holds, AreHulls}
use Rattle.std.specs.Prelude.{slice_index_or}
use Rattle.nero_maze.specs.Search.{IsOwn, IsIdle, reserved_in}
use Rattle.nero_maze.specs.Claims.{Told}
use Rattle.nero_maze.specs.Routing.{Move, Began, Joined, routes_of, first_alone, TakesOut}
use Rattle.nero_maze.specs.Board.{follow, move_at, moves_in, moves_of, reserved_of, routing_of, AreBegun, HoldTrees, IsSound}
use Rattle.nero_maze.specs.Ripping.{IsOnPath, IsFreed, IsShorter, entries, stays, is_linked, IsTorn}
use Rattle.nero_maze.proofs.Holding.{hulls_with}
use Rattle.nero_maze.proofs.Growth.{follow_told, test_other}
use Rattle.nero_maze.proofs.Ties.{table}
use Rattle.nero_maze.proofs.Reserving.{reserved_same, reserved_flagged}
use Rattle.nero_maze.proofs.Shortening.{below_links, shorter_same}
use Rattle.nero_maze.proofs.Freeing.{on_path}
use Rattle.nero_maze.proofs.Logged.{moves_entries, in_moves, from_moves, moves_known, known_begun, known_mark, mark_known, path_owner}
use Rattle.nero_maze.proofs.Sounds.{some_tree}
use Rattle.nero_maze.proofs.Cutting.{keeps, Cut, cut, start_known, began_known}

-- entries that stay are those whose moves do
filter_moves : (f f' : ℕ → Move) (st : ℕ → Bool) (net : ℕ) (vs : List ℕ) → ((v : ℕ) → In v vs → keeps net (f v) ≡ st v) → ((v : ℕ) → In v vs → st v ≡ true → f' v ≡ f v)
    → map f' (filter st vs) ≡ filter (keeps net) (map f vs)
filter_moves f f' st net [] same kept = refl
filter_moves f f' st net (v ∷ vs) same kept = by (st v) refl (filter_moves f f' st net vs (λ w i. same w (there i)) (λ w i. kept w (there i)))
  where
    by : (b : Bool) → st v ≡ b → map f' (filter st vs) ≡ filter (keeps net) (map f vs) → map f' (filter st (v ∷ vs)) ≡ filter (keeps net) (map f (v ∷ vs))
    by true e rest =
        let k = same v here ∙ e in
        let m = kept v here e in
        rw (e, k, m) (ap (λ (ms : List Move). f v ∷ ms) rest)
    by false e rest =
        let k = same v here ∙ e in
        rw (e, k) rest

-- ---- the hulls
torn_own : (net : ℕ) (reserved : List ℕ) (old new : Room) → IsFreed net reserved old new → (k v : ℕ) → IsOwn new.owners.items new.links.items k v
    → (IsOnPath net old v → ⊥) × IsOwn old.owners.items old.links.items k v
torn_own net reserved old new h k v own =
    let off : IsOnPath net old v → ⊥ = λ p. own.0 (h.freed v p).1 in
    let kept = h.others v off in
    (off, ((λ z. own.0 (kept.1 ∙ z)), sym kept.0 ∙ own.1))

pub torn_hulls : (b : Board) (net : ℕ) → IsSound b → (room : Room) (log : Marked) → IsFreed net (reserved_of b) b.room room → IsShorter (stays net b.room) b.log log
    → (hull : Hull) → ((i : ℕ) → i < log.count → IsOwn room.owners.items room.links.items net (slice_index log.order.items i)
    → far room.grid hull (slice_index log.order.items i) ≡ 0)
    → AreHulls room.grid (set b.hulls.items net hull) room.owners.items room.links.items
torn_hulls b net s room log freed short hull held =
    let o = b.room.owners.items in
    let l = b.room.links.items in
    let old : AreHulls room.grid b.hulls.items o l = subst (λ (g : Grid). AreHulls g b.hulls.items o l) (sym freed.grid) s.holds in
    let own : Holds room.grid hull room.owners.items room.links.items net = λ v mine.
    let (off, was) = torn_own net (reserved_of b) b.room room freed net v mine in
    let nine : slice_index l v ≡ 9 = elim (cases_eq (slice_index l v) 9) [
      | inl e ↦ e
      | inr joined ↦ absurd (off (record { linked = was.0; joined = joined; own = was.1 }))
    ] in
    let stays_is : stays net b.room v ≡ true = rw (eq-eqb (slice_index o v) net was.1, eq-eqb (slice_index l v) 9 nine) refl in
    let mark = short.same v stays_is ∙ s.rooted v nine in
    let some : slice_index log.marks.items v ≢ 0 = omega arith in
    let (i, lt, at) = short.kept.found v some in
    subst (λ (w : ℕ). far room.grid hull w ≡ 0) at
    (held i lt (subst (λ (w : ℕ). IsOwn room.owners.items room.links.items net w) (sym at) mine)) in
    hulls_with room.grid b.hulls.items hull o l room.owners.items room.links.items net old own
    (λ k v ne mine. (torn_own net (reserved_of b) b.room room freed k v mine).1)

-- ---- entries that stay
freed_linked : (b : Board) (net : ℕ) (s : IsSound b) (room : Room) → IsFreed net (reserved_of b) b.room room → (v : ℕ) → slice_index b.log.marks.items v ≢ 0
    → is_linked room v ≡ stays net b.room v
freed_linked b net s room h v some =
    let linked = s.linked v some in
    elim (on_path net b.room v) [
      | inl on ↦ (
          let zero = (h.freed v on).1 in
          rw (eq-eqb (slice_index room.links.items v) 0 zero, eq-eqb (slice_index b.room.owners.items v) net on.own, test_other (slice_index b.room.links.items v) 9 on.joined) refl)
      | inr off ↦ (
          let kept = (h.others v off).1 in
          let some' : slice_index room.links.items v ≢ 0 = λ z. linked (sym kept ∙ z) in
          elim (cases_eq (slice_index b.room.owners.items v) net) [
            | inr ne ↦ rw (test_other (slice_index room.links.items v) 0 some', test_other (slice_index b.room.owners.items v) net ne) refl
            | inl own ↦ elim (cases_eq (slice_index b.room.links.items v) 9) [
              | inl nine ↦ rw (test_other (slice_index room.links.items v) 0 some', eq-eqb (slice_index b.room.owners.items v) net own, eq-eqb (slice_index b.room.links.items v) 9 nine) refl
              | inr joined ↦ absurd (off (record { linked = linked; joined = joined; own = own }))
            ]
          ])
    ]

pub torn_log : (b : Board) (net : ℕ) (s : IsSound b) (room : Room) (log : Marked) → IsFreed net (reserved_of b) b.room room → IsShorter (is_linked room) b.log log
    → IsShorter (stays net b.room) b.log log
torn_log b net s room log freed short = shorter_same (is_linked room) (stays net b.room) b.log log s.log (freed_linked b net s room freed) short

-- ---- one net is torn out
module _ (b b' : Board) (net : ℕ) (s : IsSound b) (h : IsTorn net b b') where
  abbrev g : Grid
  g = b.room.grid

  abbrev o : List ℕ
  o = b.room.owners.items

  abbrev l : List ℕ
  l = b.room.links.items

  abbrev ms : List ℕ
  ms = b.log.marks.items

  abbrev ord : List ℕ
  ord = b.log.order.items

  abbrev o' : List ℕ
  o' = b'.room.owners.items

  abbrev l' : List ℕ
  l' = b'.room.links.items

  abbrev ms' : List ℕ
  ms' = b'.log.marks.items

  abbrev st : ℕ → Bool
  st = stays net b.room

  abbrev known : List ℕ
  known = entries ord b.log.count

  stays_other : (v : ℕ) → slice_index o v ≢ net → st v ≡ true
  stays_other v ne = rw (test_other (slice_index o v) net ne) refl

  stays_root : (v : ℕ) → slice_index l v ≡ 9 → st v ≡ true
  stays_root v nine = elim (cases_eq (slice_index o v) net) [
    | inl e ↦ rw (eq-eqb (slice_index o v) net e, eq-eqb (slice_index l v) 9 nine) refl
    | inr ne ↦ stays_other v ne
  ]

  stays_not : (v : ℕ) → slice_index o v ≡ net → slice_index l v ≢ 9 → st v ≡ false
  stays_not v own joined = rw (eq-eqb (slice_index o v) net own, test_other (slice_index l v) 9 joined) refl

  -- what stays is another net's, or the root
  other_or_root : (v : ℕ) → st v ≡ true → (slice_index o v ≢ net) ⊎ (slice_index l v ≡ 9)
  other_or_root v is = elim (cases_eq (slice_index l v) 9) [
    | inl nine ↦ inr nine
    | inr joined ↦ elim (cases_eq (slice_index o v) net) [
      | inl own ↦ (let no : ◌≡◌ {A = Bool} true false = sym is ∙ stays_not v own joined in absurd (cc no))
      | inr ne ↦ inl ne
    ]
  ]

  off_path : (v : ℕ) → (slice_index o v ≢ net) ⊎ (slice_index l v ≡ 9) → IsOnPath net b.room v → ⊥
  off_path v (inl ne) p = ne p.own
  off_path v (inr nine) p = p.joined nine

  marked_stays : (v : ℕ) → slice_index ms' v ≢ 0 → st v ≡ true
  marked_stays v some = by (st v) refl
    where
      by : (t : Bool) → st v ≡ t → st v ≡ true
      by true e = e
      by false e = absurd (some (h.log.gone v (λ is. (let no : ◌≡◌ {A = Bool} true false = sym is ∙ e in absurd (cc no)))))

  -- so the path of another net is told as before
  told_kept : (rest : List ℕ) (v : ℕ) → Told g l v rest → ((w : ℕ) → In w (v ∷ rest) → slice_index o w ≢ net) → Told g l' v rest
  told_kept [] v t apart = absurd t
  told_kept (p ∷ []) v (k, k4, link, is) apart = (k, k4, (h.freed.others v (off_path v (inl (apart v here)))).1 ∙ link, is)
  told_kept (p ∷ r ∷ rest) v (k, k4, link, is, more) apart =
      (k, k4, (h.freed.others v (off_path v (inl (apart v here)))).1 ∙ link, is, told_kept (r ∷ rest) p more (λ w i. apart w (there i)))

  told_again : (v : ℕ) → In v known → slice_index o v ≢ net → slice_index ms v ≢ 2 → slice_index l v ≢ 9
      → (rest : List ℕ) × Told g l v rest × Told g l' v rest × (length rest ≤ nodes g)
  told_again v i other not_two not_nine =
      let (rest, told, short) = s.told v (known_mark b s v i) not_two not_nine in
      (rest, told, told_kept rest v told (λ w iw e. other (sym (path_owner b s v i not_two not_nine rest told short w iw) ∙ e)), short)

  -- an entry that stays tells what it told
  same_move : (v : ℕ) → In v known → st v ≡ true → move_at g o' l' ms' v ≡ move_at g o l ms v
  same_move v i is =
      let which = other_or_root v is in
      let kept = h.freed.others v (off_path v which) in
      let eo = kept.0 in
      let el = kept.1 in
      let em = h.log.same v is in
      elim which [
        | inr nine ↦ (let one = s.rooted v nine in let not_two : slice_index ms v ≢ 2 = omega arith in
            rw (eo, em, el, test_other (slice_index ms v) 2 not_two, eq-eqb (slice_index l v) 9 nine) refl)
        | inl other ↦ elim (cases_eq (slice_index ms v) 2) [
          | inl two ↦ rw (eo, em, eq-eqb (slice_index ms v) 2 two) refl
          | inr not_two ↦ elim (cases_eq (slice_index l v) 9) [
            | inl nine ↦ rw (eo, em, el, test_other (slice_index ms v) 2 not_two, eq-eqb (slice_index l v) 9 nine) refl
            | inr not_nine ↦ (
                let (rest, told, again, short) = told_again v i other not_two not_nine in
                let before = follow_told g l (nodes g) v rest told short in
                let after = follow_told g l' (nodes g) v rest again short in
                rw (eo, em, el, test_other (slice_index ms v) 2 not_two, test_other (slice_index l v) 9 not_nine, before, after) refl)
          ]
        ]
      ]

  -- and is one whose move stays
  keeps_same : (v : ℕ) → In v known → keeps net (move_at g o l ms v) ≡ st v
  keeps_same v i = elim (cases_eq (slice_index l v) 9) [
    | inl nine ↦ (
        let one = s.rooted v nine in
        let not_two : slice_index ms v ≢ 2 = omega arith in
        let told : move_at g o l ms v ≡ Began (slice_index o v) (node_of g v) = rw (test_other (slice_index ms v) 2 not_two, eq-eqb (slice_index l v) 9 nine) refl in
        ap (keeps net) told ∙ sym (stays_root v nine))
    | inr not_nine ↦ (
        let lost : cond (nat_eq (slice_index o v) net) false true ≡ st v = rw (test_other (slice_index l v) 9 not_nine) refl in
        elim (cases_eq (slice_index ms v) 2) [
          | inl two ↦ (
              let told : move_at g o l ms v ≡ Joined (slice_index o v) (node_of g v ∷ []) = rw (eq-eqb (slice_index ms v) 2 two) refl in
              ap (keeps net) told ∙ lost)
          | inr not_two ↦ (
              let told : move_at g o l ms v ≡ Joined (slice_index o v) (map (node_of g) (v ∷ follow g l (nodes g) v)) =
              rw (test_other (slice_index ms v) 2 not_two, test_other (slice_index l v) 9 not_nine) refl in
              ap (keeps net) told ∙ lost)
        ])
  ]

  left_moves : moves_of b' ≡ filter (keeps net) (map (move_at g o l ms) known)
  left_moves =
      ap (λ (k : Grid). moves_in k o' l' ms' b'.log.order.items b'.log.count) h.freed.grid
      ∙ (moves_entries g o' l' ms' b'.log.order.items b'.log.count
      ∙ (ap (map (move_at g o' l' ms')) h.log.entries ∙ filter_moves (move_at g o l ms) (move_at g o' l' ms') st net known keeps_same same_move))

  cut_all : Cut net (map (move_at g o l ms) known) (filter (keeps net) (map (move_at g o l ms) known))
  cut_all = cut net (map (move_at g o l ms) known) (known_begun b s)

  pub other_tree : (k : ℕ) → k ≢ net → routes_of (moves_of b') k ≡ routes_of (moves_of b) k
  other_tree k ne = ap (λ (xs : List Move). routes_of xs k) left_moves ∙ (cut_all.others k ne ∙ ap (λ (xs : List Move). routes_of xs k) (sym (moves_known b)))

  pub own_tree : routes_of (moves_of b') net ≡ first_alone (routes_of (moves_of b) net)
  own_tree = ap (λ (xs : List Move). routes_of xs net) left_moves ∙ (cut_all.alone ∙ ap (λ (xs : List Move). first_alone (routes_of xs net)) (sym (moves_known b)))

  -- the net's root is where its tree began
  root_start : (v : ℕ) → slice_index l v ≡ 9 → slice_index o v ≡ net → (t : Tree) → routes_of (moves_of b) net ≡ Some t → t.start ≡ node_of g v
  root_start v nine own t is =
      let one = s.rooted v nine in
      let not_two : slice_index ms v ≢ 2 = omega arith in
      let some : slice_index ms v ≢ 0 = omega arith in
      let told : move_at g o l ms v ≡ Began net (node_of g v) = rw (test_other (slice_index ms v) 2 not_two, eq-eqb (slice_index l v) 9 nine, own) refl in
      let made = subst (λ (m : Move). In m (map (move_at g o l ms) known)) told (in_moves (move_at g o l ms) known v (mark_known b s v some)) in
      let (t', is', at) = start_known (map (move_at g o l ms) known) (known_begun b s) net (node_of g v) made in
      let both : Some t ≡ Some t' = sym is ∙ (ap (λ (xs : List Move). routes_of xs net) (moves_known b) ∙ is') in
      let same : t ≡ t' = cc both in
      ap (λ (x : Tree). x.start) same ∙ at

  start_root : (t : Tree) → routes_of (moves_of b) net ≡ Some t → slice_index l (number g t.start) ≡ 9
  start_root t is =
      let made = began_known (map (move_at g o l ms) known) net t (sym (ap (λ (xs : List Move). routes_of xs net) (moves_known b)) ∙ is) in
      let (v, iv, told) = from_moves (move_at g o l ms) known (Began net t.start) made in
      elim (cases_eq (slice_index ms v) 2) [
        | inl two ↦ (
            let no : Joined (slice_index o v) (node_of g v ∷ []) ≡ Began net t.start = rw (eq-eqb (slice_index ms v) 2 two) at told in
            absurd (cc no))
        | inr not_two ↦ elim (cases_eq (slice_index l v) 9) [
          | inr not_nine ↦ (
              let no : Joined (slice_index o v) (map (node_of g) (v ∷ follow g l (nodes g) v)) ≡ Began net t.start =
              rw (test_other (slice_index ms v) 2 not_two, test_other (slice_index l v) 9 not_nine) at told in
              absurd (cc no))
          | inl nine ↦ (
              let yes : Began (slice_index o v) (node_of g v) ≡ Began net t.start = rw (test_other (slice_index ms v) 2 not_two, eq-eqb (slice_index l v) 9 nine) at told in
              let at : node_of g v ≡ t.start = cc yes in
              ap (λ (w : ℕ). slice_index l w) (ap (number g) (sym at) ∙ number-node_of g v) ∙ nine)
        ]
      ]

  linked_off : (v : ℕ) → slice_index l' v ≢ 0 → IsOnPath net b.room v → ⊥
  linked_off v some p = some (h.freed.freed v p).1

  forth' : (t : Tree) → routes_of (moves_of b) net ≡ Some t → (v : ℕ) → v < nodes g → slice_index l' v ≢ 0 → In (node_of g v) (tree_nodes (routes_of (moves_of b') (slice_index o' v)))
  forth' t is v lt some =
      let off = linked_off v some in
      let kept = h.freed.others v off in
      let was : slice_index l v ≢ 0 = λ z. some (kept.1 ∙ z) in
      elim (cases_eq (slice_index o v) net) [
        | inr ne ↦ (
            let old = s.forth v lt was in
            let new = subst (λ (o : Option Tree). In (node_of g v) (tree_nodes o)) (sym (other_tree (slice_index o v) ne)) old in
            subst (λ (k : ℕ). In (node_of g v) (tree_nodes (routes_of (moves_of b') k))) (sym kept.0) new)
        | inl own ↦ elim (cases_eq (slice_index l v) 9) [
          | inr joined ↦ absurd (off (record { linked = was; joined = joined; own = own }))
          | inl nine ↦ (
              let at = root_start v nine own t is in
              let alone : routes_of (moves_of b') net ≡ Some (record { start = t.start; paths = [] }) = own_tree ∙ ap first_alone is in
              let first : In t.start (tree_nodes (routes_of (moves_of b') net)) = subst (λ (o : Option Tree). In t.start (tree_nodes o)) (sym alone) here in
              let new = subst (λ (q : Node). In q (tree_nodes (routes_of (moves_of b') net))) at first in
              subst (λ (k : ℕ). In (node_of g v) (tree_nodes (routes_of (moves_of b') k))) (sym (kept.0 ∙ own)) new)
        ]
      ]

  back' : (t : Tree) → routes_of (moves_of b) net ≡ Some t → (k : ℕ) (q : Node) → In q (tree_nodes (routes_of (moves_of b') k)) → IsInGrid g q × IsOwn o' l' k (number g q)
  back' t is k q i = elim (cases_eq k net) [
    | inr ne ↦ (
        let r = s.back k q (subst (λ (o : Option Tree). In q (tree_nodes o)) (other_tree k ne) i) in
        let kept = h.freed.others (number g q) (off_path (number g q) (inl (λ e. ne (sym r.1.1 ∙ e)))) in
        (r.0, ((λ z. r.1.0 (sym kept.1 ∙ z)), kept.0 ∙ r.1.1)))
    | inl e ↦ (
        let alone : routes_of (moves_of b') k ≡ Some (record { start = t.start; paths = [] }) = ap (routes_of (moves_of b')) e ∙ (own_tree ∙ ap first_alone is) in
        let at : q ≡ t.start = elim (first_or q t.start [] (subst (λ (o : Option Tree). In q (tree_nodes o)) alone i)) [ inl same ↦ same | inr none ↦ elim none [ ] ] in
        let first : In t.start (tree_nodes (routes_of (moves_of b) net)) = subst (λ (o : Option Tree). In t.start (tree_nodes o)) (sym is) here in
        let r = s.back net q (subst (λ (n : Node). In n (tree_nodes (routes_of (moves_of b) net))) (sym at) first) in
        let nine : slice_index l (number g q) ≡ 9 = ap (λ (n : Node). slice_index l (number g n)) at ∙ start_root t is in
        let kept = h.freed.others (number g q) (off_path (number g q) (inr nine)) in
        (r.0, ((λ z. r.1.0 (sym kept.1 ∙ z)), kept.0 ∙ (r.1.1 ∙ sym e))))
  ]

  torn_reserved : reserved_of b' ≡ reserved_of b
  torn_reserved =
      let size : length o' ≡ length o = (let x = h.freed.room.owners in let y = s.room.owners in let z = ap nodes h.freed.grid in omega arith) in
      ap (λ (r : List Bool). reserved_in o' r) (ap (λ r. r.items) h.reserved)
      ∙ reserved_same o o' b.reserved.items size (λ v lt flag. elim (on_path net b.room v) [
        | inl p ↦ (h.freed.freed v p).0 ∙ reserved_flagged o b.reserved.items v lt flag
        | inr off ↦ (h.freed.others v off).0
      ])

  pub torn_sound : routes_of (moves_of b) net ≢ None → HoldTrees b' → IsSound b'
  torn_sound some_now holds =
      let (t, is) = some_tree (routes_of (moves_of b) net) some_now in
      let eg = h.freed.grid in
      let er : b'.reserved.items ≡ b.reserved.items = ap (λ r. r.items) h.reserved in
      record {
        room = h.freed.room;
        idle =
            let there_is : IsIdle b'.frontier.order.items b'.frontier.marks.items (nodes g) =
            subst (λ (f : Frontier). IsIdle f.order.items f.marks.items (nodes g)) (sym h.frontier) s.idle in
            subst (λ (k : Grid). IsIdle b'.frontier.order.items b'.frontier.marks.items (nodes k)) (sym eg) there_is;
        log = h.log.kept;
        logged = h.log.size ∙ (s.logged ∙ ap nodes (sym eg));
        linked = λ v some.
            let is' = marked_stays v some in
            let kept = h.freed.others v (off_path v (other_or_root v is')) in
            let was : slice_index ms v ≢ 0 = λ z. some (h.log.same v is' ∙ z) in
            λ z. s.linked v was (sym kept.1 ∙ z);
        owned = λ v some.
            let kept = h.freed.others v (linked_off v some) in
            λ e. s.owned v (λ z. some (kept.1 ∙ z)) (sym kept.0 ∙ e);
        told = λ v some not_two not_nine.
            let is' = marked_stays v some in
            let which = other_or_root v is' in
            let kept = h.freed.others v (off_path v which) in
            let mark = h.log.same v is' in
            let was : slice_index ms v ≢ 0 = λ z. some (mark ∙ z) in
            let joined : slice_index l v ≢ 9 = λ nine. not_nine (kept.1 ∙ nine) in
            let other : slice_index o v ≢ net = elim which [ inl ne ↦ ne | inr nine ↦ absurd (joined nine) ] in
            let (rest, told, again, short) = told_again v (mark_known b s v was) other (λ two. not_two (mark ∙ two)) joined in
            let again' : Told b'.room.grid l' v rest = subst (λ (k : Grid). Told k l' v rest) (sym eg) again in
            let short' : length rest ≤ nodes b'.room.grid = subst (λ (k : Grid). length rest ≤ nodes k) (sym eg) short in
            (rest, again', short');
        forth = subst (λ (k : Grid). (v : ℕ) → v < nodes k → slice_index l' v ≢ 0 → In (node_of k v) (tree_nodes (routes_of (moves_of b') (slice_index o' v)))) (sym eg) (forth' t is);
        back = subst (λ (k : Grid). (j : ℕ) (q : Node) → In q (tree_nodes (routes_of (moves_of b') j)) → IsInGrid k q × IsOwn o' l' j (number k q)) (sym eg) (back' t is);
        begun = subst (λ (xs : List Move). AreBegun xs) (sym left_moves) cut_all.begun;
        sized = ap (λ (xs : List Bool). length xs) er ∙ (s.sized ∙ ap nodes (sym eg));
        flagged = subst (λ (r : List Bool). (v : ℕ) → slice_index_or r v false ≡ true → slice_index o' v ≢ 4294967295) (sym er) (λ v flag.
            elim (on_path net b.room v) [
              | inr off ↦ (let same = (h.freed.others v off).0 in λ e. s.flagged v flag (sym same ∙ e))
              | inl p ↦ (
                  let lt : v < length o = (let below = below_links l v p.linked in let x = s.room.owners in let y = s.room.links in omega arith) in
                  let same = (h.freed.freed v p).0 ∙ reserved_flagged o b.reserved.items v lt flag in
                  λ e. s.flagged v flag (sym same ∙ e))
            ]);
        untaken = subst (λ (r : List ℕ). (v : ℕ) → slice_index l' v ≡ 0 → slice_index o' v ≡ slice_index r v) (sym torn_reserved) (λ v z.
            elim (on_path net b.room v) [
              | inl p ↦ (h.freed.freed v p).0
              | inr off ↦ (let kept = h.freed.others v off in kept.0 ∙ s.untaken v (sym kept.1 ∙ z))
            ]);
        rooted = λ v nine.
            let some : slice_index l' v ≢ 0 = omega arith in
            let kept = h.freed.others v (linked_off v some) in
            let was : slice_index l v ≡ 9 = sym kept.1 ∙ nine in
            h.log.same v (stays_root v was) ∙ s.rooted v was;
        holds = holds;
      }

  pub taken_out : routes_of (moves_of b) net ≢ None → TakesOut net (routing_of b) (routing_of b')
  taken_out some_now =
      let (t, is) = some_tree (routes_of (moves_of b) net) some_now in
      let eg = h.freed.grid in
      record {
        tree = own_tree;
        trees = other_tree;
        grid = eg;
        left = λ p i out.
            let v = number g p in
            let r = s.back net p i in
            let lt = number_below g p r.0 in
            let at = node_of-number g p r.0 in
            elim (on_path net b.room v) [
              | inl on ↦ ap (λ (k : Grid). owner_in (slice_index o' (number k p))) eg ∙ ap owner_in (h.freed.freed v on).0
              | inr off ↦ (
                  let kept = h.freed.others v off in
                  let linked : slice_index l' v ≢ 0 = λ z. r.1.0 (sym kept.1 ∙ z) in
                  let inside = forth' t is v lt linked in
                  let mine = subst (λ (k : ℕ). In (node_of g v) (tree_nodes (routes_of (moves_of b') k))) (kept.0 ∙ r.1.1) inside in
                  absurd (out (subst (λ (n : Node). In n (tree_nodes (routes_of (moves_of b') net))) at mine)))
            ];
        stays = λ p hp keep.
            let v = number g p in
            let lt = number_below g p hp in
            let at = node_of-number g p hp in
            elim (on_path net b.room v) [
              | inr off ↦ ap (λ (k : Grid). owner_in (slice_index o' (number k p))) eg ∙ ap owner_in (h.freed.others v off).0
              | inl on ↦ (
                  let old = subst (λ (k : ℕ). In (node_of g v) (tree_nodes (routes_of (moves_of b) k))) on.own (s.forth v lt on.linked) in
                  let new = keep (subst (λ (n : Node). In n (tree_nodes (routes_of (moves_of b) net))) at old) in
                  absurd ((back' t is net p new).1.0 (h.freed.freed v on).1))
            ];
        reserved = ap (λ (k : Grid). table k (reserved_of b')) eg ∙ ap (λ (xs : List ℕ). table g xs) torn_reserved;
      }
