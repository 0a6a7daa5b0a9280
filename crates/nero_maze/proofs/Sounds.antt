-- What a call leaves of the arrays is sound again, and what it did is the move that it promised.
use Rattle.std.proofs.Common.{ℕ, Bool, true, false, ◌≡◌, ◌≢◌, ◌+◌, ◌<◌, ◌≤◌, ◌⊎◌, inl, inr, List, [], ◌∷◌, map, length, Option, Some, None, set, slice_index, arith, sym, ◌∙◌, ap, refl, subst, add-one, length-set, get_or-set_same, get_or-set_other}
use Rattle.std.proofs.lemmas.Bool.{cases_eq, cases_lt}
use Rattle.std.proofs.lemmas.List.{get_or_past}
use Rattle.vlsi_base.specs.Member.{In, here, there}
use Rattle.grid_core.specs.declared.grid.Grid.{Grid}
use Rattle.grid_core.specs.declared.grid.Node.{Node}
use Rattle.grid_core.specs.Grid as field
use Rattle.grid_core.specs.Grid.{IsInGrid, IsLeastPath, IsPath, cost}
use Rattle.grid_core.specs.Numbers.{nodes, number, node_of}
use Rattle.grid_core.specs.Owners as owners
use Rattle.grid_core.specs.Owners.{Owners, owner_in, owner_of, IsTaken}
use Rattle.grid_core.specs.Routes.{Tree, tree_nodes}
use Rattle.grid_core.proofs.Numbers.{node_in_grid, number-node_of, node_of-number, number_below}
use Rattle.grid_core.proofs.Owners.{first_or}
use Rattle.nero_maze.specs.declared.board.Board.{Board}
use Rattle.std.specs.Prelude.{slice_index_or}
use Rattle.nero_maze.specs.Search.{IsRoom, IsFree, IsOwn, IsIdle, Kept, reserved_in}
use Rattle.nero_maze.specs.Claims.{LeadsBack, Told, Changed}
use Rattle.nero_maze.specs.Routing.{Move, Began, Joined, routes_of, IsPoint, Begins, Connects}
use Rattle.nero_maze.specs.Board.{move_at, moves_in, moves_of, routing_of, reserved_of, AreBegun, HoldTrees, IsSound, Logs, Touches, Reaches, IsStuck}
use Rattle.nero_maze.specs.Ripping.{NoWay}
use Rattle.nero_maze.proofs.Theory.{room, Kept-none}
use Rattle.nero_maze.proofs.Claiming.{Told-more, changed_more}
use Rattle.nero_maze.proofs.Neighbours.{facts}
use Rattle.nero_maze.proofs.Ties.{table, owner_not, free_word, leads_nodes, leads_numbers, Comes, IsKin}
use Rattle.nero_maze.proofs.Reserving.{reserved_same}
use Rattle.nero_maze.proofs.Growth.{Grows, joined_grows, began_grows, follow_told, move_same, moves_same, points_known, test_other}

-- ---- lists
pub in_map : (f : ℕ → Node) (vs : List ℕ) (v : ℕ) → In v vs → In (f v) (map f vs)
in_map f [] v h = elim h [ ]
in_map f (x ∷ xs) v here = here
in_map f (x ∷ xs) v (there h) = there (in_map f xs v h)

pub from_map : (f : ℕ → Node) (vs : List ℕ) (p : Node) → In p (map f vs) → (v : ℕ) × In v vs × (f v ≡ p)
from_map f [] p h = elim h [ ]
from_map f (x ∷ xs) p here = (x, here, refl)
from_map f (x ∷ xs) p (there h) = let r = from_map f xs p h in (r.0, there r.1, r.2)

pub decide : (v : ℕ) (vs : List ℕ) → In v vs ⊎ (In v vs → ⊥)
decide v [] = inr (λ h. elim h [ ])
decide v (x ∷ xs) = elim (cases_eq v x) [
  | inl e ↦ inl (subst (λ (w : ℕ). In v (w ∷ xs)) e here)
  | inr ne ↦ elim (decide v xs) [ inl h ↦ inl (there h) | inr out ↦ inr (λ h. elim (first_or v x xs h) [ inl e ↦ ne e | inr i ↦ out i ]) ]
]

-- what a net gets is no other net's own
pub changed_own : (net : ℕ) (path o l o' l' : List ℕ) → Changed net path o l o' l' → (k v : ℕ) → k ≢ net → IsOwn o' l' k v → IsOwn o l k v
changed_own net path o l o' l' h k v ne own = elim (decide v path) [
  | inl i ↦ absurd (ne (sym own.1 ∙ (h.mine v i).0))
  | inr out ↦ (let same = h.others v out in ((λ z. own.0 (same.1 ∙ z)), sym same.0 ∙ own.1))
]

-- ---- one call
pub record Step (b b' : Board) (net target mark : ℕ) (path : List ℕ) (m : Move) : Type 0 where
  pub grid : b'.room.grid ≡ b.room.grid
  pub room : IsRoom b'.room
  pub idle : IsIdle b'.frontier.order.items b'.frontier.marks.items (nodes b.room.grid)
  pub within : (v : ℕ) → In v path → v < nodes b.room.grid
  pub aimed : In target path
  pub small : net ≢ 4294967295
  pub changed : Changed net path b.room.owners.items b.room.links.items b'.room.owners.items b'.room.links.items
  pub log : Logs target mark b.log b'.log
  pub marked : mark ≢ 0
  pub fresh : slice_index b.log.marks.items target ≡ 0
  pub told : mark ≢ 2 → slice_index b'.room.links.items target ≢ 9 → (rest : List ℕ) × Told b.room.grid b'.room.links.items target rest × (length rest ≤ nodes b.room.grid)
  pub move : move_at b.room.grid b'.room.owners.items b'.room.links.items b'.log.marks.items target ≡ m
  pub grows : Grows (routes_of (moves_of b)) (routes_of (m ∷ moves_of b)) net (map (node_of b.room.grid) path)
  pub begun : AreBegun (m ∷ moves_of b)
  pub reserved : b'.reserved ≡ b.reserved
  pub free : (v : ℕ) → In v path → IsFree b.room.owners.items net v
  pub rooted : (v : ℕ) → In v path → slice_index b.room.links.items v ≡ 0 → slice_index b'.room.links.items v ≡ 9 → (v ≡ target) × (mark ≡ 1)
  pub holds : HoldTrees b'

-- what is reserved stays
pub step_reserved : (b b' : Board) (net target mark : ℕ) (path : List ℕ) (m : Move) → IsSound b → Step b b' net target mark path m → reserved_of b' ≡ reserved_of b
step_reserved b b' net target mark path m s t =
    let o = b.room.owners.items in
    let o' = b'.room.owners.items in
    let size : length o' ≡ length o = (let x = t.room.owners in let y = s.room.owners in let z = ap nodes t.grid in omega arith) in
    ap (λ (r : List Bool). reserved_in o' r) (ap (λ r. r.items) t.reserved)
    ∙ reserved_same o o' b.reserved.items size (λ v lt flag. elim (decide v path) [
      | inr out ↦ (t.changed.others v out).0
      | inl i ↦ elim (t.free v i) [
        | inl nobody ↦ absurd (s.flagged v flag nobody)
        | inr mine ↦ (t.changed.mine v i).0 ∙ sym mine
      ]
    ])

pub moves_step : (b b' : Board) (net target mark : ℕ) (path : List ℕ) (m : Move) → IsSound b → Step b b' net target mark path m
    → moves_in b.room.grid b'.room.owners.items b'.room.links.items b'.log.marks.items b'.log.order.items b'.log.count ≡ m ∷ moves_of b
moves_step b b' net target mark path m s t =
    let g = b.room.grid in
    let o = b.room.owners.items in
    let l = b.room.links.items in
    let o' = b'.room.owners.items in
    let l' = b'.room.links.items in
    let ms = b.log.marks.items in
    let ms' = b'.log.marks.items in
    let ord = b.log.order.items in
    let ord' = b'.log.order.items in
    let n = b.log.count in
    let lt : target < length ms = (let h = t.within target t.aimed in let e = s.logged in omega arith) in
    let n_lt : n < length ord = (let r = room ord ms n target s.log lt t.fresh in let e = s.log.same in omega arith) in
    let last : slice_index ord' n ≡ target = rw t.log.order (get_or-set_same ord n target 0 n_lt) in
    let each : (i : ℕ) → i < n → move_at g o' l' ms' (slice_index ord' i) ≡ move_at g o l ms (slice_index ord i) =
    λ i i_lt.
    let ne : i ≢ n = omega arith in
    let same : slice_index ord' i ≡ slice_index ord i = rw t.log.order (get_or-set_other ord n i target 0 ne) in
    let v = slice_index ord i in
    let some = s.log.marked i i_lt in
    let linked = s.linked v some in
    let kept = t.changed.kept v linked in
    let other : v ≢ target = λ e. some (ap (λ w. slice_index ms w) e ∙ t.fresh) in
    let mark_same : slice_index ms' v ≡ slice_index ms v = rw t.log.marks (get_or-set_other ms target v mark 0 other) in
    rw same (move_same g o l ms o' l' ms' v kept.0 kept.1 mark_same (s.told v some) (λ w nz. (t.changed.kept w nz).1)) in
    let rest = moves_same g o l ms ord o' l' ms' ord' n each in
    rw (t.log.count, add-one, last, t.move, rest) refl

pub sound_step : (b b' : Board) (net target mark : ℕ) (path : List ℕ) (m : Move) → IsSound b → Step b b' net target mark path m → IsSound b'
sound_step b b' net target mark path m s t =
    let g = b.room.grid in
    let o = b.room.owners.items in
    let l = b.room.links.items in
    let o' = b'.room.owners.items in
    let l' = b'.room.links.items in
    let ms = b.log.marks.items in
    let ms' = b'.log.marks.items in
    let moves = moves_step b b' net target mark path m s t in
    let lt : target < length ms = (let h = t.within target t.aimed in let e = s.logged in omega arith) in
    let stays : (w : ℕ) → slice_index l w ≢ 0 → slice_index l' w ≡ slice_index l w = λ w nz. (t.changed.kept w nz).1 in
    let from : (v : ℕ) → slice_index l' v ≢ 0 → (slice_index l v ≢ 0) ⊎ In v path =
    λ v nz. elim (cases_eq (slice_index l v) 0) [
      | inr old ↦ inl old
      | inl z ↦ elim (decide v path) [ inl i ↦ inr i | inr out ↦ absurd (nz ((t.changed.others v out).1 ∙ z)) ]
    ] in
    let whole : moves_of b' ≡ m ∷ moves_of b = ap (λ (h : Grid). moves_in h o' l' ms' b'.log.order.items b'.log.count) t.grid ∙ moves in
    let tree : (k : ℕ) (q : Node) → In q (tree_nodes (routes_of (m ∷ moves_of b) k)) → In q (tree_nodes (routes_of (moves_of b') k)) =
    λ k q h. subst (λ (ns : List Move). In q (tree_nodes (routes_of ns k))) (sym whole) h in
    let forth : (v : ℕ) → v < nodes g → slice_index l' v ≢ 0 → In (node_of g v) (tree_nodes (routes_of (moves_of b') (slice_index o' v))) =
    λ v v_lt nz. elim (from v nz) [
      | inl old ↦ (
          let kept = t.changed.kept v old in
          let here_old : In (node_of g v) (tree_nodes (routes_of (moves_of b) (slice_index o' v))) = subst (λ (k : ℕ). In (node_of g v) (tree_nodes (routes_of (moves_of b) k))) (sym kept.0) (s.forth v v_lt old) in
          tree (slice_index o' v) (node_of g v) (t.grows.old (slice_index o' v) (node_of g v) here_old))
      | inr i ↦ (
          let mine = t.changed.mine v i in
          let here_new : In (node_of g v) (tree_nodes (routes_of (m ∷ moves_of b) (slice_index o' v))) =
          subst (λ (k : ℕ). In (node_of g v) (tree_nodes (routes_of (m ∷ moves_of b) k))) (sym mine.0) (t.grows.fresh (node_of g v) (in_map (node_of g) path v i)) in
          tree (slice_index o' v) (node_of g v) here_new)
    ] in
    let back : (k : ℕ) (q : Node) → In q (tree_nodes (routes_of (moves_of b') k)) → IsInGrid g q × IsOwn o' l' k (number g q) =
    λ k q h.
    let h' = subst (λ (ns : List Move). In q (tree_nodes (routes_of ns k))) whole h in
    elim (t.grows.either k q h') [
      | inl old ↦ (
          let r = s.back k q old in
          let kept = t.changed.kept (number g q) r.1.0 in
          (r.0, ((λ z. r.1.0 (sym kept.1 ∙ z)), kept.0 ∙ r.1.1)))
      | inr (e, i) ↦ (
          let (v, iv, at) = from_map (node_of g) path q i in
          let mine = t.changed.mine v iv in
          let num : number g q ≡ v = ap (number g) (sym at) ∙ number-node_of g v in (
            subst (λ (p : Node). IsInGrid g p) at (node_in_grid g v (t.within v iv)),
            ((λ z. mine.1 (sym (ap (λ w. slice_index l' w) num) ∙ z)), ap (λ w. slice_index o' w) num ∙ (mine.0 ∙ sym e)),
          ))
    ] in
    record {
      room = t.room;
      idle = rw t.grid t.idle;
      log = t.log.kept;
      logged = rw (t.log.marks, t.grid) (length-set ms target mark ∙ s.logged);
      linked = λ v some. elim (cases_eq v target) [
        | inl e ↦ (t.changed.mine v (subst (λ (w : ℕ). In w path) (sym e) t.aimed)).1
        | inr ne ↦ (
            let was : slice_index ms v ≢ 0 = (let same : slice_index ms' v ≡ slice_index ms v = rw t.log.marks (get_or-set_other ms target v mark 0 ne) in λ z. some (same ∙ z)) in
            let linked = s.linked v was in λ z. linked (sym (stays v linked) ∙ z))
      ];
      owned = λ v nz. elim (from v nz) [
        | inl old ↦ (let kept = t.changed.kept v old in λ e. s.owned v old (sym kept.0 ∙ e))
        | inr i ↦ (let mine = t.changed.mine v i in λ e. t.small (sym mine.0 ∙ e))
      ];
      told = λ v some not_two not_nine. elim (cases_eq v target) [
        | inl e ↦ (
            let mark_at : slice_index ms' target ≡ mark = rw t.log.marks (get_or-set_same ms target mark 0 lt) in
            let mark_is : slice_index ms' v ≡ mark = ap (λ w. slice_index ms' w) e ∙ mark_at in
            let (rest, tells, short) = t.told (λ two. not_two (mark_is ∙ two)) (λ nine. not_nine (ap (λ w. slice_index l' w) e ∙ nine)) in
            let tells' : Told g l' v rest = subst (λ (w : ℕ). Told g l' w rest) (sym e) tells in
            let tells2 : Told b'.room.grid l' v rest = subst (λ (h : Grid). Told h l' v rest) (sym t.grid) tells' in
            let short' : length rest ≤ nodes b'.room.grid = rw t.grid short in
            (rest, tells2, short'))
        | inr ne ↦ (
            let same : slice_index ms' v ≡ slice_index ms v = rw t.log.marks (get_or-set_other ms target v mark 0 ne) in
            let was : slice_index ms v ≢ 0 = λ z. some (same ∙ z) in
            let link = stays v (s.linked v was) in
            let (rest, tells, short) = s.told v was (λ two. not_two (same ∙ two)) (λ nine. not_nine (link ∙ nine)) in
            let tells2 : Told b'.room.grid l' v rest = subst (λ (h : Grid). Told h l' v rest) (sym t.grid) (Told-more g l l' stays v rest tells) in
            let short' : length rest ≤ nodes b'.room.grid = rw t.grid short in
            (rest, tells2, short'))
      ];
      forth = subst (λ (h : Grid). (v : ℕ) → v < nodes h → slice_index l' v ≢ 0 → In (node_of h v) (tree_nodes (routes_of (moves_of b') (slice_index o' v)))) (sym t.grid) forth;
      back = subst (λ (h : Grid). (k : ℕ) (q : Node) → In q (tree_nodes (routes_of (moves_of b') k)) → IsInGrid h q × IsOwn o' l' k (number h q)) (sym t.grid) back;
      begun = subst (λ (ns : List Move). AreBegun ns) (sym whole) t.begun;
      sized = rw (t.reserved, t.grid) s.sized;
      flagged = subst (λ (r : List Bool). (v : ℕ) → slice_index_or r v false ≡ true → slice_index o' v ≢ 4294967295) (ap (λ r. r.items) (sym t.reserved)) (λ v flag.
          elim (decide v path) [
            | inr out ↦ (let same = (t.changed.others v out).0 in λ e. s.flagged v flag (sym same ∙ e))
            | inl i ↦ (let mine = (t.changed.mine v i).0 in λ e. t.small (sym mine ∙ e))
          ]);
      untaken = subst (λ (r : List ℕ). (v : ℕ) → slice_index l' v ≡ 0 → slice_index o' v ≡ slice_index r v) (sym (step_reserved b b' net target mark path m s t)) (λ v z.
          elim (decide v path) [
            | inl i ↦ absurd ((t.changed.mine v i).1 z)
            | inr out ↦ (let same = t.changed.others v out in same.0 ∙ s.untaken v (sym same.1 ∙ z))
          ]);
      rooted = λ v nine.
          let nz : slice_index l' v ≢ 0 = omega arith in
          let at_target : v ≡ target → mark ≡ 1 → slice_index ms' v ≡ 1 = λ e one.
          let is : slice_index ms' target ≡ mark = rw t.log.marks (get_or-set_same ms target mark 0 lt) in
          ap (λ w. slice_index ms' w) e ∙ (is ∙ one) in
          elim (cases_eq (slice_index l v) 0) [
            | inl z ↦ elim (from v nz) [
              | inl old ↦ absurd (old z)
              | inr i ↦ (let r = t.rooted v i z nine in at_target r.0 r.1)
            ]
            | inr old ↦ (
                let was = s.rooted v (sym (stays v old) ∙ nine) in
                let ne : v ≢ target = λ e. (let none = ap (λ w. slice_index ms w) e ∙ t.fresh in let no : ⊥ = omega arith in no) in
                let kept : slice_index ms' v ≡ slice_index ms v = rw t.log.marks (get_or-set_other ms target v mark 0 ne) in
                kept ∙ was)
          ];
      holds = t.holds;
    }

-- the owners as they became
pub taken : (g g' : Grid) (net : ℕ) (path o l o' l' : List ℕ) → g' ≡ g → net ≢ 4294967295 → Changed net path o l o' l'
    → IsTaken (table g o) net (map (node_of g) path) (table g' o')
taken g g' net path o l o' l' eg small h =
    record {
      grid = eg;
      mine = λ p i.
          let (v, iv, at) = from_map (node_of g) path p i in
          let num : number g p ≡ v = ap (number g) (sym at) ∙ number-node_of g v in
          rw (eg, num, (h.mine v iv).0) (owner_not net small);
      others = λ p hp out.
          let off : In (number g p) path → ⊥ = λ i. out (subst (λ (q : Node). In q (map (node_of g) path)) (node_of-number g p hp) (in_map (node_of g) path (number g p) i)) in
          rw (eg, (h.others (number g p) off).0) refl;
    }

-- ---- begin
pub sound_bare : (b : Board) → reserved_of b ≡ b.room.owners.items → length b.reserved.items ≡ nodes b.room.grid
    → ((v : ℕ) → slice_index_or b.reserved.items v false ≡ true → slice_index b.room.owners.items v ≢ 4294967295) → IsRoom b.room → IsIdle b.frontier.order.items b.frontier.marks.items (nodes b.room.grid) → IsIdle b.log.order.items b.log.marks.items (nodes b.room.grid) → b.log.count ≡ 0
    → ((v : ℕ) → slice_index b.room.links.items v ≡ 0) → IsSound b × (moves_of b ≡ [])
sound_bare b same sized flagged room idle log count unlinked =
    let none : moves_of b ≡ [] = rw count refl in
    let empty : Kept b.log.order.items b.log.marks.items 0 = Kept-none b.log.order.items b.log.marks.items (log.places ∙ sym log.size) log.clear in (
      record {
        room = room;
        idle = idle;
        log = rw count empty;
        logged = log.size;
        linked = λ v nz. absurd (nz (log.clear v));
        owned = λ v nz. absurd (nz (unlinked v));
        told = λ v nz not_two not_nine. absurd (nz (log.clear v));
        forth = λ v lt nz. absurd (nz (unlinked v));
        back = λ k q h. (let h' = rw none at h in elim h' [ ]);
        begun = rw none tt;
        sized = sized;
        flagged = flagged;
        untaken = λ v z. ap (λ (xs : List ℕ). slice_index xs v) (sym same);
        rooted = λ v nine. (let z = unlinked v in let no : ⊥ = omega arith in absurd no);
        holds = λ k hull is v own. absurd (own.0 (unlinked v));
      },
      none,
    )

-- ---- seat
-- a node that is free for a net without a tree is in no tree
pub bare_node : (b : Board) (net : ℕ) (q : Node) → IsSound b → routes_of (moves_of b) net ≡ None → owners.IsFree (table b.room.grid b.room.owners.items) net q
    → slice_index b.room.links.items (number b.room.grid q) ≡ 0
bare_node b net q s none free =
    let v = number b.room.grid q in
    elim (cases_eq (slice_index b.room.links.items v) 0) [
      | inl z ↦ z
      | inr nz ↦ elim (free_word b.room.grid b.room.owners.items net q free) [
        | inl nobody ↦ absurd (s.owned v nz nobody)
        | inr mine ↦ (
            let h = s.forth v (number_below b.room.grid q free.within) nz in
            let h' = subst (λ (o : Option Tree). In (node_of b.room.grid v) (tree_nodes o)) (ap (routes_of (moves_of b)) mine ∙ none) h in elim h' [ ])
      ]
    ]

bare_log : (b : Board) (v : ℕ) → IsSound b → slice_index b.room.links.items v ≡ 0 → slice_index b.log.marks.items v ≡ 0
bare_log b v s z = elim (cases_eq (slice_index b.log.marks.items v) 0) [ inl e ↦ e | inr nz ↦ absurd (s.linked v nz z) ]

-- and no node is such a net's own
pub alone : (b : Board) (net : ℕ) → IsSound b → routes_of (moves_of b) net ≡ None → (v : ℕ) → IsOwn b.room.owners.items b.room.links.items net v → ⊥
alone b net s none v own = elim (cases_lt v (nodes b.room.grid)) [
  | inr past ↦ (let e = s.room.links in own.0 (get_or_past b.room.links.items v 0 (omega arith)))
  | inl lt ↦ (
      let h = s.forth v lt own.0 in
      let h' = subst (λ (o : Option Tree). In (node_of b.room.grid v) (tree_nodes o)) (ap (routes_of (moves_of b)) own.1 ∙ none) h in elim h' [ ])
]

pub seated : (b b' : Board) (net : ℕ) (q : Node) → IsSound b → net ≢ 4294967295 → routes_of (moves_of b) net ≡ None
    → owners.IsFree (table b.room.grid b.room.owners.items) net q
    → b'.room.grid ≡ b.room.grid → b'.room.owners.items ≡ set b.room.owners.items (number b.room.grid q) net
    → b'.room.links.items ≡ set b.room.links.items (number b.room.grid q) 9 → Logs (number b.room.grid q) 1 b.log b'.log → b'.frontier ≡ b.frontier → b'.reserved ≡ b.reserved
    → HoldTrees b' → IsSound b' × Begins net q (routing_of b) (routing_of b')
seated b b' net q s small none free eg eo el log idle er holds =
    let g = b.room.grid in
    let o = b.room.owners.items in
    let l = b.room.links.items in
    let v = number g q in
    let below = number_below g q free.within in
    let lo : v < length o = (let e = s.room.owners in omega arith) in
    let ll : v < length l = (let e = s.room.links in omega arith) in
    let lm : v < length b.log.marks.items = (let e = s.logged in omega arith) in
    let z = bare_node b net q s none free in
    let m = Began net q in
    let at : node_of g v ≡ q = node_of-number g q free.within in
    let nothing : Changed net [] o l o l = record { mine = λ w i. elim i [ ]; kept = λ w nz. (refl, refl); others = λ w out. (refl, refl) } in
    let changed = changed_more net v 9 [] o l o l b'.room.owners.items b'.room.links.items eo el (let ne : 9 ≢ 0 = omega arith in ne) lo ll z nothing in
    let owner : slice_index b'.room.owners.items v ≡ net = rw eo (get_or-set_same o v net 0 lo) in
    let link : slice_index b'.room.links.items v ≡ 9 = rw el (get_or-set_same l v 9 0 ll) in
    let mark : slice_index b'.log.marks.items v ≡ 1 = rw log.marks (get_or-set_same b.log.marks.items v 1 0 lm) in
    let t : Step b b' net v 1 (v ∷ []) m = record {
      grid = eg;
      room = record {
        few = rw eg s.room.few;
        owners = rw (eo, eg) (length-set o v net ∙ s.room.owners);
        links = rw (el, eg) (length-set l v 9 ∙ s.room.links);
      };
      idle = rw idle s.idle;
      within = λ w i. elim (first_or w v [] i) [ inl e ↦ rw e below | inr h ↦ elim h [ ] ];
      aimed = here;
      small = small;
      changed = changed;
      log = log;
      marked = omega arith;
      fresh = bare_log b v s z;
      told = λ not_two not_nine. absurd (not_nine link);
      move = rw (mark, link, owner, at) refl;
      grows = rw at (began_grows (routes_of (moves_of b)) net q none);
      begun = (none, s.begun);
      reserved = er;
      free = λ w i. elim (first_or w v [] i) [ inl e ↦ rw e (free_word g o net q free) | inr h ↦ elim h [ ] ];
      rooted = λ w i unlinked nine. elim (first_or w v [] i) [ inl e ↦ (e, refl) | inr h ↦ elim h [ ] ];
      holds = holds;
    } in
    let own_all = taken g b'.room.grid net (v ∷ []) o l b'.room.owners.items b'.room.links.items eg small changed in
    let kept = ap (λ (k : Grid). table k (reserved_of b')) eg ∙ ap (table g) (step_reserved b b' net v 1 (v ∷ []) m s t) in
    (sound_step b b' net v 1 (v ∷ []) m s t, record { moves = rw eg (moves_step b b' net v 1 (v ∷ []) m s t); taken = rw at at own_all; reserved = kept })

-- ---- connect
-- a net whose tree has begun is a number below the one that says that there is none
pub net_small : (b : Board) (net : ℕ) (t : Tree) → IsSound b → routes_of (moves_of b) net ≡ Some t → net ≢ 4294967295
net_small b net t s is =
    let i : In t.start (tree_nodes (routes_of (moves_of b) net)) = subst (λ (o : Option Tree). In t.start (tree_nodes o)) (sym is) here in
    let r = s.back net t.start i in
    λ e. s.owned (number b.room.grid t.start) r.1.0 (r.1.1 ∙ e)

-- a target that is none of the tree's points is not in the log, or is another net's
pub unlogged : (b : Board) (net : ℕ) (q : Node) → IsSound b → IsInGrid b.room.grid q → (IsPoint (routes_of (moves_of b) net) q → ⊥)
    → (slice_index b.log.marks.items (number b.room.grid q) ≡ 0) ⊎ (slice_index b.room.owners.items (number b.room.grid q) ≢ net)
unlogged b net q s hq fresh =
    let g = b.room.grid in
    let o = b.room.owners.items in
    let v = number g q in
    elim (cases_eq (slice_index o v) net) [
      | inr ne ↦ inr ne
      | inl mine ↦ elim (cases_eq (slice_index b.log.marks.items v) 0) [
        | inl z ↦ inl z
        | inr nz ↦ (
            let (i, lt, at) = s.log.found v nz in
            let p = points_known g o b.room.links.items b.log.marks.items b.log.order.items b.log.count i lt s.begun in
            let family : ℕ → Type 0 = λ w. IsPoint (routes_of (moves_of b) (slice_index o w)) (node_of g w) in
            let p' = subst family at p in
            let p2 = subst (λ (k : ℕ). IsPoint (routes_of (moves_of b) k) (node_of g v)) mine p' in
            absurd (fresh (subst (λ (n : Node). IsPoint (routes_of (moves_of b) net) n) (node_of-number g q hq) p2)))
      ]
    ]

pub forth_of : (b : Board) (net : ℕ) → IsSound b → (v : ℕ) → v < nodes b.room.grid → IsOwn b.room.owners.items b.room.links.items net v
    → In (node_of b.room.grid v) (tree_nodes (routes_of (moves_of b) net))
forth_of b net s v lt own = subst (λ (k : ℕ). In (node_of b.room.grid v) (tree_nodes (routes_of (moves_of b) k))) own.1 (s.forth v lt own.0)

pub touched : (b b' : Board) (net c : ℕ) (q : Node) (t : Tree) → IsSound b → routes_of (moves_of b) net ≡ Some t → IsInGrid b.room.grid q
    → slice_index b.log.marks.items (number b.room.grid q) ≡ 0 → IsIdle b'.frontier.order.items b'.frontier.marks.items (nodes b.room.grid) → b'.reserved ≡ b.reserved → Touches net (number b.room.grid q) c b b'
    → HoldTrees b' → IsSound b' × Connects net q c (routing_of b) (routing_of b') (q ∷ [])
touched b b' net c q tree s begun hq fresh idle er h holds =
    let g = b.room.grid in
    let o = b.room.owners.items in
    let l = b.room.links.items in
    let v = number g q in
    let below = number_below g q hq in
    let lm : v < length b.log.marks.items = (let e = s.logged in omega arith) in
    let at : node_of g v ≡ q = node_of-number g q hq in
    let m = Joined net (q ∷ []) in
    let eg : b'.room.grid ≡ g = ap (λ r. r.grid) h.room in
    let eo : b'.room.owners.items ≡ o = ap (λ r. r.owners.items) h.room in
    let el : b'.room.links.items ≡ l = ap (λ r. r.links.items) h.room in
    let same : Changed net (v ∷ []) o l o l = record {
      mine = λ w i. elim (first_or w v [] i) [ inl e ↦ rw e (h.own.1, h.own.0) | inr no_more ↦ elim no_more [ ] ];
      kept = λ w nz. (refl, refl);
      others = λ w out. (refl, refl);
    } in
    let changed : Changed net (v ∷ []) o l b'.room.owners.items b'.room.links.items = rw (eo, el) same in
    let mark : slice_index b'.log.marks.items v ≡ 2 = rw h.log.marks (get_or-set_same b.log.marks.items v 2 0 lm) in
    let owner : slice_index b'.room.owners.items v ≡ net = rw eo h.own.1 in
    let small = net_small b net tree s begun in
    let t : Step b b' net v 2 (v ∷ []) m = record {
      grid = eg;
      room = rw h.room s.room;
      idle = idle;
      within = λ w i. elim (first_or w v [] i) [ inl e ↦ rw e below | inr no_more ↦ elim no_more [ ] ];
      aimed = here;
      small = small;
      changed = changed;
      log = h.log;
      marked = omega arith;
      fresh = fresh;
      told = λ not_two not_nine. absurd (not_two refl);
      move = rw (mark, owner, at) refl;
      grows = rw at (joined_grows (routes_of (moves_of b)) net (q ∷ []) tree begun);
      begun = ((tree, begun), s.begun);
      reserved = er;
      free = λ w i. elim (first_or w v [] i) [ inl e ↦ rw e (inr h.own.1) | inr no_more ↦ elim no_more [ ] ];
      rooted = λ w i unlinked nine. elim (first_or w v [] i) [ inl e ↦ absurd (h.own.0 (ap (λ u. slice_index l u) (sym e) ∙ unlinked)) | inr no_more ↦ elim no_more [ ] ];
      holds = holds;
    } in
    let own_all = taken g b'.room.grid net (v ∷ []) o l b'.room.owners.items b'.room.links.items eg small changed in
    let inside : In q (tree_nodes (routes_of (moves_of b) net)) = subst (λ (n : Node). In n (tree_nodes (routes_of (moves_of b) net))) at (forth_of b net s v below h.own) in (
      sound_step b b' net v 2 (v ∷ []) m s t,
      record {
        least = record { leads = (refl, inside); least = λ other p. omega arith };
        costs = sym h.nothing;
        moves = rw eg (moves_step b b' net v 2 (v ∷ []) m s t);
        taken = rw at at own_all;
        reserved = ap (λ (k : Grid). table k (reserved_of b')) eg ∙ ap (table g) (step_reserved b b' net v 2 (v ∷ []) m s t);
      },
    )

leads_within : (g : Grid) (o l : List ℕ) (net q : ℕ) (rest : List ℕ) (c : ℕ) → q < nodes g → LeadsBack g o l net q rest c → (v : ℕ) → In v (q ∷ rest) → v < nodes g
leads_within g o l net q [] c lt h v i = elim (first_or v q [] i) [ inl e ↦ rw e lt | inr more ↦ elim more [ ] ]
leads_within g o l net q (p ∷ rest) c lt (free, (k, k4, is, (b, more, e))) v i = elim (first_or v q (p ∷ rest) i) [
  | inl e' ↦ rw e' lt
  | inr j ↦ leads_within g o l net p rest b (facts g q k p lt k4 is).0 more v j
]

-- a path over free nodes is a way from the net's own nodes
pub comes : (b : Board) (f : List ℕ) (net : ℕ) (q : Node) (other : List Node) → IsSound b → IsKin f b.room.owners.items b.room.links.items net → IsInGrid b.room.grid q
    → IsPath (owners.IsFree (table b.room.grid f) net) (tree_nodes (routes_of (moves_of b) net)) q other
    → Comes b.room.grid f b.room.owners.items b.room.links.items net (number b.room.grid q) (0 + cost other)
comes b f net q [] s kin hq p = absurd p
comes b f net q (x ∷ rest) s kin hq p =
    let lead = subst (λ (n : Node). field.LeadsBack (owners.IsFree (table b.room.grid f) net) (tree_nodes (routes_of (moves_of b) net)) n rest) p.0 p.1 in
    let r = leads_numbers b.room.grid f b.room.owners.items b.room.links.items net (tree_nodes (routes_of (moves_of b) net)) kin (s.back net) (number b.room.grid q) q rest [] 0 hq (refl, refl) lead in
    subst (λ (n : Node). Comes b.room.grid f b.room.owners.items b.room.links.items net (number b.room.grid q) (0 + field.cost_from n rest)) (sym p.0) r

-- where no way leads, no path does
pub no_path : (b : Board) (f : List ℕ) (net : ℕ) (q : Node) → IsSound b → IsKin f b.room.owners.items b.room.links.items net → IsInGrid b.room.grid q
    → (IsOwn b.room.owners.items b.room.links.items net (number b.room.grid q) → ⊥) → NoWay b f net (number b.room.grid q) → (path : List Node)
    → IsPath (owners.IsFree (table b.room.grid f) net) (tree_nodes (routes_of (moves_of b) net)) q path → ⊥
no_path b f net q s kin hq outside none [] p = p
no_path b f net q s kin hq outside none (x ∷ []) p = outside (s.back net q (subst (λ (n : Node). In n (tree_nodes (routes_of (moves_of b) net))) p.0 p.1)).1
no_path b f net q s kin hq outside none (x ∷ y ∷ rest) p =
    let free = free_word b.room.grid f net q (subst (λ (n : Node). owners.IsFree (table b.room.grid f) net n) p.0 p.1.0) in
    let r = comes b f net q (x ∷ y ∷ rest) s kin hq p in
    none free r.from r.back (0 + cost (x ∷ y ∷ rest)) r.own r.leads

own_kin : (o l : List ℕ) (net : ℕ) → IsKin o o l net
own_kin o l net v own = inr own.1

-- a claimed path is over nodes that were free, and no link of it says that a tree begins there
leads_free : (g : Grid) (o l : List ℕ) (net q : ℕ) (rest : List ℕ) (c : ℕ) → LeadsBack g o l net q rest c → (v : ℕ) → In v (q ∷ rest) → IsFree o net v
leads_free g o l net q [] c h v i = elim (first_or v q [] i) [ inl e ↦ rw e (inr h.0.1) | inr more ↦ elim more [ ] ]
leads_free g o l net q (p ∷ rest) c (free, (k, k4, is, (b, more, e))) v i = elim (first_or v q (p ∷ rest) i) [
  | inl e' ↦ rw e' free
  | inr j ↦ leads_free g o l net p rest b more v j
]

told_joins : (g : Grid) (o l l' : List ℕ) (net q : ℕ) (rest : List ℕ) (c : ℕ) → Told g l' q rest → LeadsBack g o l net q rest c → (v : ℕ) → In v (q ∷ rest)
    → slice_index l v ≡ 0 → slice_index l' v ≢ 9
told_joins g o l l' net q [] c t h v i z = absurd t
told_joins g o l l' net q (p ∷ []) c (k, k4, link, is) (free, (way, way4, is', (b, more, e))) v i z = elim (first_or v q (p ∷ []) i) [
  | inl e' ↦ (let same = ap (λ w. slice_index l' w) e' in omega arith)
  | inr j ↦ elim (first_or v p [] j) [ inl e' ↦ absurd (more.0.0 (ap (λ w. slice_index l w) (sym e') ∙ z)) | inr none ↦ elim none [ ] ]
]
told_joins g o l l' net q (p ∷ r ∷ rest) c (k, k4, link, is, told) (free, (way, way4, is', (b, more, e))) v i z = elim (first_or v q (p ∷ r ∷ rest) i) [
  | inl e' ↦ (let same = ap (λ w. slice_index l' w) e' in omega arith)
  | inr j ↦ told_joins g o l l' net p (r ∷ rest) b told more v j z
]

pub reached : (b b' : Board) (net c : ℕ) (q : Node) (t : Tree) → IsSound b → routes_of (moves_of b) net ≡ Some t → IsInGrid b.room.grid q
    → slice_index b.log.marks.items (number b.room.grid q) ≡ 0 → IsIdle b'.frontier.order.items b'.frontier.marks.items (nodes b.room.grid) → b'.reserved ≡ b.reserved → Reaches net (number b.room.grid q) c b b'
    → HoldTrees b' → IsSound b' × ((path : List Node) × Connects net q c (routing_of b) (routing_of b') path)
reached b b' net c q tree s begun hq fresh idle er h holds =
    let g = b.room.grid in
    let o = b.room.owners.items in
    let l = b.room.links.items in
    let v = number g q in
    let below = number_below g q hq in
    let lm : v < length b.log.marks.items = (let e = s.logged in omega arith) in
    let at : node_of g v ≡ q = node_of-number g q hq in
    let rest = h.path.0 in
    let claimed = h.path.1 in
    let path = map (node_of g) (v ∷ rest) in
    let m = Joined net path in
    let mark : slice_index b'.log.marks.items v ≡ 1 = rw h.log.marks (get_or-set_same b.log.marks.items v 1 0 lm) in
    let owner = (claimed.changed.mine v here).0 in
    let small = net_small b net tree s begun in
    let follows = follow_told g b'.room.links.items (nodes g) v rest claimed.told claimed.short in
    let low = told_low g b'.room.links.items v rest claimed.told in
    let t : Step b b' net v 1 (v ∷ rest) m = record {
      grid = claimed.grid;
      room = h.room;
      idle = idle;
      within = leads_within g o l net v rest c below claimed.leads;
      aimed = here;
      small = small;
      changed = claimed.changed;
      log = h.log;
      marked = omega arith;
      fresh = fresh;
      told = λ not_two not_nine. (rest, claimed.told, claimed.short);
      move = rw (mark, test_other (slice_index b'.room.links.items v) 9 low, owner, follows) refl;
      grows = joined_grows (routes_of (moves_of b)) net path tree begun;
      begun = ((tree, begun), s.begun);
      reserved = er;
      free = leads_free g o l net v rest c claimed.leads;
      rooted = λ w i unlinked nine. absurd (told_joins g o l b'.room.links.items net v rest c claimed.told claimed.leads w i unlinked nine);
      holds = holds;
    } in
    let own_all = taken g b'.room.grid net (v ∷ rest) o l b'.room.owners.items b'.room.links.items claimed.grid small claimed.changed in
    let lead = leads_nodes g o l net (tree_nodes (routes_of (moves_of b) net)) (forth_of b net s) v rest c below claimed.leads in (
      sound_step b b' net v 1 (v ∷ rest) m s t,
      (
        path,
        record {
          least = record {
            leads = (at, lead.0);
            least = λ other p.
                let r = comes b o net q other s (own_kin o l net) hq p in
                let low' = h.least r.from r.own r.back (0 + cost other) r.leads in
                let paid = lead.1 in
                rw paid (omega arith);
          };
          costs = lead.1;
          moves = rw claimed.grid (moves_step b b' net v 1 (v ∷ rest) m s t);
          taken = own_all;
          reserved = ap (λ (k : Grid). table k (reserved_of b')) claimed.grid ∙ ap (table g) (step_reserved b b' net v 1 (v ∷ rest) m s t);
        },
      ),
    )
  where
    told_low : (g : Grid) (links : List ℕ) (u : ℕ) (rest : List ℕ) → Told g links u rest → slice_index links u ≢ 9
    told_low g links u [] t = absurd t
    told_low g links u (p ∷ []) (k, k4, link, is) = omega arith
    told_low g links u (p ∷ r ∷ rest) (k, k4, link, is, more) = omega arith

pub stuck : (b b' : Board) (net : ℕ) (q : Node) → IsSound b → IsInGrid b.room.grid q → IsStuck net (number b.room.grid q) b b' → (path : List Node)
    → IsPath (owners.IsFree (table b.room.grid b.room.owners.items) net) (tree_nodes (routes_of (moves_of b) net)) q path → ⊥
stuck b b' net q s hq h = no_path b b.room.owners.items net q s (own_kin b.room.owners.items b.room.links.items net) hq h.outside h.none

-- nothing changed
pub sound_same : (b b' : Board) → IsSound b → IsIdle b'.frontier.order.items b'.frontier.marks.items (nodes b.room.grid) → b'.reserved ≡ b.reserved → b'.room ≡ b.room
    → b'.log ≡ b.log → HoldTrees b' → IsSound b' × (routing_of b' ≡ routing_of b)
sound_same b b' s idle ef er el holds = (
  record {
    room = rw er s.room;
    idle = rw er idle;
    log = rw el s.log;
    logged = rw (er, el) s.logged;
    linked = rw (er, el) s.linked;
    owned = rw er s.owned;
    told = rw (er, el) s.told;
    forth = rw (er, el) s.forth;
    back = rw (er, el) s.back;
    begun = rw (er, el) s.begun;
    sized = rw (ef, er) s.sized;
    flagged = rw (ef, er) s.flagged;
    untaken = rw (ef, er) s.untaken;
    rooted = rw (er, el) s.rooted;
    holds = holds;
  },
  rw (er, el, ef) refl,
)

-- ---- the log before a call
pub unmarked_own : (b : Board) (net v : ℕ) → (slice_index b.log.marks.items v ≡ 0) ⊎ (slice_index b.room.owners.items v ≢ net) → slice_index b.room.owners.items v ≡ net
    → slice_index b.log.marks.items v ≡ 0
unmarked_own b net v (inl z) mine = z
unmarked_own b net v (inr ne) mine = absurd (ne mine)

pub unmarked_free : (b : Board) (net v : ℕ) → IsSound b → IsFree b.room.owners.items net v → (IsOwn b.room.owners.items b.room.links.items net v → ⊥)
    → slice_index b.log.marks.items v ≡ 0
unmarked_free b net v s free outside = elim (cases_eq (slice_index b.room.links.items v) 0) [
  | inl z ↦ bare_log b v s z
  | inr nz ↦ elim free [ inl nobody ↦ absurd (s.owned v nz nobody) | inr mine ↦ absurd (outside (nz, mine)) ]
]

pub some_tree : (o : Option Tree) → o ≢ None → (t : Tree) × (o ≡ Some t)
some_tree None ne = absurd (ne refl)
some_tree (Some t) ne = (t, refl)

pub connected : (b b' : Board) (net c : ℕ) (q : Node) → IsSound b → routes_of (moves_of b) net ≢ None → IsInGrid b.room.grid q
    → (IsPoint (routes_of (moves_of b) net) q → ⊥) → IsIdle b'.frontier.order.items b'.frontier.marks.items (nodes b.room.grid) → b'.reserved ≡ b.reserved
    → Touches net (number b.room.grid q) c b b' ⊎ Reaches net (number b.room.grid q) c b b'
    → HoldTrees b' → IsSound b' × ((path : List Node) × Connects net q c (routing_of b) (routing_of b') path)
connected b b' net c q s begun hq new idle er (inl h) holds =
    let (t, is) = some_tree (routes_of (moves_of b) net) begun in
    let z = unmarked_own b net (number b.room.grid q) (unlogged b net q s hq new) h.own.1 in
    let r = touched b b' net c q t s is hq z idle er h holds in (r.0, (q ∷ [], r.1))
connected b b' net c q s begun hq new idle er (inr h) holds =
    let (t, is) = some_tree (routes_of (moves_of b) net) begun in
    reached b b' net c q t s is hq (unmarked_free b net (number b.room.grid q) s h.free h.outside) idle er h holds
