-- The trees that the log tells.
use Rattle.std.proofs.Common.{ℕ, zero, suc, ◌≡◌, ◌≢◌, ◌+◌, ◌-◌, ◌<◌, ◌≤◌, inl, inr, List, [], ◌∷◌, ◌++◌, map, length, set, Option, Some, None, slice_index, get_or, add-one, arith, sym, ◌∙◌, ap, refl, subst}
use Rattle.std.specs.Prelude.{slice_get}
use Rattle.std.specs.Option.{option_map}
use Rattle.std.proofs.lemmas.Bool.{cases_eq, cases_lt, eq-eqb}
use Rattle.std.proofs.lemmas.Option.{slice_get_read}
use Rattle.grid_core.specs.declared.grid.Grid.{Grid}
use Rattle.grid_core.specs.declared.grid.Node.{Node}
use Rattle.grid_core.specs.declared.routes.NetTree.{NetTree}
use Rattle.grid_core.specs.Numbers.{nodes, node_of}
use Rattle.grid_core.specs.Routes.{Tree, grown}
use Rattle.grid_core.specs.Shown.{shown_tree, shown_routes, tree_in}
use Rattle.nero_maze.specs.Ways.{next}
use Rattle.nero_maze.specs.Claims.{Told}
use Rattle.nero_maze.specs.Routing.{Move, Began, Joined, routes_of, latest_path, IsPoint}
use Rattle.nero_maze.specs.declared.board.Board.{Board}
use Rattle.nero_maze.specs.Board.{follow, move_at, moves_in, moves_of, AreBegun, IsSound}
use Rattle.nero_maze.proofs.Theory.{read_at}
use Rattle.nero_maze.proofs.Growth.{follow_told, test_other, points_known}

-- ---- a path, node by node
-- its nodes so far, and those that the links tell after the last of them, are all of it
pub record Walked (g : Grid) (links : List ℕ) (whole path : List Node) (node : ℕ) : Type 0 where
  pub within : node < nodes g
  pub rest : List ℕ
  pub told : Told g links node rest
  pub all : path ++ map (node_of g) rest ≡ whole
  pub short : length path + length rest ≤ nodes g + 1

-- what the links tell at a node before the last
pub record Onward (g : Grid) (links : List ℕ) (whole path : List Node) (node : ℕ) : Type 0 where
  pub few : 0 < slice_index links node
  pub on : ℕ
  pub is : next g node (slice_index links node - 1) ≡ Some on
  pub walked : on < nodes g → Walked g links whole (path ++ node_of g on ∷ []) on
  pub short : length path < nodes g

append_one : (xs : List Node) (x : Node) (ys : List Node) → (xs ++ x ∷ []) ++ ys ≡ xs ++ x ∷ ys
append_one [] x ys = refl
append_one (z ∷ xs) x ys = ap (λ (r : List Node). z ∷ r) (append_one xs x ys)

length_one : (xs : List Node) (x : Node) → length (xs ++ x ∷ []) ≡ length xs + 1
length_one [] x = refl
length_one (z ∷ xs) x = let h = length_one xs x in omega arith

pub onward : (g : Grid) (links : List ℕ) (whole path : List Node) (node : ℕ) → slice_index links node < 5 → Walked g links whole path node → Onward g links whole path node
onward g links whole path node low w = by w.rest w.told w.all w.short
  where
    by : (rest : List ℕ) → Told g links node rest → path ++ map (node_of g) rest ≡ whole → length path + length rest ≤ nodes g + 1 → Onward g links whole path node
    by [] t all short = absurd t
    by (p ∷ []) (k, k4, link, is) all short = let impossible : ⊥ = omega arith in absurd impossible
    by (p ∷ r ∷ rest) (k, k4, link, is, more) all short =
        let way : slice_index links node - 1 ≡ k = omega arith in
        let l1 = length_one path (node_of g p) in
        record {
          few = omega arith;
          on = p;
          is = rw way is;
          walked = λ lt. record {
            within = lt;
            rest = r ∷ rest;
            told = more;
            all = append_one path (node_of g p) (map (node_of g) (r ∷ rest)) ∙ all;
            short = omega arith;
          };
          short = omega arith;
        }

-- and at the last but one
pub record Lastly (g : Grid) (links : List ℕ) (whole path : List Node) (node : ℕ) : Type 0 where
  pub few : slice_index links node < 9
  pub on : ℕ
  pub is : next g node (slice_index links node - 5) ≡ Some on
  pub all : path ++ node_of g on ∷ [] ≡ whole

pub lastly : (g : Grid) (links : List ℕ) (whole path : List Node) (node : ℕ) → 5 ≤ slice_index links node → Walked g links whole path node → Lastly g links whole path node
lastly g links whole path node high w = by w.rest w.told w.all
  where
    by : (rest : List ℕ) → Told g links node rest → path ++ map (node_of g) rest ≡ whole → Lastly g links whole path node
    by [] t all = absurd t
    by (p ∷ []) (k, k4, link, is) all =
        let way : slice_index links node - 5 ≡ k = omega arith in
        record { few = omega arith; on = p; is = rw way is; all = all }
    by (p ∷ r ∷ rest) (k, k4, link, is, more) all = let impossible : ⊥ = omega arith in absurd impossible

some_same : (x v : ℕ) → Some x ≡ Some v → x ≡ v
some_same x v h = cc

-- the walk begins at the node at which the path ended
pub walk_first : (g : Grid) (links : List ℕ) (end : ℕ) (path : List Node) → end < nodes g → (rest : List ℕ) × Told g links end rest × (length rest ≤ nodes g)
    → path ≡ node_of g end ∷ [] → Walked g links (map (node_of g) (end ∷ follow g links (nodes g) end)) path end
walk_first g links end path lt (rest, told, short) is =
    let e = follow_told g links (nodes g) end rest told short in
    record {
      within = lt;
      rest = rest;
      told = told;
      all = rw (is, e) refl;
      short = (let l1 = ap (λ (xs : List Node). length xs) is in omega arith);
    }

pub walk_on : (g : Grid) (links : List ℕ) (whole path path' : List Node) (node on word : ℕ) (res : Option ℕ) → slice_index links node ≡ word → word < 5
    → Walked g links whole path node → res ≡ next g node (word - 1) → res ≡ Some on → on < nodes g → path' ≡ path ++ node_of g on ∷ []
    → Walked g links whole path' on
walk_on g links whole path path' node on word res is low w step found lt grown =
    let o = onward g links whole path node (omega arith) w in
    let e : on ≡ o.on = some_same on o.on (sym found ∙ (step ∙ (ap (λ (x : ℕ). next g node (x - 1)) (sym is) ∙ o.is))) in
    let more : path' ≡ path ++ node_of g o.on ∷ [] = grown ∙ ap (λ (x : ℕ). path ++ node_of g x ∷ []) e in
    let lt' : o.on < nodes g = subst (λ (x : ℕ). x < nodes g) e lt in
    subst (λ (xs : List Node). Walked g links whole xs on) (sym more)
    (subst (λ (x : ℕ). Walked g links whole (path ++ node_of g o.on ∷ []) x) (sym e) (o.walked lt'))

pub walk_goes : (g : Grid) (links : List ℕ) (whole path : List Node) (node word : ℕ) → slice_index links node ≡ word → word < 5
    → Walked g links whole path node → (0 < word) × ((on : ℕ) × (next g node (word - 1) ≡ Some on))
walk_goes g links whole path node word is low w =
    let o = onward g links whole path node (omega arith) w in
    let few = o.few in
    (omega arith, (o.on, ap (λ (x : ℕ). next g node (x - 1)) (sym is) ∙ o.is))

pub walk_ends : (g : Grid) (links : List ℕ) (whole path : List Node) (node word : ℕ) → slice_index links node ≡ word → 5 ≤ word
    → Walked g links whole path node → (word < 9) × ((on : ℕ) × (next g node (word - 5) ≡ Some on) × (path ++ node_of g on ∷ [] ≡ whole))
walk_ends g links whole path node word is high w =
    let o = lastly g links whole path node (omega arith) w in
    let few = o.few in
    (omega arith, (o.on, ap (λ (x : ℕ). next g node (x - 5)) (sym is) ∙ o.is, o.all))

pub walk_last : (g : Grid) (links : List ℕ) (whole path path' : List Node) (node last word : ℕ) (res : Option ℕ) → slice_index links node ≡ word → 5 ≤ word
    → Walked g links whole path node → res ≡ next g node (word - 5) → res ≡ Some last → path' ≡ path ++ node_of g last ∷ [] → path' ≡ whole
walk_last g links whole path path' node last word res is high w step found grown =
    let (few, (on, at, all)) = walk_ends g links whole path node word is high w in
    let e : last ≡ on = some_same last on (sym found ∙ (step ∙ at)) in
    grown ∙ (ap (λ (x : ℕ). path ++ node_of g x ∷ []) e ∙ all)

pub none_some : (res other : Option ℕ) (on : ℕ) → res ≡ other → other ≡ Some on → res ≡ None → ⊥
none_some res other on step at none = cc

-- ---- trees in memory
get_same : (ts : List (Option NetTree)) (n : ℕ) (t : Option NetTree) → n < length ts → slice_get (set ts n t) n ≡ Some t
get_same [] n t lt = let impossible : ⊥ = omega arith in absurd impossible
get_same (x ∷ ts) zero t lt = refl
get_same (x ∷ ts) (suc n) t lt = get_same ts n t (omega arith)

get_other : (ts : List (Option NetTree)) (n k : ℕ) (t : Option NetTree) → k ≢ n → slice_get (set ts n t) k ≡ slice_get ts k
get_other [] n k t ne = refl
get_other (x ∷ ts) zero zero t ne = absurd (ne refl)
get_other (x ∷ ts) zero (suc k) t ne = refl
get_other (x ∷ ts) (suc n) zero t ne = refl
get_other (x ∷ ts) (suc n) (suc k) t ne = get_other ts n k t (λ e. ne (ap (λ (i : ℕ). suc i) e))

get_shown : (ts : List (Option NetTree)) (k : ℕ) → slice_get (shown_routes ts) k ≡ option_map (option_map shown_tree) (slice_get ts k)
get_shown [] k = refl
get_shown (x ∷ ts) zero = refl
get_shown (x ∷ ts) (suc k) = get_shown ts k

pub tree_same : (ts : List (Option NetTree)) (n : ℕ) (t : Option NetTree) → n < length ts → tree_in (shown_routes (set ts n t)) n ≡ option_map shown_tree t
tree_same ts n t lt = rw (get_shown (set ts n t) n, get_same ts n t lt) refl

pub tree_other : (ts : List (Option NetTree)) (n k : ℕ) (t : Option NetTree) → k ≢ n → tree_in (shown_routes (set ts n t)) k ≡ tree_in (shown_routes ts) k
tree_other ts n k t ne = rw (get_shown (set ts n t) k, get_other ts n k t ne, get_shown ts k) refl

-- no net has a tree, after one place more too
pub none_more : (ts : List (Option NetTree)) → ((k : ℕ) → tree_in (shown_routes ts) k ≡ None) → (k : ℕ) → tree_in (shown_routes (ts ++ None ∷ [])) k ≡ None
none_more [] none zero = refl
none_more [] none (suc k) = refl
none_more (x ∷ ts) none zero = none zero
none_more (x ∷ ts) none (suc k) = none_more ts (λ j. none (suc j)) k

-- ---- one move more
-- the trees in memory are those after these moves
abbrev pub Tells : List (Option NetTree) → List Move → Type 0
Tells ts ms = (k : ℕ) → tree_in (shown_routes ts) k ≡ routes_of ms k

pub tells_begin : (ts : List (Option NetTree)) (ms : List Move) (net : ℕ) (q : Node) (t : Option NetTree) → net < length ts
    → option_map shown_tree t ≡ Some (record { start = q; paths = [] }) → Tells ts ms → Tells (set ts net t) (Began net q ∷ ms)
tells_begin ts ms net q t lt is h k = elim (cases_eq k net) [
  | inl e ↦ subst (λ (j : ℕ). tree_in (shown_routes (set ts net t)) j ≡ routes_of (Began net q ∷ ms) j) (sym e)
      (rw (eq-eqb net net refl) (tree_same ts net t lt ∙ is))
  | inr ne ↦ rw (test_other k net ne) (tree_other ts net k t ne ∙ h k)
]

pub tells_join : (ts : List (Option NetTree)) (ms : List Move) (net : ℕ) (path : List Node) (t : Option NetTree) → net < length ts
    → option_map shown_tree t ≡ grown path (tree_in (shown_routes ts) net) → Tells ts ms → Tells (set ts net t) (Joined net path ∷ ms)
tells_join ts ms net path t lt is h k = elim (cases_eq k net) [
  | inl e ↦ subst (λ (j : ℕ). tree_in (shown_routes (set ts net t)) j ≡ routes_of (Joined net path ∷ ms) j) (sym e)
      (rw (eq-eqb net net refl) (tree_same ts net t lt ∙ (is ∙ ap (grown path) (h net))))
  | inr ne ↦ rw (test_other k net ne) (tree_other ts net k t ne ∙ h k)
]

-- what a place in memory holds
pub tree_at : (ts : List (Option NetTree)) (n : ℕ) (t : Option NetTree) → n < length ts → t ≡ get_or ts n t → tree_in (shown_routes ts) n ≡ option_map shown_tree t
tree_at ts n t lt is = rw (get_shown ts n, slice_get_read ts (length ts) n t refl lt is) refl

-- the move that the log tells next
module _ (g : Grid) (o l m ord : List ℕ) (i v net : ℕ) (ts : List (Option NetTree)) (t : Option NetTree) (at : slice_index ord i ≡ v) (owner : slice_index o v ≡ net) (lt : net < length ts)
    (h : Tells ts (moves_in g o l m ord i)) where
  then : (mv : Move) → move_at g o l m v ≡ mv → Tells (set ts net t) (mv ∷ moves_in g o l m ord i) → Tells (set ts net t) (moves_in g o l m ord (i + 1))
  then mv is more =
      let e : move_at g o l m (slice_index ord i) ≡ mv = ap (move_at g o l m) at ∙ is in
      subst (λ (n : ℕ). Tells (set ts net t) (moves_in g o l m ord n)) (sym (add-one i))
      (subst (λ (x : Move). Tells (set ts net t) (x ∷ moves_in g o l m ord i)) (sym e) more)

  pub tells_touched : slice_index m v ≡ 2 → option_map shown_tree t ≡ grown (node_of g v ∷ []) (tree_in (shown_routes ts) net)
      → Tells (set ts net t) (moves_in g o l m ord (i + 1))
  tells_touched two is =
      then (Joined net (node_of g v ∷ [])) (rw (eq-eqb (slice_index m v) 2 two, owner) refl)
      (tells_join ts (moves_in g o l m ord i) net (node_of g v ∷ []) t lt is h)

  pub tells_began : slice_index m v ≢ 2 → slice_index l v ≡ 9 → option_map shown_tree t ≡ Some (record { start = node_of g v; paths = [] })
      → Tells (set ts net t) (moves_in g o l m ord (i + 1))
  tells_began not_two nine is =
      then (Began net (node_of g v)) (rw (test_other (slice_index m v) 2 not_two, eq-eqb (slice_index l v) 9 nine, owner) refl)
      (tells_begin ts (moves_in g o l m ord i) net (node_of g v) t lt is h)

  pub tells_joined : slice_index m v ≢ 2 → slice_index l v ≢ 9 → option_map shown_tree t ≡ grown (map (node_of g) (v ∷ follow g l (nodes g) v)) (tree_in (shown_routes ts) net)
      → Tells (set ts net t) (moves_in g o l m ord (i + 1))
  tells_joined not_two not_nine is =
      then (Joined net (map (node_of g) (v ∷ follow g l (nodes g) v))) (rw (test_other (slice_index m v) 2 not_two, test_other (slice_index l v) 9 not_nine, owner) refl)
      (tells_join ts (moves_in g o l m ord i) net (map (node_of g) (v ∷ follow g l (nodes g) v)) t lt is h)

-- a node of the log is one of a net that has a tree
pub owner_few : (g : Grid) (o l m ord : List ℕ) (n i nets : ℕ) → i < n → AreBegun (moves_in g o l m ord n)
    → ((k : ℕ) → nets ≤ k → routes_of (moves_in g o l m ord n) k ≡ None) → slice_index o (slice_index ord i) < nets
owner_few g o l m ord n i nets lt h none =
    let k = slice_index o (slice_index ord i) in
    elim (cases_lt k nets) [
      | inl few ↦ few
      | inr ge ↦ absurd (subst (λ (t : Option Tree). IsPoint t (node_of g (slice_index ord i))) (none k ge) (points_known g o l m ord n i lt h))
    ]

-- a node of the log, and its owner
pub record IsLogged (b : Board) (i nets v net : ℕ) : Type 0 where
  pub at : slice_index b.log.order.items i ≡ v
  pub within : v < nodes b.room.grid
  pub marked : slice_index b.log.marks.items v ≢ 0
  pub owner : slice_index b.room.owners.items v ≡ net
  pub few : net < nets

pub logged : (b : Board) (i nets at net : ℕ) → IsSound b → ((k : ℕ) → nets ≤ k → routes_of (moves_of b) k ≡ None) → i < b.log.count
    → at ≡ get_or b.log.order.items i at → net ≡ get_or b.room.owners.items at net → IsLogged b i nets at net
logged b i nets at net s none lt read word =
    let same = s.log.same in
    let full = s.log.full in
    let size = s.logged in
    let i_lt : i < length b.log.order.items = omega arith in
    let e = read_at b.log.order.items i at i_lt read in
    let below = s.log.listed i lt in
    let within : at < nodes b.room.grid = omega arith in
    let owners = s.room.owners in
    let at_lt : at < length b.room.owners.items = omega arith in
    let o = read_at b.room.owners.items at net at_lt word in
    let few = owner_few b.room.grid b.room.owners.items b.room.links.items b.log.marks.items b.log.order.items b.log.count i nets lt s.begun none in
    record {
      at = e;
      within = within;
      marked = subst (λ (v : ℕ). slice_index b.log.marks.items v ≢ 0) e (s.log.marked i lt);
      owner = o;
      few = subst (λ (n : ℕ). n < nets) o (subst (λ (v : ℕ). slice_index b.room.owners.items v < nets) e few);
    }

-- ---- the latest move
latest_alone : (mv : Move) (ms : List Move) → latest_path (mv ∷ ms) ≡ latest_path (mv ∷ [])
latest_alone (Began j q) ms = refl
latest_alone (Joined j path) ms = refl

-- the last node of the log tells it
module _ (b : Board) (s : IsSound b) (v : ℕ) (some : b.log.count ≢ 0) (read : v ≡ get_or b.log.order.items (b.log.count - 1) v) where
  abbrev i : ℕ
  i = b.log.count - 1

  pub last_below : i < length b.log.order.items
  last_below = let same = s.log.same in let full = s.log.full in omega arith

  last_at : slice_index b.log.order.items i ≡ v
  last_at = read_at b.log.order.items i v last_below read

  pub last_within : v < nodes b.room.grid
  last_within =
      let below = s.log.listed i (omega arith) in
      let size = s.logged in
      let at = last_at in
      omega arith

  pub last_marked : slice_index b.log.marks.items v ≢ 0
  last_marked = subst (λ (w : ℕ). slice_index b.log.marks.items w ≢ 0) last_at (s.log.marked i (omega arith))

  latest_is : (mv : Move) → move_at b.room.grid b.room.owners.items b.room.links.items b.log.marks.items v ≡ mv → latest_path (moves_of b) ≡ latest_path (mv ∷ [])
  latest_is mv is =
      let g = b.room.grid in
      let o = b.room.owners.items in
      let l = b.room.links.items in
      let m = b.log.marks.items in
      let ord = b.log.order.items in
      let count : suc i ≡ b.log.count = omega arith in
      let e : move_at g o l m (slice_index ord i) ≡ mv = ap (move_at g o l m) last_at ∙ is in
      subst (λ (n : ℕ). latest_path (moves_in g o l m ord n) ≡ latest_path (mv ∷ [])) count
      (ap (λ (x : Move). latest_path (x ∷ moves_in g o l m ord i)) e ∙ latest_alone mv (moves_in g o l m ord i))

  pub latest_touched : slice_index b.log.marks.items v ≡ 2 → latest_path (moves_of b) ≡ node_of b.room.grid v ∷ []
  latest_touched two =
      latest_is (Joined (slice_index b.room.owners.items v) (node_of b.room.grid v ∷ [])) (rw (eq-eqb (slice_index b.log.marks.items v) 2 two) refl)

  pub latest_began : slice_index b.log.marks.items v ≢ 2 → slice_index b.room.links.items v ≡ 9 → latest_path (moves_of b) ≡ node_of b.room.grid v ∷ []
  latest_began not_two nine =
      latest_is (Began (slice_index b.room.owners.items v) (node_of b.room.grid v))
      (rw (test_other (slice_index b.log.marks.items v) 2 not_two, eq-eqb (slice_index b.room.links.items v) 9 nine) refl)

  pub latest_joined : slice_index b.log.marks.items v ≢ 2 → slice_index b.room.links.items v ≢ 9
      → latest_path (moves_of b) ≡ map (node_of b.room.grid) (v ∷ follow b.room.grid b.room.links.items (nodes b.room.grid) v)
  latest_joined not_two not_nine =
      latest_is (Joined (slice_index b.room.owners.items v) (map (node_of b.room.grid) (v ∷ follow b.room.grid b.room.links.items (nodes b.room.grid) v)))
      (rw (test_other (slice_index b.log.marks.items v) 2 not_two, test_other (slice_index b.room.links.items v) 9 not_nine) refl)
