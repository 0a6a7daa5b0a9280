-- What stands in a way through the trees of other nets.
use Rattle.std.proofs.Common.{ℕ, ◌≡◌, ◌≢◌, ◌+◌, ◌<◌, ◌⊎◌, inl, inr, List, [], ◌∷◌, ◌++◌, map, Option, Some, None, slice_index, arith, sym, ◌∙◌, ap, refl, subst}
use Rattle.std.specs.Prelude.{IfSome, IfNone}
use Rattle.std.proofs.lemmas.Bool.{cases_eq}
use Rattle.vlsi_base.specs.Member.{In, here, there}
use Rattle.grid_core.specs.declared.grid.Grid.{Grid}
use Rattle.grid_core.specs.declared.grid.Node.{Node}
use Rattle.grid_core.specs.Grid as field
use Rattle.grid_core.specs.Grid.{IsInGrid, IsPath, IsLeastPath, cost, cost_from}
use Rattle.grid_core.specs.Numbers.{nodes, number, node_of}
use Rattle.grid_core.specs.Owners as owners
use Rattle.grid_core.specs.Routes.{tree_nodes}
use Rattle.grid_core.proofs.Numbers.{number-node_of, node_of-number, number_below}
use Rattle.grid_core.proofs.Owners.{first_or}
use Rattle.nero_maze.specs.declared.board.Board.{Board}
use Rattle.nero_maze.specs.Ways.{weight}
use Rattle.nero_maze.specs.Search.{IsFree, IsOwn, LeadsTo}
use Rattle.nero_maze.specs.Routing.{routes_of, Blocks}
use Rattle.nero_maze.specs.Board.{moves_of, reserved_of, routing_of, IsSound}
use Rattle.nero_maze.specs.Ripping.{AreFree, FirstTaken, NoWay, IsBlocked}
use Rattle.nero_maze.proofs.Neighbours.{facts, move_of}
use Rattle.nero_maze.proofs.Ties.{table, free_node, free_word, free_first, turned, IsKin}
use Rattle.nero_maze.proofs.Reserving.{reserved_owner}
use Rattle.nero_maze.proofs.Sounds.{from_map, forth_of, comes, no_path}

-- ---- the nodes of a way

pub leads_below : (g : Grid) (f : List ℕ) (net target v : ℕ) (back : List ℕ) (c : ℕ) → target < nodes g → LeadsTo g f net target v back c → v < nodes g
leads_below g f net target v [] c lt h = rw h.0 lt
leads_below g f net target v (u ∷ back) c lt (free, (k, k4, is, (b, more, e))) =
    (facts g u k v (leads_below g f net target u back b lt more) k4 is).0

all_below : (g : Grid) (f : List ℕ) (net target v : ℕ) (back : List ℕ) (c : ℕ) → target < nodes g → LeadsTo g f net target v back c → (w : ℕ) → In w (v ∷ back) → w < nodes g
all_below g f net target v [] c lt h w i = elim (first_or w v [] i) [ inl e ↦ rw (e, h.0) lt | inr none ↦ elim none [ ] ]
all_below g f net target v (u ∷ back) c lt h w i = elim (first_or w v (u ∷ back) i) [
  | inl e ↦ subst (λ (x : ℕ). x < nodes g) (sym e) (leads_below g f net target v (u ∷ back) c lt h)
  | inr j ↦ (let (free, (k, k4, is, (b, more, e))) = h in all_below g f net target u back b lt more w j)
]

all_free : (g : Grid) (f : List ℕ) (net target v : ℕ) (back : List ℕ) (c : ℕ) → IsFree f net target → LeadsTo g f net target v back c → (w : ℕ) → In w (v ∷ back) → IsFree f net w
all_free g f net target v [] c free h w i = elim (first_or w v [] i) [ inl e ↦ subst (λ (x : ℕ). IsFree f net x) (sym (e ∙ h.0)) free | inr none ↦ elim none [ ] ]
all_free g f net target v (u ∷ back) c free h w i = elim (first_or w v (u ∷ back) i) [
  | inl e ↦ subst (λ (x : ℕ). IsFree f net x) (sym e) h.0
  | inr j ↦ (let (free_v, (k, k4, is, (b, more, e))) = h in all_free g f net target u back b free more w j)
]

-- a way over nodes that are free by other words too is a way by these
pub leads_by : (g : Grid) (f o : List ℕ) (net target v : ℕ) (back : List ℕ) (c : ℕ) → AreFree o net (v ∷ back) → LeadsTo g f net target v back c → LeadsTo g o net target v back c
leads_by g f o net target v [] c free h = h
leads_by g f o net target v (u ∷ back) c free (free_v, (k, k4, is, (b, more, e))) =
    (free.0, (k, k4, is, (b, leads_by g f o net target u back b free.1 more, e)))

pub last_free : (g : Grid) (f o : List ℕ) (net target v : ℕ) (back : List ℕ) (c : ℕ) → AreFree o net (v ∷ back) → LeadsTo g f net target v back c → IsFree o net target
last_free g f o net target v [] c free h = subst (λ (x : ℕ). IsFree o net x) h.0 free.0
last_free g f o net target v (u ∷ back) c free (free_v, (k, k4, is, (b, more, e))) = last_free g f o net target u back b free.1 more

-- ---- turned round

-- these in the other order, before those
abbrev onto : {A : Type 0} → List A → List A → List A
onto [] after = after
onto (x ∷ xs) after = onto xs (x ∷ after)

map_onto : (f : ℕ → Node) (xs after : List ℕ) → map f (onto xs after) ≡ onto (map f xs) (map f after)
map_onto f [] after = refl
map_onto f (x ∷ xs) after = map_onto f xs (x ∷ after)

onto_behind : (xs after : List ℕ) → (ahead : List ℕ) × (onto xs after ≡ ahead ++ after)
onto_behind [] after = ([], refl)
onto_behind (x ∷ xs) after = let r = onto_behind xs (x ∷ after) in (r.0 ++ x ∷ [], r.1 ∙ moved r.0 x after)
  where
    moved : (ahead : List ℕ) (x : ℕ) (after : List ℕ) → ahead ++ x ∷ after ≡ (ahead ++ x ∷ []) ++ after
    moved [] x after = refl
    moved (a ∷ ahead) x after = ap (λ (r : List ℕ). a ∷ r) (moved ahead x after)

-- a way from a node of the tree, written from its target back
record Turned (g : Grid) (f : List ℕ) (net target : ℕ) (tree : List Node) (whole : List Node) (paid : ℕ) : Type 0 where
  pub rest : List Node
  pub is : whole ≡ node_of g target ∷ rest
  pub leads : field.LeadsBack (owners.IsFree (table g f) net) tree (node_of g target) rest
  pub costs : cost_from (node_of g target) rest ≡ paid

turn_round : (g : Grid) (f : List ℕ) (net target : ℕ) (tree : List Node) → target < nodes g → IsFree f net target → (v : ℕ) (back : List ℕ) (c : ℕ) → LeadsTo g f net target v back c
    → (after : List Node) (a : ℕ) → field.LeadsBack (owners.IsFree (table g f) net) tree (node_of g v) after → cost_from (node_of g v) after ≡ a
    → Turned g f net target tree (onto (map (node_of g) back) (node_of g v ∷ after)) (a + c)
turn_round g f net target tree lt free v [] c h after a lead paid =
    record {
      rest = after;
      is = rw h.0 refl;
      leads = subst (λ (x : ℕ). field.LeadsBack (owners.IsFree (table g f) net) tree (node_of g x) after) h.0 lead;
      costs = (let z = h.1 in let same : a ≡ a + c = omega arith in ap (λ (x : ℕ). cost_from (node_of g x) after) (sym h.0) ∙ (paid ∙ same));
    }
turn_round g f net target tree lt free v (u ∷ back) c (free_v, (k, k4, is, (b, more, e))) after a lead paid =
    let below = leads_below g f net target u back b lt more in
    let m = move_of g u k v below k4 is in
    let open_u = free_node g f net u below (free_first g f net target u back b free more) in
    let cheap = m.cost in
    let r = turn_round g f net target tree lt free u back b more (node_of g v ∷ after) (a + weight k) (open_u, turned (node_of g u) (node_of g v) m.next, lead) (rw (paid, cheap) refl) in
    let sum : a + weight k + b ≡ a + c = omega arith in
    record { rest = r.rest; is = r.is; leads = r.leads; costs = r.costs ∙ sum }

-- a way from one of the net's own nodes is a path from its tree
pub record HasPath (b : Board) (f : List ℕ) (net : ℕ) (q : Node) (from : ℕ) (back : List ℕ) (c : ℕ) : Type 0 where
  pub path : List Node
  pub is : path ≡ map (node_of b.room.grid) (onto (from ∷ back) [])
  pub leads : IsPath (owners.IsFree (table b.room.grid f) net) (tree_nodes (routes_of (moves_of b) net)) q path
  pub costs : cost path ≡ c

pub has_path : (b : Board) (f : List ℕ) (net : ℕ) (q : Node) → IsSound b → IsInGrid b.room.grid q → IsFree f net (number b.room.grid q) → (from : ℕ) (back : List ℕ) (c : ℕ)
    → IsOwn b.room.owners.items b.room.links.items net from → LeadsTo b.room.grid f net (number b.room.grid q) from back c → HasPath b f net q from back c
has_path b f net q s hq free from back c own lead =
    let g = b.room.grid in
    let tree = tree_nodes (routes_of (moves_of b) net) in
    let lt = number_below g q hq in
    let first = forth_of b net s from (leads_below g f net (number g q) from back c lt lead) own in
    let r = turn_round g f net (number g q) tree lt free from back c lead [] 0 first refl in
    record {
      path = node_of g (number g q) ∷ r.rest;
      is = sym (map_onto (node_of g) (from ∷ back) [] ∙ r.is);
      leads = (node_of-number g q hq, r.leads);
      costs = (let same : 0 + c ≡ c = omega arith in r.costs ∙ same);
    }

-- ---- the first node that isn't free

record Split (o : List ℕ) (net other : ℕ) (vs after : List ℕ) : Type 0 where
  pub ahead : List ℕ
  pub first : ℕ
  pub behind : List ℕ
  pub split : onto vs after ≡ ahead ++ first ∷ behind
  pub clear : (w : ℕ) → In w behind → IsFree o net w × (In w vs ⊎ In w after)
  pub taken : IsFree o net first → ⊥
  pub owner : slice_index o first ≡ other
  pub among : In first vs

split_first : (o : List ℕ) (net other : ℕ) (vs after : List ℕ) → FirstTaken o net other vs → ((w : ℕ) → In w after → IsFree o net w) → Split o net other vs after
split_first o net other [] after h clear = absurd h
split_first o net other (v ∷ more) after (inl (taken, owner)) clear =
    let r = onto_behind more (v ∷ after) in
    record { ahead = r.0; first = v; behind = after; split = r.1; clear = λ w i. (clear w i, inr i); taken = taken; owner = owner; among = here }
split_first o net other (v ∷ more) after (inr (free, h)) clear =
    let clear' : (w : ℕ) → In w (v ∷ after) → IsFree o net w = λ w i. elim (first_or w v after i) [ inl e ↦ subst (λ (x : ℕ). IsFree o net x) (sym e) free | inr j ↦ clear w j ] in
    let r = split_first o net other more (v ∷ after) h clear' in
    record {
      ahead = r.ahead;
      first = r.first;
      behind = r.behind;
      split = r.split;
      clear = λ w i. (let h' = r.clear w i in (
        h'.0,
        elim h'.1 [
          | inl j ↦ inl (there j)
          | inr j ↦ elim (first_or w v after j) [ inl e ↦ inl (subst (λ (x : ℕ). In x (v ∷ more)) (sym e) here) | inr a ↦ inr a ]
        ],
      ));
      taken = r.taken;
      owner = r.owner;
      among = there r.among;
    }

map_split : (f : ℕ → Node) (ahead : List ℕ) (x : ℕ) (behind : List ℕ) → map f (ahead ++ x ∷ behind) ≡ map f ahead ++ f x ∷ map f behind
map_split f [] x behind = refl
map_split f (a ∷ ahead) x behind = ap (λ (r : List Node). f a ∷ r) (map_split f ahead x behind)

-- ---- what a call answers

-- the net's own nodes are reserved for no other
pub reserved_kin : (b : Board) (net : ℕ) → IsSound b → IsKin (reserved_of b) b.room.owners.items b.room.links.items net
reserved_kin b net s v own = elim (cases_eq (slice_index (reserved_of b) v) 4294967295) [
  | inl none ↦ inl none
  | inr held ↦ inr (sym (reserved_owner b.room.owners.items b.reserved.items v held) ∙ own.1)
]

pub blocked : (b : Board) (net : ℕ) (q : Node) (other : ℕ) → IsSound b → IsInGrid b.room.grid q → IsBlocked b net (number b.room.grid q) other → Blocks (routing_of b) net q other
blocked b net q other s hq h =
    let g = b.room.grid in
    let o = b.room.owners.items in
    let f = reserved_of b in
    let target = number g q in
    let lt = number_below g q hq in
    let p = has_path b f net q s hq h.passable h.from h.back h.cost h.own h.leads in
    let below = all_below g f net target h.from h.back h.cost lt h.leads in
    let r = split_first o net other (h.from ∷ h.back) [] h.taken (λ w i. elim i [ ]) in
    let x = r.first in
    let x_lt = below x r.among in
    let linked : slice_index b.room.links.items x ≢ 0 = λ z.
    let same = s.untaken x z in
    let free : IsFree o net x = elim (all_free g f net target h.from h.back h.cost h.passable h.leads x r.among) [ inl none ↦ inl (same ∙ none) | inr mine ↦ inr (same ∙ mine) ] in
    r.taken free in
    record {
      path = p.path;
      least = record {
        leads = p.leads;
        least = λ path is.
            let c = comes b f net q path s (reserved_kin b net s) hq is in
            let low = h.least c.from c.own c.back (0 + cost path) c.leads in
            let paid = p.costs in
            rw paid (omega arith);
      };
      first = node_of g x;
      stands = record {
        ahead = map (node_of g) r.ahead;
        behind = map (node_of g) r.behind;
        split = p.is ∙ (ap (map (node_of g)) r.split ∙ map_split (node_of g) r.ahead x r.behind);
        clear = λ n i.
            let (w, iw, at) = from_map (node_of g) r.behind n i in
            let c = r.clear w iw in
            let w_lt : w < nodes g = elim c.1 [ inl j ↦ below w j | inr none ↦ elim none [ ] ] in
            subst (λ (m : Node). owners.IsFree (table g o) net m) at (free_node g o net w w_lt c.0);
        taken = λ free. r.taken (subst (λ (v : ℕ). IsFree o net v) (number-node_of g x) (free_word g o net (node_of g x) free));
      };
      theirs = subst (λ (k : ℕ). In (node_of g x) (tree_nodes (routes_of (moves_of b) k))) r.owner (s.forth x x_lt linked);
    }

-- where no path leads, none of the net's nodes is the target, and no way leads there
pub not_own : (b : Board) (net : ℕ) (q : Node) → IsSound b → IsInGrid b.room.grid q
    → ((path : List Node) → IsPath (owners.IsFree (table b.room.grid b.room.owners.items) net) (tree_nodes (routes_of (moves_of b) net)) q path → ⊥)
    → IsOwn b.room.owners.items b.room.links.items net (number b.room.grid q) → ⊥
not_own b net q s hq stuck own =
    let at = node_of-number b.room.grid q hq in
    stuck (q ∷ []) (refl, subst (λ (n : Node). In n (tree_nodes (routes_of (moves_of b) net))) at (forth_of b net s (number b.room.grid q) (number_below b.room.grid q hq) own))

pub no_way : (b : Board) (net : ℕ) (q : Node) → IsSound b → IsInGrid b.room.grid q
    → ((path : List Node) → IsPath (owners.IsFree (table b.room.grid b.room.owners.items) net) (tree_nodes (routes_of (moves_of b) net)) q path → ⊥)
    → NoWay b b.room.owners.items net (number b.room.grid q)
no_way b net q s hq stuck free v back c own lead =
    let p = has_path b b.room.owners.items net q s hq free v back c own lead in stuck p.path p.leads

pub closed_past : (b : Board) (net : ℕ) (q : Node) → IsSound b → IsInGrid b.room.grid q → (IsOwn b.room.owners.items b.room.links.items net (number b.room.grid q) → ⊥)
    → NoWay b (reserved_of b) net (number b.room.grid q) → (path : List Node)
    → IsPath (owners.IsFree (table b.room.grid (reserved_of b)) net) (tree_nodes (routes_of (moves_of b) net)) q path → ⊥
closed_past b net q s hq outside none = no_path b (reserved_of b) net q s (reserved_kin b net s) hq outside none

-- what a call answers, by what was found
pub some_blocks : (b : Board) (net : ℕ) (q : Node) → IsSound b → IsInGrid b.room.grid q → (r : Option ℕ) → IfSome r (λ other. IsBlocked b net (number b.room.grid q) other)
    → IfSome r (λ other. Blocks (routing_of b) net q other)
some_blocks b net q s hq None h = tt
some_blocks b net q s hq (Some other) h = blocked b net q other s hq h

pub none_past : (b : Board) (net : ℕ) (q : Node) → IsSound b → IsInGrid b.room.grid q
    → ((path : List Node) → IsPath (owners.IsFree (table b.room.grid b.room.owners.items) net) (tree_nodes (routes_of (moves_of b) net)) q path → ⊥)
    → (r : Option ℕ) → IfNone r (NoWay b (reserved_of b) net (number b.room.grid q))
    → IfNone r ((path : List Node) → IsPath (owners.IsFree (table b.room.grid (reserved_of b)) net) (tree_nodes (routes_of (moves_of b) net)) q path → ⊥)
none_past b net q s hq stuck None h = closed_past b net q s hq (not_own b net q s hq stuck) h
none_past b net q s hq stuck (Some other) h = tt
