-- Nodes become the nets' own for which they are reserved, net by net.
use Rattle.std.proofs.Common.{◌≡◌, ◌≢◌, ℕ, zero, suc, ◌+◌, ◌<◌, ◌≤◌, inl, inr, ⊎_elim, List, [], ◌∷◌, ◌++◌, length, take, get_or, Option, Some, None, refl, sym, ap, ◌∙◌, subst, arith}
use Rattle.std.specs.Prelude.{flat_map, slice_get}
use Rattle.std.proofs.lemmas.Bool.{cases_eq, cases_lt}
use Rattle.std.proofs.lemmas.List.{take_all, take_more, flat_map_more}
use Rattle.vlsi_base.specs.Member.{In, here, there}
use Rattle.grid_core.specs.declared.grid.Grid.{Grid}
use Rattle.grid_core.specs.declared.grid.Node.{Node}
use Rattle.grid_core.specs.Grid.{IsInGrid, above}
use Rattle.grid_core.specs.Owners.{Owners, IsBegun, IsTaken}
use Rattle.grid_core.proofs.Lists.{In_either, In_first, In_last}
use Rattle.grid_core.proofs.Owners.{first_or}
use Rattle.maze_nets.specs.declared.points.NetPoints.{NetPoints}
use Rattle.maze_nets.specs.Nets.{port_node, reserved_of, nodes_of, net_reserved, AreRoutable}
use Rattle.maze_nets.specs.Progress.{AreReserved}
use Rattle.maze_nets.proofs.Lists.{some_same, cases_in, get_place, place_in}

abbrev pub terminal_nodes : List Node → List Node
terminal_nodes xs = flat_map (λ q. q ∷ above q ∷ []) xs

-- ---- one after another
pub taken_none : (o : Owners) (net : ℕ) → IsTaken o net [] o
taken_none o net = record { grid = refl; mine = λ p i. elim i [ ]; others = λ p h out. refl }

pub taken_then : (a b c : Owners) (net : ℕ) (xs ys : List Node) → ((p : Node) → In p xs → IsInGrid a.grid p) → IsTaken a net xs b → IsTaken b net ys c → IsTaken a net (xs ++ ys) c
taken_then a b c net xs ys within s t =
    let moved : (p : Node) → IsInGrid a.grid p → IsInGrid b.grid p = λ p h. subst (λ (g : Grid). IsInGrid g p) (sym s.grid) h in
    record {
      grid = t.grid ∙ s.grid;
      mine = λ p i. elim (cases_in p ys) [
        | inl j ↦ t.mine p j
        | inr out ↦ ⊎_elim (λ j. t.others p (moved p (within p j)) out ∙ s.mine p j) (λ j. absurd (out j)) (In_either xs ys p i)
      ];
      others = λ p h out. t.others p (moved p h) (λ j. out (In_last xs ys p j)) ∙ s.others p h (λ j. out (In_first xs ys p j));
    }

pub one_in : (g : Grid) (q p : Node) → IsInGrid g q → In p (q ∷ []) → IsInGrid g p
one_in g q p h i = ⊎_elim (λ e. subst (IsInGrid g) (sym e) h) (λ j. elim j [ ]) (first_or p q [] i)

-- ---- the terminals of a net
pub terminals_more : (nodes terminals : List Node) (i : ℕ) (d : Node) → i < length terminals
    → nodes ++ terminal_nodes (take (i + 1) terminals) ≡ (nodes ++ terminal_nodes (take i terminals)) ++ get_or terminals i d ∷ above (get_or terminals i d) ∷ []
terminals_more nodes terminals i d lt =
    ap (λ (xs : List Node). nodes ++ terminal_nodes xs) (take_more terminals i d lt) ∙ sym (flat_map_more (λ (q : Node). q ∷ above q ∷ []) nodes (take i terminals) (get_or terminals i d))

-- what is left of the terminals is in the grid
pub take_in : {A : Type 0} (xs : List A) (n : ℕ) (x : A) → In x (take n xs) → In x xs
take_in [] zero x i = i
take_in [] (suc n) x i = i
take_in (y ∷ xs) zero x i = elim i [ ]
take_in (y ∷ xs) (suc n) x i = ⊎_elim (λ e. subst (λ z. In x (z ∷ xs)) e here) (λ j. there (take_in xs n x j)) (first_or x y (take n xs) i)

flat_in : (xs : List Node) (q p : Node) → In q xs → In p (q ∷ above q ∷ []) → In p (terminal_nodes xs)
flat_in [] q p i j = elim i [ ]
flat_in (x ∷ xs) q p i j =
    ⊎_elim (λ e. In_first (x ∷ above x ∷ []) (terminal_nodes xs) p (subst (λ (y : Node). In p (y ∷ above y ∷ [])) e j))
    (λ k. In_last (x ∷ above x ∷ []) (terminal_nodes xs) p (flat_in xs q p k j)) (first_or q x xs i)

flat_from : (xs : List Node) (p : Node) → In p (terminal_nodes xs) → (q : Node) × In q xs × In p (q ∷ above q ∷ [])
flat_from [] p i = elim i [ ]
flat_from (x ∷ xs) p i =
    ⊎_elim (λ j. (x, here, j)) (λ j. let r = flat_from xs p j in (r.0, there r.1, r.2)) (In_either (x ∷ above x ∷ []) (terminal_nodes xs) p i)

pub port_within : (g : Grid) (n : NetPoints) → ((p : Node) → In p (reserved_of n) → IsInGrid g p) → (p : Node) → In p (port_node n.port) → IsInGrid g p
port_within g n h p i = h p (In_first (port_node n.port) (terminal_nodes n.terminals.items) p i)

pub part_within : (g : Grid) (n : NetPoints) (i : ℕ) → ((p : Node) → In p (reserved_of n) → IsInGrid g p)
    → (p : Node) → In p (port_node n.port ++ terminal_nodes (take i n.terminals.items)) → IsInGrid g p
part_within g n i h p j =
    ⊎_elim (λ a. port_within g n h p a)
    (λ a. let r = flat_from (take i n.terminals.items) p a in
    h p (In_last (port_node n.port) (terminal_nodes n.terminals.items) p (flat_in n.terminals.items r.0 p (take_in n.terminals.items i r.0 r.1) r.2)))
    (In_either (port_node n.port) (terminal_nodes (take i n.terminals.items)) p j)

pub terminal_within : (g : Grid) (n : NetPoints) (i : ℕ) (d : Node) → i < length n.terminals.items → ((p : Node) → In p (reserved_of n) → IsInGrid g p)
    → IsInGrid g (get_or n.terminals.items i d) × IsInGrid g (above (get_or n.terminals.items i d))
terminal_within g n i d lt h =
    let q = get_or n.terminals.items i d in
    let j = place_in n.terminals.items i d lt in (
      h q (In_last (port_node n.port) (terminal_nodes n.terminals.items) q (flat_in n.terminals.items q q j here)),
      h (above q) (In_last (port_node n.port) (terminal_nodes n.terminals.items) (above q) (flat_in n.terminals.items q (above q) j (there here))),
    )

-- ---- net by net
pub none_reserved : (nets : List NetPoints) (o : Owners) → IsBegun o.grid o → AreReserved o.grid (net_reserved (take 0 nets)) o
none_reserved nets o b = record { grid = refl; mine = λ k p i. elim i [ ]; owned = λ k p h e. absurd (let both : ◌≡◌ {A = Option ℕ} None (Some k) = sym (b.free p h) ∙ e in cc both) }

get_same : {A : Type 0} (xs : List A) (i : ℕ) (d : A) → i < length xs → slice_get (take (i + 1) xs) i ≡ Some (get_or xs i d)
get_same [] i d h = absurd (let no : ⊥ = omega arith in no)
get_same (x ∷ xs) zero d h = refl
get_same (x ∷ xs) (suc i) d h = let two : suc i + 1 ≡ suc (i + 1) = omega arith in rw two (get_same xs i d (omega arith))

get_before : {A : Type 0} (xs : List A) (i j : ℕ) → j ≢ i → slice_get (take (i + 1) xs) j ≡ slice_get (take i xs) j
get_before [] zero j ne = refl
get_before [] (suc i) j ne = let two : suc i + 1 ≡ suc (i + 1) = omega arith in rw two refl
get_before (x ∷ xs) zero zero ne = absurd (ne refl)
get_before (x ∷ xs) zero (suc j) ne = refl
get_before (x ∷ xs) (suc i) zero ne = let two : suc i + 1 ≡ suc (i + 1) = omega arith in rw two refl
get_before (x ∷ xs) (suc i) (suc j) ne = let two : suc i + 1 ≡ suc (i + 1) = omega arith in rw two (get_before xs i j (λ e. ne (ap (λ n. suc n) e)))

get_low : {A : Type 0} (xs : List A) (i j : ℕ) → j < i → slice_get (take i xs) j ≡ slice_get xs j
get_low [] zero j h = absurd (let no : ⊥ = omega arith in no)
get_low [] (suc i) j h = refl
get_low (x ∷ xs) zero j h = absurd (let no : ⊥ = omega arith in no)
get_low (x ∷ xs) (suc i) zero h = refl
get_low (x ∷ xs) (suc i) (suc j) h = get_low xs i j (omega arith)

get_high : {A : Type 0} (xs : List A) (i j : ℕ) → i ≤ j → slice_get (take i xs) j ≡ None
get_high [] zero j h = refl
get_high [] (suc i) j h = refl
get_high (x ∷ xs) zero j h = refl
get_high (x ∷ xs) (suc i) zero h = absurd (let no : ⊥ = omega arith in no)
get_high (x ∷ xs) (suc i) (suc j) h = get_high xs i j (omega arith)

pub net_within : (g : Grid) (nets : List NetPoints) (i : ℕ) (d : NetPoints) → AreRoutable g nets → i < length nets → (p : Node) → In p (reserved_of (get_or nets i d)) → IsInGrid g p
net_within g nets i d can lt p j = can.within i p (subst (λ n. In p (nodes_of reserved_of n)) (sym (get_place nets i d lt)) j)

pub one_reserved : (g : Grid) (nets : List NetPoints) (i : ℕ) (d : NetPoints) (a b : Owners) → AreRoutable g nets → i < length nets
    → AreReserved g (net_reserved (take i nets)) a → IsTaken a i (reserved_of (get_or nets i d)) b → AreReserved g (net_reserved (take (i + 1) nets)) b
one_reserved g nets i d a b can lt s t =
    let xs = reserved_of (get_or nets i d) in
    let fresh : net_reserved (take (i + 1) nets) i ≡ xs = ap (nodes_of reserved_of) (get_same nets i d lt) in
    let none : (p : Node) → In p (net_reserved (take i nets) i) → ⊥ = λ p j. no_node p (subst (λ n. In p (nodes_of reserved_of n)) (get_high nets i i (omega arith)) j) in
    let kept : (j : ℕ) → j ≢ i → net_reserved (take (i + 1) nets) j ≡ net_reserved (take i nets) j = λ j ne. ap (nodes_of reserved_of) (get_before nets i j ne) in
    let given : (j : ℕ) (p : Node) → In p (net_reserved (take i nets) j) → In p (net_reserved nets j) = λ j p m. known j p m in
    let mine_given : (p : Node) → In p xs → In p (net_reserved nets i) = λ p m. subst (λ n. In p (nodes_of reserved_of n)) (sym (get_place nets i d lt)) m in
    let grid_a : (p : Node) → IsInGrid g p → IsInGrid a.grid p = λ p h. subst (λ (h : Grid). IsInGrid h p) (sym s.grid) h in
    record {
      grid = t.grid ∙ s.grid;
      mine = λ j p m. elim (cases_eq j i) [
        | inl e ↦ t.mine p (subst (λ ys. In p ys) fresh (subst (λ (n : ℕ). In p (net_reserved (take (i + 1) nets) n)) e m)) ∙ ap (λ (n : ℕ). Some n) (sym e)
        | inr ne ↦ (
            let old = subst (λ ys. In p ys) (kept j ne) m in
            let all = given j p old in
            t.others p (grid_a p (can.within j p all)) (λ x. ne (can.alone j i p all (mine_given p x))) ∙ s.mine j p old)
      ];
      owned = λ j p h e. elim (cases_in p xs) [
        | inl x ↦ subst (λ (n : ℕ). In p (net_reserved (take (i + 1) nets) n)) (some_same i j (sym (t.mine p x) ∙ e)) (subst (λ ys. In p ys) (sym fresh) x)
        | inr out ↦ (
            let old = s.owned j p h (sym (t.others p (grid_a p h) out) ∙ e) in
            elim (cases_eq j i) [
              | inl same ↦ absurd (none p (subst (λ (n : ℕ). In p (net_reserved (take i nets) n)) same old))
              | inr ne ↦ subst (λ ys. In p ys) (sym (kept j ne)) old
            ])
      ];
    }
  where
    no_node : (p : Node) → In p (nodes_of reserved_of None) → ⊥
    no_node p i = elim i [ ]

    known : (j : ℕ) (p : Node) → In p (net_reserved (take i nets) j) → In p (net_reserved nets j)
    known j p m = elim (cases_lt j i) [
      | inl low ↦ subst (λ n. In p (nodes_of reserved_of n)) (get_low nets i j low) m
      | inr high ↦ absurd (no_node p (subst (λ n. In p (nodes_of reserved_of n)) (get_high nets i j high) m))
    ]

pub all_reserved : (g : Grid) (nets : List NetPoints) (n : ℕ) (o : Owners) → length nets ≤ n → AreReserved g (net_reserved (take n nets)) o → AreReserved g (net_reserved nets) o
all_reserved g nets n o le h = subst (λ (xs : List NetPoints). AreReserved g (net_reserved xs) o) (take_all n nets le) h
