-- The terminals of a netlist's parts, and parts that grow.
use Rattle.std.proofs.Common.{◌≡◌, ℕ, zero, suc, ◌+◌, ◌≤◌, List, [], ◌∷◌, ◌++◌, length, get_or, take, map, Option, Some, None, refl, sym, ap, subst, ◌∙◌, arith}
use Rattle.std.specs.Prelude.{slice_get}
use Rattle.std.specs.List.{flat_map}
use Rattle.std.proofs.lemmas.List.{length-map, length-append, take_more}
use Rattle.std.proofs.lemmas.Grind.{flat_map-append}
use Rattle.std.proofs.lemmas.List.Folds.{flat_map-map, length-flat_map-take}
use Rattle.std.proofs.lemmas.Option.{slice_get_within, get_or_from_slice_get}
use Rattle.vlsi_base.specs.declared.name.Name.{Name}
use Rattle.vlsi_base.specs.declared.name.Port.{Port}
use Rattle.vlsi_base.specs.declared.name.Terminal.{Terminal}
use Rattle.net_core.specs.declared.frame.Node.{Node}
use Rattle.net_core.specs.Places.{Stands, IsThere, IsPlaceOf}
use Rattle.net_core.specs.Netlist.{port, pin_of, pins_of, AreInOrder}
use Rattle.net_core.specs.Frame.{instance_of, frame_of, node_pins, frame_terminals, IsFrame, IsPinPlace}
use Rattle.net_core.proofs.Standing.{Split, left, right, split, stands_left, stands_right}

-- an element of the pieces of a list's elements: of which element it is, and where it stands in its piece
pub record Within {X A : Type 0} (f : X → List A) (xs : List X) (j : ℕ) (a : A) : Type 0 where
  pub place : ℕ
  pub item : X
  pub inner : ℕ
  pub stands : Stands xs place item
  pub inside : Stands (f item) inner a
  pub sum : j ≡ length (flat_map f (take place xs)) + inner

pub flat_split : {X A : Type 0} (f : X → List A) (xs : List X) (j : ℕ) (a : A) → Stands (flat_map f xs) j a → Within f xs j a
flat_split f [] j a s = absurd cc
flat_split {X} {A} f (x ∷ xs) j a s = by (flat_split f xs) (split (f x) (flat_map f xs) j a s) where
  by : ((i : ℕ) (b : A) → Stands (flat_map f xs) i b → Within f xs i b) → Split (f x) (flat_map f xs) j a → Within f (x ∷ xs) j a
  by rest (left here) = record { place = 0; item = x; inner = j; stands = refl; inside = here; sum = omega arith }
  by rest (right i e there) = let w = rest i a there in record {
    place = suc w.place;
    item = w.item;
    inner = w.inner;
    stands = w.stands;
    inside = w.inside;
    sum = let n = length-append (f x) (flat_map f (take w.place xs)) in omega (arith, e, w.sum, n);
  }

pub flat_join : {X A : Type 0} (f : X → List A) (xs : List X) (i l : ℕ) (x : X) (a : A) → Stands xs i x → Stands (f x) l a → Stands (flat_map f xs) (length (flat_map f (take i xs)) + l) a
flat_join f [] i l x a p q = absurd cc
flat_join {X} {A} f (y ∷ xs) zero l x a p q = let e : Some y ≡ Some x = p in let same : y ≡ x = cc in let n : 0 + l ≡ l = omega arith in
    subst (λ k. Stands (f y ++ flat_map f xs) k a) (sym n) (stands_left (f y) (flat_map f xs) l a (subst (λ (z : X). Stands (f z) l a) (sym same) q))
flat_join {X} {A} f (y ∷ xs) (suc i) l x a p q =
    let n = length-append (f y) (flat_map f (take i xs)) in
    let e : length (f y) + (length (flat_map f (take i xs)) + l) ≡ length (f y ++ flat_map f (take i xs)) + l = omega (arith, n) in
    subst (λ k. Stands (f y ++ flat_map f xs) k a) e (stands_right (f y) (flat_map f xs) (length (flat_map f (take i xs)) + l) a (flat_join f xs i l x a p q))

pub mapped : {X A : Type 0} (f : X → A) (xs : List X) (k : ℕ) (x : X) → Stands xs k x → Stands (map f xs) k (f x)
mapped f [] k x s = absurd cc
mapped f (y ∷ xs) zero x s = let e : Some y ≡ Some x = s in let same : y ≡ x = cc in ap (λ z. Some (f z)) same
mapped f (y ∷ xs) (suc k) x s = mapped f xs k x s

pub unmapped : {X A : Type 0} (f : X → A) (xs : List X) (k : ℕ) (a : A) → Stands (map f xs) k a → (x : X) × Stands xs k x × (f x ≡ a)
unmapped f [] k a s = absurd cc
unmapped f (y ∷ xs) zero a s = let e : Some (f y) ≡ Some a = s in (y, refl, cc)
unmapped f (y ∷ xs) (suc k) a s = unmapped f xs k a s

abbrev pub port_terminals : List Port → List Terminal
port_terminals ports = map (λ p. port p.name) ports

pub terminals_are : (ports : List Port) (models : List (List ℕ)) (nodes : List Node) → frame_terminals (frame_of ports models nodes) ≡ port_terminals ports ++ flat_map node_pins nodes
terminals_are ports models nodes = ap (λ (ts : List Terminal). port_terminals ports ++ ts) (flat_map-map pins_of (instance_of models) nodes)

pub terminals_count : (ports : List Port) (models : List (List ℕ)) (nodes : List Node) → length (frame_terminals (frame_of ports models nodes)) ≡ length ports + length (flat_map node_pins nodes)
terminals_count ports models nodes = ap length (terminals_are ports models nodes) ∙ length-append (port_terminals ports) (flat_map node_pins nodes) ∙ ap (λ n. n + length (flat_map node_pins nodes)) (length-map ports (λ (p : Port). port p.name))

port_found : (ports : List Port) (nodes : List Node) (k : ℕ) (name : Name) → Stands (map (λ p. p.name) ports) k name → Stands (port_terminals ports ++ flat_map node_pins nodes) k (port name)
port_found ports nodes k name s =
    let u = unmapped (λ (p : Port). p.name) ports k name s in
    let m : Stands (port_terminals ports) k (port u.0.name) = mapped (λ (p : Port). port p.name) ports k u.0 u.1 in
    stands_left (port_terminals ports) (flat_map node_pins nodes) k (port name) (subst (λ (n : Name). Stands (port_terminals ports) k (port n)) u.2 m)

port_known : (ports : List Port) (nodes : List Node) (k : ℕ) (name : Name) → Stands (port_terminals ports ++ flat_map node_pins nodes) k (port name) → Stands (map (λ p. p.name) ports) k name
port_known ports nodes k name s = by (split (port_terminals ports) (flat_map node_pins nodes) k (port name) s) where
  by : Split (port_terminals ports) (flat_map node_pins nodes) k (port name) → Stands (map (λ p. p.name) ports) k name
  by (left here) =
      let u = unmapped (λ (p : Port). port p.name) ports k (port name) here in
      let same : u.0.name ≡ name = ap (λ (t : Terminal). t.pin) u.2 in
      subst (λ (n : Name). Stands (map (λ p. p.name) ports) k n) same (mapped (λ (p : Port). p.name) ports k u.0 u.1)
  by (right j e there) =
      let w = flat_split node_pins nodes j (port name) there in
      let u = unmapped (pin_of w.item.name) w.item.pins w.inner (port name) w.inside in
      let no : Some w.item.name ≡ None = ap (λ (t : Terminal). t.instance) u.2 in absurd cc

pub port_answers : (ports : List Port) (nodes : List Node) (name : Name) (found : Option ℕ) → IsPlaceOf (map (λ p. p.name) ports) name found → IsPlaceOf (port_terminals ports ++ flat_map node_pins nodes) (port name) found
port_answers ports nodes name None lacks = λ f. lacks (f.0, port_known ports nodes f.0 name f.1)
port_answers ports nodes name (Some k) s = port_found ports nodes k name s

-- a pin of an instance
pub record PinAt (nodes : List Node) (owner : List ℕ) (pin : Name) (j : ℕ) : Type 0 where
  pub place : ℕ
  pub node : Node
  pub inner : ℕ
  pub stands : Stands nodes place node
  pub named : node.name ≡ owner
  pub inside : Stands node.pins inner pin
  pub sum : j ≡ length (flat_map node_pins (take place nodes)) + inner

pub pin_known : (ports : List Port) (nodes : List Node) (k : ℕ) (owner : List ℕ) (pin : Name) → Stands (port_terminals ports ++ flat_map node_pins nodes) k (pin_of owner pin)
    → (j : ℕ) × (k ≡ length ports + j) × PinAt nodes owner pin j
pin_known ports nodes k owner pin s = by (split (port_terminals ports) (flat_map node_pins nodes) k (pin_of owner pin) s) where
  by : Split (port_terminals ports) (flat_map node_pins nodes) k (pin_of owner pin) → (j : ℕ) × (k ≡ length ports + j) × PinAt nodes owner pin j
  by (left here) =
      let u = unmapped (λ (p : Port). port p.name) ports k (pin_of owner pin) here in
      let no : None ≡ Some owner = ap (λ (t : Terminal). t.instance) u.2 in absurd cc
  by (right j e there) =
      let w = flat_split node_pins nodes j (pin_of owner pin) there in
      let u = unmapped (pin_of w.item.name) w.item.pins w.inner (pin_of owner pin) w.inside in
      let owners : Some w.item.name ≡ Some owner = ap (λ (t : Terminal). t.instance) u.2 in
      let n = length-map ports (λ (p : Port). port p.name) in (
        j,
        omega (arith, e, n),
        record {
          place = w.place;
          node = w.item;
          inner = w.inner;
          stands = w.stands;
          named = cc;
          inside = subst (λ (x : Name). Stands w.item.pins w.inner x) (ap (λ (t : Terminal). t.pin) u.2) u.1;
          sum = w.sum;
        },
      )

pub pin_found : (ports : List Port) (nodes : List Node) (i l : ℕ) (node : Node) (pin : Name) → Stands nodes i node → Stands node.pins l pin
    → Stands (port_terminals ports ++ flat_map node_pins nodes) (length ports + (length (flat_map node_pins (take i nodes)) + l)) (pin_of node.name pin)
pin_found ports nodes i l node pin p q =
    let n = length-map ports (λ (p : Port). port p.name) in
    subst (λ k. Stands (port_terminals ports ++ flat_map node_pins nodes) (k + (length (flat_map node_pins (take i nodes)) + l)) (pin_of node.name pin)) n
    (stands_right (port_terminals ports) (flat_map node_pins nodes) (length (flat_map node_pins (take i nodes)) + l) (pin_of node.name pin)
    (flat_join node_pins nodes i l node (pin_of node.name pin) p (mapped (pin_of node.name) node.pins l pin q)))

pub first_at : {ports : List Port} {models : List (List ℕ)} {nodes : List Node} {names : List (List ℕ)} {count : ℕ} → IsFrame ports models nodes names count
    → (i : ℕ) (node : Node) → Stands nodes i node → node.first ≡ length ports + length (flat_map node_pins (take i nodes))
first_at {ports} {models} {nodes} {names} {count} frame i node s =
    subst (λ (x : Node). x.first ≡ length ports + length (flat_map node_pins (take i nodes))) (get_or_from_slice_get nodes i node node s) (frame.firsts i node (slice_get_within nodes i node s))

pub pin_answers : {ports : List Port} {models : List (List ℕ)} {nodes : List Node} {names : List (List ℕ)} {count : ℕ} → IsFrame ports models nodes names count
    → (i : ℕ) (node : Node) (pin : Name) (found : Option ℕ) → Stands nodes i node → IsPinPlace node pin found → IsPlaceOf (port_terminals ports ++ flat_map node_pins nodes) (pin_of node.name pin) found
pin_answers {ports} {models} {nodes} {names} {count} frame i node pin None s lacks = λ f.
    let known = pin_known ports nodes f.0 node.name pin f.1 in
    let at : PinAt nodes node.name pin known.0 = known.2 in
    let n : Stands names i node.name = subst (λ (xs : List (List ℕ)). Stands xs i node.name) (sym frame.listed) (mapped (λ (m : Node). m.name) nodes i node s) in
    let m : Stands names at.place node.name = subst (λ (xs : List (List ℕ)). Stands xs at.place node.name) (sym frame.listed) (subst (λ (x : List ℕ). Stands (map (λ (m : Node). m.name) nodes) at.place x) at.named (mapped (λ (m : Node). m.name) nodes at.place at.node at.stands)) in
    let same : at.place ≡ i = frame.once at.place i node.name m n in
    let both : Some at.node ≡ Some node = sym at.stands ∙ ap (slice_get nodes) same ∙ s in
    let one : at.node ≡ node = cc in
    lacks (at.inner, subst (λ (x : Node). Stands x.pins at.inner pin) one at.inside)
pin_answers {ports} {models} {nodes} {names} {count} frame i node pin (Some k) s found =
    let first = first_at frame i node s in
    let e : length ports + (length (flat_map node_pins (take i nodes)) + found.0) ≡ k = omega (arith, first, found.2) in
    subst (λ j. Stands (port_terminals ports ++ flat_map node_pins nodes) j (pin_of node.name pin)) e (pin_found ports nodes i found.0 node pin s found.1)

-- an owner that isn't there has no pins
pub no_owner : {ports : List Port} {models : List (List ℕ)} {nodes : List Node} {names : List (List ℕ)} {count : ℕ} → IsFrame ports models nodes names count
    → (owner : List ℕ) (pin : Name) → (IsThere names owner → ⊥) → IsThere (port_terminals ports ++ flat_map node_pins nodes) (pin_of owner pin) → ⊥
no_owner {ports} {models} {nodes} {names} {count} frame owner pin lacks f =
    let known = pin_known ports nodes f.0 owner pin f.1 in
    let at : PinAt nodes owner pin known.0 = known.2 in
    lacks (at.place, subst (λ (xs : List (List ℕ)). Stands xs at.place owner) (sym frame.listed) (subst (λ (x : List ℕ). Stands (map (λ (m : Node). m.name) nodes) at.place x) at.named (mapped (λ (m : Node). m.name) nodes at.place at.node at.stands)))

pub first_fits : {ports : List Port} {models : List (List ℕ)} {nodes : List Node} {names : List (List ℕ)} {count : ℕ} → IsFrame ports models nodes names count
    → (i : ℕ) (node : Node) → Stands nodes i node → node.first + length node.pins ≤ count
first_fits {ports} {models} {nodes} {names} {count} frame i node s =
    let first = first_at frame i node s in
    let w = slice_get_within nodes i node s in
    let g : get_or nodes i node ≡ node = get_or_from_slice_get nodes i node node s in
    let l : length (flat_map node_pins (take i nodes)) + length (node_pins node) ≤ length (flat_map node_pins nodes) = subst (λ (x : Node). length (flat_map node_pins (take i nodes)) + length (node_pins x) ≤ length (flat_map node_pins nodes)) g (length-flat_map-take node_pins nodes i node w) in
    let n : length (node_pins node) ≡ length node.pins = length-map node.pins (pin_of node.name) in
    omega (arith, first, l, n, frame.counted)

pub pins_at : {ports : List Port} {models : List (List ℕ)} {nodes : List Node} {names : List (List ℕ)} {count : ℕ} → IsFrame ports models nodes names count
    → (i : ℕ) (node : Node) → Stands nodes i node → AreInOrder node.pins
pins_at {ports} {models} {nodes} {names} {count} frame i node s = subst (λ (x : Node). AreInOrder x.pins) (get_or_from_slice_get nodes i node node s) (frame.pins i node (slice_get_within nodes i node s))

pub names_count : {ports : List Port} {models : List (List ℕ)} {nodes : List Node} {names : List (List ℕ)} {count : ℕ} → IsFrame ports models nodes names count → length names ≡ length nodes
names_count {ports} {models} {nodes} {names} {count} frame = ap length frame.listed ∙ length-map nodes (λ (i : Node). i.name)

pub pins_step : (nodes : List Node) (i : ℕ) (node : Node) → Stands nodes i node → length (flat_map node_pins (take (i + 1) nodes)) ≡ length (flat_map node_pins (take i nodes)) + length node.pins
pins_step nodes i node s =
    let l = slice_get_within nodes i node s in
    let g : get_or nodes i node ≡ node = get_or_from_slice_get nodes i node node s in
    let t : take (i + 1) nodes ≡ take i nodes ++ node ∷ [] = take_more nodes i node l ∙ ap (λ (x : Node). take i nodes ++ x ∷ []) g in
    let e : flat_map node_pins (take (i + 1) nodes) ≡ flat_map node_pins (take i nodes) ++ flat_map node_pins (node ∷ []) = ap (flat_map node_pins) t ∙ flat_map-append node_pins (take i nodes) (node ∷ []) in
    let n = length-append (flat_map node_pins (take i nodes)) (flat_map node_pins (node ∷ [])) in
    let m = length-append (node_pins node) [] in
    let o : length (node_pins node) ≡ length node.pins = length-map node.pins (pin_of node.name) in
    let f : length (flat_map node_pins (take (i + 1) nodes)) ≡ length (flat_map node_pins (take i nodes) ++ flat_map node_pins (node ∷ [])) = ap length e in
    omega (arith, f, n, m, o)
