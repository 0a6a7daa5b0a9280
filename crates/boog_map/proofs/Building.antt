-- A draft that is built instance by instance and pair by pair.
use Rattle.std.proofs.Common.{◌≡◌, ℕ, zero, suc, ◌+◌, ◌^◌, ◌<◌, ◌≤◌, List, [], ◌∷◌, ◌++◌, length, map, take, get_or, refl, sym, ◌∙◌, ap, subst, arith, append_assoc, append-nil, length-append, Some}
use Rattle.std.specs.List.{flat_map}
use Rattle.std.proofs.lemmas.Grind.{flat_map-append}
use Rattle.std.proofs.lemmas.List.{map-append, take_more}
use Rattle.vlsi_base.specs.declared.name.Name.{Name}
use Rattle.vlsi_base.specs.declared.name.Port.{Port}
use Rattle.vlsi_base.specs.declared.name.Terminal.{Terminal}
use Rattle.vlsi_base.specs.Member.{In}
use Rattle.cell_model.proofs.Members.{In-at}
use Rattle.net_core.specs.declared.error.BuildError.{BuildError}
use Rattle.net_core.specs.declared.error.BuildError.TheVariants as error
use Rattle.net_core.specs.Places.{Stands, IsThere}
use Rattle.net_core.specs.Netlist.{Instance, pins_of, terminals_of, port}
use Rattle.net_core.specs.Frame.{IsNoPlaceFor}
use Rattle.net_core.specs.Joins.{Draft, draft_terminals, with_instance, with_join, IsNoJoin}
use Rattle.net_core.proofs.Frames.{mapped, unmapped}
use Rattle.net_theory.proofs.Basics.{length-map}
use Rattle.boog_map.specs.declared.choice.Parts.{Parts}
use Rattle.boog_map.specs.declared.place.Spot.{Spot}
use Rattle.boog_map.specs.Tied.{part_of}
use Rattle.boog_map.specs.Draft.{instance_of, with_instances, with_joins, IsPlaceable}

-- an element at its place
pub stands_get : {A : Type 0} (xs : List A) (i : ℕ) (x : A) → i < length xs → x ≡ get_or xs i x → Stands xs i x
stands_get [] i x low is = absurd (omega (arith, low))
stands_get (y ∷ xs) zero x low is = ap Some (sym is)
stands_get (y ∷ xs) (suc i) x low is = stands_get xs i x (omega (arith, low)) is

pub in_get : {A : Type 0} (xs : List A) (i : ℕ) (x : A) → i < length xs → x ≡ get_or xs i x → In x xs
in_get {A} xs i x low is = subst (λ (y : A). In y xs) (sym is) (In-at xs i x low)

pub stands_take : {A : Type 0} (xs : List A) (i k : ℕ) (x : A) → Stands (take i xs) k x → (k < i) × Stands xs k x
stands_take xs zero k x h = absurd cc
stands_take [] (suc i) k x h = absurd cc
stands_take (y ∷ xs) (suc i) zero x h = (omega arith, h)
stands_take (y ∷ xs) (suc i) (suc k) x h = let r = stands_take xs i k x h in (let low = r.0 in omega (arith, low), r.1)

pub take_next : {A : Type 0} (xs : List A) (i : ℕ) (x : A) → i < length xs → x ≡ get_or xs i x → take (i + 1) xs ≡ take i xs ++ x ∷ []
take_next {A} xs i x low is = take_more xs i x low ∙ ap (λ (y : A). take i xs ++ y ∷ []) (sym is)

pub length_taken : {A : Type 0} (xs : List A) (i : ℕ) → i ≤ length xs → length (take i xs) ≡ i
length_taken xs zero h = refl
length_taken [] (suc i) h = absurd (omega (arith, h))
length_taken (x ∷ xs) (suc i) h = let r = length_taken xs i (omega (arith, h)) in omega (arith, r)

-- ---- instances

pub one_instance : (d : Draft) (ps : Parts) (spots : List Spot) (i : ℕ) (s : Spot) → i < length spots → s ≡ get_or spots i s
    → with_instance (with_instances d (map (instance_of ps) (take i spots))) (instance_of ps s) ≡ with_instances d (map (instance_of ps) (take (i + 1) spots))
one_instance d ps spots i s low is =
    ap (λ (xs : List Instance). record d { instances = xs })
    (append_assoc d.instances (map (instance_of ps) (take i spots)) (instance_of ps s ∷ [])
    ∙ ap (λ (xs : List Instance). d.instances ++ xs)
    (sym (map-append (instance_of ps) (take i spots) (s ∷ [])) ∙ ap (map (instance_of ps)) (sym (take_next spots i s low is))))

front_pins : (ps : Parts) (spots : List Spot) (i : ℕ) → length (flat_map pins_of (map (instance_of ps) (take i spots))) ≤ length (flat_map pins_of (map (instance_of ps) spots))
front_pins ps spots zero = omega arith
front_pins ps [] (suc i) = omega arith
front_pins ps (s ∷ spots) (suc i) =
    let rest = front_pins ps spots i in
    let a = length-append (pins_of (instance_of ps s)) (flat_map pins_of (map (instance_of ps) (take i spots))) in
    let b = length-append (pins_of (instance_of ps s)) (flat_map pins_of (map (instance_of ps) spots)) in
    omega (arith, rest, a, b)

-- there is room for the pins of one more
pub room_for_one : (d : Draft) (ps : Parts) (spots : List Spot) (i : ℕ) (s : Spot) → IsPlaceable d ps spots → i < length spots → s ≡ get_or spots i s
    → length (draft_terminals (with_instances d (map (instance_of ps) (take i spots)))) + length (part_of ps s.role).pins < 2 ^ 32
room_for_one d ps spots i s can low is =
    let here_is = ap (λ (xs : List Instance). length (terminals_of d.ports (xs ++ map (instance_of ps) (take i spots)))) can.none in
    let now = length-append (map (λ (p : Port). port p.name) d.ports) (flat_map pins_of (map (instance_of ps) (take i spots))) in
    let all = length-append (map (λ (p : Port). port p.name) d.ports) (flat_map pins_of (map (instance_of ps) spots)) in
    let few = can.few in
    let more = front_pins ps spots (i + 1) in
    let next =
    ap (λ (xs : List Spot). length (flat_map pins_of (map (instance_of ps) xs))) (take_next spots i s low is)
    ∙ ap (λ (xs : List Instance). length (flat_map pins_of xs)) (map-append (instance_of ps) (take i spots) (s ∷ []))
    ∙ ap length (flat_map-append pins_of (map (instance_of ps) (take i spots)) (instance_of ps s ∷ [])) in
    let split = length-append (flat_map pins_of (map (instance_of ps) (take i spots))) (flat_map pins_of (instance_of ps s ∷ [])) in
    let one = length-append (pins_of (instance_of ps s)) [] in
    let size = length-map (λ (x : Name). x) (part_of ps s.role).pins in
    let pins : length (pins_of (instance_of ps s)) ≡ length (part_of ps s.role).pins = length-map _ (part_of ps s.role).pins in
    omega (arith, here_is, now, all, few, more, next, split, one, pins)

pub few_so_far : (d : Draft) (ps : Parts) (spots : List Spot) (i : ℕ) → IsPlaceable d ps spots → i < length spots
    → length (d.instances ++ map (instance_of ps) (take i spots)) < 2 ^ 32
few_so_far d ps spots i can low =
    let none = ap (λ (xs : List Instance). length (xs ++ map (instance_of ps) (take i spots))) can.none in
    let size = length-map (instance_of ps) (take i spots) in
    let taken = length_taken spots i (omega (arith, low)) in
    let many = can.many in
    omega (arith, none, size, taken, many, low)

-- no instance before has its name
pub only_memory_left : (d : Draft) (ps : Parts) (spots : List Spot) (i : ℕ) (s : Spot) (e : BuildError) → IsPlaceable d ps spots → i < length spots → s ≡ get_or spots i s
    → IsNoPlaceFor (d.instances ++ map (instance_of ps) (take i spots)) s.name e → e ≡ error.Memory
only_memory_left d ps spots i s error.Memory can low is h = refl
only_memory_left d ps spots i s error.Unknown can low is h = absurd h
only_memory_left d ps spots i s error.Twice can low is h =
    let own = subst (λ (xs : List Instance). IsThere (map (λ (x : Instance). x.name) (xs ++ map (instance_of ps) (take i spots))) s.name) can.none h in
    let a = unmapped (λ (x : Instance). x.name) (map (instance_of ps) (take i spots)) own.0 s.name own.1 in
    let b = unmapped (instance_of ps) (take i spots) own.0 a.0 a.1 in
    let c = stands_take spots i own.0 b.0 b.1 in
    let name : b.0.name ≡ s.name = ap (λ (x : Instance). x.name) b.2 ∙ a.2 in
    let before : Stands (map (λ (x : Spot). x.name) spots) own.0 s.name =
    subst (λ (t : List ℕ). Stands (map (λ (x : Spot). x.name) spots) own.0 t) name (mapped (λ (x : Spot). x.name) spots own.0 b.0 c.1) in
    let now = mapped (λ (x : Spot). x.name) spots i s (stands_get spots i s low is) in
    let twice : own.0 ≡ i = can.names own.0 i s.name before now in
    absurd (let less = c.0 in omega (arith, less, twice))

-- ---- pairs

pub no_join : (d : Draft) (a b : Terminal) (e : BuildError) → IsThere (draft_terminals d) a → IsThere (draft_terminals d) b → IsNoJoin d a b e → e ≡ error.Memory
no_join d a b error.Memory p q h = refl
no_join d a b error.Unknown p q h = absurd (h p q)
no_join d a b error.Twice p q h = absurd h

pub joins_none : (d : Draft) → d ≡ with_joins d []
joins_none d = ap (λ (xs : List (Terminal × Terminal)). record d { joins = xs }) (sym (append-nil d.joins))

pub instances_none : (d : Draft) → d ≡ with_instances d []
instances_none d = ap (λ (xs : List Instance). record d { instances = xs }) (sym (append-nil d.instances))

pub joins_more : (d : Draft) (xs ys : List (Terminal × Terminal)) → with_joins (with_joins d xs) ys ≡ with_joins d (xs ++ ys)
joins_more d xs ys = ap (λ (zs : List (Terminal × Terminal)). record d { joins = zs }) (append_assoc d.joins xs ys)

-- one more of a list, each of which gives one pair
pub one_join : {A : Type 0} (d : Draft) (f : A → Terminal × Terminal) (xs : List A) (i : ℕ) (x : A) → i < length xs → x ≡ get_or xs i x
    → with_join (with_joins d (map f (take i xs))) (f x).0 (f x).1 ≡ with_joins d (map f (take (i + 1) xs))
one_join {A} d f xs i x low is =
    joins_more d (map f (take i xs)) (f x ∷ [])
    ∙ ap (with_joins d) (sym (map-append f (take i xs) (x ∷ [])) ∙ ap (map f) (sym (take_next xs i x low is)))

-- one more of a list, each of which gives pairs
pub some_joins : {A B : Type 0} (d : Draft) (f : B → Terminal × Terminal) (g : A → List B) (xs : List A) (i : ℕ) (x : A) → i < length xs → x ≡ get_or xs i x
    → with_joins (with_joins d (map f (flat_map g (take i xs)))) (map f (g x)) ≡ with_joins d (map f (flat_map g (take (i + 1) xs)))
some_joins {A} {B} d f g xs i x low is =
    let next : flat_map g (take (i + 1) xs) ≡ flat_map g (take i xs) ++ g x =
    ap (flat_map g) (take_next xs i x low is) ∙ flat_map-append g (take i xs) (x ∷ []) ∙ ap (λ (ys : List B). flat_map g (take i xs) ++ ys) (append-nil (g x)) in
    joins_more d (map f (flat_map g (take i xs))) (map f (g x)) ∙ ap (with_joins d) (sym (map-append f (flat_map g (take i xs)) (g x)) ∙ ap (map f) (sym next))
