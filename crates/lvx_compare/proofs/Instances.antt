-- Instances of one netlist in another, and the least that differs.
use Rattle.std.proofs.Common.{◌≡◌, ◌⊎◌, inl, inr, ℕ, ◌+◌, ◌<◌, ◌≤◌, Bool, true, false, not, cond, List, [], ◌∷◌, ◌++◌, length, get_or, take, map, Option, Some, None, refl, sym, ap, subst, ◌∙◌, arith}
use Rattle.std.specs.Prelude.{slice_index_or, IsTrue, ◌↔◌}
use Rattle.std.specs.List.{All, flat_map}
use Rattle.std.specs.Ordering.{is_lt, nat_cmp, ordering_then}
use Rattle.std.specs.Cmp.Lexicographic.{slice_cmp}
use Rattle.std.specs.declared.cmp.Ordering.{Ordering}
use Rattle.std.specs.declared.cmp.Ordering.TheVariants.{Less, Equal, Greater}
use Rattle.std.proofs.lemmas.Bool.{cases_lt}
use Rattle.std.proofs.lemmas.List.{length-map, take_all}
use Rattle.std.proofs.lemmas.List.Folds.{flat_map-map}
use Rattle.std.proofs.lemmas.Option.{slice_get_within, slice_get_read, get_or_from_slice_get, same_Some}
use Rattle.vlsi_base.specs.declared.name.Name.{Name}
use Rattle.vlsi_base.specs.declared.name.Terminal.{Terminal}
use Rattle.vlsi_base.specs.Names.{scalar, comes_before}
use Rattle.net_core.specs.declared.frame.Node.{Node}
use Rattle.net_core.specs.Places.{Stands, IsThere, NoneTwice, position_of}
use Rattle.net_core.specs.Netlist.{Instance, Netlist, IsNetlist, pin_of, pins_of, terminals}
use Rattle.net_core.specs.Frame.{instance_of, node_pins, AreNumbered}
use Rattle.net_core.proofs.Standing.{stands_same, position_stands, position_absent}
use Rattle.net_core.proofs.Frames.{mapped, port_terminals, pin_found}
use Rattle.net_core.proofs.Learning.{AreLearned}
use Rattle.net_core.proofs.Rings.{at_place}
use Rattle.net_right.specs.Same.{HasInstance}
use Rattle.net_right.proofs.Places.{Which, which_port, which_pin, which}
use Rattle.lvx_compare.specs.Compared.{IsLeast}
use Rattle.lvx_compare.specs.Stages.{AreMarks, AllMarked, IsOddInstance, other_model, other_members, KeepsInstance, IsOdd, IsOddName, IsFirstInstance, name_at, is_before}
use Rattle.lvx_compare.proofs.Members.{kept_or_other, self_last, less_is, lesser_still}
use Rattle.lvx_compare.proofs.Marked.{kept_at, parted_at}

-- ---- instances by their nodes

pub node_names : (models : List (List ℕ)) (nodes : List Node) → map (λ i. i.name) (map (instance_of models) nodes) ≡ map (λ i. i.name) nodes
node_names models [] = refl
node_names models (i ∷ nodes) = ap (λ (ns : List (List ℕ)). i.name ∷ ns) (node_names models nodes)

pub names_are : (n : Netlist) (nodes : List Node) → map (instance_of n.models) nodes ≡ n.instances → map (λ i. i.name) nodes ≡ map (λ i. i.name) n.instances
names_are n nodes seen = sym (node_names n.models nodes) ∙ ap (λ (is : List Instance). map (λ (i : Instance). i.name) is) seen

-- all names were learned
pub names_learned : (n : Netlist) (nodes : List Node) (names : List (List ℕ)) (k : ℕ) → IsNetlist n → map (instance_of n.models) nodes ≡ n.instances → length nodes ≤ k
    → AreLearned [] names (map (λ i. i.name) nodes) k → names ≡ map (λ i. i.name) n.instances
names_learned n nodes names k is seen l learned =
    let own : map (λ (i : Node). i.name) nodes ≡ map (λ (i : Instance). i.name) n.instances = names_are n nodes seen in
    let once : NoneTwice (map (λ (i : Node). i.name) nodes) = subst (λ (ns : List (List ℕ)). NoneTwice ns) (sym own) is.names in
    let m = length-map nodes (λ (i : Node). i.name) in
    learned.same refl once ∙ take_all k (map (λ (i : Node). i.name) nodes) (omega (arith, m, l)) ∙ own

pub nodes_many : (n : Netlist) (nodes : List Node) → map (instance_of n.models) nodes ≡ n.instances → length nodes ≡ length n.instances
nodes_many n nodes seen = sym (length-map nodes (instance_of n.models)) ∙ ap length seen

-- the name of a node as it is read
pub name_read : (nodes : List Node) (k : ℕ) (node : Node) → k < length nodes → node ≡ get_or nodes k node → node.name ≡ name_at nodes k
name_read nodes k node l at =
    let s : Stands nodes k node = slice_get_read nodes (length nodes) k node refl l at in
    sym (get_or_from_slice_get (map (λ (x : Node). x.name) nodes) k node.name [] (mapped (λ (x : Node). x.name) nodes k node s))

-- what is known of the nodes of a netlist
pub record AreNodes (n : Netlist) (nodes : List Node) : Type 0 where
  pub seen : map (instance_of n.models) nodes ≡ n.instances
  pub numbered : AreNumbered n.ports nodes

-- a node as it is read, with the text of its model
pub record NodeRead (n : Netlist) (nodes : List Node) (k : ℕ) (node : Node) (text : List ℕ) : Type 0 where
  pub listed : AreNodes n nodes
  pub stands : Stands nodes k node
  pub model : slice_index_or n.models node.model [] ≡ text

pub node_read : (n : Netlist) (nodes : List Node) (models : List (List ℕ)) (k : ℕ) (node : Node) (text : List ℕ) → map (instance_of n.models) nodes ≡ n.instances
    → All (λ i. i.model < length n.models) nodes → AreNumbered n.ports nodes → models ≡ n.models → k < length n.instances → node ≡ get_or nodes k node → text ≡ get_or models node.model text
    → NodeRead n nodes k node text
node_read n nodes models k node text seen known numbered same l at is =
    let many : length nodes ≡ length n.instances = nodes_many n nodes seen in
    let below : k < length nodes = omega (arith, many, l) in
    let low : node.model < length n.models = subst (λ (x : Node). x.model < length n.models) (sym at) (known k node below) in
    let own : text ≡ get_or n.models node.model text = subst (λ (ms : List (List ℕ)). text ≡ get_or ms node.model text) same is in
    record {
      listed = record { seen = seen; numbered = numbered };
      stands = slice_get_read nodes (length nodes) k node refl below at;
      model = get_or_from_slice_get n.models node.model text [] (slice_get_read n.models (length n.models) node.model text refl low own);
    }

pub node_stands : (n : Netlist) (nodes : List Node) → map (instance_of n.models) nodes ≡ n.instances → (k : ℕ) (node : Node) → Stands nodes k node → Stands n.instances k (instance_of n.models node)
node_stands n nodes seen k node s = subst (λ (is : List Instance). Stands is k (instance_of n.models node)) seen (mapped (instance_of n.models) nodes k node s)

-- a pin of an instance stands behind its first one
pub pin_stands : (n : Netlist) (nodes : List Node) → AreNodes n nodes → (k : ℕ) (node : Node) → Stands nodes k node → (j : ℕ) (pin : Name) → Stands node.pins j pin → Stands (terminals n) (node.first + j) (pin_of node.name pin)
pin_stands n nodes are k node s j pin p =
    let all : port_terminals n.ports ++ flat_map node_pins nodes ≡ terminals n =
    ap (λ (ts : List Terminal). port_terminals n.ports ++ ts) (sym (flat_map-map pins_of (instance_of n.models) nodes) ∙ ap (flat_map pins_of) are.seen) in
    let own : get_or nodes k node ≡ node = get_or_from_slice_get nodes k node node s in
    let first : node.first ≡ length n.ports + length (flat_map node_pins (take k nodes)) =
    ap (λ (x : Node). x.first) (sym own) ∙ are.numbered k node (slice_get_within nodes k node s) in
    let place : length n.ports + (length (flat_map node_pins (take k nodes)) + j) ≡ node.first + j = omega (arith, first) in
    let P : ℕ → Type 0 = λ x. Stands (terminals n) x (pin_of node.name pin) in
    subst P place (subst (λ (ts : List Terminal). Stands ts (length n.ports + (length (flat_map node_pins (take k nodes)) + j)) (pin_of node.name pin)) all
    (pin_found n.ports nodes k j node pin s p))

-- so its number is below that of terminals
pub pins_few : (n : Netlist) (nodes : List Node) (most : ℕ) → AreNodes n nodes → IsNetlist n → length n.classes < most → (k : ℕ) (node : Node) → Stands nodes k node → (j : ℕ) → j < length node.pins → node.first + j < most
pins_few n nodes most are is few k node s j l =
    let p = at_place node.pins j l in
    let w = slice_get_within (terminals n) (node.first + j) (pin_of node.name p.0) (pin_stands n nodes are k node s j p.0 p.1) in
    let many = is.each in omega (arith, w, many, few)

-- ---- an instance of a name

-- instances of one name are one
pub one_instance : (n : Netlist) → IsNetlist n → (i j : Instance) → IsThere n.instances i → IsThere n.instances j → i.name ≡ j.name → i ≡ j
one_instance n is i j h g e =
    let p : Stands (map (λ (x : Instance). x.name) n.instances) h.0 i.name = mapped (λ (x : Instance). x.name) n.instances h.0 i h.1 in
    let q : Stands (map (λ (x : Instance). x.name) n.instances) g.0 j.name = mapped (λ (x : Instance). x.name) n.instances g.0 j g.1 in
    let same : g.0 ≡ h.0 = is.names g.0 h.0 i.name (subst (λ (x : List ℕ). Stands (map (λ (y : Instance). y.name) n.instances) g.0 x) (sym e) q) p in
    let P : ℕ → Type 0 = λ k. Stands n.instances k j in
    stands_same n.instances h.0 i j h.1 (subst P same g.1)

-- a place of a name is one of an instance
pub place_below : (n : Netlist) (names : List (List ℕ)) (name : List ℕ) (place : ℕ) → names ≡ map (λ i. i.name) n.instances → position_of names name ≡ Some place → place < length n.instances
place_below n names name place are at =
    let w = slice_get_within names place name (position_stands names name place at) in
    let m : length names ≡ length n.instances = ap length are ∙ length-map n.instances (λ (i : Instance). i.name) in
    omega (arith, w, m)

-- the instance of a name has a model
pub instance_by : (n : Netlist) (names : List (List ℕ)) (name model : List ℕ) (place : ℕ) (r : Bool) → IsNetlist n → names ≡ map (λ i. i.name) n.instances → position_of names name ≡ Some place
    → ((i : Instance) → Stands n.instances place i → IsTrue r ↔ (i.model ≡ model)) → IsTrue r ↔ HasInstance n name model
instance_by n names name model place r is are at each = (to, from) where
  found : (i : Instance) × Stands n.instances place i
  found = at_place n.instances place (place_below n names name place are at)

  named : found.0.name ≡ name
  named =
      let own : Stands names place found.0.name = subst (λ (ns : List (List ℕ)). Stands ns place found.0.name) (sym are) (mapped (λ (i : Instance). i.name) n.instances place found.0 found.1) in
      stands_same names place found.0.name name own (position_stands names name place at)

  to : IsTrue r → HasInstance n name model
  to t = record { instance = found.0; listed = (place, found.1); named = named; modelled = (each found.0 found.1).0 t }

  from : HasInstance n name model → IsTrue r
  from h =
      let one : found.0 ≡ h.instance = one_instance n is found.0 h.instance (place, found.1) h.listed (named ∙ sym h.named) in
      (each found.0 found.1).1 (ap (λ (i : Instance). i.model) one ∙ h.modelled)

pub no_instance : (n : Netlist) (names : List (List ℕ)) (name model : List ℕ) → names ≡ map (λ i. i.name) n.instances → position_of names name ≡ None → HasInstance n name model → ⊥
no_instance n names name model are none h =
    let s : Stands (map (λ (i : Instance). i.name) n.instances) h.listed.0 h.instance.name = mapped (λ (i : Instance). i.name) n.instances h.listed.0 h.instance h.listed.1 in
    position_absent names name none (h.listed.0, subst (λ (ns : List (List ℕ)). Stands ns h.listed.0 name) (sym are) (subst (λ (x : List ℕ). Stands (map (λ (i : Instance). i.name) n.instances) h.listed.0 x) h.named s))

-- ---- whether an instance differs

own_instance : (n : Netlist) (i : Instance) → IsThere n.instances i → HasInstance n i.name i.model
own_instance n i h = record { instance = i; listed = h; named = refl; modelled = refl }

module _ (n other : Netlist) (marks : List Bool) (nodes : List Node) (is : IsNetlist n) (are : AreMarks n other marks) (listed : AreNodes n nodes) (k : ℕ) (node : Node) (s : Stands nodes k node) where
  one_of : (i : Instance) → Stands n.instances k i → instance_of n.models node ≡ i
  one_of i at = stands_same n.instances k (instance_of n.models node) i (node_stands n nodes listed.seen k node s) at

  pub odd_model : (i : Instance) → Stands n.instances k i → (HasInstance other node.name (slice_index_or n.models node.model []) → ⊥) → IsOddInstance n other i.name
  odd_model i at lacks =
      let P : Instance → Type 0 = λ x. IsOddInstance n other x.name in
      subst P (one_of i at) (other_model (slice_index_or n.models node.model []) (own_instance n (instance_of n.models node) (k, node_stands n nodes listed.seen k node s)) lacks)

  pin_odd : AllMarked marks n.classes node false → IsOddInstance n other node.name
  pin_odd m =
      let p = at_place node.pins m.0 m.1 in
      let at : Stands (terminals n) (node.first + m.0) (pin_of node.name p.0) = pin_stands n nodes listed k node s m.0 p.0 p.1 in
      other_members p.0 (node.first + m.0, at) (parted_at n other marks is are (node.first + m.0) (pin_of node.name p.0) at m.2)

  all_kept : AllMarked marks n.classes node true → HasInstance other node.name (slice_index_or n.models node.model []) → KeepsInstance n other (instance_of n.models node)
  all_kept m h = record {
    model = h;
    pins = λ pin t.
        let at : Stands (terminals n) (node.first + t.0) (pin_of node.name pin) = pin_stands n nodes listed k node s t.0 pin t.1 in
        kept_at n other marks is are (node.first + t.0) (pin_of node.name pin) at (m t.0 (slice_get_within node.pins t.0 pin t.1));
  }

  pub odd_by : (r : Bool) (i : Instance) → Stands n.instances k i → AllMarked marks n.classes node r → HasInstance other node.name (slice_index_or n.models node.model []) → IsOdd n other i (not r)
  odd_by true i at m h = let P : Instance → Type 0 = λ x. KeepsInstance n other x in subst P (one_of i at) (all_kept m h)
  odd_by false i at m h = let P : Instance → Type 0 = λ x. IsOddInstance n other x.name in subst P (one_of i at) (pin_odd m)

-- ---- the least

-- an instance that differs is there
pub odd_there : (n other : Netlist) (name : List ℕ) → IsOddInstance n other name → (i : Instance) × IsThere n.instances i × (i.name ≡ name)
odd_there n other name (other_model model h lacks) = (h.instance, h.listed, h.named)
odd_there n other name (other_members pin t h) = by (which n (pin_of name pin) t) where
  by : Which n (pin_of name pin) → (i : Instance) × IsThere n.instances i × (i.name ≡ name)
  by (which_port p g e) = let no : None ≡ Some name = ap (λ (x : Terminal). x.instance) e in absurd cc
  by (which_pin i q g r e) = (i, g, same_Some i.name name (ap (λ (x : Terminal). x.instance) e))

-- one that is kept doesn't differ
pub kept_or_odd : (n other : Netlist) (i : Instance) → IsNetlist n → IsThere n.instances i → KeepsInstance n other i → IsOddInstance n other i.name → ⊥
kept_or_odd n other i is h keeps (other_model model g lacks) =
    let one : i ≡ g.instance = one_instance n is i g.instance h g.listed (sym g.named) in
    let same : i.model ≡ model = ap (λ (x : Instance). x.model) one ∙ g.modelled in
    lacks (subst (λ (m : List ℕ). HasInstance other i.name m) same keeps.model)
kept_or_odd n other i is h keeps (other_members pin t g) = by (which n (pin_of i.name pin) t) where
  by : Which n (pin_of i.name pin) → ⊥
  by (which_port p q e) = let no : None ≡ Some i.name = ap (λ (x : Terminal). x.instance) e in absurd cc
  by (which_pin j q a b e) =
      let one : j ≡ i = one_instance n is j i a h (same_Some j.name i.name (ap (λ (x : Terminal). x.instance) e)) in
      let pins : IsThere i.pins q = let P : Instance → Type 0 = λ x. IsThere x.pins q in subst P one b in
      let own : IsThere i.pins pin = subst (λ (x : Name). IsThere i.pins x) (ap (λ (x : Terminal). x.pin) e) pins in
      kept_or_other n other (pin_of i.name pin) (keeps.pins pin own) g

-- one that differs, and none that does stands before it by name
pub record LeastOdd (n other : Netlist) (k place : ℕ) : Type 0 where
  pub instance : Instance
  pub below : place < k
  pub stands : Stands n.instances place instance
  pub odd : IsOddInstance n other instance.name
  pub least : (j : ℕ) (x : Instance) → j < k → Stands n.instances j x → IsOddInstance n other x.name → comes_before (scalar x.name) (scalar instance.name) ≡ false

-- the least of the first so many
abbrev pub LeastSoFar : Netlist → Netlist → ℕ → Option ℕ → Type 0
LeastSoFar n other k None = (j : ℕ) (x : Instance) → j < k → Stands n.instances j x → KeepsInstance n other x
LeastSoFar n other k (Some place) = LeastOdd n other k place

at_or_below : (j k : ℕ) → j < k + 1 → (j < k) ⊎ (j ≡ k)
at_or_below j k l = elim (cases_lt j k) [ inl less ↦ inl less | inr more ↦ inr (omega (arith, l, more)) ]

-- an instance at a place is the one that was found there
same_at : (n : Netlist) (j k : ℕ) (x y : Instance) → j ≡ k → Stands n.instances j x → Stands n.instances k y → y ≡ x
same_at n j k x y e p q = let P : ℕ → Type 0 = λ i. Stands n.instances i x in stands_same n.instances k y x q (subst P e p)

pub least_kept : (n other : Netlist) (k : ℕ) (found : Option ℕ) (i : Instance) → IsNetlist n → Stands n.instances k i → KeepsInstance n other i → LeastSoFar n other k found → LeastSoFar n other (k + 1) found
least_kept n other k None i is s keeps so = λ j x l p. elim (at_or_below j k l) [
  | inl less ↦ so j x less p
  | inr e ↦ subst (λ (y : Instance). KeepsInstance n other y) (same_at n j k x i e p s) keeps
]
least_kept n other k (Some place) i is s keeps so = record {
  instance = so.instance;
  below = let b = so.below in omega (arith, b);
  stands = so.stands;
  odd = so.odd;
  least = λ j x l p o. elim (at_or_below j k l) [
    | inl less ↦ so.least j x less p o
    | inr e ↦ absurd (kept_or_odd n other x is (j, p) (subst (λ (y : Instance). KeepsInstance n other y) (same_at n j k x i e p s) keeps) o)
  ];
}

scalar_first : (a b : List ℕ) → comes_before (scalar a) (scalar b) ≡ is_lt (slice_cmp nat_cmp a b)
scalar_first a b = by (slice_cmp nat_cmp a b) where
  by : (o : Ordering) → is_lt (ordering_then o Equal) ≡ is_lt o
  by Less = refl
  by Equal = refl
  by Greater = refl

name_is : (n : Netlist) (nodes : List Node) → map (instance_of n.models) nodes ≡ n.instances → (k : ℕ) (i : Instance) → Stands n.instances k i → name_at nodes k ≡ i.name
name_is n nodes seen k i s =
    let p : Stands (map (λ (x : Node). x.name) nodes) k i.name = subst (λ (ns : List (List ℕ)). Stands ns k i.name) (sym (names_are n nodes seen)) (mapped (λ (x : Instance). x.name) n.instances k i s) in
    get_or_from_slice_get (map (λ (x : Node). x.name) nodes) k i.name [] p

pub least_odd : (n other : Netlist) (nodes : List Node) (k : ℕ) (found : Option ℕ) (i : Instance) → IsNetlist n → map (instance_of n.models) nodes ≡ n.instances → Stands n.instances k i → IsOddInstance n other i.name
    → LeastSoFar n other k found → LeastSoFar n other (k + 1) (cond (is_before nodes k found) (Some k) found)
least_odd n other nodes k None i is seen s odd so = record {
  instance = i;
  below = omega arith;
  stands = s;
  odd = odd;
  least = λ j x l p o. elim (at_or_below j k l) [
    | inl less ↦ absurd (kept_or_odd n other x is (j, p) (so j x less p) o)
    | inr e ↦ subst (λ (y : Instance). comes_before (scalar y.name) (scalar i.name) ≡ false) (same_at n j k x i e p s) (self_last (scalar i.name))
  ];
}
least_odd n other nodes k (Some place) i is seen s odd so = by (is_before nodes k (Some place)) refl where
  test : is_before nodes k (Some place) ≡ comes_before (scalar i.name) (scalar so.instance.name)
  test =
      ap (λ (a : List ℕ). is_lt (slice_cmp nat_cmp a (name_at nodes place))) (name_is n nodes seen k i s)
      ∙ ap (λ (b : List ℕ). is_lt (slice_cmp nat_cmp i.name b)) (name_is n nodes seen place so.instance so.stands)
      ∙ sym (scalar_first i.name so.instance.name)

  by : (b : Bool) → is_before nodes k (Some place) ≡ b → LeastSoFar n other (k + 1) (cond b (Some k) (Some place))
  by true e = record {
    instance = i;
    below = omega arith;
    stands = s;
    odd = odd;
    least = λ j x l p o. elim (at_or_below j k l) [
      | inl less ↦ lesser_still (scalar so.instance.name) (scalar i.name) (scalar x.name) (less_is (scalar i.name) (scalar so.instance.name) (sym test ∙ e)) (so.least j x less p o)
      | inr e ↦ subst (λ (y : Instance). comes_before (scalar y.name) (scalar i.name) ≡ false) (same_at n j k x i e p s) (self_last (scalar i.name))
    ];
  }
  by false e = record {
    instance = so.instance;
    below = let b = so.below in omega (arith, b);
    stands = so.stands;
    odd = so.odd;
    least = λ j x l p o. elim (at_or_below j k l) [
      | inl less ↦ so.least j x less p o
      | inr g ↦ subst (λ (y : Instance). comes_before (scalar y.name) (scalar so.instance.name) ≡ false) (same_at n j k x i g p s) (sym test ∙ e)
    ];
  }

-- a name without a bit is that of its text
pub scalar_is : (name : Name) → name.bit ≡ None → name ≡ scalar name.text
scalar_is name e = ap (λ (b : Option ℕ). made b) e where
  made : Option ℕ → Name
  made b = record { text = name.text; bit = b }

pub none_odd : (n other : Netlist) (k : ℕ) → length n.instances ≤ k → LeastSoFar n other k None → IsFirstInstance n other None
none_odd n other k l so i h = let w = slice_get_within n.instances h.0 i h.1 in so h.0 i (omega (arith, w, l)) h.1

pub some_odd : (n other : Netlist) (nodes : List Node) (k place : ℕ) (name : Name) → map (instance_of n.models) nodes ≡ n.instances → length n.instances ≤ k → name ≡ scalar (name_at nodes place)
    → LeastSoFar n other k (Some place) → IsLeast (IsOddName n other) name
some_odd n other nodes k place name seen l e so =
    subst (λ (x : Name). IsLeast (IsOddName n other) x) (sym (e ∙ ap scalar (name_is n nodes seen place so.instance so.stands))) (record {
      holds = record { scalar = refl; odd = so.odd };
      least = λ o h. least o h;
    }) where
      least : (o : Name) → IsOddName n other o → comes_before o (scalar so.instance.name) ≡ false
      least o h =
          let t = odd_there n other o.text h.odd in
          let w = slice_get_within n.instances t.1.0 t.0 t.1.1 in
          let odd : IsOddInstance n other t.0.name = subst (λ (x : List ℕ). IsOddInstance n other x) (sym t.2) h.odd in
          let own : scalar t.0.name ≡ o = ap scalar t.2 ∙ sym (scalar_is o h.scalar) in
          subst (λ (x : Name). comes_before x (scalar so.instance.name) ≡ false) own (so.least t.1.0 t.0 (omega (arith, w, l)) t.1.1 odd)
