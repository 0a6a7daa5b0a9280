-- The links of a netlist, instance by instance and pin by pin.
use Rattle.std.proofs.Common.{◌≡◌, ℕ, zero, suc, ◌+◌, ◌<◌, ◌≤◌, Bool, true, false, cond, List, [], ◌∷◌, ◌++◌, length, get_or, take, drop, map, Some, bytes_eq, refl, sym, ap, subst, ◌∙◌, arith, append-nil, append_assoc}
use Rattle.std.specs.Prelude.{slice_index, slice_index_or}
use Rattle.std.specs.List.{All, flat_map}
use Rattle.std.proofs.lemmas.List.{get_or-take, get_or-drop, length-take-le, length-drop}
use Rattle.std.proofs.lemmas.Option.{slice_get_within, slice_get-get_or, get_or_from_slice_get, slice_get_read}
use Rattle.std.proofs.lemmas.List.Folds.{length-flat_map-take}
use Rattle.vlsi_base.specs.declared.name.Name.{Name}
use Rattle.vlsi_base.specs.declared.name.Dir.{Dir}
use Rattle.vlsi_base.specs.declared.name.Dir.TheVariants.{In, Out}
use Rattle.vlsi_base.specs.declared.name.Terminal.{Terminal}
use Rattle.net_core.specs.declared.frame.Node.{Node}
use Rattle.net_core.specs.declared.pins.ModelPin.{ModelPin}
use Rattle.net_core.specs.declared.pins.ModelPins.{ModelPins}
use Rattle.net_core.specs.declared.links.Link.{Link}
use Rattle.net_core.specs.Places.{Stands, IsThere}
use Rattle.net_core.specs.Netlist.{Instance, Netlist, IsNetlist, pin_of, terminals, terminals_of, HasClass}
use Rattle.net_core.specs.Frame.{instance_of, node_pins, AreNumbered}
use Rattle.net_core.specs.Checks.{pins_named, IsInputAt, DependsWithin, Fits, DependsOn}
use Rattle.net_core.specs.Links.{IsLinkOf, AreLinks, pieces_from, links_of_dir, pin_links, instance_links}
use Rattle.net_core.proofs.Frames.{mapped, unmapped, port_terminals, terminals_are, terminals_count, pin_found}
use Rattle.net_core.proofs.Finishing.{class_once}
use Rattle.net_core.proofs.Pieces.{pieces_next, pieces_split, pieces_join}

abbrev pub pins_at_node : List ModelPins → List (List ℕ) → Node → List ModelPin
pins_at_node table models node = pins_named table (slice_index_or models node.model [])

-- the classes of an instance's pins
abbrev pub own_classes : List ModelPins → List (List ℕ) → List ℕ → Node → List ℕ
own_classes table models classes node = take (length (pins_at_node table models node)) (drop node.first classes)

abbrev pub node_links : List ModelPins → List (List ℕ) → List ℕ → ℕ → Node → List Link
node_links table models classes i node = instance_links i (own_classes table models classes node) (pins_at_node table models node)

-- a netlist as its instances are seen
pub record IsSeen (table : List ModelPins) (n : Netlist) (models : List (List ℕ)) (nodes : List Node) : Type 0 where
  pub netlist : IsNetlist n
  pub fits : Fits n table
  pub seen : map (instance_of models) nodes ≡ n.instances
  pub numbered : AreNumbered n.ports nodes

owner_at : (table : List ModelPins) (n : Netlist) (models : List (List ℕ)) (nodes : List Node) → IsSeen table n models nodes → (i : ℕ) (node : Node) → Stands nodes i node → Stands n.instances i (instance_of models node)
owner_at table n models nodes is i node s = subst (λ (xs : List Instance). Stands xs i (instance_of models node)) is.seen (mapped (instance_of models) nodes i node s)

pins_fit : (table : List ModelPins) (n : Netlist) (models : List (List ℕ)) (nodes : List Node) → IsSeen table n models nodes → (i : ℕ) (node : Node) → Stands nodes i node
    → node.pins ≡ map (λ p. p.name) (pins_at_node table models node)
pins_fit table n models nodes is i node s =
    let t = owner_at table n models nodes is i node s in
    subst (λ (x : Instance). x.pins ≡ map (λ p. p.name) (pins_named table x.model)) (get_or_from_slice_get n.instances i (instance_of models node) (instance_of models node) t)
    (is.fits.pins i (instance_of models node) (slice_get_within n.instances i (instance_of models node) t))

terminals_seen : (table : List ModelPins) (n : Netlist) (models : List (List ℕ)) (nodes : List Node) → IsSeen table n models nodes → terminals n ≡ port_terminals n.ports ++ flat_map node_pins nodes
terminals_seen table n models nodes is = ap (λ (xs : List Instance). terminals_of n.ports xs) (sym is.seen) ∙ terminals_are n.ports models nodes

first_is : (table : List ModelPins) (n : Netlist) (models : List (List ℕ)) (nodes : List Node) → IsSeen table n models nodes → (i : ℕ) (node : Node) → Stands nodes i node
    → node.first ≡ length n.ports + length (flat_map node_pins (take i nodes))
first_is table n models nodes is i node s =
    subst (λ (x : Node). x.first ≡ length n.ports + length (flat_map node_pins (take i nodes))) (get_or_from_slice_get nodes i node node s) (is.numbered i node (slice_get_within nodes i node s))

pin_place : (table : List ModelPins) (n : Netlist) (models : List (List ℕ)) (nodes : List Node) → IsSeen table n models nodes → (i : ℕ) (node : Node) → Stands nodes i node
    → (k : ℕ) (p : ModelPin) → Stands (pins_at_node table models node) k p → Stands (terminals n) (node.first + k) (pin_of node.name p.name)
pin_place table n models nodes is i node s k p at =
    let named : Stands node.pins k p.name = subst (λ (xs : List Name). Stands xs k p.name) (sym (pins_fit table n models nodes is i node s)) (mapped (λ (q : ModelPin). q.name) (pins_at_node table models node) k p at) in
    let first = first_is table n models nodes is i node s in
    let e : length n.ports + (length (flat_map node_pins (take i nodes)) + k) ≡ node.first + k = omega (arith, first) in
    subst (λ (ts : List Terminal). Stands ts (node.first + k) (pin_of node.name p.name)) (sym (terminals_seen table n models nodes is))
    (subst (λ j. Stands (port_terminals n.ports ++ flat_map node_pins nodes) j (pin_of node.name p.name)) e (pin_found n.ports nodes i k node p.name s named))

pub class_at : (table : List ModelPins) (n : Netlist) (models : List (List ℕ)) (nodes : List Node) → IsSeen table n models nodes → (i : ℕ) (node : Node) → Stands nodes i node
    → (k : ℕ) (p : ModelPin) → Stands (pins_at_node table models node) k p → HasClass n (pin_of node.name p.name) (slice_index (own_classes table models n.classes node) k)
class_at table n models nodes is i node s k p at =
    let place = pin_place table n models nodes is i node s k p at in
    let low = slice_get_within (terminals n) (node.first + k) (pin_of node.name p.name) place in
    let each = is.netlist.each in
    let e : get_or (own_classes table models n.classes node) k 0 ≡ get_or n.classes (node.first + k) 0 =
    get_or-take (length (pins_at_node table models node)) (drop node.first n.classes) k 0 (slice_get_within (pins_at_node table models node) k p at) ∙ get_or-drop node.first n.classes k 0 in
    (node.first + k, place, slice_get-get_or n.classes (node.first + k) 0 (omega (arith, low, each)) ∙ ap Some (sym e))

-- the pins of an instance stand among the terminals
pub pins_inside : (table : List ModelPins) (n : Netlist) (models : List (List ℕ)) (nodes : List Node) → IsSeen table n models nodes → (i : ℕ) (node : Node) → Stands nodes i node
    → node.first + length (pins_at_node table models node) ≤ length n.classes
pins_inside table n models nodes is i node s = by (length (pins_at_node table models node)) refl where
  each : length n.classes ≡ length (terminals n)
  each = is.netlist.each

  by : (m : ℕ) → length (pins_at_node table models node) ≡ m → node.first + m ≤ length n.classes
  by zero e =
      let first = first_is table n models nodes is i node s in
      let all : length (terminals n) ≡ length n.ports + length (flat_map node_pins nodes) = ap (λ (xs : List Instance). length (terminals_of n.ports xs)) (sym is.seen) ∙ terminals_count n.ports models nodes in
      let l = slice_get_within nodes i node s in
      let some = before i l in
      omega (arith, first, all, some, each) where
        before : (j : ℕ) → j < length nodes → length (flat_map node_pins (take j nodes)) ≤ length (flat_map node_pins nodes)
        before j l = let m = length-flat_map-take node_pins nodes j node l in omega (arith, m)
  by (suc m) e =
      let pins = pins_at_node table models node in
      let d = last_of m pins e in
      let place = pin_place table n models nodes is i node s m d.0 d.1 in
      let low = slice_get_within (terminals n) (node.first + m) (pin_of node.name d.0.name) place in
      omega (arith, low, each) where
        last_of : (m : ℕ) (ps : List ModelPin) → length ps ≡ suc m → (p : ModelPin) × Stands ps m p
        last_of m [] e = absurd (omega (arith, e))
        last_of zero (p ∷ ps) e = (p, refl)
        last_of (suc m) (p ∷ ps) e = last_of m ps (omega (arith, e))

depends_of : (table : List ModelPins) (model : List ℕ) → All DependsWithin table → All (λ p. All (IsInputAt (pins_named table model)) p.depends_on) (pins_named table model)
depends_of [] model all = λ k d l. absurd (omega (arith, l))
depends_of (m ∷ table) model all = by (depends_of table model (λ k d l. all (suc k) d (omega (arith, l)))) (bytes_eq m.model model) where
  by : All (λ p. All (IsInputAt (pins_named table model)) p.depends_on) (pins_named table model) → (b : Bool)
      → All (λ p. All (IsInputAt (cond b m.pins (pins_named table model))) p.depends_on) (cond b m.pins (pins_named table model))
  by rest true = all 0 m (omega arith)
  by rest false = rest

pub input_at : (table : List ModelPins) (model : List ℕ) → All DependsWithin table → (k : ℕ) (p : ModelPin) → Stands (pins_named table model) k p → (j d : ℕ) → Stands p.depends_on j d → IsInputAt (pins_named table model) d
input_at table model all k p s j d t =
    let whole : All (IsInputAt (pins_named table model)) p.depends_on = subst (λ (q : ModelPin). All (IsInputAt (pins_named table model)) q.depends_on) (get_or_from_slice_get (pins_named table model) k p p s) (depends_of table model all k p (slice_get_within (pins_named table model) k p s)) in
    subst (IsInputAt (pins_named table model)) (get_or_from_slice_get p.depends_on j d d t) (whole j d (slice_get_within p.depends_on j d t))

abbrev link_to_class : ℕ → List ℕ → ℕ → ℕ → Link
link_to_class owner classes output d = record { output = output; input = slice_index classes d; owner = owner }

dir_link : (dir : Dir) (owner : ℕ) (classes : List ℕ) (output : ℕ) (places : List ℕ) (l : Link) → IsThere (links_of_dir dir owner classes output places) l
    → (dir ≡ Out) × (d : ℕ) × IsThere places d × (l ≡ link_to_class owner classes output d)
dir_link In owner classes output places l t = absurd (nothing t.0 t.1) where
  nothing : (k : ℕ) → Stands (links_of_dir In owner classes output places) k l → ⊥
  nothing k s = absurd cc
dir_link Out owner classes output places l t = let u = unmapped (link_to_class owner classes output) places t.0 l t.1 in (refl, u.0, (t.0, u.1), sym u.2)

link_dir : (dir : Dir) (owner : ℕ) (classes : List ℕ) (output : ℕ) (places : List ℕ) (d : ℕ) → dir ≡ Out → IsThere places d → IsThere (links_of_dir dir owner classes output places) (link_to_class owner classes output d)
link_dir In owner classes output places d e t = absurd cc
link_dir Out owner classes output places d e t = (t.0, mapped (link_to_class owner classes output) places t.0 d t.1)

-- the links of all instances
pub are_links : (table : List ModelPins) (n : Netlist) (models : List (List ℕ)) (nodes : List Node) → IsSeen table n models nodes → (links : List Link) → links ≡ pieces_from (node_links table models n.classes) 0 nodes → AreLinks table n links
are_links table n models nodes is links e = record { sound = λ l t. sound l (subst (λ (xs : List Link). IsThere xs l) e t); complete = complete } where
  sound : (l : Link) → IsThere (pieces_from (node_links table models n.classes) 0 nodes) l → (t : Terminal) × IsLinkOf table n l t
  sound l t =
      let w = pieces_split (node_links table models n.classes) 0 nodes t.0 l t.1 in
      let own = own_classes table models n.classes w.1 in
      let pins = pins_at_node table models w.1 in
      let v = pieces_split (pin_links (0 + w.0) own) 0 pins w.3.0 l w.3.1 in
      let r = dir_link v.1.dir (0 + w.0) own (slice_index own (0 + v.0)) v.1.depends_on l v.3 in
      let q = input_at table (slice_index_or models w.1.model []) is.fits.table_is.depends v.0 v.1 v.2 r.2.0 r.1 r.2.1 in
      let zo : 0 + w.0 ≡ w.0 = omega arith in
      let zk : 0 + v.0 ≡ v.0 = omega arith in
      let at_owner : w.0 ≡ l.owner = sym zo ∙ ap (λ (x : Link). x.owner) (sym r.3) in
      let at_output : slice_index own v.0 ≡ l.output = ap (slice_index own) (sym zk) ∙ ap (λ (x : Link). x.output) (sym r.3) in
      let at_input : slice_index own r.1 ≡ l.input = ap (λ (x : Link). x.input) (sym r.3) in (
        pin_of w.1.name v.1.name,
        record {
          owner = instance_of models w.1;
          stands = subst (λ k. Stands n.instances k (instance_of models w.1)) at_owner (owner_at table n models nodes is w.0 w.1 w.2);
          output = v.1;
          known = (v.0, v.2);
          is = refl;
          gives = r.0;
          joined = subst (λ c. HasClass n (pin_of w.1.name v.1.name) c) at_output (class_at table n models nodes is w.0 w.1 w.2 v.0 v.1 v.2);
          place = r.1;
          input = q.0;
          depends = r.2;
          there = q.1;
          takes = q.2;
          reads = subst (λ c. HasClass n (pin_of w.1.name q.0.name) c) at_input (class_at table n models nodes is w.0 w.1 w.2 r.1 q.0 q.1);
        },
      )

  complete : (a b : Terminal) → DependsOn table n a b → (l : Link) × IsThere links l × HasClass n a l.output × HasClass n b l.input
  complete a b dep =
      let listed = dep.is_pin.listed in
      let u = unmapped (instance_of models) nodes listed.0 dep.owner (subst (λ (xs : List Instance). Stands xs listed.0 dep.owner) (sym is.seen) listed.1) in
      let node = u.0 in
      let own = own_classes table models n.classes node in
      let pins = pins_at_node table models node in
      let known : IsThere pins dep.output = subst (λ (x : Instance). IsThere (pins_named table x.model) dep.output) (sym u.2) dep.is_pin.known in
      let there : Stands pins dep.place dep.input = subst (λ (x : Instance). Stands (pins_named table x.model) dep.place dep.input) (sym u.2) dep.there in
      let l = link_to_class (0 + listed.0) own (slice_index own (0 + known.0)) dep.place in
      let here : IsThere (pin_links (0 + listed.0) own (0 + known.0) dep.output) l = link_dir dep.output.dir (0 + listed.0) own (slice_index own (0 + known.0)) dep.output.depends_on dep.place dep.gives dep.depends in
      let inner = pieces_join (pin_links (0 + listed.0) own) 0 pins known.0 dep.output l known.1 here in
      let outer = pieces_join (node_links table models n.classes) 0 nodes listed.0 node l u.1 inner in
      let zk : 0 + known.0 ≡ known.0 = omega arith in
      let name : node.name ≡ dep.owner.name = ap (λ (x : Instance). x.name) u.2 in
      let is_a : pin_of node.name dep.output.name ≡ a = ap (λ (x : List ℕ). pin_of x dep.output.name) name ∙ sym dep.is_pin.is in
      let output : HasClass n a (slice_index own known.0) = subst (λ (t : Terminal). HasClass n t (slice_index own known.0)) is_a (class_at table n models nodes is listed.0 node u.1 known.0 dep.output known.1) in
      let input : HasClass n (pin_of dep.owner.name dep.input.name) (slice_index own dep.place) = subst (λ (x : List ℕ). HasClass n (pin_of x dep.input.name) (slice_index own dep.place)) name (class_at table n models nodes is listed.0 node u.1 dep.place dep.input there) in
      let same : dep.class ≡ slice_index own dep.place = class_once n is.netlist (pin_of dep.owner.name dep.input.name) dep.class (slice_index own dep.place) dep.reads input in (
        l,
        subst (λ (xs : List Link). IsThere xs l) (sym e) outer,
        subst (λ k. HasClass n a (slice_index own k)) (sym zk) output,
        subst (λ c. HasClass n b c) same dep.joined,
      )

-- what is known where an instance's links are put

pub pins_are : (table : List ModelPins) (models known : List (List ℕ)) (model : List ℕ) (node : Node) (pins : List ModelPin) → known ≡ models → node.model < length models → model ≡ get_or known node.model model → pins ≡ pins_named table model
    → pins ≡ pins_at_node table models node
pins_are table models known model node pins same low is e =
    let at : model ≡ get_or models node.model model = is ∙ ap (λ (xs : List (List ℕ)). get_or xs node.model model) same in
    let d : get_or models node.model [] ≡ get_or models node.model model = get_or_from_slice_get models node.model (get_or models node.model model) [] (slice_get-get_or models node.model model low) in
    e ∙ ap (pins_named table) (at ∙ sym d)

pub own_length : (classes : List ℕ) (first many : ℕ) → first + many ≤ length classes → length (take many (drop first classes)) ≡ many
own_length classes first many l = let n = length-drop first classes in length-take-le many (drop first classes) (omega (arith, n, l))

pub seen_of : (table : List ModelPins) (n : Netlist) (known : List (List ℕ)) (nodes : List Node) → known ≡ n.models → IsNetlist n → Fits n table → map (instance_of n.models) nodes ≡ n.instances → AreNumbered n.ports nodes → IsSeen table n known nodes
seen_of table n known nodes e is fits seen numbered = record {
  netlist = is;
  fits = fits;
  seen = subst (λ (ms : List (List ℕ)). map (instance_of ms) nodes ≡ n.instances) (sym e) seen;
  numbered = numbered;
}

-- an instance whose links are put
pub record IsNext (table : List ModelPins) (known : List (List ℕ)) (classes : List ℕ) (node : Node) (pins : List ModelPin) : Type 0 where
  pub pins_are : pins ≡ pins_at_node table known node
  pub inside : node.first + length pins ≤ length classes

pub is_next : (table : List ModelPins) (n : Netlist) (known : List (List ℕ)) (classes : List ℕ) (nodes : List Node) (k : ℕ) (node : Node) (model : List ℕ) (pins : List ModelPin) → IsSeen table n known nodes → classes ≡ n.classes → known ≡ n.models
    → All (λ i. i.model < length n.models) nodes → k < length nodes → node ≡ get_or nodes k node → model ≡ get_or known node.model model → pins ≡ pins_named table model → IsNext table known classes node pins
is_next table n known classes nodes k node model pins is classes_are e below l at model_at found = record {
  pins_are = same;
  inside =
      let s = slice_get_read nodes (length nodes) k node refl l at in
      let w = pins_inside table n known nodes is k node s in
      let m = ap length same in
      let c = ap length classes_are in
      omega (arith, w, m, c);
} where
  low : node.model < length n.models
  low = subst (λ (x : Node). x.model < length n.models) (sym at) (below k node l)

  same : pins ≡ pins_at_node table known node
  same = pins_are table known known model node pins refl (let m = ap length e in omega (arith, low, m)) model_at found

pub depends_inside : (table : List ModelPins) (model : List ℕ) → All DependsWithin table → (pins : List ModelPin) (m : ℕ) → pins ≡ pins_named table model → m ≡ length pins → All (λ p. All (λ d. d < m) p.depends_on) pins
depends_inside table model all pins m e many k p l j d less =
    let whole : All (λ (q : ModelPin). All (IsInputAt pins) q.depends_on) pins = subst (λ (ps : List ModelPin). All (λ (q : ModelPin). All (IsInputAt ps) q.depends_on) ps) (sym e) (depends_of table model all) in
    let q = whole k p l j d less in
    let w = slice_get_within pins (get_or (get_or pins k p).depends_on j d) q.0 q.1 in omega (arith, w, many)

pub pin_step_in : (owner : ℕ) (classes : List ℕ) (pins : List ModelPin) (k : ℕ) (p : ModelPin) (start old now : List Link) → k < length pins → p ≡ get_or pins k p → p.dir ≡ In → now ≡ old
    → old ≡ start ++ pieces_from (pin_links owner classes) 0 (take k pins) → now ≡ start ++ pieces_from (pin_links owner classes) 0 (take (k + 1) pins)
pin_step_in owner classes pins k p start old now l is dir same before =
    let none : pin_links owner classes k (get_or pins k p) ≡ [] = ap (pin_links owner classes k) (sym is) ∙ ap (λ (d : Dir). links_of_dir d owner classes (slice_index classes k) p.depends_on) dir in
    let more = pieces_next (pin_links owner classes) pins k p l ∙ ap (λ (xs : List Link). pieces_from (pin_links owner classes) 0 (take k pins) ++ xs) none ∙ append-nil (pieces_from (pin_links owner classes) 0 (take k pins)) in
    same ∙ before ∙ ap (λ (xs : List Link). start ++ xs) (sym more)

pub pin_step_out : (owner : ℕ) (classes : List ℕ) (pins : List ModelPin) (k : ℕ) (p : ModelPin) (output : ℕ) (places : List ℕ) (start old now : List Link) → k < length pins → p ≡ get_or pins k p → p.dir ≡ Out → places ≡ p.depends_on → output ≡ slice_index classes k
    → now ≡ old ++ links_of_dir Out owner classes output places
    → old ≡ start ++ pieces_from (pin_links owner classes) 0 (take k pins) → now ≡ start ++ pieces_from (pin_links owner classes) 0 (take (k + 1) pins)
pin_step_out owner classes pins k p output places start old now l is dir same at pushed before =
    let these : pin_links owner classes k (get_or pins k p) ≡ links_of_dir Out owner classes output places =
    ap (pin_links owner classes k) (sym is) ∙ ap (λ (d : Dir). links_of_dir d owner classes (slice_index classes k) p.depends_on) dir ∙ ap (λ c. links_of_dir Out owner classes c p.depends_on) (sym at) ∙ ap (links_of_dir Out owner classes output) (sym same) in
    let more = pieces_next (pin_links owner classes) pins k p l ∙ ap (λ (xs : List Link). pieces_from (pin_links owner classes) 0 (take k pins) ++ xs) these in
    pushed ∙ ap (λ (xs : List Link). xs ++ links_of_dir Out owner classes output places) before ∙ append_assoc start (pieces_from (pin_links owner classes) 0 (take k pins)) (links_of_dir Out owner classes output places) ∙ ap (λ (xs : List Link). start ++ xs) (sym more)

pub node_step : (table : List ModelPins) (models : List (List ℕ)) (classes : List ℕ) (nodes : List Node) (k : ℕ) (node : Node) (own : List ℕ) (pins : List ModelPin) (old now : List Link) → k < length nodes → node ≡ get_or nodes k node
    → pins ≡ pins_at_node table models node → own ≡ take (length pins) (drop node.first classes) → now ≡ old ++ instance_links k own pins
    → old ≡ pieces_from (node_links table models classes) 0 (take k nodes) → now ≡ pieces_from (node_links table models classes) 0 (take (k + 1) nodes)
node_step table models classes nodes k node own pins old now l is pins_is own_at pushed before =
    let one : instance_links k own pins ≡ node_links table models classes k node = ap (λ (cs : List ℕ). instance_links k cs pins) own_at ∙ ap (λ (ps : List ModelPin). instance_links k (take (length ps) (drop node.first classes)) ps) pins_is in
    let these : instance_links k own pins ≡ node_links table models classes k (get_or nodes k node) = one ∙ ap (node_links table models classes k) is in
    pushed ∙ ap (λ (xs : List Link). xs ++ instance_links k own pins) before ∙ ap (λ (xs : List Link). pieces_from (node_links table models classes) 0 (take k nodes) ++ xs) these ∙ sym (pieces_next (node_links table models classes) nodes k node l)
