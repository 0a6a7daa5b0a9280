-- A frame in which one instance gets another model, or that gets room for models.
use Rattle.std.proofs.Common.{◌≡◌, ℕ, zero, suc, ◌+◌, ◌<◌, List, [], ◌∷◌, ◌++◌, length, get_or, take, map, Option, Some, None, refl, sym, ap, subst, ◌∙◌, arith}
use Rattle.std.specs.Prelude.{slice_set}
use Rattle.std.specs.List.{All, flat_map, take-map}
use Rattle.std.proofs.lemmas.List.{length-map, map-set}
use Rattle.std.proofs.Math.Seq.{map-set_same}
use Rattle.std.proofs.lemmas.List.Elements.{All-set}
use Rattle.std.proofs.lemmas.List.Folds.{flat_map-map}
use Rattle.std.proofs.lemmas.Option.{get_or_from_slice_get}
use Rattle.vlsi_base.specs.declared.name.Name.{Name}
use Rattle.vlsi_base.specs.declared.name.Port.{Port}
use Rattle.vlsi_base.specs.declared.name.Terminal.{Terminal}
use Rattle.net_core.specs.declared.frame.Node.{Node}
use Rattle.net_core.specs.Places.{Stands, IsThere, Begins, AddsOnly, position_of}
use Rattle.net_core.specs.Netlist.{Instance, Netlist, port, pin_of, pins_of, AreInOrder, ReservesModels}
use Rattle.net_core.specs.Frame.{Frame, instance_of, frame_of, node_pins, frame_terminals, netlist_of, IsFrame, SetsModelAt, ReservesNames}
use Rattle.net_core.proofs.Standing.{position_absent}
use Rattle.net_core.proofs.Frames.{mapped}
use Rattle.net_core.proofs.Growing.{mapped_alike}

-- an instance without its model
pub record Core : Type 0 where
  pub name : List ℕ
  pub first : ℕ
  pub pins : List Name

abbrev core : Node → Core
core i = record { name = i.name; first = i.first; pins = i.pins }

map_map : {A B C : Type 0} (f : B → C) (g : A → B) (xs : List A) → map f (map g xs) ≡ map (λ x. f (g x)) xs
map_map f g [] = refl
map_map f g (x ∷ xs) = ap (λ (ys : List _). f (g x) ∷ ys) (map_map f g xs)

at_map : {A B : Type 0} (f : A → B) (xs : List A) (k : ℕ) (d : A) → get_or (map f xs) k (f d) ≡ f (get_or xs k d)
at_map f [] k d = refl
at_map f (x ∷ xs) zero d = refl
at_map f (x ∷ xs) (suc k) d = at_map f xs k d

core_at : (xs ys : List Node) (k : ℕ) (d : Node) → map core ys ≡ map core xs → core (get_or xs k d) ≡ core (get_or ys k d)
core_at xs ys k d e = sym (at_map core xs k d) ∙ ap (λ (cs : List Core). get_or cs k (core d)) (sym e) ∙ at_map core ys k d

abbrev pins_of_core : Core → List Terminal
pins_of_core c = map (pin_of c.name) c.pins

same_pins : (xs ys : List Node) → map core ys ≡ map core xs → flat_map node_pins ys ≡ flat_map node_pins xs
same_pins xs ys e = sym (flat_map-map pins_of_core core ys) ∙ ap (flat_map pins_of_core) e ∙ flat_map-map pins_of_core core xs

pub frame_same : {ports : List Port} {models : List (List ℕ)} {xs : List Node} {names : List (List ℕ)} {count : ℕ} → IsFrame ports models xs names count
    → (ys : List Node) → map core ys ≡ map core xs → All (λ i. i.model < length models) ys → IsFrame ports models ys names count
frame_same {ports} {models} {xs} {names} {count} frame ys e known = record {
  sorted = frame.sorted;
  listed = frame.listed ∙ sym (map_map (λ (c : Core). c.name) core xs) ∙ ap (map (λ (c : Core). c.name)) (sym e) ∙ map_map (λ (c : Core). c.name) core ys;
  once = frame.once;
  pins = λ k d l. subst (λ (c : Core). AreInOrder c.pins) (core_at xs ys k d e) (frame.pins k d (omega (arith, l, many)));
  known = known;
  firsts = λ k d l.
      ap (λ (c : Core). c.first) (sym (core_at xs ys k d e)) ∙ frame.firsts k d (omega (arith, l, many))
      ∙ ap (λ (ts : List Terminal). length ports + length ts) (sym (same_pins (take k xs) (take k ys) (sym (take-map core k ys) ∙ ap (take k) e ∙ take-map core k xs)));
  counted = frame.counted ∙ ap (λ (ts : List Terminal). length ports + length ts) (sym (same_pins xs ys e));
  few = frame.few;
} where
  many : length xs ≡ length ys
  many = sym (length-map xs core) ∙ ap length (sym e) ∙ length-map ys core

pub set_frame : {ports : List Port} {models : List (List ℕ)} {nodes : List Node} {names : List (List ℕ)} {count : ℕ} → IsFrame ports models nodes names count
    → (k place : ℕ) (node : Node) → Stands nodes k node → place < length models → IsFrame ports models (slice_set nodes k (record node { model = place })) names count
set_frame {ports} {models} {nodes} {names} {count} frame k place node s l =
    frame_same frame (slice_set nodes k (record node { model = place }))
    (map-set_same core nodes k (record node { model = place }) node (ap core (sym (get_or_from_slice_get nodes k node node s))))
    (All-set (λ (i : Node). i.model < length models) nodes k (record node { model = place }) l frame.known)

pub sets_model : (ports : List Port) (models : List (List ℕ)) (nodes : List Node) (f : Frame) (k place : ℕ) (node : Node) (model : List ℕ) → frame_of ports models nodes ≡ f → Stands nodes k node → Stands models place model
    → SetsModelAt f (frame_of ports models (slice_set nodes k (record node { model = place }))) k model
sets_model ports models nodes f k place node model view s p =
    subst (λ (g : Frame). SetsModelAt g (frame_of ports models (slice_set nodes k (record node { model = place }))) k model) view (record {
      was = instance_of models node;
      stood = mapped (instance_of models) nodes k node s;
      now = ap made (map-set (instance_of models) nodes k (record node { model = place }))
          ∙ ap (λ (m : List ℕ). made (slice_set (map (instance_of models) nodes) k (with_model m))) (get_or_from_slice_get models place model [] p);
    }) where
      made : List Instance → Frame
      made instances = record { ports = ports; models = models; instances = instances }

      with_model : List ℕ → Instance
      with_model m = record { name = node.name; model = m; pins = node.pins }

pub terminals_set : (old new : Frame) (k : ℕ) (model : List ℕ) → SetsModelAt old new k model → frame_terminals new ≡ frame_terminals old
terminals_set old new k model sets =
    ap frame_terminals sets.now ∙ ap (λ (ts : List Terminal). map (λ p. port p.name) old.ports ++ ts) same where
      identity : List Terminal → List Terminal
      identity ts = ts

      same : flat_map pins_of (slice_set old.instances k (record (sets.was) { model = model })) ≡ flat_map pins_of old.instances
      same =
          sym (flat_map-map (λ (ts : List Terminal). ts) pins_of (slice_set old.instances k (record (sets.was) { model = model })))
          ∙ ap (flat_map (λ (ts : List Terminal). ts)) (map-set_same pins_of old.instances k (record (sets.was) { model = model }) sets.was (ap pins_of (sym (get_or_from_slice_get old.instances k sets.was sets.was sets.stood))))
          ∙ flat_map-map (λ (ts : List Terminal). ts) pins_of old.instances

pub reserves : {ports : List Port} {models : List (List ℕ)} {nodes : List Node} {names : List (List ℕ)} {count : ℕ} → IsFrame ports models nodes names count
    → (f : Frame) → frame_of ports models nodes ≡ f → (new : List (List ℕ)) (more : List (List ℕ)) → Begins models new → All (IsThere new) more → AddsOnly models new more → ReservesNames f (frame_of ports new nodes) more
reserves {ports} {models} {nodes} {names} {count} frame f view new more grown there only =
    subst (λ (g : Frame). ReservesNames g (frame_of ports new nodes) more) view (record {
      ports = refl;
      instances = ap (λ (ms : List (List ℕ)). map (instance_of ms) nodes) grown.1 ∙ mapped_alike models grown.0 nodes frame.known;
      grown = grown;
      there = there;
      only = only;
    })

pub reserves_models : (name : List ℕ) (old new : Frame) (classes : List ℕ) (count : ℕ) (n : Netlist) (more : List (List ℕ)) → netlist_of name old classes count ≡ n → ReservesNames old new more → ReservesModels n (netlist_of name new classes count) more
reserves_models name old new classes count n more view r =
    subst (λ (m : Netlist). ReservesModels m (netlist_of name new classes count) more) view (record {
      now = ap (λ (ps : List Port). made ps new.instances) r.ports ∙ ap (made old.ports) r.instances;
      kept = r.grown;
      added = r.there;
      only = r.only;
    }) where
      made : List Port → List Instance → Netlist
      made ports instances = record { name = name; ports = ports; models = new.models; instances = instances; classes = classes; count = count }

-- a text that is there has a place
pub not_absent : (texts : List (List ℕ)) (t : List ℕ) → IsThere texts t → ((k : ℕ) → position_of texts t ≡ Some k → ⊥) → ⊥
not_absent texts t there none = by (position_of texts t) refl where
  by : (o : Option ℕ) → position_of texts t ≡ o → ⊥
  by None e = position_absent texts t e there
  by (Some k) e = none k e
