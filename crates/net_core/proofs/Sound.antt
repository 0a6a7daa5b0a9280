-- What is known of a frame as it is seen: its terminals are different.
use Rattle.std.proofs.Common.{◌≡◌, ℕ, List, [], length, get_or, take, map, Some, None, sym, ap, subst, ◌∙◌, arith}
use Rattle.std.specs.List.{All, flat_map}
use Rattle.std.proofs.lemmas.List.Elements.{All-map}
use Rattle.std.proofs.lemmas.Option.{slice_get_within, get_or_from_slice_get, slice_get-get_or}
use Rattle.vlsi_base.specs.declared.name.Name.{Name}
use Rattle.vlsi_base.specs.declared.name.Port.{Port}
use Rattle.vlsi_base.specs.declared.name.Terminal.{Terminal}
use Rattle.net_core.specs.declared.frame.Node.{Node}
use Rattle.net_core.specs.Places.{Stands, IsThere, NoneTwice}
use Rattle.net_core.specs.Netlist.{Instance, port, pin_of, pins_of, AreInOrder}
use Rattle.net_core.specs.Frame.{Frame, instance_of, frame_of, frame_terminals, IsFrame, IsSound}
use Rattle.net_core.proofs.Standing.{none_twice_append, stands_same}
use Rattle.net_core.proofs.Searching.{order_none_twice}
use Rattle.net_core.proofs.Frames.{flat_split, mapped, unmapped, port_terminals}
use Rattle.net_core.proofs.Growing.{names_seen}

pub frame_sound : {ports : List Port} {models : List (List ℕ)} {nodes : List Node} {names : List (List ℕ)} {count : ℕ} → IsFrame ports models nodes names count
    → NoneTwice models → (f : Frame) → frame_of ports models nodes ≡ f → IsSound f
frame_sound {ports} {models} {nodes} {names} {count} frame once f view = record {
  different = subst (λ (g : Frame). NoneTwice g.models) view once;
  ports = subst (λ (g : Frame). AreInOrder (map (λ p. p.name) g.ports)) view frame.sorted;
  names = subst (λ (xs : List (List ℕ)). NoneTwice xs) (sym (names_seen frame f view)) frame.once;
  pins = subst (λ (g : Frame). All (λ i. AreInOrder i.pins) g.instances) view (All-map (λ (i : Instance). AreInOrder i.pins) (instance_of models) nodes frame.pins);
  models = subst (λ (g : Frame). All (λ i. IsThere g.models i.model) g.instances) view
      (All-map (λ (i : Instance). IsThere models i.model) (instance_of models) nodes (λ k d l. let m = frame.known k d l in ((get_or nodes k d).model, slice_get-get_or models (get_or nodes k d).model [] m)));
}

ports_once : (ports : List Port) → AreInOrder (map (λ p. p.name) ports) → NoneTwice (port_terminals ports)
ports_once ports sorted i j t p q =
    let u = unmapped (λ (x : Port). port x.name) ports i t p in
    let v = unmapped (λ (x : Port). port x.name) ports j t q in
    let same : v.0.name ≡ u.0.name = ap (λ (x : Terminal). x.pin) (v.2 ∙ sym u.2) in
    order_none_twice (map (λ p. p.name) ports) sorted i j u.0.name (mapped (λ (x : Port). x.name) ports i u.0 u.1)
    (subst (λ (n : Name). Stands (map (λ p. p.name) ports) j n) same (mapped (λ (x : Port). x.name) ports j v.0 v.1))

pins_once : (f : Frame) → IsSound f → NoneTwice (flat_map pins_of f.instances)
pins_once f sound i j t p q =
    let a = flat_split pins_of f.instances i t p in
    let b = flat_split pins_of f.instances j t q in
    let u = unmapped (pin_of a.item.name) a.item.pins a.inner t a.inside in
    let v = unmapped (pin_of b.item.name) b.item.pins b.inner t b.inside in
    let owners : Some b.item.name ≡ Some a.item.name = ap (λ (x : Terminal). x.instance) (v.2 ∙ sym u.2) in
    let owner : b.item.name ≡ a.item.name = cc in
    let pin : v.0 ≡ u.0 = ap (λ (x : Terminal). x.pin) (v.2 ∙ sym u.2) in
    let named : Stands (map (λ (x : Instance). x.name) f.instances) b.place a.item.name = subst (λ (x : List ℕ). Stands (map (λ (x : Instance). x.name) f.instances) b.place x) owner (mapped (λ (x : Instance). x.name) f.instances b.place b.item b.stands) in
    let place : a.place ≡ b.place = sound.names a.place b.place a.item.name (mapped (λ (x : Instance). x.name) f.instances a.place a.item a.stands) named in
    let item : b.item ≡ a.item = stands_same f.instances b.place b.item a.item b.stands (subst (λ k. Stands f.instances k a.item) place a.stands) in
    let order : AreInOrder a.item.pins = subst (λ (x : Instance). AreInOrder x.pins) (get_or_from_slice_get f.instances a.place a.item a.item a.stands) (sound.pins a.place a.item (slice_get_within f.instances a.place a.item a.stands)) in
    let inner : a.inner ≡ b.inner = order_none_twice a.item.pins order a.inner b.inner u.0 u.1 (subst (λ (x : Instance). Stands x.pins b.inner u.0) item (subst (λ (n : Name). Stands b.item.pins b.inner n) pin v.1)) in
    let before : length (flat_map pins_of (take a.place f.instances)) ≡ length (flat_map pins_of (take b.place f.instances)) = ap (λ k. length (flat_map pins_of (take k f.instances))) place in
    omega (arith, a.sum, b.sum, inner, before)

pub terminals_once : (f : Frame) → IsSound f → NoneTwice (frame_terminals f)
terminals_once f sound = none_twice_append (port_terminals f.ports) (flat_map pins_of f.instances) (ports_once f.ports sound.ports) (pins_once f sound) (λ t p q.
    let u = unmapped (λ (x : Port). port x.name) f.ports p.0 t p.1 in
    let b = flat_split pins_of f.instances q.0 t q.1 in
    let v = unmapped (pin_of b.item.name) b.item.pins b.inner t b.inside in
    let no : None ≡ Some b.item.name = ap (λ (x : Terminal). x.instance) (u.2 ∙ sym v.2) in absurd cc)
