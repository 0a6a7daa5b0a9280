use Rattle.std.proofs.Common.{◌≡◌, ◌<◌, ◌++◌, ℕ, List, Option, None, Some, length, map, sym, ap, subst, refl, arith}
use Rattle.std.specs.List.{flat_map}
use Rattle.std.proofs.lemmas.Option.{slice_get_read, slice_get_within}
use Rattle.vlsi_base.specs.declared.name.Name.{Name}
use Rattle.vlsi_base.specs.declared.name.Port.{Port}
use Rattle.vlsi_base.specs.declared.name.Terminal.{Terminal}
use Rattle.net_core.specs.declared.frame.Node.{Node}
use Rattle.net_core.specs.Places.{Stands, IsPlaceOf, position_of}
use Rattle.net_core.specs.Netlist.{port, pin_of}
use Rattle.net_core.specs.Frame.{Frame, frame_of, frame_terminals, node_pins, IsFrame}
use Rattle.net_core.proofs.Standing.{position_stands, position_absent, stands_same}
use Rattle.net_core.proofs.Frames.{port_terminals, terminals_are, port_answers, pin_answers, no_owner, first_fits, pins_at, names_count, mapped}
use Rattle.net_core.proofs.frame.Frame.place.Goals as goal

-- an answer over the parts is one over the frame that they are
over_frame : (ports : List Port) (models : List (List ℕ)) (nodes : List Node) (f : Frame) (t u : Terminal) (found : Option ℕ) → frame_of ports models nodes ≡ f → t ≡ u
    → IsPlaceOf (port_terminals ports ++ flat_map node_pins nodes) t found → IsPlaceOf (frame_terminals f) u found
over_frame ports models nodes f t u found view same answer =
    subst (λ (x : Terminal). IsPlaceOf (frame_terminals f) x found) same
    (subst (λ (g : Frame). IsPlaceOf (frame_terminals g) t found) view (subst (λ (ts : List Terminal). IsPlaceOf ts t found) (sym (terminals_are ports models nodes)) answer))

a_port : (t : Terminal) → t.instance ≡ None → port t.pin ≡ t
a_port t e = ap (λ (o : Option (List ℕ)). made o t.pin) (sym e) where
  made : Option (List ℕ) → Name → Terminal
  made o pin = record { instance = o; pin = pin }

a_pin : (t : Terminal) (owner : List ℕ) → t.instance ≡ Some owner → pin_of owner t.pin ≡ t
a_pin t owner e = ap (λ (o : Option (List ℕ)). made o t.pin) (sym e) where
  made : Option (List ℕ) → Name → Terminal
  made o pin = record { instance = o; pin = pin }

-- the instance of a name that has a place
node_there : {ports : List Port} {models : List (List ℕ)} {nodes : List Node} {names : List (List ℕ)} {count : ℕ} → IsFrame ports models nodes names count
    → (owner : List ℕ) (k : ℕ) → position_of names owner ≡ Some k → k < length nodes
node_there {ports} {models} {nodes} {names} {count} frame owner k e =
    let w = slice_get_within names k owner (position_stands names owner k e) in let n = names_count frame in omega (arith, w, n)

-- the instance at the place of a name has that name
named_so : {ports : List Port} {models : List (List ℕ)} {nodes : List Node} {names : List (List ℕ)} {count : ℕ} → IsFrame ports models nodes names count
    → (owner : List ℕ) (k : ℕ) (node : Node) → position_of names owner ≡ Some k → Stands nodes k node → node.name ≡ owner
named_so {ports} {models} {nodes} {names} {count} frame owner k node e s =
    let here : Stands (map (λ (i : Node). i.name) nodes) k owner = subst (λ (xs : List (List ℕ)). Stands xs k owner) frame.listed (position_stands names owner k e) in
    stands_same (map (λ (i : Node). i.name) nodes) k node.name owner (mapped (λ (i : Node). i.name) nodes k node s) here

pub port_place-requires-clause-few : goal.port_place-requires-clause-few
port_place-requires-clause-few c = let e : length c.as_slice.result.now ≡ length c.self.inside.ports = ap length c.as_slice.ensures in omega (arith, e, c.self.invariant.counted, c.self.invariant.few)

pub index-requires : goal.index-requires
index-requires c = let w = node_there c.self.invariant c.in-Some.owner c.in-Some-place.place (sym c.in-Some-place.ensures) in omega (arith, w)

pub pin_place-requires-clause-order : goal.pin_place-requires-clause-order
pin_place-requires-clause-order c =
    let w = node_there c.self.invariant c.in-Some.owner c.in-Some-place.place (sym c.in-Some-place.ensures) in
    pins_at c.self.invariant c.in-Some-place.place c.index.result.now
    (slice_get_read c.self.inside.nodes.items (length c.self.inside.nodes.items) c.in-Some-place.place c.index.result.now refl w c.index.ensures)

pub pin_place-requires-clause-few : goal.pin_place-requires-clause-few
pin_place-requires-clause-few c =
    let w = node_there c.self.invariant c.in-Some.owner c.in-Some-place.place (sym c.in-Some-place.ensures) in
    let f = first_fits c.self.invariant c.in-Some-place.place c.index.result.now
    (slice_get_read c.self.inside.nodes.items (length c.self.inside.nodes.items) c.in-Some-place.place c.index.result.now refl w c.index.ensures) in
    omega (arith, f, c.self.invariant.few)

pub returns-in-None : goal.returns-in-None
returns-in-None c =
    over_frame c.self.inside.ports c.self.inside.models c.self.inside.nodes.items c.args.self.now (port c.args.terminal.now.pin) c.args.terminal.now c.port_place.result c.self.view_is (a_port c.args.terminal.now c.in-None.is)
    (port_answers c.self.inside.ports c.self.inside.nodes.items c.args.terminal.now.pin c.port_place.result
    (subst (λ (xs : List Port). IsPlaceOf (map (λ p. p.name) xs) c.args.terminal.now.pin c.port_place.result) c.as_slice.ensures c.port_place.ensures))

pub returns-in-Some-place : goal.returns-in-Some-place
returns-in-Some-place c =
    let has : position_of c.self.inside.names c.in-Some.owner ≡ Some c.in-Some-place.place = sym c.in-Some-place.ensures in
    let w = node_there c.self.invariant c.in-Some.owner c.in-Some-place.place has in
    let s : Stands c.self.inside.nodes.items c.in-Some-place.place c.index.result.now = slice_get_read c.self.inside.nodes.items (length c.self.inside.nodes.items) c.in-Some-place.place c.index.result.now refl w c.index.ensures in
    let n = named_so c.self.invariant c.in-Some.owner c.in-Some-place.place c.index.result.now has s in
    over_frame c.self.inside.ports c.self.inside.models c.self.inside.nodes.items c.args.self.now (pin_of c.in-Some.owner c.args.terminal.now.pin) c.args.terminal.now c.pin_place.result c.self.view_is (a_pin c.args.terminal.now c.in-Some.owner c.in-Some.is)
    (subst (λ (x : List ℕ). IsPlaceOf (port_terminals c.self.inside.ports ++ flat_map node_pins c.self.inside.nodes.items) (pin_of x c.args.terminal.now.pin) c.pin_place.result) n
    (pin_answers c.self.invariant c.in-Some-place.place c.index.result.now c.args.terminal.now.pin c.pin_place.result s c.pin_place.ensures))

pub returns-in-None-place : goal.returns-in-None-place
returns-in-None-place c =
    over_frame c.self.inside.ports c.self.inside.models c.self.inside.nodes.items c.args.self.now (pin_of c.in-Some.owner c.args.terminal.now.pin) c.args.terminal.now None c.self.view_is (a_pin c.args.terminal.now c.in-Some.owner c.in-Some.is)
    (no_owner c.self.invariant c.in-Some.owner c.args.terminal.now.pin (position_absent c.self.inside.names c.in-Some.owner (sym c.in-None-place.ensures)))
