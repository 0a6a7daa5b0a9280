use Rattle.std.proofs.Common.{◌≡◌, ◌<◌, ◌≤◌, ◌-◌, List, length, ap, subst, refl, arith}
use Rattle.std.specs.List.{flat_map}
use Rattle.std.proofs.lemmas.Option.{slice_get_read}
use Rattle.vlsi_base.specs.declared.name.Name.{Name}
use Rattle.vlsi_base.specs.declared.name.Port.{Port}
use Rattle.net_core.specs.declared.frame.Node.{Node}
use Rattle.net_core.specs.Places.{Stands}
use Rattle.net_core.specs.Netlist.{port}
use Rattle.net_core.specs.Frame.{frame_terminals, node_pins}
use Rattle.net_core.specs.Named.{terminal_names, HasNamesAt}
use Rattle.net_core.proofs.Namings.{port_at, pin_at, pins_left, if_ok}
use Rattle.net_core.proofs.frame.Frame.names_at.Goals as goal

pub returns-in-Some : goal.returns-in-Some
returns-in-Some c =
    let s : Stands c.self.inside.ports c.args.place c.in-Some.port.now =
    subst (λ (xs : List Port). Stands xs c.args.place c.in-Some.port.now) c.as_slice-ports.ensures
    (slice_get_read c.as_slice-ports.result.now (length c.as_slice-ports.result.now) c.args.place c.in-Some.port.now refl c.in-Some.ensures.lookup.3.0 c.in-Some.ensures.lookup.1) in
    if_ok (λ (names : List Name). names ≡ terminal_names (port c.in-Some.port.now.name)) (λ (names : List Name). HasNamesAt (frame_terminals c.args.self.now) c.args.place names) c.port_names.result
    (λ names e. port_at c.self.inside.ports c.self.inside.models c.self.inside.nodes.items c.args.self.now c.args.place c.in-Some.port.now names c.self.view_is s e) c.port_names.ensures

pub returns-in-None : goal.returns-in-None
returns-in-None c =
    let e : length c.as_slice-ports.result.now ≡ length c.self.inside.ports = ap length c.as_slice-ports.ensures in
    let more : length c.self.inside.ports ≤ c.args.place = omega (arith, e, c.in-None.ensures.lookup.3) in
    let less = pins_left c.self.inside.ports c.self.inside.models c.self.inside.nodes.items c.args.self.now c.args.place c.self.view_is more c.requires in
    if_ok (λ (names : List Name). c.args.place - length c.as_slice-ports.result.now < length (flat_map node_pins c.deref.result.now) → HasNamesAt (flat_map node_pins c.deref.result.now) (c.args.place - length c.as_slice-ports.result.now) names)
    (λ (names : List Name). HasNamesAt (frame_terminals c.args.self.now) c.args.place names) c.pin_names.result
    (λ names h. pin_at c.self.inside.ports c.self.inside.models c.self.inside.nodes.items c.args.self.now c.args.place names c.self.view_is more
    (subst (λ k. HasNamesAt (flat_map node_pins c.self.inside.nodes.items) (c.args.place - k) names) e
    (subst (λ (xs : List Node). c.args.place - length c.as_slice-ports.result.now < length (flat_map node_pins xs) → HasNamesAt (flat_map node_pins xs) (c.args.place - length c.as_slice-ports.result.now) names) c.deref.ensures.value h (omega (arith, less, e))))) c.pin_names.ensures
