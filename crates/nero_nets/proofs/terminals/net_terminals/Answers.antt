use Rattle.std.proofs.Common.{◌≡◌, ◌++◌, Some, length, slice_get, refl, ap, ◌∙◌, arith}
use Rattle.std.specs.Prelude.{flat_map}
use Rattle.std.proofs.lemmas.Option.{slice_get_read}
use Rattle.nero_nets.specs.Routed.{port_terminals}
use Rattle.nero_nets.specs.Terminals.{signals_among, pins_in}
use Rattle.nero_nets.proofs.Pins.{net_below, net_is}
use Rattle.nero_nets.proofs.terminals.net_terminals.Goals as goal

pub index-class-requires : goal.index-class-requires
index-class-requires c =
    let low = net_below c.args.library.now c.args.netlist.now c.args.placement.now c.requires.placed c.in_ok-nets.nets.items c.in_ok-nets.ensures.classes c.args.net c.requires.there in
    omega (arith, low)

pub returns : goal.returns
returns c = λ k seen.
    let n = c.args.netlist.now in
    let nets = c.in_ok-nets.nets.items in
    let class = c.index-class.result.now in
    let low = net_below c.args.library.now n c.args.placement.now c.requires.placed nets c.in_ok-nets.ensures.classes c.args.net c.requires.there in
    let at : slice_get nets c.args.net ≡ Some class = slice_get_read nets (length nets) c.args.net class refl low c.index-class.ensures in
    c.in_ok-push_pins.ensures k seen
    ∙ ap (λ ts. ts ++ flat_map (pins_in k class) n.instances)
    (c.in_ok-push_port.ensures ∙ ap (λ ts. ts ++ port_terminals (slice_get (signals_among c.ports.result.now) c.args.net)) c.new-made.ensures.items
    ∙ ap (λ ps. port_terminals (slice_get (signals_among ps) c.args.net)) c.ports.ensures)
    ∙ net_is c.args.library.now n c.args.placement.now c.requires.placed nets c.in_ok-nets.ensures.classes c.args.net class at k seen
