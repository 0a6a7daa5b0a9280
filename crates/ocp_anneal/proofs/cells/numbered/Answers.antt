use Rattle.std.proofs.Common.{◌<◌, All, subst, sym, List}
use Rattle.ocp_anneal.specs.declared.cells.Tied.{Tied}
use Rattle.ocp_anneal.proofs.Placing.{pins_low}
use Rattle.ocp_anneal.proofs.cells.numbered.Goals as goal

pub nets_of-requires-clause-pins : goal.nets_of-requires-clause-pins
nets_of-requires-clause-pins c =
    let n = c.args.netlist.now in
    subst (λ (ts : List Tied). All (λ t. t.class < n.count) ts) (sym c.deref.ensures.value)
    (pins_low c.args.library.now n c.args.placement.now c.requires c.in_ok-parts.parts.pins.items (λ k seen. (c.in_ok-parts.ensures k seen).pins))
