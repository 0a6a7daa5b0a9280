use Rattle.std.proofs.Common.{◌∙◌, ap, map}
use Rattle.ocp_anneal.specs.Cells.{other_nets}
use Rattle.ocp_anneal.proofs.Nets.{items, nets_are}
use Rattle.ocp_anneal.proofs.cells.nets_of.Goals as goal

pub returns : goal.returns
returns c = λ k seen.
    c.in_ok-others.ensures
    ∙ ap (λ vs. other_nets c.class_of-high.result c.class_of-low.result (map items vs)) c.deref.ensures.value
    ∙ nets_are c.args.library.now c.args.netlist.now c.requires.library c.requires.netlist k seen c.args.pins.now c.in_ok-nets.nets.items c.class_of-high.result c.class_of-low.result
    (c.in_ok-nets.ensures.many ∙ c.count.ensures) c.in_ok-nets.ensures.nets c.class_of-high.ensures c.class_of-low.ensures
