use Rattle.std.proofs.Common.{◌≡◌, sym, subst, length, get_or, map, List, [], ℕ, refl, arith}
use Rattle.std.proofs.lemmas.Option.{slice_get_read, get_or_from_slice_get}
use Rattle.std.proofs.lemmas.List.{length-map}
use Rattle.net_core.specs.declared.frame.Node.{Node}
use Rattle.net_core.specs.Places.{Stands, Learned}
use Rattle.net_core.proofs.Frames.{mapped}
use Rattle.net_core.proofs.Learning.{learned_step}
use Rattle.lvx_compare.proofs.Instances.{names_learned}
use Rattle.lvx_compare.proofs.faults.instance_names.Goals as goal

pub loop-node-preserved : goal.loop-node-preserved
loop-node-preserved c =
    let nodes = c.nodes-node-items.result.now in
    let s : Stands nodes c.loop-node.node-index c.node-item.result = slice_get_read nodes (length nodes) c.loop-node.node-index c.node-item.result refl c.loop-node-test.true c.node-item.is in
    let at : get_or (map (λ (i : Node). i.name) nodes) c.loop-node.node-index [] ≡ c.node-item.result.name =
    get_or_from_slice_get (map (λ (i : Node). i.name) nodes) c.loop-node.node-index c.node-item.result.name [] (mapped (λ (i : Node). i.name) nodes c.loop-node.node-index c.node-item.result s) in
    let n = length-map nodes (λ (i : Node). i.name) in
    learned_step [] c.loop-node.names c.learn.new.self (map (λ (i : Node). i.name) nodes) c.loop-node.node-index c.in_ok-learn.field-0 c.loop-node.invariant (omega (arith, n, c.loop-node-test.true))
    (subst (λ (t : List ℕ). Learned c.loop-node.names c.learn.new.self t) (sym at) c.in_ok-learn.ensures.learned)
    (subst (λ (t : List ℕ). Stands c.learn.new.self c.in_ok-learn.field-0 t) (sym at) c.in_ok-learn.ensures.place)

pub returns : goal.returns
returns c = names_learned c.args.netlist.now c.nodes-node-items.result.now c.loop-node.names c.loop-node.node-index c.classes.ensures.sound c.nodes-node-items.ensures.seen (omega (arith, c.loop-node-test.false)) c.loop-node.invariant
