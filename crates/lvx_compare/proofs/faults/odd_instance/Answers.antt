use Rattle.std.proofs.Common.{◌≡◌, ◌<◌, ◌+◌, ◌∙◌, ℕ, Bool, Option, Some, length, sym, ap, subst, arith}
use Rattle.vlsi_base.specs.Names.{scalar}
use Rattle.net_core.specs.declared.frame.Node.{Node}
use Rattle.net_core.proofs.Rings.{at_place}
use Rattle.lvx_compare.specs.Stages.{IsOdd, name_at}
use Rattle.lvx_compare.proofs.Instances.{LeastSoFar, nodes_many, name_read, least_odd, least_kept, some_odd, none_odd}
use Rattle.lvx_compare.proofs.faults.odd_instance.Goals.{then-is_odd, else-is_odd}
use Rattle.lvx_compare.proofs.faults.odd_instance.Goals as goal

pub loop-k-preserved : goal.loop-k-preserved
loop-k-preserved c =
    let n = c.args.netlist.now in
    let other = c.args.other.now in
    let nodes = c.nodes-nodes.result.now in
    let k = c.loop-k.k in
    let many : length nodes ≡ length n.instances = nodes_many n nodes c.nodes-nodes.ensures.seen in
    let i = at_place n.instances k (omega (arith, many, c.loop-k-test.true)) in
    elim c.if-is_odd.branch [
      | then-is_odd w ↦
          subst (λ (o : Option ℕ). LeastSoFar n other (k + 1) o) (sym (w.least-is ∙ w.lesser_place-least.ensures))
          (least_odd n other nodes k c.loop-k.least i.0 c.requires.sound c.nodes-nodes.ensures.seen i.1
          (subst (λ (b : Bool). IsOdd n other i.0 b) w.if-is_odd.true (c.is_odd.ensures i.0 i.1)) c.loop-k.invariant)
      | else-is_odd w ↦
          subst (λ (o : Option ℕ). LeastSoFar n other (k + 1) o) (sym w.least-is)
          (least_kept n other k c.loop-k.least i.0 c.requires.sound i.1 (subst (λ (b : Bool). IsOdd n other i.0 b) w.if-is_odd.false (c.is_odd.ensures i.0 i.1)) c.loop-k.invariant)
    ]

pub returns-in-Some : goal.returns-in-Some
returns-in-Some c =
    let n = c.args.netlist.now in
    let other = c.args.other.now in
    let nodes = c.nodes-nodes.result.now in
    let many : length nodes ≡ length n.instances = nodes_many n nodes c.nodes-nodes.ensures.seen in
    let so : LeastSoFar n other c.loop-k.k (Some c.in-Some.place) = subst (λ (o : Option ℕ). LeastSoFar n other c.loop-k.k o) c.in-Some.is c.loop-k.invariant in
    let low : c.in-Some.place < c.loop-k.k = so.below in
    let below : c.in-Some.place < length nodes = omega (arith, low, c.loop-k.auto.k-end) in
    let named : c.in_ok-copy-in-Some.field-0 ≡ name_at nodes c.in-Some.place =
    c.in_ok-copy-in-Some.ensures ∙ ap (λ (x : Node). x.name) (sym c.index-nodes-place.is) ∙ name_read nodes c.in-Some.place c.index-nodes-place.result below c.index-nodes-place.is in
    some_odd n other nodes c.loop-k.k c.in-Some.place c.scalar.result c.nodes-nodes.ensures.seen (omega (arith, many, c.loop-k-test.false)) (c.scalar.ensures ∙ ap scalar named) so

pub returns : goal.returns
returns c =
    let n = c.args.netlist.now in
    let nodes = c.nodes-nodes.result.now in
    let many : length nodes ≡ length n.instances = nodes_many n nodes c.nodes-nodes.ensures.seen in
    none_odd n c.args.other.now c.loop-k.k (omega (arith, many, c.loop-k-test.false)) (subst (λ (o : Option ℕ). LeastSoFar n c.args.other.now c.loop-k.k o) c.in-None.is c.loop-k.invariant)
