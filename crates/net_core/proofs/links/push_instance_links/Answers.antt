use Rattle.std.proofs.Common.{ap, refl}
use Rattle.std.specs.Prelude.{slice_index}
use Rattle.std.specs.Global.{Vec}
use Rattle.net_core.specs.declared.links.Link.{Link}
use Rattle.net_core.proofs.Linking.{pin_step_in, pin_step_out}
use Rattle.net_core.proofs.links.push_instance_links.Goals.{in-In, in-Out+in_ok-push_output_links-in-Out}
use Rattle.net_core.proofs.links.push_instance_links.Goals as goal

pub loop-k-preserved : goal.loop-k-preserved
loop-k-preserved c = elim c.match-pin.branch [
  | in-In w ↦
      pin_step_in c.args.owner c.args.classes.now c.args.pins.now c.loop-k.k c.index-pins-k.result c.args.links.now.items c.loop-k.links.items c.match-pin.links.items c.loop-k-test.true c.index-pins-k.is w.in-In.is
      (ap (λ (v : Vec Link). v.items) w.links-is) c.loop-k.invariant
  | in-Out+in_ok-push_output_links-in-Out w ↦
      rw (w.links-is)
      (pin_step_out c.args.owner c.args.classes.now c.args.pins.now c.loop-k.k c.index-pins-k.result (slice_index c.args.classes.now c.loop-k.k) w.as_slice.result.now c.args.links.now.items c.loop-k.links.items w.push_output_links.new.links.items
      c.loop-k-test.true c.index-pins-k.is w.in-Out.is w.as_slice.ensures refl w.in_ok-push_output_links-in-Out.ensures c.loop-k.invariant)
]
