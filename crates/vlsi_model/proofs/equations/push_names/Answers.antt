use Rattle.std.proofs.Common.{slice_index}
use Rattle.source_checks.specs.Symbols.{all_names}
use Rattle.vlsi_model.specs.Numbered.{name_at}
use Rattle.vlsi_model.proofs.Naming.{push_more, name_is}
use Rattle.vlsi_model.proofs.equations.push_names.Goals as goal

pub loop-k-preserved : goal.loop-k-preserved
loop-k-preserved c =
    push_more (λ k. name_at (all_names c.args.numbers.now) (slice_index c.args.bits.now k)) c.args.names.now.items c.loop-k.names.items c.push.new.self.items c.args.order.now c.loop-k.k-index c.in_ok-name.field-0 c.loop-k-test.true
    (name_is (all_names c.args.numbers.now) (slice_index c.args.bits.now (slice_index c.args.order.now c.loop-k.k-index)) c.in_ok-name.field-0 c.in_ok-name.ensures) c.loop-k.invariant c.in_ok-push.ensures.items
