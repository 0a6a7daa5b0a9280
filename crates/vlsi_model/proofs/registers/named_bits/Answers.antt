use Rattle.std.proofs.Common.{◌∙◌}
use Rattle.source_checks.specs.Symbols.{all_names}
use Rattle.vlsi_model.proofs.Naming.{named_more}
use Rattle.vlsi_model.proofs.registers.named_bits.Goals as goal

pub loop-k-preserved : goal.loop-k-preserved
loop-k-preserved c = c.in_ok-push.ensures.items ∙ named_more (all_names c.args.numbers.now) c.args.bits.now c.loop-k.k c.in_ok-name.name c.loop-k.named.items c.loop-k.invariant c.in_ok-name.ensures
