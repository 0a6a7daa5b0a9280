use Rattle.source_checks.specs.Symbols.{all_names}
use Rattle.vbe_free.proofs.Found.{names_more}
use Rattle.vbe_free.proofs.second.driven_names.Goals as goal

pub loop-bit-preserved : goal.loop-bit-preserved
loop-bit-preserved c =
    names_more (all_names c.args.numbers.now) c.args.driven.now c.loop-bit.bit-index c.bit-item.result c.in_ok-name.field-0 c.loop-bit.names.items c.push.new.self.items
    c.loop-bit-test.true c.bit-item.is c.in_ok-name.ensures c.loop-bit.invariant c.in_ok-push.ensures.items
