use Rattle.std.proofs.Common.{◌-◌, ◌/◌, ◌++◌, Bool, List, ap, ◌∙◌}
use Rattle.fsm_machine.specs.Encoding.{bits_of}
use Rattle.syf_encode.proofs.Widths.{bits_more}
use Rattle.syf_encode.proofs.coding.bits_of.Goals as goal

pub loop-left-preserved : goal.loop-left-preserved
loop-left-preserved c =
    ap (λ (bits : List Bool). bits ++ bits_of (c.loop-left.left - 1) (c.loop-left.rest / 2)) c.in_ok-push.ensures.items
    ∙ bits_more c.loop-left.bits.items c.loop-left.left c.loop-left.rest c.loop-left-test.true ∙ c.loop-left.invariant
