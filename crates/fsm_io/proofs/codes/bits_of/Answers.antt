use Rattle.std.proofs.Common.{Some, map, ap, ◌∙◌}
use Rattle.vlsi_base.specs.Range.{range_bits}
use Rattle.fsm_io.specs.Pieces.{bit_code}
use Rattle.fsm_io.proofs.Leasts.{coded_bits}
use Rattle.fsm_io.proofs.codes.bits_of.Goals as goal

pub returns : goal.returns
returns c =
    ap (map bit_code) (c.in_ok-bits.ensures ∙ ap (map Some) (c.deref.ensures.value ∙ c.in_ok-numbers.ensures)) ∙ coded_bits (range_bits c.args.range)
