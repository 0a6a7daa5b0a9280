use Rattle.std.proofs.Common.{◌∙◌, sym, ap}
use Rattle.ap_io.specs.Fields.{lower}
use Rattle.ap_io.proofs.Labels.{has_bit, name_is, bit_is}
use Rattle.ap_io.proofs.names.label.Goals as goal

pub returns : goal.returns
returns c =
    let text = c.args.text.now in
    let none = sym c.is_star.ensures ∙ c.if-is_star.false in
    name_is text c.in_ok-text.text c.bit_of-bit.result none (c.in_ok-text.ensures ∙ ap lower c.word_of.ensures)
    (bit_is text c.behind_word.result.now c.bit_of-bit.result (has_bit text c.requires none) c.behind_word.ensures c.bit_of-bit.ensures)
