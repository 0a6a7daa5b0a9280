use Rattle.std.proofs.Common.{◌∙◌, sym}
use Rattle.ap_io.proofs.Digits.{is_negative_number}
use Rattle.ap_io.proofs.numbers.is_negative.Goals as goal

pub returns-then-has_minus : goal.returns-then-has_minus
returns-then-has_minus c =
    rw (c.is_empty.ensures, c.significant.ensures, c.digits_of.ensures) (is_negative_number c.args.text.now c.requires (sym c.has_minus.ensures ∙ c.if-has_minus.true))
