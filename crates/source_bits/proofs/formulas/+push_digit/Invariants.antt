use Rattle.source_bits.proofs.formulas.+push_digit.Given as goal

abbrev pub decreases-push_digit : goal.decreases-push_digit
decreases-push_digit l = l.count
