use Rattle.source_bits.proofs.vectors.+all_within.Given as goal

abbrev pub decreases-all_within : goal.decreases-all_within
decreases-all_within l = l.count
