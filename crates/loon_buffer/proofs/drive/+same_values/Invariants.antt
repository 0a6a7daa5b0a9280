use Rattle.loon_buffer.proofs.drive.+same_values.Given as goal

abbrev pub decreases-same_values : goal.decreases-same_values
decreases-same_values l = l.known
