use Rattle.and_rewrite.proofs.forms.+built.Given as goal

-- each call has one variable less to split
abbrev pub decreases-built : goal.decreases-built
decreases-built l = l.depth
