use Rattle.std.proofs.Common.{◌≡◌}
use Rattle.cougar_extract.proofs.Adding.{joined_to}
use Rattle.cougar_extract.proofs.pairs.join_links.Given as goal

abbrev pub invariant-loop-link : goal.invariant-loop-link
invariant-loop-link l = l.builder ≡ joined_to l.fn.builder l.links l.places l.link-index
