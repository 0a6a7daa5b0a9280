use Rattle.std.proofs.Common.{◌≡◌, take}
use Rattle.std.specs.List.{All}
use Rattle.net_core.proofs.cycle.link_to.Given as goal

abbrev pub invariant-loop-link : goal.invariant-loop-link
invariant-loop-link l = All (λ x. x.input ≡ l.class → ⊥) (take l.link-index l.links)
