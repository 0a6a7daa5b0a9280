use Rattle.std.proofs.Common.{◌≡◌, take, map}
use Rattle.net_core.proofs.links.input_classes.Given as goal

abbrev pub invariant-loop-link : goal.invariant-loop-link
invariant-loop-link l = l.inputs.items ≡ map (λ x. x.input) (take l.link-index l.links)
