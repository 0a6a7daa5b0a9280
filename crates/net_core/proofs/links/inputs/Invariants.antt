use Rattle.std.proofs.Common.{◌≡◌, take, map}
use Rattle.net_core.specs.Links.{inputs_of}
use Rattle.net_core.proofs.links.inputs.Given as goal

abbrev pub invariant-loop-group : goal.invariant-loop-group
invariant-loop-group l = map (λ i. i.items) l.inputs.items ≡ inputs_of (take l.group-index l.groups)
