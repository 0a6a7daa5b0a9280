use Rattle.std.proofs.Common.{◌≡◌, ◌++◌, take}
use Rattle.vlsi_base.specs.declared.name.Dir.TheVariants.{Out}
use Rattle.net_core.specs.Links.{links_of_dir}
use Rattle.net_core.proofs.links.push_output_links.Given as goal

abbrev pub invariant-loop-place : goal.invariant-loop-place
invariant-loop-place l = l.links.items ≡ l.initial.links.items ++ links_of_dir Out l.owner l.classes l.output (take l.place-index l.places)
