use Rattle.std.proofs.Common.{◌≡◌, ◌++◌, map, take}
use Rattle.vlsi_base.specs.declared.name.Name.{Name}
use Rattle.vlsi_base.specs.declared.name.Terminal.{Terminal}
use Rattle.vst_io.specs.Drafts.{last_end}
use Rattle.vst_io.proofs.build.join_links.Given as goal

abbrev pub invariant-loop-link : goal.invariant-loop-link
invariant-loop-link l =
    l.builder ≡ record l.initial.builder { joins = l.initial.builder.joins ++ map (λ (k : Terminal × Name). (last_end l.links k.1 k.0, k.0)) (take l.link-index l.links) }
