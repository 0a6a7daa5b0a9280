use Rattle.std.proofs.Common.{◌≡◌, ◌++◌, map, drop}
use Rattle.vlsi_base.specs.Names.{scalar}
use Rattle.vst_text.specs.declared.file.Component.{Component}
use Rattle.vst_io.specs.Nets.{components, pins}
use Rattle.vst_io.proofs.known.components.Given as goal

abbrev pub invariant-loop-declaration : goal.invariant-loop-declaration
invariant-loop-declaration l =
    (l.names.items ++ map (λ (c : Component). scalar c.name) (components (drop l.declaration-index l.declarations)) ≡ map (λ (c : Component). scalar c.name) (components l.declarations))
    × (l.pins.items ++ map pins (components (drop l.declaration-index l.declarations)) ≡ map pins (components l.declarations))
