use Rattle.std.proofs.Common.{◌≡◌, ◌++◌, map, take}
use Rattle.std.specs.Prelude.{flat_map}
use Rattle.std.specs.Option.{option_copied}
use Rattle.net_drawing.specs.Drawing.{riser}
use Rattle.ocp_place.specs.Reaches.{site_of}
use Rattle.route_draw.proofs.nets.push_risers.Given as goal

abbrev pub invariant-loop-pin : goal.invariant-loop-pin
invariant-loop-pin l = l.items
    ≡ l.initial.items ++ flat_map (riser l.net.number (option_copied l.net.name)) (map (λ s. (site_of s).1) (take l.pin-index l.pins))
