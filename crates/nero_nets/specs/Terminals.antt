-- The terminals of a net, as they are read off a netlist in memory.
use Rattle.std.specs.Prelude.{ℕ, nat_eq, Bool, ◌&&◌, List, [], ◌∷◌, ◌++◌, filter, map, if◌then◌else◌}
use Rattle.std.specs.List.{flat_map}
use Rattle.vlsi_base.specs.declared.name.Name.{Name}
use Rattle.vlsi_base.specs.declared.name.Port.{Port}
use Rattle.vlsi_base.specs.declared.name.Terminal.{Terminal}
use Rattle.net_core.specs.Netlist.{Instance}
use Rattle.net_meaning.specs.Netlist.{AbstractNetlist, pin_of}
use Rattle.ocp_place.specs.Nets.{is_signal}

-- the names of ports that are no supplies, in their order
abbrev pub signals_among : List Port → List Name
signals_among ports = filter is_signal (map (λ p. p.name) ports)

-- a pin of an instance, if it is wanted
abbrev pub pin_if : Bool → List ℕ → Name → List Terminal
pin_if wanted owner pin = if wanted then pin_of owner pin ∷ [] else []

-- it is in a class, and of no supply
abbrev pub is_wanted : ℕ → ℕ → Name → Bool
is_wanted class own pin = nat_eq own class && is_signal pin

-- the pins of an instance that are in a class, without those of supplies, where each pin has its class at its place
abbrev pub class_pins : ℕ → List ℕ → List Name → List ℕ → List Terminal
class_pins class owner [] own = []
class_pins class owner (pin ∷ pins) [] = []
class_pins class owner (pin ∷ pins) (k ∷ own) = pin_if (is_wanted class k pin) owner pin ++ class_pins class owner pins own

-- those pins, as a netlist of layouts has them
abbrev pub pins_in : AbstractNetlist → ℕ → Instance → List Terminal
pins_in n class i = flat_map (λ pin. pin_if (is_wanted class (n.class (pin_of i.name pin)) pin) i.name pin) i.pins
