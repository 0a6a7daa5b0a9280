-- Which metal a layer stands for.
use Rattle.std.specs.Prelude.{ℕ, Option, None, Some}
use Rattle.sym_geom.specs.declared.layer.Level.{Level}
use Rattle.sym_geom.specs.declared.layer.Level.TheVariants.{One, Two, Three, Four, Five, Six, Seven, Eight, Nine}
use Rattle.sym_geom.specs.declared.layer.Layer.{Layer}
use Rattle.sym_geom.specs.declared.layer.Layer.TheVariants.{NWell, PWell, NTie, PTie, NDif, PDif, NTrans, PTrans, Poly, TPoly, Alu, Calu, Talu}

-- the number of a level, from 1 to 9
abbrev pub level_number : Level → ℕ
level_number One = 1
level_number Two = 2
level_number Three = 3
level_number Four = 4
level_number Five = 5
level_number Six = 6
level_number Seven = 7
level_number Eight = 8
level_number Nine = 9

-- wires and connectors have shapes on the metals 1 to 6
abbrev pub routing_metal : Level → Option ℕ
routing_metal One = Some 1
routing_metal Two = Some 2
routing_metal Three = Some 3
routing_metal Four = Some 4
routing_metal Five = Some 5
routing_metal Six = Some 6
routing_metal Seven = None
routing_metal Eight = None
routing_metal Nine = None

-- the metal on which an item of this layer has its shape; none where it has no shape
abbrev pub metal_of : Layer → Option ℕ
metal_of (Alu level) = routing_metal level
metal_of (Calu level) = routing_metal level
metal_of (Talu level) = None
metal_of NWell = None
metal_of PWell = None
metal_of NTie = None
metal_of PTie = None
metal_of NDif = None
metal_of PDif = None
metal_of NTrans = None
metal_of PTrans = None
metal_of Poly = None
metal_of TPoly = None
