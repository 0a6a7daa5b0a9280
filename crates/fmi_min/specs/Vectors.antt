-- The bits of the inputs, among bits of the ports.
use Rattle.std.specs.Prelude.{Bool, List, [], ◌∷◌, if◌then◌else◌}
use Rattle.vlsi_base.specs.declared.name.Name.{Name}
use Rattle.vlsi_base.specs.declared.name.Port.{Port}
use Rattle.syf_machine.specs.Named.{is_read}

-- the bits that stand beside inputs other than the clock
abbrev pub picked : Name → List Port → List Bool → List Bool
picked clock [] w = []
picked clock (p ∷ ports) [] = []
picked clock (p ∷ ports) (b ∷ w) = if is_read clock p then b ∷ picked clock ports w else picked clock ports w
