-- The pins of a cell, with its supplies.
use Rattle.std.specs.Prelude.{◌≡◌, List, ◌∷◌, ◌++◌, filter, Some}
use Rattle.vlsi_base.specs.declared.name.Name.{Name}
use Rattle.vlsi_base.specs.declared.name.Port.{Port}
use Rattle.vlsi_base.specs.declared.name.Dir.TheVariants as dir
use Rattle.vlsi_base.specs.Names.{vdd, vss, comes_before}
use Rattle.cell_model.specs.Cell.{Function, gate, flip_flop, other, opaque, Cell, pin_ports}

-- a supply is an input
abbrev pub supply : Name → Port
supply name = record { name = name; dir = dir.In }

-- ports in the order of names, with a supply put in where its name belongs
abbrev pub with_supply : Name → List Port → List Port
with_supply name ports =
    filter (λ p. comes_before p.name name) ports ++ supply name ∷ filter (λ p. comes_before name p.name) ports

-- the pins of a cell in the order of names, vdd and vss among them
abbrev pub all_ports : Cell → List Port
all_ports c = with_supply vss (with_supply vdd (pin_ports c))

-- the clock pins: that of a flip-flop, and the clock of a machine
abbrev pub IsClockPin : Function → Name → Type 0
IsClockPin (gate e) name = ⊥
IsClockPin (flip_flop data_pin clock_pin) name = clock_pin ≡ name
IsClockPin (other machine) name = machine.clock ≡ Some name
IsClockPin opaque name = ⊥
