-- How the classes of a netlist are named.
use Rattle.std.specs.Prelude.{ℕ, ◌+◌, ◌-◌, Bool, not, nat_eq, bytes_eq, List, [], ◌∷◌, ◌++◌, map, filter, length, take, if◌then◌else◌}
use Rattle.std.specs.List.{list_all}
use Rattle.std.specs.Fmt.{decimal}
use Rattle.vlsi_base.specs.declared.name.Name.{Name}
use Rattle.vlsi_base.specs.declared.name.Port.{Port}
use Rattle.vlsi_base.specs.Names.{scalar}
use Rattle.vlsi_base.specs.Range.{rising}
use Rattle.net_core.specs.Netlist.{Netlist}

-- The names of the ports that are the first of their class, where so many classes were met before. Classes are numbered in the
-- order of their least terminals, and ports come first: so the first classes have ports, and these are the names of their least.
abbrev pub first_ports : ℕ → List Port → List ℕ → List Name
first_ports met [] classes = []
first_ports met (p ∷ ps) [] = []
first_ports met (p ∷ ps) (k ∷ classes) = if nat_eq k met then p.name ∷ first_ports (met + 1) ps classes else first_ports met ps classes

-- `n` and a number
abbrev pub signal_text : ℕ → List ℕ
signal_text k = 110 ∷ decimal k

-- no port has this signal's text
abbrev pub is_free : List Port → ℕ → Bool
is_free ports k = list_all (λ p. not (bytes_eq p.name.text (signal_text k))) ports

-- so many numbers of signals in rising order, without those whose text a port has
abbrev pub signal_numbers : List Port → ℕ → List ℕ
signal_numbers ports many = take many (filter (is_free ports) (rising 0 (many + length ports)))

abbrev pub port_nets : Netlist → List Name
port_nets n = first_ports 0 n.ports n.classes

-- the signals: one for each class that has no port
abbrev pub signal_nets : Netlist → List (List ℕ)
signal_nets n = map signal_text (signal_numbers n.ports (n.count - length (port_nets n)))

-- the name of each class: its least port, or its signal
abbrev pub net_names : Netlist → List Name
net_names n = port_nets n ++ map scalar (signal_nets n)
