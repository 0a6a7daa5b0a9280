-- The bits of a netlist: one for each class, one for each port, and those of each instance.
use Rattle.std.specs.Prelude.{ℕ, ◌+◌, Bool, not, ◌&&◌, bytes_eq, codes, List, [], ◌∷◌, ◌++◌, map, length, Option, Some, if◌then◌else◌}
use Rattle.std.specs.List.{flat_map}
use Rattle.vlsi_base.specs.declared.name.Name.{Name}
use Rattle.vlsi_base.specs.declared.name.Port.{Port}
use Rattle.vlsi_base.specs.declared.name.Dir.{Dir}
use Rattle.vlsi_base.specs.declared.name.Dir.TheVariants as dir
use Rattle.vlsi_base.specs.declared.name.Terminal.{Terminal}
use Rattle.vlsi_base.specs.Name.{is_supply}
use Rattle.vlsi_base.specs.Range.{rising}
use Rattle.bool_expr.specs.Expression.{Expression, constant, variable}
use Rattle.bool_expr.specs.Renumbering.{renumbered}
use Rattle.machine_core.specs.Machine.{is_input, is_clock}
use Rattle.source_bits.specs.Driven.{Numbered, NumberedStorage}
use Rattle.net_core.specs.Netlist.{Instance, Netlist as InMemory, port, pin_of}
use Rattle.cell_model.specs.Cell.{Cell}
use Rattle.cell_model.specs.Library.{Library, cell_of}
use Rattle.bit_machine.specs.System.{System}
use Rattle.net_machine.specs.Body.{Load, Shown, Body, body_at, width}

-- a name that no port has, by its number
abbrev pub own_name : List ℕ → ℕ → Name
own_name text k = record { text = text; bit = Some k }

-- a port that is no supply and not the clock
abbrev pub is_signal : Option Name → Port → Bool
is_signal clock p = not (is_supply p.name.text) && not (is_clock clock p.name)

-- what a supply or the clock stands as
abbrev pub fixed_bit : Port → Bool
fixed_bit p = bytes_eq p.name.text (codes "vdd")

-- the names of the ports' bits, from number k on
abbrev pub port_names : List ℕ → Option Name → ℕ → List Port → List Name
port_names text clock k [] = []
port_names text clock k (p ∷ rest) = (if is_signal clock p then p.name else own_name text k) ∷ port_names text clock (k + 1) rest

-- which of them are inputs
abbrev pub port_inputs : Option Name → ℕ → List Port → List ℕ
port_inputs clock k [] = []
port_inputs clock k (p ∷ rest) =
    if is_input p.dir && is_signal clock p then k ∷ port_inputs clock (k + 1) rest else port_inputs clock (k + 1) rest

-- The bit of an output has the value of its class, and that of a supply or of the clock is fixed.
abbrev pub own_of : (Terminal → ℕ) → Option Name → ℕ → Port → Dir → List Numbered
own_of class clock k p dir.In = if is_signal clock p then [] else record { bit = k; expr = constant (fixed_bit p) } ∷ []
own_of class clock k p dir.Out = record { bit = k; expr = variable (class (port p.name)) } ∷ []

abbrev pub port_driven : (Terminal → ℕ) → Option Name → ℕ → List Port → List Numbered
port_driven class clock k [] = []
port_driven class clock k (p ∷ rest) = own_of class clock k p p.dir ++ port_driven class clock (k + 1) rest

-- an input's class has the value of its bit
abbrev pub class_of_port : (Terminal → ℕ) → ℕ → Port → Dir → List Numbered
class_of_port class k p dir.In = record { bit = class (port p.name); expr = variable k } ∷ []
class_of_port class k p dir.Out = []

abbrev pub classes_driven : (Terminal → ℕ) → ℕ → List Port → List Numbered
classes_driven class k [] = []
classes_driven class k (p ∷ rest) = class_of_port class k p p.dir ++ classes_driven class (k + 1) rest

-- an instance, its cell, and the number of the first of its own bits
pub record Placed : Type 0 where
  pub name : List ℕ
  pub cell : Option Cell
  pub base : ℕ

-- each instance in turn, behind the bits of those before it
abbrev pub placed_from : Library → ℕ → List Instance → List Placed
placed_from l base [] = []
placed_from l base (i ∷ rest) =
    record { name = i.name; cell = cell_of l i.model; base = base } ∷ placed_from l (base + width (body_at (cell_of l i.model))) rest

-- how many bits instances have
abbrev pub widths : Library → List Instance → ℕ
widths l [] = 0
widths l (i ∷ rest) = width (body_at (cell_of l i.model)) + widths l rest

-- the numbers of the bits of a body: classes of pins, and then its own
abbrev pub numbers : (Terminal → ℕ) → List ℕ → Body → ℕ → List ℕ
numbers class name b base = map (λ pin. class (pin_of name pin)) b.reads ++ rising base (width b)

abbrev pub stored_from : List ℕ → ℕ → List Load → List NumberedStorage
stored_from table k [] = []
stored_from table k (l ∷ rest) = record { bit = k; next = renumbered table l.next; enable = renumbered table l.enable } ∷ stored_from table (k + 1) rest

abbrev pub inner_from : List ℕ → ℕ → List Expression → List Numbered
inner_from table k [] = []
inner_from table k (e ∷ rest) = record { bit = k; expr = renumbered table e } ∷ inner_from table (k + 1) rest

abbrev pub shown_from : (Terminal → ℕ) → List ℕ → List ℕ → List Shown → List Numbered
shown_from class name table shows = map (λ s. record { bit = class (pin_of name s.pin); expr = renumbered table s.expr }) shows

-- what the bits of an instance load, and have the value of

abbrev pub body_stored : (Terminal → ℕ) → List ℕ → Body → ℕ → List NumberedStorage
body_stored class name b base = stored_from (numbers class name b base) base b.loads

abbrev pub body_driven : (Terminal → ℕ) → List ℕ → Body → ℕ → List Numbered
body_driven class name b base =
    inner_from (numbers class name b base) (base + length b.loads) b.inner ++ shown_from class name (numbers class name b base) b.shows

abbrev pub placed_stored : (Terminal → ℕ) → Placed → List NumberedStorage
placed_stored class p = body_stored class p.name (body_at p.cell) p.base

abbrev pub placed_driven : (Terminal → ℕ) → Placed → List Numbered
placed_driven class p = body_driven class p.name (body_at p.cell) p.base

-- those of instances, where the first has its bits from this number on

abbrev pub instances_stored : Library → (Terminal → ℕ) → ℕ → List Instance → List NumberedStorage
instances_stored l class base is = flat_map (placed_stored class) (placed_from l base is)

abbrev pub instances_driven : Library → (Terminal → ℕ) → ℕ → List Instance → List Numbered
instances_driven l class base is = flat_map (placed_driven class) (placed_from l base is)

-- the number of the first bit of the first instance
abbrev pub first_base : InMemory → ℕ
first_base n = n.count + length n.ports

-- how many bits the machine of a netlist is made of: one for each class, one for each port, and those inside its instances
abbrev pub bits_of : InMemory → Library → ℕ
bits_of n l = first_base n + widths l n.instances

-- All bits of a netlist, where `class` gives the class of each terminal, and no port has `text`.
abbrev pub net_system : List ℕ → (Terminal → ℕ) → InMemory → Library → Option Name → System
net_system text class n l clock = record {
  names = map (own_name text) (rising 0 n.count)
      ++ (port_names text clock n.count n.ports ++ map (own_name text) (rising (first_base n) (widths l n.instances)));
  inputs = port_inputs clock n.count n.ports;
  stored = instances_stored l class (first_base n) n.instances;
  driven = port_driven class clock n.count n.ports ++ (classes_driven class n.count n.ports ++ instances_driven l class (first_base n) n.instances);
}
