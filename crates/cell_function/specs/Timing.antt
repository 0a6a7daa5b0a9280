-- What generics say of a cell: the capacitances of its pins, and how its output follows them.
use Rattle.std.specs.Prelude.{ℕ, Bool, false, ◌&&◌, List, [], ◌∷◌, ◌++◌, codes, Option, None, Some, is_none, if◌then◌else◌}
use Rattle.vlsi_base.specs.declared.name.Name.{Name}
use Rattle.vlsi_base.specs.declared.name.Port.{Port}
use Rattle.machine_core.specs.Machine.{is_input}
use Rattle.machine_core.specs.Named.{is_same_text, is_same_name}
use Rattle.vbe_io.specs.declared.cell_text.GenericValue.{GenericValue}
use Rattle.cell_model.specs.declared.function.Function.{Function}
use Rattle.cell_model.specs.declared.function.Function.TheVariants as function
use Rattle.cell_model.specs.declared.cell.Pin.{Pin}
use Rattle.cell_function.specs.declared.timing.Edge.{Edge}
use Rattle.cell_model.specs.declared.cell.Arc.{Arc}
use Rattle.cell_function.specs.Row.{only_output}

-- the number of the generic of this name; none where it isn't listed, or has no number
abbrev pub value_of : List GenericValue → List ℕ → Option ℕ
value_of [] name = None
value_of (g ∷ rest) name = if is_same_text g.name name then g.value else value_of rest name

abbrev pub or_zero : Option ℕ → ℕ
or_zero None = 0
or_zero (Some n) = n

-- the generic `cin_PIN` of an input that is no bit of a vector
abbrev pub capacitance_of : List GenericValue → Port → ℕ
capacitance_of generics p = if is_input p.dir && is_none p.name.bit then or_zero (value_of generics (codes "cin_" ++ p.name.text)) else 0

abbrev pub pin_of : List GenericValue → Port → Pin
pin_of generics p = record { port = p; capacitance = capacitance_of generics p }

-- a generic of the arc between two pins: its word, and behind it their names
abbrev pub arc_value : List GenericValue → List ℕ → Name → Name → Option ℕ
arc_value generics word from to = value_of generics (((word ++ from.text) ++ codes "_") ++ to.text)

-- how the output falls, and how it rises
abbrev pub fall_of : List GenericValue → Name → Name → Edge
fall_of generics from to = record {
  opposite = arc_value generics (codes "tphl_") from to;
  alike = arc_value generics (codes "tpll_") from to;
  either = arc_value generics (codes "taf_") from to;
  resistance = or_zero (arc_value generics (codes "rdown_") from to);
}

abbrev pub rise_of : List GenericValue → Name → Name → Edge
rise_of generics from to = record {
  opposite = arc_value generics (codes "tplh_") from to;
  alike = arc_value generics (codes "tphh_") from to;
  either = arc_value generics (codes "tar_") from to;
  resistance = or_zero (arc_value generics (codes "rup_") from to);
}

abbrev pub arc_from : Name → Name → Edge → Edge → Arc
arc_from from to fall rise = record {
  from = from;
  to = to;
  tphl = fall.opposite;
  tpll = fall.alike;
  taf = fall.either;
  rdown = fall.resistance;
  tplh = rise.opposite;
  tphh = rise.alike;
  tar = rise.either;
  rup = rise.resistance;
}

abbrev pub arc_of : List GenericValue → Name → Name → Arc
arc_of generics from to = arc_from from to (fall_of generics from to) (rise_of generics from to)

-- an arc begins at each input of a gate, and at the clock of a plain flip-flop
abbrev pub begins_arc : Function → Port → Bool
begins_arc (function.Gate e) p = is_input p.dir
begins_arc (function.FlipFlop data_pin clock_pin) p = is_same_name clock_pin p.name
begins_arc (function.Other m) p = false
begins_arc function.Opaque p = false

abbrev pub arcs_to : Function → List GenericValue → Name → List Port → List Arc
arcs_to f generics to [] = []
arcs_to f generics to (p ∷ rest) = if begins_arc f p then arc_of generics p.name to ∷ arcs_to f generics to rest else arcs_to f generics to rest

-- The arcs of a cell: to its one output, in the order of its pins. Other cells have none: no path of a netlist goes through them.
abbrev pub arcs_of : Function → List Port → List GenericValue → List Arc
arcs_of f ports generics = by (only_output ports) where
  by : Option Name → List Arc
  by None = []
  by (Some to) = arcs_to f generics to ports
