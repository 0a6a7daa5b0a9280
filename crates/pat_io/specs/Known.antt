-- Names that a pattern file may list: which columns are of ports, and which list a bit once more.
use Rattle.std.specs.Prelude.{Bool, true, false, ◌&&◌, ◌||◌, bytes_eq, List, [], ◌∷◌, ◌++◌, Option, None, Some, if◌then◌else◌}
use Rattle.std.specs.List.{list_any, find}
use Rattle.vlsi_base.specs.declared.name.Dir.{Dir}
use Rattle.vlsi_base.specs.declared.name.Dir.TheVariants.{In, Out}
use Rattle.vlsi_base.specs.declared.name.Name.{Name}
use Rattle.vlsi_base.specs.declared.name.Port.{Port}
use Rattle.vlsi_base.specs.declared.fault.InputFault.{InputFault}
use Rattle.vlsi_base.specs.declared.fault.FaultKind.TheVariants.{Unknown}
use Rattle.vlsi_base.specs.Name.{is_supply}
use Rattle.machine_core.specs.Named.{is_same_name}
use Rattle.pat_meaning.specs.Columns.{column_names}
use Rattle.pat_text.specs.declared.parsed.ParsedColumn.{ParsedColumn}
use Rattle.pat_io.specs.Digits.{column_of}

abbrev pub is_same_dir : Dir → Dir → Bool
is_same_dir In In = true
is_same_dir Out Out = true
is_same_dir In Out = false
is_same_dir Out In = false

-- vdd and vss may be listed as inputs, whether or not they are ports
abbrev pub is_supply_input : ParsedColumn → Bool
is_supply_input c = is_supply c.name && is_same_dir c.dir In

-- a port of the direction, or some bit of one, has the name
abbrev pub is_of_port : ParsedColumn → Port → Bool
is_of_port c p = bytes_eq p.name.text c.name && is_same_dir p.dir c.dir

abbrev pub is_known : List Port → ParsedColumn → Bool
is_known ports c = is_supply_input c || list_any (is_of_port c) ports

-- the bits that a column lists, from the left bound of its range to the right one; a scalar lists its name without a bit
abbrev pub bits_of : ParsedColumn → List Name
bits_of c = column_names (column_of c)

-- a column lists the bit
abbrev pub lists : Name → ParsedColumn → Bool
lists n c = list_any (is_same_name n) (bits_of c)

-- the first bit of a column that one before it lists as well
abbrev pub first_again : List ParsedColumn → ParsedColumn → Option Name
first_again before c = find (λ n. list_any (lists n) before) (bits_of c)

-- by which name a column is unknown: of no port, by its own; else by its first bit that is listed again, where there is one
abbrev pub unknown_name : List Port → List ParsedColumn → ParsedColumn → Option Name
unknown_name ports before c = if is_known ports c then first_again before c else Some (record { text = c.name; bit = None })

-- the fault that is told: this name, on the line of its column
abbrev pub unknown_fault : ParsedColumn → Name → InputFault
unknown_fault c n = record { line = c.line; kind = Unknown; names = n ∷ [] }

abbrev pub fault_of : ParsedColumn → Option Name → List InputFault
fault_of c None = []
fault_of c (Some n) = unknown_fault c n ∷ []

-- the faults of the columns behind these
abbrev pub unknown_behind : List Port → List ParsedColumn → List ParsedColumn → List InputFault
unknown_behind ports before [] = []
unknown_behind ports before (c ∷ cs) = fault_of c (unknown_name ports before c) ++ unknown_behind ports (before ++ c ∷ []) cs

-- all of them, in file order
abbrev pub unknown_faults : List Port → List ParsedColumn → List InputFault
unknown_faults ports columns = unknown_behind ports [] columns
