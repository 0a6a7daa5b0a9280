-- The class of each terminal of a netlist with a scan path, by numbers.
use Rattle.std.specs.Prelude.{ℕ, ◌+◌, ◌*◌, List, [], ◌∷◌, ◌++◌, map, drop, length, slice_set, if◌then◌else◌}
use Prim.Native.Nat.{suc}
use Rattle.std.specs.List.{flat_map}
use Rattle.vlsi_base.specs.declared.name.Name.{Name}
use Rattle.vlsi_base.specs.declared.name.Port.{Port}
use Rattle.vlsi_base.specs.Names.{vdd, vss}
use Rattle.machine_core.specs.Named.{is_same_name}
use Rattle.net_core.specs.Netlist.{Netlist, port}
use Rattle.scan_theory.specs.Gates.{read_class}
use Rattle.scan_theory.specs.Scan.{scin, test, scout, class_in, on_vdd, on_vss}
use Rattle.scan_checks.specs.declared.cells.Part.{Part}
use Rattle.scan_checks.specs.declared.cells.Parts.{Parts}
use Rattle.scan_checks.specs.declared.plan.Plan.{Plan}
use Rattle.scan_checks.specs.declared.registers.Register.{Register}
use Rattle.scapin.specs.declared.classes.Lines.{Lines}
use Rattle.scapin.specs.declared.gates.Gate.{Gate}
use Rattle.scapin.specs.declared.gates.Gate.TheVariants as gate
use Rattle.scapin.specs.Gates.{number_of, reads_of, shown_by}

abbrev pub lines_of : Netlist → ℕ → Lines
lines_of n many = record { count = n.count; high = on_vdd n; low = on_vss n; scout = shown_by n.count (3 * many + 2) }

-- of a port
abbrev pub line_class : Netlist → Lines → Name → ℕ
line_class n lines name =
    if is_same_name name scin then lines.count
    else if is_same_name name test then lines.count + 1
    else if is_same_name name scout then lines.scout
    else if is_same_name name vdd then lines.high
    else if is_same_name name vss then lines.low
    else class_in n (port name)

-- the data pins of registers, from this place of the path on, in the classes of their multiplexers
abbrev pub moved : ℕ → ℕ → List Register → List ℕ → List ℕ
moved count place [] classes = classes
moved count place (r ∷ rs) classes = moved count (suc place) rs (slice_set classes r.place (shown_by count (3 * place + 3)))

-- the cell of a gate
abbrev pub part_for : Parts → Gate → Part
part_for parts (gate.Inverts number input) = parts.inverter
part_for parts (gate.Nands number first second) = parts.nand

-- of a pin of a gate whose inputs have these names
abbrev pub pin_class : Lines → List Name → Gate → Name → ℕ
pin_class lines inputs g pin =
    if is_same_name pin vdd then lines.high
    else if is_same_name pin vss then lines.low
    else read_class inputs (reads_of g) (shown_by lines.count (number_of g)) pin

abbrev pub gate_classes : Lines → Parts → Gate → List ℕ
gate_classes lines parts g = map (pin_class lines (part_for parts g).inputs g) (part_for parts g).pins

-- of each terminal
abbrev pub all_classes : Netlist → Plan → List Port → List Gate → List ℕ
all_classes n plan ports gates =
    map (λ p. line_class n (lines_of n (length plan.registers.items)) p.name) ports
    ++ (drop (length n.ports) (moved n.count 0 plan.registers.items n.classes)
    ++ flat_map (gate_classes (lines_of n (length plan.registers.items)) plan.parts) gates)
