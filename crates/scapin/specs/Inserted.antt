-- A netlist with a scan path, and what is known of it.
use Rattle.std.specs.Prelude.{◌≡◌, ◌+◌, ◌*◌, ℕ, false, List, ◌++◌, map, length}
use Rattle.cell_model.specs.Library.{Library}
use Rattle.cell_pins.specs.Table.{IsTableOf}
use Rattle.net_core.specs.declared.pins.ModelPins.{ModelPins}
use Rattle.net_core.specs.Netlist.{Netlist}
use Rattle.net_meaning.specs.Netlist.{AbstractNetlist}
use Rattle.net_right.specs.Condition.{MeetsCondition}
use Rattle.net_right.specs.View.{IsSeenAs}
use Rattle.scan_build.specs.declared.sketch.Entry.{Entry}
use Rattle.scan_build.specs.declared.sketch.Sketch.{Sketch}
use Rattle.scan_build.specs.Sketched.{instance_by}
use Rattle.scan_theory.specs.Path.{IsPath, NoneTaken, IsCovered}
use Rattle.scan_theory.specs.Meaning.{Scans}
use Rattle.scan_theory.specs.Scan.{gate_name, scan_ports}
use Rattle.scan_checks.specs.declared.cells.Part.{Part}
use Rattle.scan_checks.specs.declared.plan.Plan.{Plan}
use Rattle.scapin.specs.declared.gates.Gate.{Gate}
use Rattle.scapin.specs.Gates.{number_of, gate_list}
use Rattle.scapin.specs.Classes.{part_for, all_classes}

-- nothing speaks against a scan path along this path
pub record IsAble (l : Library) (n : Netlist) (path : List (List ℕ)) : Type 0 where
  pub free : NoneTaken l n
  pub covered : IsCovered l
  pub through : IsPath l n path

-- where the given netlist meets what the stages ask, by the table of a library's usable cells, so does the other: it passes the checks
abbrev pub StillMeets : Library → Netlist → Netlist → Type 0
StillMeets l n r = (table : List ModelPins) → IsTableOf l false table → MeetsCondition table n → MeetsCondition table r

-- it behaves as the given one where test is 0, and shifts where test is 1, however both are seen as netlists of layouts
abbrev pub IsScanPath : Library → List (List ℕ) → Netlist → Netlist → Type 0
IsScanPath l path n r = (y x : AbstractNetlist) → IsSeenAs n y → IsSeenAs r x → Scans l path y x

-- ---- parts of it

-- a gate with the pins of its cell
abbrev pub gate_entry : Part → Gate → Entry
gate_entry part g = record { name = gate_name (number_of g); model = part.model; pins = part.pins }

-- the parts of the netlist with a scan path of this plan
pub record IsSketchOf (n : Netlist) (plan : Plan) (s : Sketch) : Type 0 where
  pub name : s.name ≡ n.name
  pub ports : s.ports.items ≡ scan_ports n.ports
  pub entries : map instance_by s.entries.items
      ≡ n.instances ++ map instance_by (map (λ g. gate_entry (part_for plan.parts g) g) (gate_list n.count plan.registers.items))
  pub classes : s.classes.items ≡ all_classes n plan (scan_ports n.ports) (gate_list n.count plan.registers.items)
  pub count : s.count ≡ n.count + 3 * length plan.registers.items + 7
