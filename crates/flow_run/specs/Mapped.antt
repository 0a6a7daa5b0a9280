-- The netlist of a source's machine, between reading and drawing.
use Rattle.std.specs.Prelude.{◌≡◌, ℕ}
use Rattle.machine_core.specs.Machine.{Machine}
use Rattle.machine_core.specs.Checked.{IsChecked}
use Rattle.machine_roots.specs.Roots.{IsGreatestDcount}
use Rattle.vlsi_base.specs.declared.kind.Kind.{Kind}
use Rattle.cell_model.specs.Covering.{needed, IsFirstMissing}
use Rattle.cell_model.specs.Library.{Library}
use Rattle.net_core.specs.Netlist.{Netlist}
use Rattle.flow_netlist.specs.Netlist.{IsDrivenNetlist}
use Rattle.boog_map.specs.Netlist.{has_registers}
use Rattle.boom_run.specs.Boom.{IsWithinBudget}
use Rattle.tool_drive.specs.declared.status.Status.{Status}
use Rattle.tool_drive.specs.declared.status.Status.TheVariants as status

-- the status of the first kind that the library has no usable cell of
pub record IsMissingIn (l : Library) (m : Machine) (s : Status) : Type 0 where
  pub kind : Kind
  pub first : IsFirstMissing l.cells kind (needed (has_registers m))
  pub is : s ≡ status.NoCover kind

-- What the machine is mapped to, as it was made smaller within the budget, with buffers and drives: its longest path takes so long; and
-- the most nodes that a diagram of the machine's roots has.
pub record IsMappedFor (l : Library) (m : Machine) (budget fanout : ℕ) (k : Netlist) (delay nodes : ℕ) : Type 0 where
  pub o : Machine
  pub made : IsWithinBudget m budget o
  pub ordered : IsChecked o
  pub netlist : IsDrivenNetlist l o fanout k delay
  pub counted : IsGreatestDcount m nodes
