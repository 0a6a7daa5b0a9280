-- What is drawn of a netlist.
use Rattle.std.specs.Prelude.{◌≡◌, ℕ, ◌≤◌, Bool, List, ◌++◌, codes, Some}
use Rattle.vlsi_base.specs.declared.name.Terminal.{Terminal}
use Rattle.machine_core.specs.Machine.{Machine}
use Rattle.machine_core.specs.Size.{machine_size}
use Rattle.machine_core.specs.Checked.{IsChecked}
use Rattle.cell_model.specs.Library.{Library}
use Rattle.cell_checks.specs.Checked.{IsChecked as HasPassed}
use Rattle.net_core.specs.Netlist.{Netlist}
use Rattle.net_meaning.specs.Netlist.{AbstractNetlist as Seen}
use Rattle.net_right.specs.View.{IsSeenAs}
use Rattle.ocp_place.specs.Law.{row_of}
use Rattle.ocp_place.specs.Placed.{InRow, rows_of}
use Rattle.ocp_rows.specs.Length.{half_perimeter}
use Rattle.boom_opt.specs.Optimised.{IsOptimised}
use Rattle.tool_drive.specs.declared.size.TheConstants.{MOST_SIZE}
use Rattle.tool_drive.specs.declared.tool.Product.{Product}
use Rattle.tool_drive.specs.declared.tool.Refusal.{Refusal}
use Rattle.tool_drive.specs.declared.status.Status.TheVariants as status
use Rattle.syf_machine.specs.Meaning.{DoesAs}
use Rattle.nero_run.specs.RowText.{part_name}
use Rattle.flow_run.specs.Origin.{Origin, equations, states}
use Rattle.flow_run.specs.Route.{InRows, Route}
use Rattle.flow_run.specs.RightLayout.{IsRightLayout}
use Rattle.flow_run.specs.StuckLayout.{IsStuckLayout}
use Rattle.flow_netlist.specs.Netlist.{IsDrivenNetlist}
use Rattle.flow_netlist.specs.Laws.{IsDrawableSoon}

abbrev pub layout_name : List ℕ → List ℕ
layout_name out = out ++ codes ".ap"

-- a state machine's machine does what it does
abbrev pub DoesAsOrigin : Origin → Machine → Type 0
DoesAsOrigin equations m = Unit {0}
DoesAsOrigin (states f k) m = DoesAs f k m

-- A netlist for a machine as it was made smaller, with buffers and drives, small enough and with names that can be written, of a library
-- whose cells may be drawn, with tracks where they are asked for.
pub record MayBeDrawn (tracks : Bool) (l : Library) (from : Origin) (m : Machine) (fanout : ℕ) (k : Netlist) (delay : ℕ) : Type 0 where
  pub origin : DoesAsOrigin from m
  pub o : Machine
  pub optimised : IsOptimised m o
  pub netlist : IsDrivenNetlist l o fanout k delay
  pub checked : IsChecked m
  pub ordered : IsChecked o
  pub passed : HasPassed tracks l
  pub small : machine_size m ≤ MOST_SIZE
  pub soon : IsDrawableSoon l k

-- how long the nets are, in one row for tracks, and in rows
abbrev pub IsLengthOf : Library → Netlist → ℕ → Type 0
IsLengthOf l n long = (k : Seen) → IsSeenAs n k → long ≡ half_perimeter k l (row_of k)

abbrev pub IsLengthInRows : Library → Netlist → InRow → ℕ → Type 0
IsLengthInRows l n p long = (k : Seen) → IsSeenAs n k → long ≡ half_perimeter k l (rows_of k p)

-- NAME.ap is a right layout of the machine by this library, and the report on it is printed
pub record IsDrawnAs (out : List ℕ) (o : Origin) (m : Machine) (l : Library) (fanout : ℕ) (route : Route) (p : Product) : Type 0 where
  pub bytes : List ℕ
  pub name : p.name ≡ layout_name out
  pub file : p.file ≡ Some bytes
  pub right : IsRightLayout bytes o m l fanout route p.text

-- NAME_part.ap shows that a net of the machine's netlist got stuck in rows as they are asked for
pub record IsStuckAs (out : List ℕ) (o : Origin) (m : Machine) (l : Library) (fanout : ℕ) (a : InRows) (r : Refusal) : Type 0 where
  pub net : ℕ
  pub terminal : Terminal
  pub status : r.status ≡ status.NoPath net terminal
  pub bytes : List ℕ
  pub part : r.part ≡ Some (record { name = part_name out; bytes = bytes })
  pub right : IsStuckLayout bytes o m l fanout a net terminal
