-- The report of an accepted layout.
use Rattle.std.specs.Prelude.{ℕ, List, [], ◌∷◌, ◌++◌, length, codes}
use Prim.Native.Nat.{suc}
use Rattle.vlsi_base.specs.declared.name.Name.{Name}
use Rattle.vlsi_base.specs.Name.{name_text}
use Rattle.machine_core.specs.Machine.{Machine, Register}
use Rattle.machine_core.specs.Size.{machine_size}
use Rattle.ap_io.specs.Spelling.{together, line_end}
use Rattle.cell_model.specs.Library.{Library}
use Rattle.net_meaning.specs.Netlist.{AbstractNetlist}
use Rattle.net_meaning.specs.Agreement.{register_instance}
use Rattle.ocp_rows.specs.Placement.{Placement, net_count}
use Rattle.ocp_rows.specs.Length.{half_perimeter}
use Rattle.syf_run.specs.Syf.{code_lines}
use Rattle.tool_drive.specs.Lines.{count_line}
use Rattle.flow_run.specs.Origin.{Origin, equations, states}

-- the name of the source's entity on a line
abbrev pub source_line : List ℕ → List ℕ
source_line name = codes "source " ++ (name ++ line_end)

-- which register an instance holds, and so for all instances of registers from number k on
abbrev pub register_line : ℕ → Name → List ℕ
register_line k name = codes "register " ++ (register_instance k ++ (codes " " ++ (name_text name ++ line_end)))

abbrev pub register_lines : ℕ → List Register → List ℕ
register_lines k [] = []
register_lines k (r ∷ rest) = register_line k r.name ++ register_lines (suc k) rest

-- what stands behind the source: which register an instance holds, or for a state machine the code of each state
abbrev pub held_lines : Origin → Machine → List ℕ
held_lines equations m = register_lines 0 m.registers
held_lines (states f k) m = code_lines f.states k.codes

-- The report by its numbers: the source, its registers or codes, its size, the most nodes that a diagram of its roots has, how many cells and
-- nets the layout has, how many femtoseconds its longest path takes, the length of its nets and the number of its breaches.
abbrev pub report_by : Origin → Machine → ℕ → ℕ → ℕ → ℕ → ℕ → ℕ → List ℕ
report_by o m nodes cells nets delay length breaches = together (
    source_line m.name
    ∷ held_lines o m
    ∷ count_line (codes "size") (machine_size m)
    ∷ count_line (codes "nodes") nodes
    ∷ count_line (codes "cells") cells
    ∷ count_line (codes "nets") nets
    ∷ count_line (codes "delay") delay
    ∷ count_line (codes "length") length
    ∷ count_line (codes "breaches") breaches
    ∷ (codes "accepted" ++ line_end) ∷ [])

-- The report on a machine's netlist, whose longest path takes so long, and on its placement.
abbrev pub report_of : Origin → Machine → ℕ → ℕ → AbstractNetlist → Library → Placement → ℕ → List ℕ
report_of o m nodes delay n l p breaches = report_by o m nodes (length n.instances) (net_count n) delay (half_perimeter n l p) breaches
