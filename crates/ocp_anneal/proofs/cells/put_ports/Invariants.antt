use Rattle.std.proofs.Common.{◌≡◌, ◌++◌, drop, length}
use Rattle.ocp_rows.specs.Placement.{port_column}
use Rattle.ocp_anneal.specs.Cells.{port_pins}
use Rattle.ocp_anneal.proofs.cells.put_ports.Given as goal

-- the ports that are left lead to what all lead to
abbrev pub invariant-loop-k : goal.invariant-loop-k
invariant-loop-k l = record {
  widths : l.parts.widths.items ≡ l.initial.parts.widths.items;
  pins : l.parts.pins.items ++ port_pins (port_column (length l.ports) l.columns) l.rows (length l.initial.parts.widths.items) l.k (drop l.k l.ports)
      ≡ l.initial.parts.pins.items ++ port_pins (port_column (length l.ports) l.columns) l.rows (length l.initial.parts.widths.items) 0 l.ports;
}
