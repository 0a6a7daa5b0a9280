use Rattle.std.proofs.Common.{take}
use Rattle.scan_checks.specs.Registers.{AreRegisters}
use Rattle.scan_checks.proofs.Found.{registers_among}
use Rattle.scan_checks.proofs.registers.registers.Given as goal

abbrev pub invariant-loop-node : goal.invariant-loop-node
invariant-loop-node l = AreRegisters l.netlist l.library (registers_among l.library l.netlist (take l.node-index l.nodes)) l.registers.items
