use Rattle.std.proofs.Common.{◌≡◌, ◌++◌, drop}
use Rattle.scapin.specs.Gates.{chain_of, gate_list}
use Rattle.scapin.proofs.gates.gates.Given as goal

abbrev pub invariant-loop-place : goal.invariant-loop-place
invariant-loop-place l = l.gates.items ++ chain_of l.count l.place l.before (drop l.place l.registers) ≡ gate_list l.count l.registers
