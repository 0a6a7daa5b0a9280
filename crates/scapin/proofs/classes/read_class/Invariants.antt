use Rattle.std.proofs.Common.{◌≡◌, drop}
use Rattle.scan_theory.specs.Gates.{read_class}
use Rattle.scapin.specs.Gates.{reads_of}
use Rattle.scapin.proofs.classes.read_class.Given as goal

abbrev pub invariant-loop-place : goal.invariant-loop-place
invariant-loop-place l = read_class (drop l.place l.inputs) (drop l.place (reads_of l.gate)) l.output l.pin ≡ read_class l.inputs (reads_of l.gate) l.output l.pin
