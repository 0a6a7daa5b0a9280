use Rattle.std.proofs.Common.{◌≡◌, drop, length}
use Rattle.scapin.specs.Classes.{moved}
use Rattle.scapin.proofs.classes.move_pins.Given as goal

abbrev pub invariant-loop-place : goal.invariant-loop-place
invariant-loop-place l = record {
  same : moved l.count l.place (drop l.place l.registers) l.classes ≡ moved l.count 0 l.registers l.fn.classes;
  many : length l.classes ≡ length l.fn.classes;
}
