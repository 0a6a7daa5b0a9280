use Rattle.std.proofs.Common.{◌≡◌, ◌++◌, ◌<◌, ◌≤◌, map, drop, length}
use Rattle.loon_wiring.specs.Stages.{tied_class, read_place}
use Rattle.loon_wiring.proofs.wiring.push_pins.Given as goal

abbrev pub invariant-loop-tie : goal.invariant-loop-tie
invariant-loop-tie l = record {
  classes : l.classes.items ++ map (tied_class l.ends) (drop l.tie-index l.ties) ≡ l.initial.classes.items ++ map (tied_class l.ends) l.ties;
  input : read_place l.input (length l.classes.items) (drop l.tie-index l.ties) ≡ read_place (length l.initial.classes.items) (length l.initial.classes.items) l.ties;
  at_first : l.input ≤ length l.classes.items;
  behind : 0 < l.tie-index → l.input < length l.classes.items;
}
